-- The occurrence that a use in a text is.
use Rattle.std.specs.Prelude.{map}
use Rattle.mp_schema.specs.declared.place.Use.{Use}
use Rattle.mp_schema.specs.Occurrences.{Occurrence, variable_level}

-- the kind, the name, the contexts and the levels of what stands there
abbrev pub occurrence_at : Use → Occurrence
occurrence_at p = record { is_context = p.is_context; name = p.name; ctxs = p.ctxs.now; levels = map variable_level p.args.now }

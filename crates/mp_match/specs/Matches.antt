-- What a match of a whole term or goal finds, as a function.
use Rattle.std.specs.Prelude.{ℕ, [], Option}
use Rattle.std.specs.Option.{option_map}
use Rattle.mp_term.specs.declared.term.Term.{Term}
use Rattle.mp_schema.specs.declared.instance.Inst.{Inst}
use Rattle.mp_schema.specs.declared.pattern.Pattern.{Pattern}
use Rattle.mp_match.specs.declared.place.Found.{Found}
use Rattle.mp_match.specs.declared.place.Position.{Position}
use Rattle.mp_match.specs.Matching.{found_in}
use Rattle.mp_match.specs.Places.{ground_of, levels_at}

-- nothing is found yet
abbrev pub nothing_found : Found
nothing_found = record { metas = []; params = [] }

-- what is found at a place, as an instance
abbrev pub as_instance : Position → Found → Inst
as_instance place found = record { ambient = place.ambient; ctxs = place.ctxs; metas = found.metas; params = found.params }

-- the place of a rewrite in this scope
abbrev pub term_place : ℕ → Position
term_place scope = record { ambient = scope; ctxs = []; named = []; next = scope }

-- the instance that makes the redex this term, of this scope
abbrev pub term_match : Pattern → ℕ → Term → Option Inst
term_match redex scope t =
    let place = term_place scope in
    option_map (as_instance place) (found_in (ground_of place) redex (levels_at place scope) scope t nothing_found)

-- What the static rules on rules as they are written have to do with those on the rules that they stand for.
use Rattle.std.specs.Prelude.{◌≡◌, ◌↔◌, [], map, None}
use Rattle.mp_schema.specs.Faults.{rule_fault_of}
use Rattle.mp_schematext.specs.declared.raw.RawRule.{RawRule}
use Rattle.mp_schematext.specs.Statics.{rule_faults}
use Rattle.mp_patterntext.specs.Unbound.{NoneUnbound}
use Rattle.mp_schematext.specs.Values.{schema_of}

-- a rule as it is written, whose variables are bound, has no fault exactly if the rule that it stands for has none; an
-- unbound variable has no level, so what it would stand for doesn't show it
abbrev pub OneSetOfRules : Type 0
OneSetOfRules = (r : RawRule) → NoneUnbound (rule_faults r) → (rule_faults r ≡ []) ↔ (rule_fault_of (map schema_of r.premises) (schema_of r.concl) ≡ None)

-- What the laws of a theory stand for that are written.
use Rattle.std.specs.Prelude.{List, [], ◌∷◌, map}
use Rattle.mp_schema.specs.declared.pattern.Pattern.{Pattern}
use Rattle.mp_theory.specs.Tables.{Laws, added_rewrite, added_rule}
use Rattle.mp_patterntext.specs.Values.{each_pattern_value, pattern_of}
use Rattle.mp_schematext.specs.declared.raw.RawRule.{RawRule}
use Rattle.mp_schematext.specs.Values.{schema_of}
use Rattle.mp_theorytext.specs.declared.raw.RawRewrite.{RawRewrite}
use Rattle.mp_theorytext.specs.declared.raw.RawLaw.{RawLaw}
use Rattle.mp_theorytext.specs.declared.raw.RawLaw.TheVariants as law

-- the conditions that are written
abbrev pub conditions_of : RawRewrite → List Pattern
conditions_of r = each_pattern_value (map pattern_of r.conds) []

-- the redex that is written
abbrev pub redex_of : RawRewrite → Pattern
redex_of r = pattern_of r.redex []

-- the contractum that is written
abbrev pub contractum_of : RawRewrite → Pattern
contractum_of r = pattern_of r.contractum []

-- the theory with the rule that is written
abbrev pub with_rule : Laws → RawRule → Laws
with_rule t r = added_rule t r.name.name (map schema_of r.premises) (schema_of r.concl)

-- the theory with the rewrite that is written
abbrev pub with_rewrite : Laws → RawRewrite → Laws
with_rewrite t r = added_rewrite t r.name.name (conditions_of r) (redex_of r) (contractum_of r)

-- the theory with the law that is written
abbrev pub with_law : Laws → RawLaw → Laws
with_law t (law.Rule r) = with_rule t r
with_law t (law.Rewrite r) = with_rewrite t r

-- the theory with the laws that are written, in the order of the text
abbrev pub with_laws : Laws → List RawLaw → Laws
with_laws t [] = t
with_laws t (l ∷ ls) = with_laws (with_law t l) ls

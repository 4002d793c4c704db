-- A theory as contracts see it: its laws by name, in the order of their entry. What stands here is all that is looked up in it.
use Rattle.std.specs.Prelude.{◌≡◌, ℕ, ◌+◌, List, [], ◌∷◌, ◌++◌, map, length, Bool, nat_eq, if◌then◌else◌, ◌&&◌, Option, Some, None, option_and_then, is_none, is_some, position, slice_get, Result, Ok, Err, IsTrue, ⊤}
use Rattle.std.specs.List.{IsDistinct}
use Rattle.mp_logic.specs.declared.sym.Sym.{Sym}
use Rattle.mp_logic.specs.Lists.{greatest}
use Rattle.mp_names.specs.Sets.{is_met}
use Rattle.mp_schema.specs.declared.schema.Schema.{Schema}
use Rattle.mp_schema.specs.declared.fault.SchemaFault.{SchemaFault}
use Rattle.mp_schema.specs.Faults.{rule_fault_of, rewrite_fault_of}
use Rattle.mp_schema.specs.declared.pattern.Pattern.{Pattern}
use Rattle.mp_theory.specs.declared.rewrite.Rewrite.{Rewrite}
use Rattle.mp_theory.specs.declared.rule.Rule.{Rule}
use Rattle.mp_theory.specs.declared.law.Law.{Law}
use Rattle.mp_theory.specs.declared.law.Law.TheVariants as law
use Rattle.mp_theory.specs.declared.theory.TheoryErr.{TheoryErr}
use Rattle.mp_theory.specs.declared.theory.TheoryErr.TheVariants as err
use Rattle.mp_theory.specs.Needs.{needs_of}

-- the laws of a theory, in the order of their entry
pub record Laws : Type 0 where
  pub laws : List Law

-- the theory without laws
abbrev pub no_laws : Laws
no_laws = record { laws = [] }

-- the number of a theory's laws
abbrev pub law_count : Laws → ℕ
law_count t = length t.laws

-- the number of a law's name
abbrev pub name_in : Law → ℕ
name_in (law.Rule rule) = rule.name.0
name_in (law.Rewrite rewrite) = rewrite.name.0

-- some law has this name
abbrev pub name_taken : Laws → Sym → Bool
name_taken t name = is_met (map name_in t.laws) name.0

-- ## Laws of one kind

module _ {X : Type 0} (kind : Law → Option X) where
  -- the law of this kind at this place, counted from 0; none if no law stands there or one of another kind
  abbrev pub kind_at : Laws → ℕ → Option X
  kind_at t place = option_and_then kind (slice_get t.laws place)

  -- the law is of this kind and has this name
  abbrev pub is_named : Sym → Law → Bool
  is_named name l = is_some (kind l) && nat_eq name.0 (name_in l)

  -- the place of the law of this kind with this name
  abbrev pub place_named : Laws → Sym → Option ℕ
  place_named t name = position (is_named name) t.laws

  -- the law of this kind with this name
  abbrev pub kind_named : Laws → Sym → Option X
  kind_named t name = option_and_then (kind_at t) (place_named t name)

-- ## Rules

-- the rule that a law is, if it is one
abbrev pub rule_in : Law → Option Rule
rule_in (law.Rule rule) = Some rule
rule_in (law.Rewrite rewrite) = None

-- the rule at this place; none if no law stands there or one of another kind
abbrev pub rule_at : Laws → ℕ → Option Rule
rule_at = kind_at rule_in

-- the place of the rule with this name
abbrev pub place_of_rule : Laws → Sym → Option ℕ
place_of_rule = place_named rule_in

-- the rule with this name
abbrev pub rule_named : Laws → Sym → Option Rule
rule_named = kind_named rule_in

-- the rule has no fault
abbrev pub is_faultless : Rule → Bool
is_faultless rule = is_none (rule_fault_of rule.premises rule.concl)

-- a rule that a theory may have: it has no fault, and its needs are what its premises need
pub record IsRule (rule : Rule) : Type 0 where
  pub faultless : IsTrue (is_faultless rule)
  pub needs : rule.needs ≡ needs_of rule.premises rule.concl

-- the rule with these premises, this conclusion, and what they need
abbrev pub rule_of : Sym → List Schema → Schema → Rule
rule_of name premises concl = record { name = name; premises = premises; concl = concl; needs = needs_of premises concl }

-- the theory with one rule more, which goes last
abbrev pub added_rule : Laws → Sym → List Schema → Schema → Laws
added_rule t name premises concl = record { laws = t.laws ++ law.Rule (rule_of name premises concl) ∷ [] }

-- ## Rewrites

-- the rewrite that a law is, if it is one
abbrev pub rewrite_in : Law → Option Rewrite
rewrite_in (law.Rule rule) = None
rewrite_in (law.Rewrite rewrite) = Some rewrite

-- the rewrite at this place; none if no law stands there or one of another kind
abbrev pub rewrite_at : Laws → ℕ → Option Rewrite
rewrite_at = kind_at rewrite_in

-- the place of the rewrite with this name
abbrev pub place_of_rewrite : Laws → Sym → Option ℕ
place_of_rewrite = place_named rewrite_in

-- the rewrite with this name
abbrev pub rewrite_named : Laws → Sym → Option Rewrite
rewrite_named = kind_named rewrite_in

-- a rewrite that a theory may have: it has no fault
abbrev pub IsRewrite : Rewrite → Type 0
IsRewrite r = rewrite_fault_of r.conds r.redex r.contractum ≡ None

-- the rewrite with these conditions, this redex and this contractum
abbrev pub rewrite_of : Sym → List Pattern → Pattern → Pattern → Rewrite
rewrite_of name conds redex contractum = record { name = name; conds = conds; redex = redex; contractum = contractum }

-- the theory with one rewrite more, which goes last
abbrev pub added_rewrite : Laws → Sym → List Pattern → Pattern → Pattern → Laws
added_rewrite t name conds redex contractum = record { laws = t.laws ++ law.Rewrite (rewrite_of name conds redex contractum) ∷ [] }

-- ## Laws of any kind

-- the most subgoals that a step by the law gives: by a rule its premises, by a rewrite the rewritten goal and the conditions
abbrev pub width_in : Law → ℕ
width_in (law.Rule rule) = length rule.premises
width_in (law.Rewrite rewrite) = length rewrite.conds + 1

-- the most subgoals that a step by a law of the theory gives
abbrev pub width_of : Laws → ℕ
width_of t = greatest (map width_in t.laws)

-- a law that a theory may have
abbrev pub IsLaw : Law → Type 0
IsLaw (law.Rule rule) = IsRule rule
IsLaw (law.Rewrite rewrite) = IsRewrite rewrite

-- each of the laws may be a theory's
abbrev pub AreLaws : List Law → Type 0
AreLaws [] = ⊤
AreLaws (l ∷ ls) = IsLaw l × AreLaws ls

-- what each theory keeps: its laws may be a theory's, and no two have one name
pub record IsTheory (t : Laws) : Type 0 where
  pub laws : AreLaws t.laws
  pub apart : IsDistinct nat_eq (map name_in t.laws)

-- ## Refusals

-- a rule's fault as a refusal
abbrev pub refusal_by : Option SchemaFault → Option TheoryErr
refusal_by None = None
refusal_by (Some fault) = Some (err.Schema fault)

-- why a rule isn't added: first that its name is taken, then its first fault
abbrev pub refusal_of : Laws → Sym → List Schema → Schema → Option TheoryErr
refusal_of t name premises concl = if name_taken t name then Some err.Taken else refusal_by (rule_fault_of premises concl)

-- why a rewrite isn't added: first that its name is taken, then its first fault
abbrev pub rewrite_refusal_of : Laws → Sym → List Pattern → Pattern → Pattern → Option TheoryErr
rewrite_refusal_of t name conds redex contractum = if name_taken t name then Some err.Taken else refusal_by (rewrite_fault_of conds redex contractum)

-- Ok, or want of memory, if nothing is refused; else the refusal
abbrev pub IsRefusal : Option TheoryErr → Result (Unit {0}) TheoryErr → Type 0
IsRefusal refusal (Ok done) = refusal ≡ None
IsRefusal refusal (Err err.NoMemory) = refusal ≡ None
IsRefusal refusal (Err err.Taken) = refusal ≡ Some err.Taken
IsRefusal refusal (Err (err.Schema fault)) = refusal ≡ Some (err.Schema fault)

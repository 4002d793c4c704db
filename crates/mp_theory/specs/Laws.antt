-- The laws of what is looked up in theories, each as one statement.
use Rattle.std.specs.Prelude.{◌≡◌, ◌≤◌, ◌<◌, ℕ, ◌+◌, List, length, Bool, false, nat_eq, ◌||◌, Option, Some, None}
use Rattle.mp_logic.specs.declared.sym.Sym.{Sym}
use Rattle.mp_schema.specs.declared.pattern.Pattern.{Pattern}
use Rattle.mp_schema.specs.declared.schema.Schema.{Schema}
use Rattle.mp_schema.specs.Faults.{rule_fault_of, rewrite_fault_of}
use Rattle.mp_theory.specs.declared.rewrite.Rewrite.{Rewrite}
use Rattle.mp_theory.specs.declared.rule.Rule.{Rule}
use Rattle.mp_theory.specs.Tables.{Laws, no_laws, law_count, rule_at, place_of_rule, rule_named, rule_of, added_rule, rewrite_at, place_of_rewrite, rewrite_named, rewrite_of, added_rewrite, name_taken, width_of, IsRule, IsRewrite, IsTheory}

-- ## Rules

-- each rule of a theory is a rule
abbrev pub RulesOfTheories : Type 0
RulesOfTheories = (t : Laws) (place : ℕ) (rule : Rule) → IsTheory t → rule_at t place ≡ Some rule → IsRule rule

-- the place of a rule's name is that of the rule
abbrev pub PlacesOfNames : Type 0
PlacesOfNames =
    (t : Laws) (place : ℕ) (rule : Rule) → IsTheory t → rule_at t place ≡ Some rule →
    (place_of_rule t rule.name ≡ Some place) × (rule_named t rule.name ≡ Some rule)

-- a rule that is found by a name has this name
abbrev pub NamesOfPlaces : Type 0
NamesOfPlaces =
    (t : Laws) (name : Sym) (place : ℕ) → place_of_rule t name ≡ Some place →
    (rule : Rule) × (rule_at t place ≡ Some rule) × (rule_named t name ≡ Some rule) × (rule.name ≡ name)

-- after a rule is added it stands last, and the other laws stand where they stood
abbrev pub AddedRulesStand : Type 0
AddedRulesStand =
    (t : Laws) (name : Sym) (premises : List Schema) (concl : Schema) →
    (law_count (added_rule t name premises concl) ≡ law_count t + 1)
    × (rule_at (added_rule t name premises concl) (law_count t) ≡ Some (rule_of name premises concl))
    × ((place : ℕ) → place < law_count t →
    (rule_at (added_rule t name premises concl) place ≡ rule_at t place) × (rewrite_at (added_rule t name premises concl) place ≡ rewrite_at t place))

-- ## Rewrites

-- each rewrite of a theory is a rewrite
abbrev pub RewritesOfTheories : Type 0
RewritesOfTheories = (t : Laws) (place : ℕ) (rewrite : Rewrite) → IsTheory t → rewrite_at t place ≡ Some rewrite → IsRewrite rewrite

-- the place of a rewrite's name is that of the rewrite
abbrev pub PlacesOfRewrites : Type 0
PlacesOfRewrites =
    (t : Laws) (place : ℕ) (rewrite : Rewrite) → IsTheory t → rewrite_at t place ≡ Some rewrite →
    (place_of_rewrite t rewrite.name ≡ Some place) × (rewrite_named t rewrite.name ≡ Some rewrite)

-- a rewrite that is found by a name has this name
abbrev pub NamesOfRewrites : Type 0
NamesOfRewrites =
    (t : Laws) (name : Sym) (place : ℕ) → place_of_rewrite t name ≡ Some place →
    (rewrite : Rewrite) × (rewrite_at t place ≡ Some rewrite) × (rewrite_named t name ≡ Some rewrite) × (rewrite.name ≡ name)

-- after a rewrite is added it stands last, and the other laws stand where they stood
abbrev pub AddedRewritesStand : Type 0
AddedRewritesStand =
    (t : Laws) (name : Sym) (conds : List Pattern) (redex contractum : Pattern) →
    (law_count (added_rewrite t name conds redex contractum) ≡ law_count t + 1)
    × (rewrite_at (added_rewrite t name conds redex contractum) (law_count t) ≡ Some (rewrite_of name conds redex contractum))
    × ((place : ℕ) → place < law_count t →
    (rule_at (added_rewrite t name conds redex contractum) place ≡ rule_at t place)
    × (rewrite_at (added_rewrite t name conds redex contractum) place ≡ rewrite_at t place))

-- ## Laws of any kind

-- no name is taken in the theory without laws; after a law is added its name is taken, and those that were
abbrev pub TakenNames : Type 0
TakenNames =
    ((name : Sym) → name_taken no_laws name ≡ false)
    × ((t : Laws) (name : Sym) (premises : List Schema) (concl : Schema) (other : Sym) →
    name_taken (added_rule t name premises concl) other ≡ (name_taken t other || nat_eq other.0 name.0))
    × ((t : Laws) (name : Sym) (conds : List Pattern) (redex contractum : Pattern) (other : Sym) →
    name_taken (added_rewrite t name conds redex contractum) other ≡ (name_taken t other || nat_eq other.0 name.0))

-- the theory without laws is a theory, and so it is after a law without fault is added whose name isn't taken
abbrev pub TheoriesGrow : Type 0
TheoriesGrow =
    IsTheory no_laws
    × ((t : Laws) (name : Sym) (premises : List Schema) (concl : Schema) → IsTheory t → name_taken t name ≡ false → rule_fault_of premises concl ≡ None →
    IsTheory (added_rule t name premises concl))
    × ((t : Laws) (name : Sym) (conds : List Pattern) (redex contractum : Pattern) → IsTheory t → name_taken t name ≡ false →
    rewrite_fault_of conds redex contractum ≡ None → IsTheory (added_rewrite t name conds redex contractum))

-- no rule of the theory has more premises than its width, and each rewrite fewer conditions
abbrev pub WidthIsEnough : Type 0
WidthIsEnough =
    (t : Laws) (place : ℕ) →
    ((rule : Rule) → rule_at t place ≡ Some rule → length rule.premises ≤ width_of t)
    × ((rewrite : Rewrite) → rewrite_at t place ≡ Some rewrite → length rewrite.conds < width_of t)

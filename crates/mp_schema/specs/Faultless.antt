-- What a rule or a rewrite without a fault gives to matching, building and the steps of a prover.
use Rattle.std.specs.Prelude.{◌≡◌, ◌+◌, ◌≤◌, List, [], ◌++◌, length, Bool, false, Some, None, All, IsTrue, if◌then◌else◌, Contains}
use Rattle.std.specs.List.{list_all, flat_map}
use Rattle.mp_logic.specs.declared.sym.Sym.{Sym}
use Rattle.mp_term.specs.Terms.{in_scope_of}
use Rattle.mp_term.specs.Limits.{in_scopes_from}
use Rattle.mp_schema.specs.declared.pattern.Pattern.{Pattern}
use Rattle.mp_schema.specs.declared.schema.Schema.{Schema}
use Rattle.mp_schema.specs.Conditions.{nothing_before, pattern_placed, is_placed, is_conclusion, context_names, has_all, seen}
use Rattle.mp_schema.specs.Faults.{occurrences_of_rule, occurrences_of_rewrite, rule_fault_of, rewrite_fault_of, all_named_in}
use Rattle.mp_schema.specs.Instances.{Values, Wide, fits}
use Rattle.mp_schema.specs.Limits.{few_of, few_of_item, item_depth_of, pattern_depth_of, pattern_size_of, schema_size_of}
use Rattle.mp_schema.specs.Occurrences.{Occurrence, occurrences_in, occurrences_in_schema, first_named, holes_in, holes_in_schema}
use Rattle.mp_schema.specs.Sequents.{Instance, wide_of, schema_fits}
use Rattle.mp_term.specs.declared.limits.TheConstants.{MOST_DEPTH, MOST_NODES}
use Rattle.mp_schema.specs.declared.limits.TheConstants.{MOST_ITEMS, MOST_PREMISES, MOST_CONDITIONS}

-- two occurrences are both of second-order variables or both of contexts, with the same list of contexts and as many arguments
pub record IsLike (o other : Occurrence) : Type 0 where
  pub same_kind : o.is_context ≡ other.is_context
  pub same_contexts : o.ctxs ≡ other.ctxs
  pub same_number : length o.levels ≡ length other.levels

-- occurrences of one name are alike
pub record AreAlike (os : List Occurrence) : Type 0 where
  pub alike : (o other : Occurrence) → Contains os o → Contains os other → o.name ≡ other.name → IsLike o other

-- the limits of a pattern
pub record IsLimited (p : Pattern) : Type 0 where
  pub few : IsTrue (few_of p)
  pub shallow : pattern_depth_of p ≤ MOST_DEPTH
  pub small : pattern_size_of p ≤ MOST_NODES

-- the limits of a schema
pub record IsLimitedSchema (s : Schema) : Type 0 where
  pub few_items : length s.items ≤ MOST_ITEMS
  pub few : All (λ i. IsTrue (few_of_item i)) s.items
  pub few_end : IsTrue (few_of s.concl)
  pub shallow : All (λ i. item_depth_of i ≤ MOST_DEPTH) s.items
  pub shallow_end : pattern_depth_of s.concl ≤ MOST_DEPTH
  pub small : schema_size_of s ≤ MOST_NODES

-- a rule without a fault
pub record IsFaultlessRule (premises : List Schema) (concl : Schema) : Type 0 where
  pub few_premises : length premises ≤ MOST_PREMISES
  pub limited : All IsLimitedSchema premises
  pub limited_end : IsLimitedSchema concl
  pub conclusion : IsTrue (is_conclusion concl)
  pub placed : All (λ p. IsTrue (is_placed p)) premises
  pub listed : All (λ p. IsTrue (has_all (context_names concl) (context_names p))) premises
  pub alike : AreAlike (occurrences_of_rule premises concl)
  pub filled : IsTrue (has_all (holes_in_schema concl) (flat_map holes_in_schema premises))

-- a rewrite without a fault
pub record IsFaultlessRewrite (conds : List Pattern) (redex contractum : Pattern) : Type 0 where
  pub few_conds : length conds ≤ MOST_CONDITIONS
  pub limited : All IsLimited conds
  pub limited_redex : IsLimited redex
  pub limited_contractum : IsLimited contractum
  pub fine : IsTrue ((seen redex).fine 0)
  pub placed : All (λ p. IsTrue (pattern_placed p nothing_before)) conds
  pub placed_redex : IsTrue (pattern_placed redex nothing_before)
  pub placed_contractum : IsTrue (pattern_placed contractum nothing_before)
  pub unlisted : All (λ o. o.ctxs ≡ []) (occurrences_of_rewrite conds redex contractum)
  pub alike : AreAlike (occurrences_of_rewrite conds redex contractum)
  pub bound : IsTrue (all_named_in (occurrences_in redex) (flat_map occurrences_in conds ++ occurrences_in contractum))
  pub filled : All (λ p. IsTrue (has_all (holes_in redex) (holes_in p))) conds
  pub filled_contractum : IsTrue (has_all (holes_in redex) (holes_in contractum))

-- the value of an occurrence is in the scope that the occurrence asks
abbrev pub occurrence_fits : Instance → Occurrence → Bool
occurrence_fits v o =
    if o.is_context
    then in_scopes_from (wide_of v o.ctxs + length o.levels) (v.kept o.name)
    else in_scope_of (v.values.meta o.name) (wide_of v o.ctxs + length o.levels)

-- the value of each second-order variable that the premises have and the conclusion hasn't is in the scope that its
-- first occurrence asks
abbrev pub NeedsFit : Instance → List Schema → Schema → Type 0
NeedsFit v premises concl =
    (name : Sym) (first : Occurrence) → first_named (flat_map occurrences_in_schema premises) name ≡ Some first →
    first_named (occurrences_in_schema concl) name ≡ None → first.is_context ≡ false → IsTrue (occurrence_fits v first)

-- ## The laws

-- a rule in which no fault is found has none
abbrev pub RulesAreFaultless : Type 0
RulesAreFaultless = (premises : List Schema) (concl : Schema) → rule_fault_of premises concl ≡ None → IsFaultlessRule premises concl

-- a rewrite in which no fault is found has none
abbrev pub RewritesAreFaultless : Type 0
RewritesAreFaultless =
    (conds : List Pattern) (redex contractum : Pattern) → rewrite_fault_of conds redex contractum ≡ None → IsFaultlessRewrite conds redex contractum

-- the values of a schema fit exactly if those of its occurrences do
abbrev pub FitsByOccurrences : Type 0
FitsByOccurrences = (v : Instance) (s : Schema) → schema_fits v s ≡ list_all (occurrence_fits v) (occurrences_in_schema s)

-- the values that fit the conclusion fit each premise, if those of the needs fit at their first occurrence
abbrev pub PremisesFit : Type 0
PremisesFit =
    (v : Instance) (premises : List Schema) (concl : Schema) → rule_fault_of premises concl ≡ None → IsTrue (schema_fits v concl) →
    NeedsFit v premises concl → All (λ p. IsTrue (schema_fits v p)) premises

-- the values that fit the redex fit each condition and the contractum
abbrev pub ConditionsFit : Type 0
ConditionsFit =
    (w : Wide) (v : Values) (conds : List Pattern) (redex contractum : Pattern) → rewrite_fault_of conds redex contractum ≡ None →
    IsTrue (fits w v redex) → All (λ p. IsTrue (fits w v p)) conds × IsTrue (fits w v contractum)

-- The faults of rules and rewrites: what each has to keep, and the first fault that is present.
use Rattle.std.specs.Prelude.{ℕ, List, [], ◌∷◌, ◌++◌, map, length, Bool, true, false, nat_le, nat_eq, ◌&&◌, ◌||◌, not, Option, Some, None, if◌then◌else◌}
use Rattle.std.specs.List.{list_all, flat_map}
use Rattle.std.specs.Option.{is_some}
use Rattle.mp_logic.specs.declared.sym.Sym.{Sym}
use Rattle.mp_term.specs.Terms.{all_at_scope}
use Rattle.mp_schema.specs.declared.pattern.Pattern.{Pattern}
use Rattle.mp_schema.specs.declared.schema.Item.{Item}
use Rattle.mp_schema.specs.declared.schema.Item.TheVariants.{Ctx, Hyp}
use Rattle.mp_schema.specs.declared.schema.Schema.{Schema}
use Rattle.mp_schema.specs.declared.fault.SchemaFault.{SchemaFault}
use Rattle.mp_schema.specs.declared.fault.SchemaFault.TheVariants as fault
use Rattle.mp_schema.specs.Conditions.{Before, nothing_before, past_all, each_item, below, has_all, is_apart, context_names, is_framed}
use Rattle.mp_schema.specs.Limits.{few_of, few_of_schema, is_shallow_pattern, is_shallow_schema, is_small_pattern, is_small_schema}
use Rattle.mp_schema.specs.Occurrences.{Occurrence, occurrences_in, occurrences_in_item, occurrences_in_schema, first_named, holes_in, holes_in_schema}
use Rattle.mp_schema.specs.declared.limits.TheConstants.{MOST_PREMISES, MOST_CONDITIONS}
use Rattle.mp_logic.specs.Lists.{same_bool}

-- ## What a schema keeps

-- each variable of an item is a named hypothesis or a binder before it
abbrev pub item_closed : Item → Before → Bool
item_closed (Hyp p) b = below p b.named
item_closed (Ctx name ctxs args) b = all_at_scope b.named (map below args)

-- each variable of the schema is a named hypothesis or a binder before it
abbrev pub is_closed : Schema → Bool
is_closed s = each_item item_closed s.items nothing_before && below s.concl (past_all s.items nothing_before).named

-- each occurrence's list has only these contexts
abbrev pub all_listed : List Sym → List Occurrence → Bool
all_listed known os = list_all (λ (o : Occurrence). has_all known o.ctxs) os

-- each list of contexts in an item has only contexts before the item
abbrev pub item_listed : Item → Before → Bool
item_listed i b = all_listed b.contexts (occurrences_in_item i)

-- each context of a list is an item before it
abbrev pub is_listed : Schema → Bool
is_listed s = each_item item_listed s.items nothing_before && all_listed (past_all s.items nothing_before).contexts (occurrences_in s.concl)

-- no list has a context twice
abbrev pub lists_apart : List Occurrence → Bool
lists_apart os = list_all (λ (o : Occurrence). is_apart o.ctxs) os

-- no context is an item twice, and no list has one twice
abbrev pub is_single : Schema → Bool
is_single s = is_apart (context_names s) && lists_apart (occurrences_in_schema s)

-- ## What the occurrences of a text keep

-- the variable of this level is among the arguments
abbrev pub has_level : List (Option ℕ) → ℕ → Bool
has_level [] level = false
has_level (None ∷ rest) level = has_level rest level
has_level (Some other ∷ rest) level = nat_eq other level || has_level rest level

-- the arguments are distinct variables
abbrev pub are_distinct : List (Option ℕ) → Bool
are_distinct [] = true
are_distinct (None ∷ rest) = false
are_distinct (Some level ∷ rest) = not (has_level rest level) && are_distinct rest

-- each second-order variable and each context is applied to distinct variables
abbrev pub on_variables : List Occurrence → Bool
on_variables os = list_all (λ (o : Occurrence). are_distinct o.levels) os

-- the lists have the same names in the same order
abbrev pub same_names : List Sym → List Sym → Bool
same_names [] [] = true
same_names [] (y ∷ ys) = false
same_names (x ∷ xs) [] = false
same_names (x ∷ xs) (y ∷ ys) = nat_eq x.0 y.0 && same_names xs ys

-- two occurrences are both of second-order variables or both of contexts, with the same list of contexts and as many arguments
abbrev pub is_like : Occurrence → Occurrence → Bool
is_like o other = same_bool o.is_context other.is_context && same_names o.ctxs other.ctxs && nat_eq (length o.levels) (length other.levels)

-- there is a first one, and the other is like it
abbrev pub is_like_first : Option Occurrence → Occurrence → Bool
is_like_first None o = false
is_like_first (Some first) o = is_like first o

-- each occurrence is like the first one of its name
abbrev pub is_consistent : List Occurrence → Bool
is_consistent os = list_all (λ (o : Occurrence). is_like_first (first_named os o.name) o) os

-- each of the second has the name of one of the first
abbrev pub all_named_in : List Occurrence → List Occurrence → Bool
all_named_in known os = list_all (λ (o : Occurrence). is_some (first_named known o.name)) os

-- ## The first fault

-- the fault of the first demand that isn't kept
abbrev pub first_fault : List (SchemaFault × Bool) → Option SchemaFault
first_fault [] = None
first_fault ((f, kept) ∷ rest) = if kept then first_fault rest else Some f

-- the fault of the last two demands on a rule: that uses are alike, and that holes are filled
abbrev pub late_fault : Bool → Bool → Option SchemaFault
late_fault consistent filled = first_fault ((fault.BadUse, consistent) ∷ (fault.UnboundParam, filled) ∷ [])

module _ (premises : List Schema) (concl : Schema) where
  -- each schema of a rule keeps this
  abbrev pub each_schema : (Schema → Bool) → Bool
  each_schema kept = list_all kept premises && kept concl

  -- the second-order variables and contexts of a rule, in the order of the text
  abbrev pub occurrences_of_rule : List Occurrence
  occurrences_of_rule = flat_map occurrences_in_schema premises ++ occurrences_in_schema concl

  -- at most 16 premises, and in each schema the limits on how many
  unfoldable pub rule_is_few : Bool
  rule_is_few = nat_le (length premises) MOST_PREMISES && each_schema few_of_schema

  -- no node is at a depth over 200
  unfoldable pub rule_is_shallow : Bool
  rule_is_shallow = each_schema is_shallow_schema

  -- no schema has more than 20,000 nodes
  unfoldable pub rule_is_small : Bool
  rule_is_small = each_schema is_small_schema

  -- each variable is a named hypothesis or a binder before it
  unfoldable pub rule_is_closed : Bool
  rule_is_closed = each_schema is_closed

  -- each context of a list is an item before it, and each of a premise's is one of the conclusion's
  unfoldable pub rule_is_listed : Bool
  rule_is_listed = each_schema is_listed && list_all (λ p. has_all (context_names concl) (context_names p)) premises

  -- no context is an item twice in one schema, and none is twice in one list
  unfoldable pub rule_is_single : Bool
  rule_is_single = each_schema is_single

  -- at most two contexts in the conclusion
  unfoldable pub rule_has_few_contexts : Bool
  rule_has_few_contexts = nat_le (length (context_names concl)) 2

  -- if the conclusion has two contexts, each of its named hypotheses stands between them
  unfoldable pub rule_is_framed : Bool
  rule_is_framed = is_framed concl

  -- in the conclusion each second-order variable and each context is applied to distinct variables
  unfoldable pub rule_is_on_variables : Bool
  rule_is_on_variables = on_variables (occurrences_in_schema concl)

  -- each second-order variable and each context is used as at its first occurrence
  unfoldable pub rule_is_consistent : Bool
  rule_is_consistent = is_consistent occurrences_of_rule

  -- each hole of a premise is in the conclusion
  unfoldable pub rule_is_filled : Bool
  rule_is_filled = has_all (holes_in_schema concl) (flat_map holes_in_schema premises)

  -- the first fault of a rule
  abbrev pub rule_fault_of : Option SchemaFault
  rule_fault_of =
      first_fault (
      (fault.TooMany, rule_is_few)
      ∷ (fault.TooDeep, rule_is_shallow)
      ∷ (fault.TooBig, rule_is_small)
      ∷ (fault.UnboundVar, rule_is_closed)
      ∷ (fault.DanglingContext, rule_is_listed)
      ∷ (fault.TwiceContext, rule_is_single)
      ∷ (fault.TooManyContexts, rule_has_few_contexts)
      ∷ (fault.MisplacedHyp, rule_is_framed)
      ∷ (fault.NotAPattern, rule_is_on_variables)
      ∷ (fault.BadUse, rule_is_consistent)
      ∷ (fault.UnboundParam, rule_is_filled)
      ∷ []
      )

module _ (conds : List Pattern) (redex contractum : Pattern) where
  -- each pattern of a rewrite keeps this
  abbrev pub each_pattern : (Pattern → Bool) → Bool
  each_pattern kept = list_all kept conds && kept redex && kept contractum

  -- the second-order variables of a rewrite, in the order of the text
  abbrev pub occurrences_of_rewrite : List Occurrence
  occurrences_of_rewrite = flat_map occurrences_in conds ++ occurrences_in redex ++ occurrences_in contractum

  -- at most 15 conditions, and in each pattern the limits on how many
  unfoldable pub rewrite_is_few : Bool
  rewrite_is_few = nat_le (length conds) MOST_CONDITIONS && each_pattern few_of

  -- no node is at a depth over 200
  unfoldable pub rewrite_is_shallow : Bool
  rewrite_is_shallow = each_pattern is_shallow_pattern

  -- no pattern has more than 20,000 nodes
  unfoldable pub rewrite_is_small : Bool
  rewrite_is_small = each_pattern is_small_pattern

  -- each variable is a binder before it
  unfoldable pub rewrite_is_closed : Bool
  rewrite_is_closed = each_pattern (λ p. below p 0)

  -- no list has a context
  unfoldable pub rewrite_is_listed : Bool
  rewrite_is_listed = all_listed [] occurrences_of_rewrite

  -- no list has a context twice
  unfoldable pub rewrite_is_single : Bool
  rewrite_is_single = lists_apart occurrences_of_rewrite

  -- in the redex each second-order variable is applied to distinct variables
  unfoldable pub rewrite_is_on_variables : Bool
  rewrite_is_on_variables = on_variables (occurrences_in redex)

  -- each second-order variable is used as at its first occurrence
  unfoldable pub rewrite_is_consistent : Bool
  rewrite_is_consistent = is_consistent occurrences_of_rewrite

  -- each hole of a condition or the contractum is in the redex
  unfoldable pub rewrite_is_filled : Bool
  rewrite_is_filled = has_all (holes_in redex) (flat_map holes_in conds ++ holes_in contractum)

  -- each second-order variable of a condition or the contractum is in the redex
  unfoldable pub rewrite_is_bound : Bool
  rewrite_is_bound = all_named_in (occurrences_in redex) (flat_map occurrences_in conds ++ occurrences_in contractum)

  -- the first fault of a rewrite
  abbrev pub rewrite_fault_of : Option SchemaFault
  rewrite_fault_of =
      first_fault (
      (fault.TooMany, rewrite_is_few)
      ∷ (fault.TooDeep, rewrite_is_shallow)
      ∷ (fault.TooBig, rewrite_is_small)
      ∷ (fault.UnboundVar, rewrite_is_closed)
      ∷ (fault.DanglingContext, rewrite_is_listed)
      ∷ (fault.TwiceContext, rewrite_is_single)
      ∷ (fault.NotAPattern, rewrite_is_on_variables)
      ∷ (fault.BadUse, rewrite_is_consistent)
      ∷ (fault.UnboundParam, rewrite_is_filled)
      ∷ (fault.UnboundMeta, rewrite_is_bound)
      ∷ []
      )

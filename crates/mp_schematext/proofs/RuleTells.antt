-- The static rules on a rule as it is written are those on the rule that it stands for.
use Rattle.std.proofs.Common.{◌≡◌, ◌++◌, List, [], ◌∷◌, map, length, Bool, true, false, ◌&&◌, not, nat_le, None, refl, ap, sym, ◌∙◌}
use Rattle.std.specs.List.{list_all, flat_map}
use Rattle.std.proofs.lemmas.Bool.{and_parts, and_from}
use Rattle.std.proofs.lemmas.List.{length-map}
use Rattle.mp_logic.specs.declared.sym.Sym.{Sym}
use Rattle.mp_schema.specs.declared.schema.Schema.{Schema}
use Rattle.mp_schema.specs.Conditions.{has_all, context_names, is_framed}
use Rattle.mp_schema.specs.Limits.{few_of_schema, is_shallow_schema, is_small_schema}
use Rattle.mp_schema.specs.Faults.{is_closed, is_consistent, is_listed, is_single, occurrences_of_rule, on_variables, rule_is_few, rule_is_shallow, rule_is_small, rule_is_closed, rule_is_listed, rule_is_single, rule_has_few_contexts, rule_is_framed, rule_is_on_variables, rule_is_consistent, rule_is_filled, rule_fault_of}
use Rattle.mp_schema.specs.Occurrences.{occurrences_in_schema}
use Rattle.mp_schema.proofs.Faultless.{KeepsRule-from}
use Rattle.mp_words.specs.declared.fail.TextErr.{TextErr}
use Rattle.mp_words.specs.declared.raw.RawName.{RawName}
use Rattle.mp_words.specs.Faults.{too_many}
use Rattle.mp_schematext.specs.declared.raw.RawSchema.{RawSchema}
use Rattle.mp_schematext.specs.declared.raw.RawRule.{RawRule}
use Rattle.mp_schematext.specs.Laws.{OneSetOfRules}
use Rattle.mp_schematext.specs.Scopes.{contexts_of}
use Rattle.mp_patterntext.specs.Scopes.{syms_of}
use Rattle.mp_schematext.specs.Statics.{conclusion_faults, premise_faults, rule_faults}
use Rattle.mp_patterntext.specs.Uses.{uses_faults, hole_faults}
use Rattle.mp_schematext.specs.Uses.{raw_schema_holes, uses_in_rule}
use Rattle.mp_schematext.specs.Values.{schema_of}
use Rattle.mp_schematext.proofs.RuleUses.{tells_rule_uses}
use Rattle.mp_schematext.proofs.SchemaTells.{SchemaKeeps, conclusion_keeps, contexts_are, premise_keeps}
use Rattle.mp_schematext.proofs.SchemaSizes.{schema_holes, schemata_holes}
use Rattle.mp_patterntext.proofs.Telling.{Tells, none_left, tells_both, tells_by, tells_past}
use Rattle.mp_patterntext.proofs.Twice.{tells_unknown}
use Rattle.mp_words.specs.declared.fail.TextWhy.TheVariants as why

-- ## Premises

-- what is asked of a premise of a rule whose conclusion has these contexts
abbrev PremiseKeeps : List Sym → Schema → Type 0
PremiseKeeps concl s = (has_all concl (context_names s) ≡ true) × SchemaKeeps false s

abbrev AllKeep : List Sym → List Schema → Type 0
AllKeep concl [] = Unit {0}
AllKeep concl (s ∷ ss) = PremiseKeeps concl s × AllKeep concl ss

premises_keep : (concl : List Sym) (ss : List RawSchema) → Tells (flat_map (premise_faults concl) ss) (AllKeep concl (map schema_of ss))
premises_keep concl [] = record { kept = λ e. tt; told = λ k. tt }
premises_keep concl (s ∷ ss) = tells_both (premise_faults concl s) (flat_map (premise_faults concl) ss) (premise_keeps concl s) (premises_keep concl ss)

all_from : (concl : List Sym) (p : Schema → Bool) → ((s : Schema) → PremiseKeeps concl s → p s ≡ true) → (ss : List Schema) → AllKeep concl ss → list_all p ss ≡ true
all_from concl p h [] k = refl
all_from concl p h (s ∷ ss) k = and_from _ _ (h s k.0) (all_from concl p h ss k.1)

-- the premises one by one, from what all of them keep
all_to : (concl : List Sym) (ss : List Schema) → list_all (λ p. has_all concl (context_names p)) ss ≡ true → list_all few_of_schema ss ≡ true → list_all is_shallow_schema ss ≡ true → list_all is_small_schema ss ≡ true → list_all is_closed ss ≡ true
    → list_all is_listed ss ≡ true → list_all is_single ss ≡ true → AllKeep concl ss
all_to concl [] h few shallow small closed listed single = tt
all_to concl (s ∷ ss) h few shallow small closed listed single =
    let h' = and_parts (has_all concl (context_names s)) (list_all (λ p. has_all concl (context_names p)) ss) h in
    let few' = and_parts (few_of_schema s) (list_all few_of_schema ss) few in
    let shallow' = and_parts (is_shallow_schema s) (list_all is_shallow_schema ss) shallow in
    let small' = and_parts (is_small_schema s) (list_all is_small_schema ss) small in
    let closed' = and_parts (is_closed s) (list_all is_closed ss) closed in
    let listed' = and_parts (is_listed s) (list_all is_listed ss) listed in
    let single' = and_parts (is_single s) (list_all is_single ss) single in
    ((h'.0, record { few = few'.0; shallow = shallow'.0; small = small'.0; closed = closed'.0; listed = listed'.0; single = single'.0; distinct = refl }), all_to concl ss h'.1 few'.1 shallow'.1 small'.1 closed'.1 listed'.1 single'.1)

-- ## Rules

module _ (r : RawRule) where
  abbrev premises : List Schema
  premises = map schema_of r.premises

  abbrev concl : Schema
  concl = schema_of r.concl

  abbrev contexts : List Sym
  contexts = syms_of (contexts_of r.concl)

  abbrev many : List TextErr
  many = too_many (λ (s : RawSchema). s.at) 16 r.premises

  abbrev holes : List TextErr
  holes = hole_faults (syms_of (raw_schema_holes r.concl)) (flat_map raw_schema_holes r.premises)

  -- what is asked of the rule, in its parts
  abbrev Parts : Type 0
  Parts = ((((nat_le (length r.premises) 16 ≡ true) × AllKeep (syms_of (contexts_of r.concl)) (map schema_of r.premises)) × (((nat_le (length (context_names (schema_of r.concl))) 2 ≡ true) × (is_framed (schema_of r.concl) ≡ true)) × SchemaKeeps true (schema_of r.concl)))
      × (is_consistent (occurrences_of_rule (map schema_of r.premises) (schema_of r.concl)) ≡ true)) × (has_all (syms_of (raw_schema_holes r.concl)) (syms_of (flat_map raw_schema_holes r.premises)) ≡ true)

  all_parts : Tells (rule_faults r) Parts
  all_parts =
      let ps = flat_map (premise_faults contexts) r.premises in
      tells_both (many ++ ps ++ conclusion_faults r.concl ++ uses_faults (uses_in_rule r)) holes
      (tells_both (many ++ ps ++ conclusion_faults r.concl) (uses_faults (uses_in_rule r))
      (tells_both (many ++ ps) (conclusion_faults r.concl) (tells_both many ps (tells_past (λ (s : RawSchema). s.at) why.TooMany 16 r.premises) (premises_keep contexts r.premises)) (conclusion_keeps r.concl)) (tells_rule_uses r))
      (tells_unknown why.UnboundParam (syms_of (raw_schema_holes r.concl)) (flat_map raw_schema_holes r.premises))

  holes_same : rule_is_filled premises concl ≡ has_all (syms_of (raw_schema_holes r.concl)) (syms_of (flat_map raw_schema_holes r.premises))
  unfolding rule_is_filled
  holes_same = (λ i. has_all (schema_holes r.concl i) (schemata_holes r.premises i))

  module _ (q : Parts) where
    abbrev all : AllKeep contexts premises
    all = q.0.0.0.1

    abbrev end : SchemaKeeps true concl
    end = q.0.0.1.1

    few : rule_is_few premises concl ≡ true
    unfolding rule_is_few
    few = and_from _ _ (ap (λ n. nat_le n 16) (length-map r.premises schema_of) ∙ q.0.0.0.0) (and_from _ _ (all_from contexts few_of_schema (λ s k. k.1.few) premises all) end.few)

    shallow : rule_is_shallow premises concl ≡ true
    unfolding rule_is_shallow
    shallow = and_from _ _ (all_from contexts is_shallow_schema (λ s k. k.1.shallow) premises all) end.shallow

    small : rule_is_small premises concl ≡ true
    unfolding rule_is_small
    small = and_from _ _ (all_from contexts is_small_schema (λ s k. k.1.small) premises all) end.small

    closed : rule_is_closed premises concl ≡ true
    unfolding rule_is_closed
    closed = and_from _ _ (all_from contexts is_closed (λ s k. k.1.closed) premises all) end.closed

    listed : rule_is_listed premises concl ≡ true
    unfolding rule_is_listed
    listed =
        and_from _ _ (and_from _ _ (all_from contexts is_listed (λ s k. k.1.listed) premises all) end.listed)
        (ap (λ ns. list_all (λ p. has_all ns (context_names p)) premises) (contexts_are r.concl) ∙ all_from contexts (λ p. has_all contexts (context_names p)) (λ s k. k.0) premises all)

    single : rule_is_single premises concl ≡ true
    unfolding rule_is_single
    single = and_from _ _ (all_from contexts is_single (λ s k. k.1.single) premises all) end.single

    two : rule_has_few_contexts premises concl ≡ true
    unfolding rule_has_few_contexts
    two = q.0.0.1.0.0

    between : rule_is_framed premises concl ≡ true
    unfolding rule_is_framed
    between = q.0.0.1.0.1

    distinct : rule_is_on_variables premises concl ≡ true
    unfolding rule_is_on_variables
    distinct = end.distinct

    consistent : rule_is_consistent premises concl ≡ true
    unfolding rule_is_consistent
    consistent = q.0.1

    filled : rule_is_filled premises concl ≡ true
    filled = holes_same ∙ q.1

    faultless_from : rule_fault_of premises concl ≡ None
    faultless_from = rw (few, shallow, small, closed, listed, single, two, between, distinct, consistent, filled) refl

  -- what each demand of a rule without faults says
  few_parts : rule_is_few premises concl ≡ true → (nat_le (length premises) 16 ≡ true) × ((list_all few_of_schema premises ≡ true) × (few_of_schema concl ≡ true))
  unfolding rule_is_few
  few_parts h = let p = and_parts (nat_le (length premises) 16) (list_all few_of_schema premises && few_of_schema concl) h in (p.0, and_parts (list_all few_of_schema premises) (few_of_schema concl) p.1)

  shallow_parts : rule_is_shallow premises concl ≡ true → (list_all is_shallow_schema premises ≡ true) × (is_shallow_schema concl ≡ true)
  unfolding rule_is_shallow
  shallow_parts h = and_parts (list_all is_shallow_schema premises) (is_shallow_schema concl) h

  small_parts : rule_is_small premises concl ≡ true → (list_all is_small_schema premises ≡ true) × (is_small_schema concl ≡ true)
  unfolding rule_is_small
  small_parts h = and_parts (list_all is_small_schema premises) (is_small_schema concl) h

  closed_parts : rule_is_closed premises concl ≡ true → (list_all is_closed premises ≡ true) × (is_closed concl ≡ true)
  unfolding rule_is_closed
  closed_parts h = and_parts (list_all is_closed premises) (is_closed concl) h

  listed_parts : rule_is_listed premises concl ≡ true → ((list_all is_listed premises ≡ true) × (is_listed concl ≡ true)) × (list_all (λ p. has_all contexts (context_names p)) premises ≡ true)
  unfolding rule_is_listed
  listed_parts h =
      let p = and_parts (list_all is_listed premises && is_listed concl) (list_all (λ p. has_all (context_names concl) (context_names p)) premises) h in
      (and_parts (list_all is_listed premises) (is_listed concl) p.0, ap (λ ns. list_all (λ p. has_all ns (context_names p)) premises) (sym (contexts_are r.concl)) ∙ p.1)

  single_parts : rule_is_single premises concl ≡ true → (list_all is_single premises ≡ true) × (is_single concl ≡ true)
  unfolding rule_is_single
  single_parts h = and_parts (list_all is_single premises) (is_single concl) h

  two_is : rule_has_few_contexts premises concl ≡ true → nat_le (length (context_names concl)) 2 ≡ true
  unfolding rule_has_few_contexts
  two_is h = h

  between_is : rule_is_framed premises concl ≡ true → is_framed concl ≡ true
  unfolding rule_is_framed
  between_is h = h

  distinct_is : rule_is_on_variables premises concl ≡ true → on_variables (occurrences_in_schema concl) ≡ true
  unfolding rule_is_on_variables
  distinct_is h = h

  consistent_is : rule_is_consistent premises concl ≡ true → is_consistent (occurrences_of_rule premises concl) ≡ true
  unfolding rule_is_consistent
  consistent_is h = h

  parts_from : rule_fault_of premises concl ≡ None → Parts
  parts_from h =
      let k = KeepsRule-from premises concl h in
      let few' = few_parts k.few in
      let shallow' = shallow_parts k.shallow in
      let small' = small_parts k.small in
      let closed' = closed_parts k.closed in
      let listed' = listed_parts k.listed in
      let single' = single_parts k.single in (
        (
          (
            (ap (λ n. nat_le n 16) (sym (length-map r.premises schema_of)) ∙ few'.0, all_to contexts premises listed'.1 few'.1.0 shallow'.0 small'.0 closed'.0 listed'.0.0 single'.0),
            ((two_is k.few_contexts, between_is k.framed), record { few = few'.1.1; shallow = shallow'.1; small = small'.1; closed = closed'.1; listed = listed'.0.1; single = single'.1; distinct = distinct_is k.on_variables }),
          ),
          consistent_is k.consistent,
        ),
        sym holes_same ∙ k.filled,
      )

  -- without faults the rule that is written has none; and where it has none, only unbound variables are told
  pub rule_tells : Tells (rule_faults r) (rule_fault_of premises concl ≡ None)
  rule_tells = tells_by (rule_faults r) all_parts faultless_from parts_from

pub one_set_of_rules : OneSetOfRules
one_set_of_rules r bound = ((rule_tells r).kept, λ h. none_left (rule_faults r) ((rule_tells r).told h) bound)

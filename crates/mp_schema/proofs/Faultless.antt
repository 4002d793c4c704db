-- What a rule and a rewrite without a fault keep, put together.
use Rattle.std.proofs.Common.{◌≡◌, ◌≤◌, List, [], ◌∷◌, ◌++◌, length, Bool, true, false, ◌&&◌, ◌||◌, not, nat_le, Option, Some, None, IsTrue, refl, ap, sym, ◌∙◌}
use Rattle.std.specs.Prelude.{All, if◌then◌else◌}
use Rattle.std.proofs.lemmas.Bool.{and_parts, and_from, leb-true}
use Rattle.std.proofs.lemmas.List.Elements.{All-nil, All-cons, All-weaker}
use Rattle.std.proofs.lemmas.List.Folds.{find-append, list_all-append}
use Rattle.std.proofs.lemmas.List.Sums.{AllPass-from_list_all}
use Rattle.std.specs.List.{list_all, flat_map}
use Rattle.std.specs.Option.{is_some, option_or}
use Rattle.mp_schema.specs.declared.fault.SchemaFault.{SchemaFault}
use Rattle.mp_schema.specs.declared.pattern.Pattern.{Pattern}
use Rattle.mp_schema.specs.declared.schema.Schema.{Schema}
use Rattle.mp_schema.specs.Conditions.{has_all, context_names, is_placed, is_fine, is_conclusion}
use Rattle.mp_schema.specs.Faultless.{IsLimitedSchema, IsFaultlessRule, NeedsFit, occurrence_fits}
use Rattle.mp_schema.specs.Faults.{rule_is_few, rule_is_shallow, rule_is_small, rule_is_closed, rule_is_listed, rule_is_single, rule_has_few_contexts, rule_is_framed, rule_is_on_variables, rule_is_consistent, rule_is_filled, rule_fault_of, is_closed, is_listed, is_single, is_consistent, occurrences_of_rule}
use Rattle.mp_schema.specs.Limits.{few_of, few_of_item, few_of_schema, is_shallow_item, is_shallow_pattern, is_shallow_schema, is_small_schema, schema_size_of, item_depth_of, pattern_depth_of}
use Rattle.mp_schema.specs.Occurrences.{Occurrence, occurrences_in_schema, first_named, holes_in_schema}
use Rattle.mp_schema.specs.Sequents.{Instance, schema_fits}
use Rattle.mp_schema.proofs.Fitting.{schema_fits-told}
use Rattle.mp_schema.proofs.Likeness.{AreAlike-from, like_use, found_keeps}
use Rattle.mp_schema.proofs.Placing.{is_placed-from, is_fine-from, split}
use Rattle.mp_schema.proofs.Spread.{occurrence_fits-like, all_from, fits_as_first, fits_as_known, context_named, contexts_named}

-- where no fault is found, the first demand is kept and those after it
pub kept_first : (f : SchemaFault) (kept : Bool) (rest : Option SchemaFault) → (if kept then rest else Some f) ≡ None → (kept ≡ true) × (rest ≡ None)
kept_first f true rest e = (refl, e)
kept_first f false rest e = absurd (cc)

-- ## Rules

pub record KeepsRule (premises : List Schema) (concl : Schema) : Type 0 where
  pub few : rule_is_few premises concl ≡ true
  pub shallow : rule_is_shallow premises concl ≡ true
  pub small : rule_is_small premises concl ≡ true
  pub closed : rule_is_closed premises concl ≡ true
  pub listed : rule_is_listed premises concl ≡ true
  pub single : rule_is_single premises concl ≡ true
  pub few_contexts : rule_has_few_contexts premises concl ≡ true
  pub framed : rule_is_framed premises concl ≡ true
  pub on_variables : rule_is_on_variables premises concl ≡ true
  pub consistent : rule_is_consistent premises concl ≡ true
  pub filled : rule_is_filled premises concl ≡ true

pub KeepsRule-from : (premises : List Schema) (concl : Schema) → rule_fault_of premises concl ≡ None → KeepsRule premises concl
KeepsRule-from premises concl e =
    let a = kept_first _ _ _ e in
    let b = kept_first _ _ _ a.1 in
    let c = kept_first _ _ _ b.1 in
    let d = kept_first _ _ _ c.1 in
    let f = kept_first _ _ _ d.1 in
    let g = kept_first _ _ _ f.1 in
    let h = kept_first _ _ _ g.1 in
    let i = kept_first _ _ _ h.1 in
    let j = kept_first _ _ _ i.1 in
    let k = kept_first _ _ _ j.1 in
    let l = kept_first _ _ _ k.1 in
    record {
      few = a.0;
      shallow = b.0;
      small = c.0;
      closed = d.0;
      listed = f.0;
      single = g.0;
      few_contexts = h.0;
      framed = i.0;
      on_variables = j.0;
      consistent = k.0;
      filled = l.0;
    }

-- ## Limits

pub shallow-from : (p : Pattern) → is_shallow_pattern p ≡ true → pattern_depth_of p ≤ 200
shallow-from p e = leb-true (pattern_depth_of p) 200 e

pub IsLimitedSchema-from : (s : Schema) → few_of_schema s ≡ true → is_shallow_schema s ≡ true → is_small_schema s ≡ true → IsLimitedSchema s
IsLimitedSchema-from s few shallow small =
    let f = and_parts (nat_le (length s.items) 200 && list_all few_of_item s.items) (few_of s.concl) few in
    let items = and_parts (nat_le (length s.items) 200) (list_all few_of_item s.items) f.0 in
    let deep = and_parts (list_all is_shallow_item s.items) (is_shallow_pattern s.concl) shallow in
    record {
      few_items = leb-true (length s.items) 200 items.0;
      few = AllPass-from_list_all few_of_item s.items items.1;
      few_end = f.1;
      shallow = All-weaker (λ i. is_shallow_item i ≡ true) (λ i. item_depth_of i ≤ 200) (λ i e. leb-true (item_depth_of i) 200 e) s.items (AllPass-from_list_all is_shallow_item s.items deep.0);
      shallow_end = shallow-from s.concl deep.1;
      small = leb-true (schema_size_of s) 20000 small;
    }

limited_all : (ps : List Schema) → list_all few_of_schema ps ≡ true → list_all is_shallow_schema ps ≡ true → list_all is_small_schema ps ≡ true → All IsLimitedSchema ps
limited_all [] f d s = All-nil IsLimitedSchema
limited_all (p ∷ ps) f d s =
    let fs = and_parts (few_of_schema p) (list_all few_of_schema ps) f in
    let ds = and_parts (is_shallow_schema p) (list_all is_shallow_schema ps) d in
    let ss = and_parts (is_small_schema p) (list_all is_small_schema ps) s in
    All-cons IsLimitedSchema p ps (IsLimitedSchema-from p fs.0 ds.0 ss.0) (limited_all ps fs.1 ds.1 ss.1)

option_or-none : (x y : Option Occurrence) → y ≡ None → option_or x y ≡ x
option_or-none None y e = e
option_or-none (Some o) y e = refl

not_context : (b : Bool) (r : Option Occurrence) → r ≡ None → (not b || is_some r) ≡ true → b ≡ false
not_context true r none e = absurd (cc (ap is_some none))
not_context false r none e = refl

module _ (premises : List Schema) (concl : Schema) (keeps : KeepsRule premises concl) where
  placed_all : (ps : List Schema) → list_all is_closed ps ≡ true → list_all is_listed ps ≡ true → list_all is_single ps ≡ true → All (λ p. IsTrue (is_placed p)) ps
  placed_all [] c l s = All-nil (λ p. IsTrue (is_placed p))
  placed_all (p ∷ ps) c l s =
      let cs = and_parts (is_closed p) (list_all is_closed ps) c in
      let ls = and_parts (is_listed p) (list_all is_listed ps) l in
      let ss = and_parts (is_single p) (list_all is_single ps) s in
      All-cons (λ q. IsTrue (is_placed q)) p ps (is_placed-from p cs.0 ls.0 ss.0) (placed_all ps cs.1 ls.1 ss.1)

  closed_parts : (list_all is_closed premises ≡ true) × (is_closed concl ≡ true)
  unfolding rule_is_closed
  closed_parts = and_parts (list_all is_closed premises) (is_closed concl) keeps.closed

  listed_parts : (list_all is_listed premises ≡ true) × (is_listed concl ≡ true) × (list_all (λ p. has_all (context_names concl) (context_names p)) premises ≡ true)
  unfolding rule_is_listed
  listed_parts =
      let parts = and_parts (list_all is_listed premises && is_listed concl) _ keeps.listed in
      let schemata = and_parts (list_all is_listed premises) (is_listed concl) parts.0 in (schemata.0, schemata.1, parts.1)

  single_parts : (list_all is_single premises ≡ true) × (is_single concl ≡ true)
  unfolding rule_is_single
  single_parts = and_parts (list_all is_single premises) (is_single concl) keeps.single

  placed_premises : All (λ p. IsTrue (is_placed p)) premises
  placed_premises = placed_all premises closed_parts.0 listed_parts.0 single_parts.0

  conclusion : IsTrue (is_conclusion concl)
  unfolding rule_has_few_contexts rule_is_framed rule_is_on_variables
  conclusion =
      let placed = is_placed-from concl closed_parts.1 listed_parts.1 single_parts.1 in
      let fine = is_fine-from concl closed_parts.1 keeps.on_variables in
      and_from _ _ (and_from _ _ (and_from (is_placed concl) (is_fine concl) placed fine) keeps.few_contexts) keeps.framed

  few_parts : (length premises ≤ 16) × (list_all few_of_schema premises ≡ true) × (few_of_schema concl ≡ true)
  unfolding rule_is_few
  few_parts =
      let parts = and_parts (nat_le (length premises) 16) (list_all few_of_schema premises && few_of_schema concl) keeps.few in
      let schemata = and_parts (list_all few_of_schema premises) (few_of_schema concl) parts.1 in (leb-true (length premises) 16 parts.0, schemata.0, schemata.1)

  shallow_parts : (list_all is_shallow_schema premises ≡ true) × (is_shallow_schema concl ≡ true)
  unfolding rule_is_shallow
  shallow_parts = and_parts (list_all is_shallow_schema premises) (is_shallow_schema concl) keeps.shallow

  small_parts : (list_all is_small_schema premises ≡ true) × (is_small_schema concl ≡ true)
  unfolding rule_is_small
  small_parts = and_parts (list_all is_small_schema premises) (is_small_schema concl) keeps.small

  consistent : is_consistent (occurrences_of_rule premises concl) ≡ true
  unfolding rule_is_consistent
  consistent = keeps.consistent

  filled : has_all (holes_in_schema concl) (flat_map holes_in_schema premises) ≡ true
  unfolding rule_is_filled
  filled = keeps.filled

  pub IsFaultlessRule-from : IsFaultlessRule premises concl
  IsFaultlessRule-from = record {
    few_premises = few_parts.0;
    limited = limited_all premises few_parts.1 shallow_parts.0 small_parts.0;
    limited_end = IsLimitedSchema-from concl few_parts.2 shallow_parts.1 small_parts.1;
    conclusion = conclusion;
    placed = placed_premises;
    listed = AllPass-from_list_all (λ p. has_all (context_names concl) (context_names p)) premises listed_parts.2;
    alike = AreAlike-from (occurrences_of_rule premises concl) consistent;
    filled = filled;
  }

  -- ## The values of premises

  contexts_named_all : (ps : List Schema) → list_all (λ p. has_all (context_names concl) (context_names p)) ps ≡ true →
      list_all (context_named (occurrences_in_schema concl)) (flat_map occurrences_in_schema ps) ≡ true
  contexts_named_all [] e = refl
  contexts_named_all (p ∷ ps) e =
      let parts = and_parts (has_all (context_names concl) (context_names p)) (list_all (λ q. has_all (context_names concl) (context_names q)) ps) e in
      list_all-append (context_named (occurrences_in_schema concl)) (occurrences_in_schema p) (flat_map occurrences_in_schema ps)
      ∙ and_from _ _ (contexts_named concl p parts.0) (contexts_named_all ps parts.1)

  module _ (v : Instance) (concl_fits : IsTrue (schema_fits v concl)) (needs : NeedsFit v premises concl) where
    abbrev fit : Occurrence → Bool
    fit = occurrence_fits v

    abbrev known : List Occurrence
    known = occurrences_in_schema concl

    abbrev others : List Occurrence
    others = flat_map occurrences_in_schema premises

    likes : (list_all (like_use (others ++ known)) others ≡ true) × (list_all (like_use (others ++ known)) known ≡ true)
    likes = split (like_use (others ++ known)) others known consistent

    known_fits : list_all fit known ≡ true
    known_fits = sym (schema_fits-told v concl) ∙ concl_fits

    -- the first one of a name that the conclusion hasn't is a need's
    need_fits : (o f : Occurrence) → first_named known o.name ≡ None → first_named (others ++ known) o.name ≡ Some f → fit f ≡ true
    need_fits o f none e =
        let here : first_named others o.name ≡ Some f =
        sym (option_or-none (first_named others o.name) (first_named known o.name) none) ∙ (sym (find-append _ others known) ∙ e)
        in
        let by_context = found_keeps (context_named known) others o.name f here (contexts_named_all premises listed_parts.2) in
        needs o.name f here none (not_context f.is_context _ (ap (first_named known) by_context.0 ∙ none) by_context.1)

    one_fits : (o : Occurrence) → like_use (others ++ known) o ≡ true → (r : Option Occurrence) → first_named known o.name ≡ r → fit o ≡ true
    one_fits o like None e = fits_as_first fit (occurrence_fits-like v) (others ++ known) consistent o like (λ f first. need_fits o f e first)
    one_fits o like (Some u) e = fits_as_known fit (occurrence_fits-like v) (others ++ known) known likes.1 known_fits o u like e

    others_fit : list_all fit others ≡ true
    others_fit = all_from (like_use (others ++ known)) fit others likes.0 (λ o like. one_fits o like (first_named known o.name) refl)

    each_fits : (ps : List Schema) → list_all fit (flat_map occurrences_in_schema ps) ≡ true → All (λ p. IsTrue (schema_fits v p)) ps
    each_fits [] e = All-nil (λ p. IsTrue (schema_fits v p))
    each_fits (p ∷ ps) e =
        let parts = split fit (occurrences_in_schema p) (flat_map occurrences_in_schema ps) e in
        All-cons (λ q. IsTrue (schema_fits v q)) p ps (schema_fits-told v p ∙ parts.0) (each_fits ps parts.1)

    pub premises_fit : All (λ p. IsTrue (schema_fits v p)) premises
    premises_fit = each_fits premises others_fit

-- The static rules on a rewrite as it is written are those on the rewrite that it stands for.
use Rattle.std.proofs.Common.{◌≡◌, ℕ, ◌-◌, ◌≤◌, ◌++◌, List, [], ◌∷◌, map, length, Bool, true, false, ◌&&◌, nat_le, nat_lt, None, refl, ap, sym, ◌∙◌, arith}
use Rattle.std.specs.List.{list_all, flat_map}
use Rattle.std.proofs.lemmas.Bool.{and_parts, and_from}
use Rattle.std.proofs.lemmas.Bool.Decides.{nat_tests}
use Rattle.std.proofs.lemmas.List.{length-map}
use Rattle.std.proofs.lemmas.List.Folds.{list_all-append}
use Rattle.mp_logic.specs.Lists.{greatest}
use Rattle.mp_term.specs.Terms.{all_at_scope}
use Rattle.mp_schema.specs.declared.pattern.Pattern.{Pattern}
use Rattle.mp_schema.specs.Conditions.{below, has_all, is_apart}
use Rattle.mp_schema.specs.Instances.{all_pass}
use Rattle.mp_schema.specs.Limits.{few_of, is_shallow_pattern, is_small_pattern, pattern_depth_of}
use Rattle.mp_schema.specs.Faults.{all_listed, all_named_in, is_consistent, lists_apart, occurrences_of_rewrite, on_variables, rewrite_is_few, rewrite_is_shallow, rewrite_is_small, rewrite_is_closed, rewrite_is_listed, rewrite_is_single, rewrite_is_on_variables, rewrite_is_consistent, rewrite_is_filled, rewrite_is_bound, rewrite_fault_of}
use Rattle.mp_schema.specs.Occurrences.{Occurrence, holes_in, occurrences_in}
use Rattle.mp_schema.proofs.Conditional.{KeepsRewrite-from}
use Rattle.mp_words.specs.declared.fail.TextErr.{TextErr}
use Rattle.mp_words.specs.declared.fail.TextWhy.TheVariants as why
use Rattle.mp_words.specs.Faults.{too_many}
use Rattle.mp_termtext.specs.Statics.{each_faults}
use Rattle.mp_patterntext.specs.declared.raw.RawPattern.{RawPattern}
use Rattle.mp_patterntext.specs.Scopes.{syms_of}
use Rattle.mp_patterntext.specs.Nodes.{node_faults, pattern_at}
use Rattle.mp_patterntext.specs.Sizes.{raw_pattern_size_of}
use Rattle.mp_patterntext.specs.Uses.{hole_faults, raw_holes, uses_faults, uses_in}
use Rattle.mp_patterntext.specs.Values.{each_pattern_value, pattern_of}
use Rattle.mp_patterntext.proofs.Fitting.{FitArgs, FitOf, each_told, length-each, nodes_told}
use Rattle.mp_patterntext.proofs.LikeUses.{Same, each_uses, same_both, same_uses, tells_named, tells_uses}
use Rattle.mp_patterntext.proofs.SizesAndHoles.{each_same_holes, same_holes, same_size, syms_both}
use Rattle.mp_patterntext.proofs.Telling.{Tells, none_left, tells_both, tells_by, tells_if, tells_past}
use Rattle.mp_patterntext.proofs.Twice.{tells_unknown}
use Rattle.mp_patterntext.proofs.UsedWell.{UsedWell, used_well, well_used}
use Rattle.mp_theorytext.specs.declared.raw.RawRewrite.{RawRewrite}
use Rattle.mp_theorytext.specs.Laws.{OneSetOfRewrites}
use Rattle.mp_theorytext.specs.Statics.{meta_faults, rewrite_faults, rewrite_node_faults, rewrite_size_faults, size_faults, uses_in_rewrite}
use Rattle.mp_theorytext.specs.Values.{conditions_of, contractum_of, redex_of}

-- ## Conditions

all_few : (ps : List Pattern) → all_pass (map few_of ps) ≡ list_all few_of ps
all_few [] = refl
all_few (p ∷ ps) = ap (λ b. few_of p && b) (all_few ps)

all_closed : (ps : List Pattern) → all_at_scope 0 (map below ps) ≡ list_all (λ p. below p 0) ps
all_closed [] = refl
all_closed (p ∷ ps) = ap (λ b. below p 0 && b) (all_closed ps)

shallow_from : (n : ℕ) → n ≤ 201 - 1 → nat_le n 200 ≡ true
shallow_from n h = grind (arith, nat_tests, h)

depth_from : (n : ℕ) → nat_le n 200 ≡ true → n ≤ 201 - 1
depth_from n h = grind (arith, nat_tests, h)

all_shallow : (ps : List Pattern) → greatest (map pattern_depth_of ps) ≤ 201 - 1 → list_all is_shallow_pattern ps ≡ true
all_shallow [] h = refl
all_shallow (p ∷ ps) h = and_from _ _ (shallow_from (pattern_depth_of p) (omega (arith, h))) (all_shallow ps (omega (arith, h)))

all_depths : (ps : List Pattern) → list_all is_shallow_pattern ps ≡ true → greatest (map pattern_depth_of ps) ≤ 201 - 1
all_depths [] h = omega arith
all_depths (p ∷ ps) h =
    let parts = and_parts (is_shallow_pattern p) (list_all is_shallow_pattern ps) h in
    let first = depth_from (pattern_depth_of p) parts.0 in let rest = all_depths ps parts.1 in omega (arith, first, rest)

-- ## Sizes

small_from : (n : ℕ) → nat_lt 20000 n ≡ false → nat_le n 20000 ≡ true
small_from n h = grind (arith, nat_tests, h)

big_from : (n : ℕ) → nat_le n 20000 ≡ true → nat_lt 20000 n ≡ false
big_from n h = grind (arith, nat_tests, h)

size_told : (p : RawPattern) → Tells (size_faults p) (is_small_pattern (pattern_of p []) ≡ true)
size_told p =
    tells_by (size_faults p) (tells_if (nat_lt 20000 (raw_pattern_size_of p)) (pattern_at p) why.TooBig) (λ q. ap (λ n. nat_le n 20000) (same_size p []) ∙ small_from (raw_pattern_size_of p) q)
    (λ q. big_from (raw_pattern_size_of p) (ap (λ n. nat_le n 20000) (sym (same_size p [])) ∙ q))

sizes_told : (ps : List RawPattern) → Tells (flat_map size_faults ps) (list_all is_small_pattern (each_pattern_value (map pattern_of ps) []) ≡ true)
sizes_told [] = record { kept = λ e. refl; told = λ e. tt }
sizes_told (p ∷ ps) =
    tells_by (size_faults p ++ flat_map size_faults ps) (tells_both (size_faults p) (flat_map size_faults ps) (size_told p) (sizes_told ps)) (λ q. and_from _ _ q.0 q.1)
    (and_parts (is_small_pattern (pattern_of p [])) (list_all is_small_pattern (each_pattern_value (map pattern_of ps) [])))

-- ## Rewrites

both_parts : (a b c : Bool) → (a && b && c) ≡ true → ((a ≡ true) × (b ≡ true)) × (c ≡ true)
both_parts a b c h = let p = and_parts (a && b) c h in (and_parts a b p.0, p.1)

all_three : (f : Occurrence → Bool) (a b c : List Occurrence) → list_all f (a ++ b ++ c) ≡ (list_all f a && list_all f b && list_all f c)
all_three f a b c = list_all-append f (a ++ b) c ∙ ap (λ t. t && list_all f c) (list_all-append f a b)

module _ (r : RawRewrite) where
  abbrev conds : List Pattern
  conds = each_pattern_value (map pattern_of r.conds) []

  abbrev redex : Pattern
  redex = pattern_of r.redex []

  abbrev contractum : Pattern
  contractum = pattern_of r.contractum []

  abbrev before : List Occurrence
  before = flat_map occurrences_in (each_pattern_value (map pattern_of r.conds) [])

  abbrev listed_in : Occurrence → Bool
  listed_in o = has_all [] o.ctxs

  abbrev apart_in : Occurrence → Bool
  apart_in o = is_apart o.ctxs

  abbrev Nodes : Type 0
  Nodes = (FitArgs [] false (each_pattern_value (map pattern_of r.conds) []) 0 1 × FitOf [] true (pattern_of r.redex []) 0 1) × FitOf [] false (pattern_of r.contractum []) 0 1

  abbrev Small : Type 0
  Small = ((list_all is_small_pattern (each_pattern_value (map pattern_of r.conds) []) ≡ true) × (is_small_pattern (pattern_of r.redex []) ≡ true)) × (is_small_pattern (pattern_of r.contractum []) ≡ true)

  abbrev asked : List TextErr
  asked = hole_faults (syms_of (raw_holes r.redex)) (flat_map raw_holes r.conds ++ raw_holes r.contractum)

  abbrev metas : List TextErr
  metas = meta_faults r.redex (flat_map uses_in r.conds ++ uses_in r.contractum)

  -- what is asked of the rewrite, in its parts
  abbrev Parts : Type 0
  Parts = (((((nat_le (length r.conds) 15 ≡ true) × Nodes) × Small) × (is_consistent (occurrences_of_rewrite conds redex contractum) ≡ true))
      × (has_all (syms_of (raw_holes r.redex)) (syms_of (flat_map raw_holes r.conds ++ raw_holes r.contractum)) ≡ true)) × (all_named_in (occurrences_in redex) (before ++ occurrences_in contractum) ≡ true)

  nodes_kept : Tells (rewrite_node_faults r) Nodes
  nodes_kept =
      let cs = each_faults (map (node_faults [] false) r.conds) [] 1 in
      let rx = node_faults [] true r.redex [] 1 in
      let ct = node_faults [] false r.contractum [] 1 in
      tells_both (cs ++ rx) ct (tells_both cs rx (each_told [] false r.conds [] 1) (nodes_told [] true r.redex [] 1)) (nodes_told [] false r.contractum [] 1)

  sizes_kept : Tells (rewrite_size_faults r) Small
  sizes_kept =
      tells_both (flat_map size_faults r.conds ++ size_faults r.redex) (size_faults r.contractum) (tells_both (flat_map size_faults r.conds) (size_faults r.redex) (sizes_told r.conds) (size_told r.redex)) (size_told r.contractum)

  same_all : Same (uses_in_rewrite r) (occurrences_of_rewrite conds redex contractum)
  same_all =
      same_both (flat_map uses_in r.conds ++ uses_in r.redex) (uses_in r.contractum) (before ++ occurrences_in redex) (occurrences_in contractum)
      (same_both (flat_map uses_in r.conds) (uses_in r.redex) before (occurrences_in redex) (each_uses r.conds []) (same_uses r.redex [])) (same_uses r.contractum [])

  same_asked : Same (flat_map uses_in r.conds ++ uses_in r.contractum) (before ++ occurrences_in contractum)
  same_asked = same_both (flat_map uses_in r.conds) (uses_in r.contractum) before (occurrences_in contractum) (each_uses r.conds []) (same_uses r.contractum [])

  all_parts : Tells (rewrite_faults r) Parts
  all_parts =
      let many = too_many pattern_at 15 r.conds in
      let nodes = rewrite_node_faults r in
      let sizes = rewrite_size_faults r in
      let uses = uses_faults (uses_in_rewrite r) in
      tells_both (many ++ nodes ++ sizes ++ uses ++ asked) metas
      (tells_both (many ++ nodes ++ sizes ++ uses) asked
      (tells_both (many ++ nodes ++ sizes) uses (tells_both (many ++ nodes) sizes (tells_both many nodes (tells_past pattern_at why.TooMany 15 r.conds) nodes_kept) sizes_kept) (tells_uses (uses_in_rewrite r) (occurrences_of_rewrite conds redex contractum) same_all))
      (tells_unknown why.UnboundParam (syms_of (raw_holes r.redex)) (flat_map raw_holes r.conds ++ raw_holes r.contractum)))
      (tells_named why.UnboundMeta (uses_in r.redex) (flat_map uses_in r.conds ++ uses_in r.contractum) (occurrences_in redex) (before ++ occurrences_in contractum) (same_uses r.redex []) same_asked)

  holes_same : rewrite_is_filled conds redex contractum ≡ has_all (syms_of (raw_holes r.redex)) (syms_of (flat_map raw_holes r.conds ++ raw_holes r.contractum))
  unfolding rewrite_is_filled
  holes_same =
      let e : flat_map holes_in conds ++ holes_in contractum ≡ syms_of (flat_map raw_holes r.conds ++ raw_holes r.contractum) =
      (λ i. each_same_holes r.conds [] i ++ same_holes r.contractum [] i) ∙ sym (syms_both (flat_map raw_holes r.conds) (raw_holes r.contractum)) in
      (λ i. has_all (same_holes r.redex [] i) (e i))

  same_count : length conds ≡ length r.conds
  same_count = length-each (map pattern_of r.conds) [] ∙ length-map r.conds pattern_of

  module _ (q : Parts) where
    abbrev first : FitArgs [] false conds 0 1
    first = q.0.0.0.0.1.0.0

    abbrev middle : FitOf [] true redex 0 1
    middle = q.0.0.0.0.1.0.1

    abbrev last : FitOf [] false contractum 0 1
    last = q.0.0.0.0.1.1

    in_conds : UsedWell [] false before
    in_conds = used_well [] false before first.used

    in_redex : UsedWell [] true (occurrences_in redex)
    in_redex = used_well [] true (occurrences_in redex) middle.used

    in_contractum : UsedWell [] false (occurrences_in contractum)
    in_contractum = used_well [] false (occurrences_in contractum) last.used

    few : rewrite_is_few conds redex contractum ≡ true
    unfolding rewrite_is_few
    few = and_from _ _ (ap (λ n. nat_le n 15) same_count ∙ q.0.0.0.0.0) (and_from _ _ (and_from _ _ (sym (all_few conds) ∙ first.few) middle.few) last.few)

    shallow : rewrite_is_shallow conds redex contractum ≡ true
    unfolding rewrite_is_shallow
    shallow = and_from _ _ (and_from _ _ (all_shallow conds first.depth) (shallow_from (pattern_depth_of redex) middle.depth)) (shallow_from (pattern_depth_of contractum) last.depth)

    small : rewrite_is_small conds redex contractum ≡ true
    unfolding rewrite_is_small
    small = and_from _ _ (and_from _ _ q.0.0.0.1.0.0 q.0.0.0.1.0.1) q.0.0.0.1.1

    closed : rewrite_is_closed conds redex contractum ≡ true
    unfolding rewrite_is_closed
    closed = and_from _ _ (and_from _ _ (sym (all_closed conds) ∙ first.range) middle.range) last.range

    listed : rewrite_is_listed conds redex contractum ≡ true
    unfolding rewrite_is_listed
    listed = all_three listed_in before (occurrences_in redex) (occurrences_in contractum) ∙ and_from _ _ (and_from _ _ in_conds.listed in_redex.listed) in_contractum.listed

    single : rewrite_is_single conds redex contractum ≡ true
    unfolding rewrite_is_single
    single = all_three apart_in before (occurrences_in redex) (occurrences_in contractum) ∙ and_from _ _ (and_from _ _ in_conds.apart in_redex.apart) in_contractum.apart

    distinct : rewrite_is_on_variables conds redex contractum ≡ true
    unfolding rewrite_is_on_variables
    distinct = in_redex.distinct

    consistent : rewrite_is_consistent conds redex contractum ≡ true
    unfolding rewrite_is_consistent
    consistent = q.0.0.1

    filled : rewrite_is_filled conds redex contractum ≡ true
    filled = holes_same ∙ q.0.1

    bound : rewrite_is_bound conds redex contractum ≡ true
    unfolding rewrite_is_bound
    bound = q.1

    faultless_from : rewrite_fault_of conds redex contractum ≡ None
    faultless_from = rw (few, shallow, small, closed, listed, single, distinct, consistent, filled, bound) refl

  -- what each demand of a rewrite without faults says
  few_parts : rewrite_is_few conds redex contractum ≡ true → (nat_le (length conds) 15 ≡ true) × (((list_all few_of conds ≡ true) × (few_of redex ≡ true)) × (few_of contractum ≡ true))
  unfolding rewrite_is_few
  few_parts h = let p = and_parts (nat_le (length conds) 15) (list_all few_of conds && few_of redex && few_of contractum) h in (p.0, both_parts (list_all few_of conds) (few_of redex) (few_of contractum) p.1)

  shallow_parts : rewrite_is_shallow conds redex contractum ≡ true → ((list_all is_shallow_pattern conds ≡ true) × (is_shallow_pattern redex ≡ true)) × (is_shallow_pattern contractum ≡ true)
  unfolding rewrite_is_shallow
  shallow_parts h = both_parts (list_all is_shallow_pattern conds) (is_shallow_pattern redex) (is_shallow_pattern contractum) h

  small_parts : rewrite_is_small conds redex contractum ≡ true → Small
  unfolding rewrite_is_small
  small_parts h = both_parts (list_all is_small_pattern conds) (is_small_pattern redex) (is_small_pattern contractum) h

  closed_parts : rewrite_is_closed conds redex contractum ≡ true → ((list_all (λ (p : Pattern). below p 0) conds ≡ true) × (below redex 0 ≡ true)) × (below contractum 0 ≡ true)
  unfolding rewrite_is_closed
  closed_parts h = both_parts (list_all (λ (p : Pattern). below p 0) conds) (below redex 0) (below contractum 0) h

  listed_parts : rewrite_is_listed conds redex contractum ≡ true → ((all_listed [] before ≡ true) × (all_listed [] (occurrences_in redex) ≡ true)) × (all_listed [] (occurrences_in contractum) ≡ true)
  unfolding rewrite_is_listed
  listed_parts h = both_parts (all_listed [] before) (all_listed [] (occurrences_in redex)) (all_listed [] (occurrences_in contractum)) (sym (all_three listed_in before (occurrences_in redex) (occurrences_in contractum)) ∙ h)

  single_parts : rewrite_is_single conds redex contractum ≡ true → ((lists_apart before ≡ true) × (lists_apart (occurrences_in redex) ≡ true)) × (lists_apart (occurrences_in contractum) ≡ true)
  unfolding rewrite_is_single
  single_parts h = both_parts (lists_apart before) (lists_apart (occurrences_in redex)) (lists_apart (occurrences_in contractum)) (sym (all_three apart_in before (occurrences_in redex) (occurrences_in contractum)) ∙ h)

  distinct_is : rewrite_is_on_variables conds redex contractum ≡ true → on_variables (occurrences_in redex) ≡ true
  unfolding rewrite_is_on_variables
  distinct_is h = h

  consistent_is : rewrite_is_consistent conds redex contractum ≡ true → is_consistent (occurrences_of_rewrite conds redex contractum) ≡ true
  unfolding rewrite_is_consistent
  consistent_is h = h

  bound_is : rewrite_is_bound conds redex contractum ≡ true → all_named_in (occurrences_in redex) (before ++ occurrences_in contractum) ≡ true
  unfolding rewrite_is_bound
  bound_is h = h

  parts_from : rewrite_fault_of conds redex contractum ≡ None → Parts
  parts_from h =
      let k = KeepsRewrite-from conds redex contractum h in
      let few' = few_parts k.few in
      let shallow' = shallow_parts k.shallow in
      let closed' = closed_parts k.closed in
      let listed' = listed_parts k.listed in
      let single' = single_parts k.single in
      let used0 = well_used [] false before (record { listed = listed'.0.0; apart = single'.0.0; distinct = refl }) in
      let used1 = well_used [] true (occurrences_in redex) (record { listed = listed'.0.1; apart = single'.0.1; distinct = distinct_is k.on_variables }) in
      let used2 = well_used [] false (occurrences_in contractum) (record { listed = listed'.1; apart = single'.1; distinct = refl }) in
      let fit0 : FitArgs [] false conds 0 1 = record { depth = all_depths conds shallow'.0.0; few = all_few conds ∙ few'.1.0.0; range = all_closed conds ∙ closed'.0.0; used = used0 } in
      let fit1 : FitOf [] true redex 0 1 = record { depth = depth_from (pattern_depth_of redex) shallow'.0.1; few = few'.1.0.1; range = closed'.0.1; used = used1 } in
      let fit2 : FitOf [] false contractum 0 1 = record { depth = depth_from (pattern_depth_of contractum) shallow'.1; few = few'.1.1; range = closed'.1; used = used2 } in
      (((((ap (λ n. nat_le n 15) (sym same_count) ∙ few'.0, ((fit0, fit1), fit2)), small_parts k.small), consistent_is k.consistent), sym holes_same ∙ k.filled), bound_is k.bound)

  -- without faults the rewrite that is written has none; and where it has none, only unbound variables are told
  pub rewrite_tells : Tells (rewrite_faults r) (rewrite_fault_of (conditions_of r) (redex_of r) (contractum_of r) ≡ None)
  rewrite_tells = tells_by (rewrite_faults r) all_parts faultless_from parts_from

pub one_set_of_rewrites : OneSetOfRewrites
one_set_of_rewrites r bound = ((rewrite_tells r).kept, λ h. none_left (rewrite_faults r) ((rewrite_tells r).told h) bound)

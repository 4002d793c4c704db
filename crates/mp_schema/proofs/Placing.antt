-- A schema whose variables are in range and whose contexts are listed and single is placed, and a conclusion that is
-- applied to variables can be matched.
use Rattle.std.proofs.Common.{◌≡◌, ℕ, List, [], ◌∷◌, ◌++◌, map, Bool, true, false, not, nat_eq, refl, ap, sym, ◌∙◌, arith}
use Rattle.std.proofs.lemmas.Bool.{and_parts, and_from}
use Rattle.std.proofs.lemmas.Bool.Decides.{nat_tests}
use Rattle.std.proofs.lemmas.List.Folds.{list_all-append}
use Rattle.std.specs.List.{list_all, flat_map}
use Rattle.mp_logic.specs.declared.sym.Sym.{Sym}
use Rattle.mp_term.specs.Terms.{all_at_scope}
use Rattle.mp_schema.specs.declared.pattern.Pattern.{Pattern}
use Rattle.mp_schema.specs.declared.schema.Item.{Item}
use Rattle.mp_schema.specs.declared.schema.Item.TheVariants.{Ctx, Hyp}
use Rattle.mp_schema.specs.declared.schema.Schema.{Schema}
use Rattle.mp_schema.specs.Conditions.{Before, nothing_before, past, past_all, each_item, below, has, has_all, is_apart, contexts_among, pattern_placed, all_placed, item_placed, is_placed, item_fine, is_fine}
use Rattle.mp_schema.specs.Faults.{item_closed, is_closed, all_listed, item_listed, is_listed, lists_apart, is_single, on_variables}
use Rattle.mp_schema.specs.Occurrences.{Occurrence, occurrences_in, occurrences_in_item, occurrences_in_schema}
use Rattle.mp_schema.proofs.Applied.{distinct_use, fine-from, args_fine-from}
use Rattle.mp_schema.proofs.Told.{known_use, lists_known-told}

abbrev pub apart_use : Occurrence → Bool
apart_use o = is_apart o.ctxs

abbrev pub listed_use : List Sym → Occurrence → Bool
listed_use known o = has_all known o.ctxs

-- a test that all occurrences of two texts keep, text by text
pub split : (kept : Occurrence → Bool) (a b : List Occurrence) → list_all kept (a ++ b) ≡ true → (list_all kept a ≡ true) × (list_all kept b ≡ true)
split kept a b e = and_parts (list_all kept a) (list_all kept b) (sym (list_all-append kept a b) ∙ e)

known_uses : (known : List Sym) (os : List Occurrence) → all_listed known os ≡ true → lists_apart os ≡ true → list_all (known_use known) os ≡ true
known_uses known [] listed apart = refl
known_uses known (o ∷ os) listed apart =
    let l = and_parts (has_all known o.ctxs) (all_listed known os) listed in
    let a = and_parts (is_apart o.ctxs) (lists_apart os) apart in
    and_from _ _ (and_from (has_all known o.ctxs) (is_apart o.ctxs) l.0 a.0) (known_uses known os l.1 a.1)

pub pattern_placed-from : (p : Pattern) (b : Before) → below p b.named ≡ true → all_listed b.contexts (occurrences_in p) ≡ true → lists_apart (occurrences_in p) ≡ true →
    pattern_placed p b ≡ true
pattern_placed-from p b in_range listed apart =
    and_from _ _ in_range (lists_known-told b.contexts p ∙ known_uses b.contexts (occurrences_in p) listed apart)

all_placed-from : (ps : List Pattern) (b : Before) → all_at_scope b.named (map below ps) ≡ true → all_listed b.contexts (flat_map occurrences_in ps) ≡ true →
    lists_apart (flat_map occurrences_in ps) ≡ true → all_placed ps b ≡ true
all_placed-from [] b in_range listed apart = refl
all_placed-from (p ∷ ps) b in_range listed apart =
    let r = and_parts (below p b.named) (all_at_scope b.named (map below ps)) in_range in
    let l = split (listed_use b.contexts) (occurrences_in p) (flat_map occurrences_in ps) listed in
    let a = split apart_use (occurrences_in p) (flat_map occurrences_in ps) apart in
    and_from _ _ (pattern_placed-from p b r.0 l.0 a.0) (all_placed-from ps b r.1 l.1 a.1)

-- ## Items

-- none of these names stands before
abbrev NoneBefore : List Sym → Before → Type 0
NoneBefore names b = (name : Sym) → has names name ≡ true → has b.contexts name ≡ false

has-self : (name : Sym) (names : List Sym) → has (name ∷ names) name ≡ true
has-self name names = grind (arith, nat_tests)

has-number : (names : List Sym) (name other : Sym) → name.0 ≡ other.0 → has names name ≡ has names other
has-number names name other e = ap (λ (k : ℕ). has names (record { 0 = k })) e

none_next : (name : Sym) (names : List Sym) (b : Before) → is_apart (name ∷ names) ≡ true → NoneBefore (name ∷ names) b →
    NoneBefore names (record { named = b.named; contexts = name ∷ b.contexts })
none_next name names b apart none other here =
    let first = (and_parts (not (has names name)) (is_apart names) apart).0 in
    let same : name.0 ≡ other.0 → has names name ≡ has names other = has-number names name other in
    let found : has (name ∷ names) other ≡ true = grind (arith, nat_tests) in
    let later : has b.contexts other ≡ false = none other found in
    let differ : nat_eq name.0 other.0 ≡ false = grind (arith, nat_tests, same, first) in
    grind (arith, nat_tests)

placed_items : (is : List Item) (b : Before) → each_item item_closed is b ≡ true → each_item item_listed is b ≡ true →
    lists_apart (flat_map occurrences_in_item is) ≡ true → is_apart (contexts_among is) ≡ true → NoneBefore (contexts_among is) b → each_item item_placed is b ≡ true
placed_items [] b closed listed apart single none = refl
placed_items (Hyp p ∷ is) b closed listed apart single none =
    let c = and_parts (below p b.named) (each_item item_closed is (past (Hyp p) b)) closed in
    let l = and_parts (all_listed b.contexts (occurrences_in p)) (each_item item_listed is (past (Hyp p) b)) listed in
    let a = split apart_use (occurrences_in p) (flat_map occurrences_in_item is) apart in
    and_from _ _ (pattern_placed-from p b c.0 l.0 a.0) (placed_items is (past (Hyp p) b) c.1 l.1 a.1 single none)
placed_items (Ctx name ctxs args ∷ is) b closed listed apart single none =
    let i = Ctx name ctxs args in
    let c = and_parts (all_at_scope b.named (map below args)) (each_item item_closed is (past i b)) closed in
    let l = and_parts (all_listed b.contexts (occurrences_in_item i)) (each_item item_listed is (past i b)) listed in
    let lists = and_parts (has_all b.contexts ctxs) (all_listed b.contexts (flat_map occurrences_in args)) l.0 in
    let a = split apart_use (occurrences_in_item i) (flat_map occurrences_in_item is) apart in
    let aparts = and_parts (is_apart ctxs) (lists_apart (flat_map occurrences_in args)) a.0 in
    let new : not (has b.contexts name) ≡ true = ap not (none name (has-self name (contexts_among is))) in
    let known = and_from (has_all b.contexts ctxs) (is_apart ctxs) lists.0 aparts.0 in
    let here = and_from _ _ (and_from _ _ new known) (all_placed-from args b c.0 lists.1 aparts.1) in
    let rest = (and_parts (not (has (contexts_among is) name)) (is_apart (contexts_among is)) single).1 in
    and_from _ _ here (placed_items is (past i b) c.1 l.1 a.1 rest (none_next name (contexts_among is) b single none))

pub is_placed-from : (s : Schema) → is_closed s ≡ true → is_listed s ≡ true → is_single s ≡ true → is_placed s ≡ true
is_placed-from s closed listed single =
    let before = past_all s.items nothing_before in
    let c = and_parts (each_item item_closed s.items nothing_before) (below s.concl before.named) closed in
    let l = and_parts (each_item item_listed s.items nothing_before) (all_listed before.contexts (occurrences_in s.concl)) listed in
    let one = and_parts (is_apart (contexts_among s.items)) (lists_apart (occurrences_in_schema s)) single in
    let a = split apart_use (flat_map occurrences_in_item s.items) (occurrences_in s.concl) one.1 in
    and_from _ _ (placed_items s.items nothing_before c.0 l.0 a.0 one.0 (λ name here. refl))
    (pattern_placed-from s.concl before c.1 l.1 a.1)

fine_items : (is : List Item) (b : Before) → each_item item_closed is b ≡ true → on_variables (flat_map occurrences_in_item is) ≡ true → each_item item_fine is b ≡ true
fine_items [] b closed distinct = refl
fine_items (Hyp p ∷ is) b closed distinct =
    let c = and_parts (below p b.named) (each_item item_closed is (past (Hyp p) b)) closed in
    let d = split distinct_use (occurrences_in p) (flat_map occurrences_in_item is) distinct in
    and_from _ _ (fine-from p b.named c.0 d.0) (fine_items is (past (Hyp p) b) c.1 d.1)
fine_items (Ctx name ctxs args ∷ is) b closed distinct =
    let i = Ctx name ctxs args in
    let c = and_parts (all_at_scope b.named (map below args)) (each_item item_closed is (past i b)) closed in
    let d = split distinct_use (occurrences_in_item i) (flat_map occurrences_in_item is) distinct in
    let here = (and_parts _ (on_variables (flat_map occurrences_in args)) d.0).0 in
    and_from _ _ (args_fine-from b.named args here c.0) (fine_items is (past i b) c.1 d.1)

pub is_fine-from : (s : Schema) → is_closed s ≡ true → on_variables (occurrences_in_schema s) ≡ true → is_fine s ≡ true
is_fine-from s closed distinct =
    let before = past_all s.items nothing_before in
    let c = and_parts (each_item item_closed s.items nothing_before) (below s.concl before.named) closed in
    let d = split distinct_use (flat_map occurrences_in_item s.items) (occurrences_in s.concl) distinct in
    and_from _ _ (fine_items s.items nothing_before c.0 d.0) (fine-from s.concl before.named c.1 d.1)

-- A table of strategies, entry by entry.
use Rattle.std.proofs.Common.{◌≡◌, ℕ, zero, suc, ◌+◌, ◌-◌, ◌<◌, ◌≤◌, ◌⊎◌, inl, inr, true, false, ◌&&◌, List, [], ◌∷◌, map, length, get_or, set, drop, replicate, slice_index, nat_lt, nat_le, refl, sym, ap, subst, ◌∙◌, drop-cons, length-drop, arith}
use Rattle.std.proofs.lemmas.Bool.{and_parts, and_from, and_left, and_right, ltb-true, le-leb, lt-leb, lt-ltb, cases_eq}
use Rattle.std.proofs.lemmas.List.{get_or-set_other, length-replicate, length-set}
use Rattle.std.proofs.lemmas.Grind.{common_steps, get_or-set_at}
use Rattle.std.specs.List.{list_all}
use Rattle.mp_strategy.specs.declared.tactic.Tac.{Tac}
use Rattle.mp_strategy.specs.declared.tactic.TacId.{TacId}
use Rattle.mp_strategy.specs.Fits.{places, parts_of, is_behind, row_fits, rows_fit, depth_by, depths}
use Rattle.mp_logic.specs.Lists.{greatest}

-- an entry and those behind it
pub from_here : (ts : List Tac) (i : ℕ) (t d : Tac) → i < length ts → t ≡ get_or ts i d → drop i ts ≡ t ∷ drop (i + 1) ts
from_here ts i t d lt is =
    let e : suc i ≡ i + 1 = omega arith in
    drop-cons ts i d lt ∙ ap (λ s. s ∷ drop (suc i) ts) (sym is) ∙ ap (λ n. t ∷ drop n ts) e

-- the first one of the places that are left
pub places_step : (parts : List TacId) (i : ℕ) (p d : TacId) → i < length parts → p ≡ get_or parts i d → places (drop i parts) ≡ p.0 ∷ places (drop (i + 1) parts)
places_step parts i p d lt is =
    let e : suc i ≡ i + 1 = omega arith in
    ap places (drop-cons parts i d lt ∙ ap (λ s. s ∷ drop (suc i) parts) (sym is) ∙ ap (λ n. p ∷ drop n parts) e)

pub count_here : (ts : List Tac) (i : ℕ) → i < length ts → i + 1 + length (drop (i + 1) ts) ≡ length ts
count_here ts i lt = grind (arith, length-drop)

-- the first entry fits, and the others do
pub rows_step : (justs : ℕ) (ts : List Tac) (i : ℕ) (t d : Tac) → i < length ts → t ≡ get_or ts i d
    → rows_fit justs i (drop i ts) ≡ (row_fits justs i (length ts) t && rows_fit justs (i + 1) (drop (i + 1) ts))
rows_step justs ts i t d lt is =
    ap (rows_fit justs i) (from_here ts i t d lt is) ∙ ap (λ n. row_fits justs i n t && rows_fit justs (i + 1) (drop (i + 1) ts)) (count_here ts i lt)

-- the entries from a place on fit where all do
pub rows_from : (justs : ℕ) (ts : List Tac) (h i : ℕ) → rows_fit justs h ts ≡ true → rows_fit justs (h + i) (drop i ts) ≡ true
rows_from justs ts h zero fit = let e : h ≡ h + 0 = omega arith in ap (λ n. rows_fit justs n ts) (sym e) ∙ fit
rows_from justs [] h (suc i) fit = refl
rows_from justs (t ∷ ts) h (suc i) fit =
    let e : h + suc i ≡ h + 1 + i = omega arith in
    ap (λ n. rows_fit justs n (drop i ts)) e ∙ rows_from justs ts (h + 1) i (and_parts _ _ fit).1

pub row_at : (justs : ℕ) (ts : List Tac) (i : ℕ) (t d : Tac) → rows_fit justs 0 ts ≡ true → i < length ts → t ≡ get_or ts i d → row_fits justs i (length ts) t ≡ true
row_at justs ts i t d fit lt is =
    let e : 0 + i ≡ i = omega arith in
    let all : rows_fit justs i (drop i ts) ≡ true = ap (λ n. rows_fit justs n (drop i ts)) (sym e) ∙ rows_from justs ts 0 i fit in
    (and_parts _ _ (sym (rows_step justs ts i t d lt is) ∙ all)).0

-- the parts of an entry stand behind it
pub parts_at : (justs : ℕ) (ts : List Tac) (i : ℕ) (t d : Tac) → rows_fit justs 0 ts ≡ true → i < length ts → t ≡ get_or ts i d → list_all (is_behind i (length ts)) (parts_of t) ≡ true
parts_at justs ts i t d fit lt is = (and_parts _ _ (row_at justs ts i t d fit lt is)).0

-- and so they are in the table
pub parts_within : (i count most : ℕ) (places : List ℕ) → count ≤ most → list_all (is_behind i count) places ≡ true → list_all (λ place. nat_lt place most) places ≡ true
parts_within i count most [] le h = refl
parts_within i count most (p ∷ ps) le h =
    let both = and_parts (is_behind i count p) (list_all (is_behind i count) ps) h in
    let lt : p < count = ltb-true p count (and_parts (nat_lt i p) (nat_lt p count) both.0).1 in
    and_from _ _ (lt-ltb p most (omega (arith, lt, le))) (parts_within i count most ps le both.1)

-- the depths that are found from the end of the table up to a place
pub record Found (entries : List Tac) (here : ℕ) (found : List ℕ) : Type 0 where
  pub knows : (k : ℕ) → here ≤ k → slice_index found k ≡ slice_index (depths here (drop here entries)) (k - here)
  pub small : (k : ℕ) → slice_index found k ≤ 64
  pub room : length entries ≤ length found
  pub shallow : list_all (λ depth. nat_le depth 64) (depths here (drop here entries)) ≡ true

parts_same : (i count : ℕ) (found behind : List ℕ) (places : List ℕ) → ((k : ℕ) → i + 1 ≤ k → slice_index found k ≡ slice_index behind (k - (i + 1)))
    → list_all (is_behind i count) places ≡ true → map (slice_index found) places ≡ map (λ place. slice_index behind (place - (i + 1))) places
parts_same i count found behind [] knows h = refl
parts_same i count found behind (p ∷ ps) knows h =
    let both = and_parts (is_behind i count p) (list_all (is_behind i count) ps) h in
    let lt : i < p = ltb-true i p (and_parts (nat_lt i p) (nat_lt p count) both.0).0 in
    let first : slice_index found p ≡ slice_index behind (p - (i + 1)) = knows p (omega (arith, lt)) in
    ap (λ n. n ∷ map (slice_index found) ps) first ∙ ap (λ ns. slice_index behind (p - (i + 1)) ∷ ns) (parts_same i count found behind ps knows both.1)

pub depth_same : (entries : List Tac) (i : ℕ) (t : Tac) (found : List ℕ) → Found entries (i + 1) found → list_all (is_behind i (length entries)) (parts_of t) ≡ true
    → 1 + greatest (map (slice_index found) (parts_of t)) ≡ depth_by i (depths (i + 1) (drop (i + 1) entries)) t
depth_same entries i t found f h =
    ap (λ ns. 1 + greatest ns) (parts_same i (length entries) found (depths (i + 1) (drop (i + 1) entries)) (parts_of t) f.knows h)

-- the depths of an entry and of those behind it
pub depths_here : (entries : List Tac) (i depth : ℕ) (t d : Tac) (found : List ℕ) → Found entries (i + 1) found → list_all (is_behind i (length entries)) (parts_of t) ≡ true
    → i < length entries → t ≡ get_or entries i d → depth ≡ 1 + greatest (map (slice_index found) (parts_of t))
    → depths i (drop i entries) ≡ depth ∷ depths (i + 1) (drop (i + 1) entries)
depths_here entries i depth t d found f h lt is is_depth =
    let rest : List ℕ = depths (i + 1) (drop (i + 1) entries) in
    ap (depths i) (from_here entries i t d lt is) ∙ ap (λ n. n ∷ rest) (sym (is_depth ∙ depth_same entries i t found f h))

zeros : (m k : ℕ) → slice_index (replicate m 0) k ≡ 0
zeros zero k = refl
zeros (suc m) zero = refl
zeros (suc m) (suc k) = zeros m k

pub found_start : (entries : List Tac) (n m : ℕ) → n ≡ length entries → length entries ≤ m → Found entries n (replicate m 0)
found_start entries n m e le =
    let none : drop n entries ≡ [] = grind (arith, common_steps) in
    record {
      knows = λ k more. zeros m k ∙ sym (ap (λ ts. slice_index (depths n ts) (k - n)) none);
      small = λ k. (let z : slice_index (replicate m 0) k ≡ 0 = zeros m k in omega (arith, z));
      room = (let l : length (replicate {A = ℕ} m 0) ≡ m = length-replicate m 0 in omega (arith, l, le));
      shallow = ap (λ ts. list_all (λ depth. nat_le depth 64) (depths n ts)) none;
    }

known : (found behind : List ℕ) (i depth k : ℕ) → i < length found → ((k : ℕ) → i + 1 ≤ k → slice_index found k ≡ slice_index behind (k - (i + 1))) → i ≤ k
    → (k ≡ i) ⊎ (k ≡ i → ⊥) → slice_index (set found i depth) k ≡ slice_index (depth ∷ behind) (k - i)
known found behind i depth k lt knows le (inl e) =
    let z : k - i ≡ 0 = omega (arith, e) in
    get_or-set_at found i k depth 0 e lt ∙ sym (ap (slice_index (depth ∷ behind)) z)
known found behind i depth k lt knows le (inr ne) =
    let more : i + 1 ≤ k = omega (arith, ne) in
    let z : k - i ≡ suc (k - (i + 1)) = omega (arith, more) in
    get_or-set_other found i k depth 0 ne ∙ knows k more ∙ sym (ap (slice_index (depth ∷ behind)) z)

kept_small : (found : List ℕ) (i depth k : ℕ) → i < length found → depth ≤ 64 → slice_index found k ≤ 64 → (k ≡ i) ⊎ (k ≡ i → ⊥) → slice_index (set found i depth) k ≤ 64
kept_small found i depth k lt le h (inl e) = let a : slice_index (set found i depth) k ≡ depth = get_or-set_at found i k depth 0 e lt in omega (arith, a, le)
kept_small found i depth k lt le h (inr ne) = let a : slice_index (set found i depth) k ≡ slice_index found k = get_or-set_other found i k depth 0 ne in omega (arith, a, h)

pub found_next : (entries : List Tac) (i depth : ℕ) (t d : Tac) (found : List ℕ) → Found entries (i + 1) found → list_all (is_behind i (length entries)) (parts_of t) ≡ true
    → i < length entries → t ≡ get_or entries i d → depth ≡ 1 + greatest (map (slice_index found) (parts_of t)) → depth ≤ 64 → (here : ℕ) → i ≡ here → Found entries here (set found i depth)
found_next entries i depth t d found f h lt is is_depth le here at_here =
    let lt' : i < length found = omega (arith, lt, f.room) in
    let rest : List ℕ = depths (i + 1) (drop (i + 1) entries) in
    let all : depths i (drop i entries) ≡ depth ∷ rest = depths_here entries i depth t d found f h lt is is_depth in
    subst (λ n. Found entries n (set found i depth)) at_here (record {
      knows = λ k more. known found rest i depth k lt' f.knows more (cases_eq k i) ∙ sym (ap (λ ns. slice_index ns (k - i)) all);
      small = λ k. kept_small found i depth k lt' le (f.small k) (cases_eq k i);
      room = (let l : length (set found i depth) ≡ length found = length-set found i depth in omega (arith, l, f.room));
      shallow = ap (list_all (λ d. nat_le d 64)) all ∙ and_from _ _ (le-leb depth 64 le) f.shallow;
    })

-- an entry that is too deep
pub too_deep : (entries : List Tac) (i depth : ℕ) (t d : Tac) (found : List ℕ) → Found entries (i + 1) found → list_all (is_behind i (length entries)) (parts_of t) ≡ true
    → i < length entries → t ≡ get_or entries i d → depth ≡ 1 + greatest (map (slice_index found) (parts_of t)) → 64 < depth → list_all (λ depth. nat_le depth 64) (depths 0 entries) ≡ false
too_deep entries i depth t d found f h lt is is_depth gt =
    let rest : List ℕ = depths (i + 1) (drop (i + 1) entries) in
    let all : depths i (drop i entries) ≡ depth ∷ rest = depths_here entries i depth t d found f h lt is is_depth in
    let e : 0 + i ≡ i = omega arith in
    deep_later entries 0 i (ap (λ n. list_all (λ depth. nat_le depth 64) (depths n (drop i entries))) e ∙ ap (list_all (λ d. nat_le d 64)) all ∙ and_left _ _ (lt-leb depth 64 gt)) where
      deep_later : (ts : List Tac) (h i : ℕ) → list_all (λ depth. nat_le depth 64) (depths (h + i) (drop i ts)) ≡ false → list_all (λ depth. nat_le depth 64) (depths h ts) ≡ false
      deep_later ts h zero deep = let e : h ≡ h + 0 = omega arith in ap (λ n. list_all (λ depth. nat_le depth 64) (depths n ts)) e ∙ deep
      deep_later [] h (suc i) deep = deep
      deep_later (t ∷ ts) h (suc i) deep =
          let e : h + 1 + i ≡ h + suc i = omega arith in
          and_right _ _ (deep_later ts (h + 1) i (ap (λ n. list_all (λ depth. nat_le depth 64) (depths n (drop i ts))) e ∙ deep))

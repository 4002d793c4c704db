-- What an entry gives, by what the entries of the whole table give.
use Rattle.std.proofs.Common.{◌≡◌, ℕ, zero, suc, ◌+◌, ◌-◌, ◌<◌, ◌≤◌, Bool, true, false, List, [], ◌∷◌, length, zip, drop, Some, nat_lt, refl, sym, ap, ◌∙◌, arith}
use Rattle.std.proofs.lemmas.Bool.{and_parts, ltb-true}
use Rattle.std.specs.List.{AllByRecursion, list_all}
use Rattle.std.specs.Prelude.{slice_get}
use Rattle.mp_logic.specs.declared.tree.Tree.{Tree}
use Rattle.mp_logic.specs.Meaning.{Meaning}
use Rattle.mp_logic.specs.Trees.{LeafAt, leaves_of}
use Rattle.mp_strategy.specs.declared.tactic.TacId.{TacId}
use Rattle.mp_strategy.specs.declared.outcome.Kind.TheVariants as kind
use Rattle.mp_strategy.specs.declared.outcome.Outcome.{Outcome}
use Rattle.mp_strategy.specs.declared.tactic.Tac.{Tac}
use Rattle.mp_strategy.specs.declared.tactic.Tac.TheVariants as tac
use Rattle.mp_strategy.specs.Fits.{places, parts_of, counts_fit, is_behind, row_fits, rows_fit, fits_of}
use Rattle.mp_strategy.specs.Strategies.{left_of, as_many, failure, progressed, completed}
use Rattle.mp_strategy.specs.Evaluation.{Evaluator, with_first, all_of, grafted, onward, on_leaves, else_of, race_of, repeat_of, one_each, row_of, eval_in, whole}

-- a place behind this one, in a table of so many entries
abbrev pub IsBehind : ℕ → ℕ → ℕ → Type 0
IsBehind here count place = is_behind here count place ≡ true

pub is_later : (here count place : ℕ) → IsBehind here count place → here < place
is_later here count place h = ltb-true here place (and_parts (nat_lt here place) (nat_lt place count) h).0

pub is_within : (here count place : ℕ) → IsBehind here count place → place < count
is_within here count place h = ltb-true place count (and_parts (nat_lt here place) (nat_lt place count) h).1

pub each_part : {A : Type 0} (test : A → Bool) (xs : List A) → list_all test xs ≡ true → AllByRecursion (λ x. test x ≡ true) xs
each_part test [] h = tt
each_part test (x ∷ xs) h = let both = and_parts (test x) (list_all test xs) h in (both.0, each_part test xs both.1)

-- the parts of the first entry
pub parts_first : (justs h : ℕ) (t : Tac) (ts : List Tac) → rows_fit justs h (t ∷ ts) ≡ true → AllByRecursion (IsBehind h (h + 1 + length ts)) (parts_of t)
parts_first justs h t ts fit =
    let row = (and_parts (row_fits justs h (h + 1 + length ts) t) (rows_fit justs (h + 1) ts) fit).0 in
    each_part (is_behind h (h + 1 + length ts)) (parts_of t) (and_parts _ _ row).0

-- the counts of the first entry
pub counts_first : (justs h : ℕ) (t : Tac) (ts : List Tac) → rows_fit justs h (t ∷ ts) ≡ true → counts_fit t ≡ true
counts_first justs h t ts fit =
    let row = (and_parts (row_fits justs h (h + 1 + length ts) t) (rows_fit justs (h + 1) ts) fit).0 in
    (and_parts _ _ (and_parts _ _ row).1).1

pub rows_later : (justs h : ℕ) (t : Tac) (ts : List Tac) → rows_fit justs h (t ∷ ts) ≡ true → rows_fit justs (h + 1) ts ≡ true
rows_later justs h t ts fit = (and_parts (row_fits justs h (h + 1 + length ts) t) (rows_fit justs (h + 1) ts) fit).1

-- the entries of a table that fits
pub rows_of : (justs : ℕ) (ts : List Tac) → fits_of justs ts ≡ true → rows_fit justs 0 ts ≡ true
rows_of justs ts fit = (and_parts _ _ (and_parts _ _ (and_parts _ _ fit).1).1).0

pub row_later : (justs h : ℕ) (ts : List Tac) (i : ℕ) (t : Tac) → rows_fit justs h ts ≡ true → slice_get ts i ≡ Some t → row_fits justs (h + i) (h + length ts) t ≡ true
row_later justs h [] i t fit e = absurd cc
row_later justs h (s ∷ ts) zero t fit e =
    let row = (and_parts (row_fits justs h (h + 1 + length ts) s) (rows_fit justs (h + 1) ts) fit).0 in
    let same : s ≡ t = cc in
    let a : h + 0 ≡ h = omega arith in
    let b : h + suc (length ts) ≡ h + 1 + length ts = omega arith in
    (λ i. row_fits justs (a i) (b i) (sym same i)) ∙ row
row_later justs h (s ∷ ts) (suc i) t fit e =
    let a : h + suc i ≡ h + 1 + i = omega arith in
    let b : h + suc (length ts) ≡ h + 1 + length ts = omega arith in
    (λ k. row_fits justs (a k) (b k) t) ∙ row_later justs (h + 1) ts i t (rows_later justs h s ts fit) e

-- an entry of a table that fits
pub row_here : (justs : ℕ) (ts : List Tac) (i : ℕ) (t : Tac) → fits_of justs ts ≡ true → slice_get ts i ≡ Some t → row_fits justs i (length ts) t ≡ true
row_here justs ts i t fit e =
    let a : i ≡ 0 + i = omega arith in
    let b : length ts ≡ 0 + length ts = omega arith in
    (λ k. row_fits justs (a k) (b k) t) ∙ row_later justs 0 ts i t (rows_of justs ts fit) e

pub parts_here : (justs : ℕ) (ts : List Tac) (i : ℕ) (t : Tac) → fits_of justs ts ≡ true → slice_get ts i ≡ Some t → AllByRecursion (IsBehind i (length ts)) (parts_of t)
parts_here justs ts i t fit e = each_part (is_behind i (length ts)) (parts_of t) (and_parts _ _ (row_here justs ts i t fit e)).0

get_later : (k : ℕ) (ts : List Tac) (c : ℕ) → k ≤ c → slice_get (drop k ts) (c - k) ≡ slice_get ts c
get_later zero ts c le = let e : c - 0 ≡ c = omega arith in ap (slice_get ts) e
get_later (suc k) [] c le = refl
get_later (suc k) (t ∷ ts) zero le = absurd (omega arith)
get_later (suc k) (t ∷ ts) (suc c) le =
    let e : suc c - suc k ≡ c - k = omega arith in ap (slice_get (drop k ts)) e ∙ get_later k ts c (omega arith)

drop_at_get : (ts : List Tac) (i : ℕ) (t : Tac) → slice_get ts i ≡ Some t → drop i ts ≡ t ∷ drop (suc i) ts
drop_at_get [] i t e = absurd cc
drop_at_get (s ∷ ts) zero t e = let h : s ≡ t = cc in ap (λ s. s ∷ ts) h
drop_at_get (s ∷ ts) (suc i) t e = drop_at_get ts i t e

module _ {G : Type 0} (ok : ℕ → Type 0) (part part' : ℕ → Evaluator G) (h : (c : ℕ) → ok c → part c ≡ part' c) where
  pairs_same : (f : ℕ) (bs : List TacId) (leaves : List (LeafAt G)) → AllByRecursion ok (places bs)
      → all_of (λ x. part x.0.0 (f - x.1.depth) x.1.goal) (zip bs leaves) ≡ all_of (λ x. part' x.0.0 (f - x.1.depth) x.1.goal) (zip bs leaves)
  pairs_same f [] leaves a = refl
  pairs_same f (b ∷ bs) [] a = refl
  pairs_same f (b ∷ bs) (leaf ∷ leaves) a = λ i. with_first (h b.0 a.0 i (f - leaf.depth) leaf.goal) (pairs_same f bs leaves a.1 i)

  listed_same : (here : ℕ) (bs : List TacId) → AllByRecursion ok (places bs) → (f : ℕ) (g : G) (t : Tree G) (b : Bool) → one_each b part here bs f g t ≡ one_each b part' here bs f g t
  listed_same here bs a f g t true = ap (grafted t) (pairs_same f bs (leaves_of t) a)
  listed_same here bs a f g t false = refl

  race_same : (f : ℕ) (g : G) (none : Outcome G) (bs : List TacId) → AllByRecursion ok (places bs) → race_of (λ (b : TacId). part b.0 f g) none bs ≡ race_of (λ (b : TacId). part' b.0 f g) none bs
  race_same f g none [] a = refl
  race_same f g none (b ∷ []) a = λ i. h b.0 a.0 i f g
  race_same f g none (b ∷ c ∷ bs) a = λ i. else_of (h b.0 a.0 i f g) (race_same f g none (c ∷ bs) a.1 i)

module _ {G J : Type 0} (m : Meaning G J) (justs : List J) where
  -- a row asks only for the parts of its strategy
  row_same : (ok : ℕ → Type 0) (part part' : ℕ → Evaluator G) → ((c : ℕ) → ok c → part c ≡ part' c) → (t : Tac) (here left : ℕ) → AllByRecursion ok (parts_of t) → row_of m justs t here part left ≡ row_of m justs t here part' left
  row_same ok part part' h tac.Id here left parts = refl
  row_same ok part part' h tac.Fail here left parts = refl
  row_same ok part part' h (tac.Step j) here left parts = refl
  row_same ok part part' h (tac.Then a b) here left parts = λ i. λ f g. onward (h a.0 parts.0 i f g) (on_leaves (h b.0 parts.1.0 i) f)
  row_same ok part part' h (tac.ThenL a bs) here left parts = λ i. λ f g. onward (h a.0 parts.0 i f g) (λ t. listed_same ok part part' h here bs parts.1 f g t (as_many bs t) i)
  row_same ok part part' h (tac.Else a b) here left parts = λ i. λ f g. else_of (h a.0 parts.0 i f g) (h b.0 parts.1.0 i f g)
  row_same ok part part' h (tac.Race bs) here left parts = λ i. λ f g. race_same ok part part' h f g (failure kind.Failed here g) bs parts i
  row_same ok part part' h (tac.Repeat n a) here left parts = λ i. repeat_of (h a.0 parts.0 i) left
  row_same ok part part' h (tac.Progress a) here left parts = λ i. λ f g. onward (h a.0 parts.0 i f g) (progressed m here g)
  row_same ok part part' h (tac.Complete a) here left parts = λ i. λ f g. onward (h a.0 parts.0 i f g) (completed here g)

  -- the entries before a place don't matter
  pub skips : (h k : ℕ) (ts : List Tac) (c left : ℕ) → k ≤ c → eval_in m justs h ts c left ≡ eval_in m justs (h + k) (drop k ts) (c - k) left
  skips h zero ts c left le =
      let P : ℕ → Evaluator G = λ n. eval_in m justs n ts c left in
      let Q : ℕ → Evaluator G = λ n. eval_in m justs (h + 0) ts n left in
      let e : h ≡ h + 0 = omega arith in let e' : c ≡ c - 0 = omega arith in ap P e ∙ ap Q e'
  skips h (suc k) [] c left le = refl
  skips h (suc k) (t ∷ ts) zero left le = absurd (omega arith)
  skips h (suc k) (t ∷ ts) (suc c) left le =
      let P : ℕ → Evaluator G = λ n. eval_in m justs n (drop k ts) (c - k) left in
      let Q : ℕ → Evaluator G = λ n. eval_in m justs (h + suc k) (drop k ts) n left in
      let e : h + 1 + k ≡ h + suc k = omega arith in let e' : c - k ≡ suc c - suc k = omega arith in
      skips (h + 1) k ts c left (omega arith) ∙ ap P e ∙ ap Q e'

  pub unfolds : (tacs : List Tac) (i left : ℕ) (t : Tac) → slice_get tacs i ≡ Some t → AllByRecursion (IsBehind i (length tacs)) (parts_of t) → eval_in m justs 0 tacs i left ≡ row_of m justs t i (whole m justs tacs) left
  unfolds tacs i left t e parts =
      let rest : List Tac = drop (suc i) tacs in
      let here : (n z : ℕ) → n ≡ i → z ≡ 0 → eval_in m justs n (drop i tacs) z left ≡ eval_in m justs i (t ∷ rest) 0 left =
      λ n z p q. λ k. eval_in m justs (p k) (drop_at_get tacs i t e k) (q k) left in
      let a : i + 1 ≡ 0 + suc i = omega arith in
      let later : (c : ℕ) → IsBehind i (length tacs) c → eval_in m justs (i + 1) rest (c - (i + 1)) (left_of (slice_get rest (c - (i + 1)))) ≡ whole m justs tacs c =
      λ c behind. (let b : c - (i + 1) ≡ c - suc i = omega arith in let lt : i < c = is_later i (length tacs) c behind in let le : suc i ≤ c = omega (arith, lt) in
      let d : slice_get rest (c - (i + 1)) ≡ slice_get tacs c = ap (slice_get rest) b ∙ get_later (suc i) tacs c le in
      let moved : eval_in m justs (i + 1) rest (c - (i + 1)) (left_of (slice_get rest (c - (i + 1)))) ≡ eval_in m justs (0 + suc i) rest (c - suc i) (left_of (slice_get tacs c)) =
      λ k. eval_in m justs (a k) rest (b k) (left_of (d k)) in
      moved ∙ sym (skips 0 (suc i) tacs c (left_of (slice_get tacs c)) le)) in
      skips 0 i tacs i left (omega arith) ∙ here (0 + i) (i - i) (omega arith) (omega arith)
      ∙ row_same (IsBehind i (length tacs)) (λ c. eval_in m justs (i + 1) rest (c - (i + 1)) (left_of (slice_get rest (c - (i + 1))))) (whole m justs tacs) later t i left parts

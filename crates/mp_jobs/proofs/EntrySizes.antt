-- The size of an entry, by the sizes of the entries of the whole table.
use Rattle.std.proofs.Common.{◌≡◌, ℕ, zero, suc, ◌+◌, ◌-◌, ◌<◌, ◌≤◌, max, List, [], ◌∷◌, length, drop, Some, refl, sym, ap, ◌∙◌, arith}
use Rattle.std.specs.Prelude.{slice_get}
use Rattle.std.specs.List.{AllByRecursion}
use Rattle.mp_logic.specs.Meaning.{Meaning}
use Rattle.mp_strategy.specs.declared.problem.ProblemState.{ProblemState}
use Rattle.mp_strategy.specs.declared.tactic.Tac.{Tac}
use Rattle.mp_strategy.specs.declared.tactic.Tac.TheVariants as tac
use Rattle.mp_strategy.specs.declared.tactic.TacId.{TacId}
use Rattle.mp_strategy.specs.Fits.{parts_of, places}
use Rattle.mp_strategy.specs.Strategies.{left_of}
use Rattle.mp_strategy.proofs.Unfolds.{IsBehind, is_later}
use Rattle.mp_jobs.specs.Costs.{Size, widest, weight_sum, then_by, list_by, unexpanded, repeat_size, sizes, size_row, size_in, entry_size, part_size}
use Rattle.mp_jobs.proofs.Rows.{get_later, drop_at_get}

module _ (ok : ℕ → Type 0) (a b : ℕ → Size) (h : (c : ℕ) → ok c → a c ≡ b c) where
  sizes_same : (bs : List TacId) → AllByRecursion ok (places bs) → sizes a bs ≡ sizes b bs
  sizes_same [] k = refl
  sizes_same (c ∷ cs) k = λ i. h c.0 k.0 i ∷ sizes_same cs k.1 i

  row_same : (w : ℕ) (t : Tac) (left : ℕ) → AllByRecursion ok (parts_of t) → size_row w t a left ≡ size_row w t b left
  row_same w tac.Id left k = refl
  row_same w tac.Fail left k = refl
  row_same w (tac.Step j) left k = refl
  row_same w (tac.Then c d) left k = λ i. unexpanded (then_by (h d.0 k.1.0 i) (h c.0 k.0 i))
  row_same w (tac.ThenL c bs) left k = λ i. unexpanded (list_by (sizes_same bs k.1 i) (h c.0 k.0 i))
  row_same w (tac.Else c d) left k = λ i. record { wide = max (h c.0 k.0 i).wide (h d.0 k.1.0 i).wide; heavy = 2 + ((h c.0 k.0 i).heavy + (h d.0 k.1.0 i).heavy) }
  row_same w (tac.Race bs) left k = λ i. record { wide = widest (sizes_same bs k i); heavy = 2 + weight_sum (sizes_same bs k i) }
  row_same w (tac.Repeat n c) left k = λ i. repeat_size (h c.0 k.0 i) left
  row_same w (tac.Progress c) left k = λ i. record { wide = (h c.0 k.0 i).wide; heavy = 2 + (h c.0 k.0 i).heavy }
  row_same w (tac.Complete c) left k = λ i. record { wide = (h c.0 k.0 i).wide; heavy = 2 + (h c.0 k.0 i).heavy }

module _ (w : ℕ) where
  -- the entries before a place don't matter
  skips : (h k : ℕ) (ts : List Tac) (c left : ℕ) → k ≤ c → size_in w h ts c left ≡ size_in w (h + k) (drop k ts) (c - k) left
  skips h zero ts c left le =
      let P : ℕ → Size = λ n. size_in w n ts c left in
      let Q : ℕ → Size = λ n. size_in w (h + 0) ts n left in
      let e : h ≡ h + 0 = omega arith in let e' : c ≡ c - 0 = omega arith in ap P e ∙ ap Q e'
  skips h (suc k) [] c left le = refl
  skips h (suc k) (t ∷ ts) zero left le = absurd (omega arith)
  skips h (suc k) (t ∷ ts) (suc c) left le =
      let P : ℕ → Size = λ n. size_in w n (drop k ts) (c - k) left in
      let Q : ℕ → Size = λ n. size_in w (h + suc k) (drop k ts) n left in
      let e : h + 1 + k ≡ h + suc k = omega arith in let e' : c - k ≡ suc c - suc k = omega arith in
      skips (h + 1) k ts c left (omega arith) ∙ ap P e ∙ ap Q e'

  -- the sizes of the entries of a table by themselves
  abbrev whole : List Tac → ℕ → Size
  whole tacs c = size_in w 0 tacs c (left_of (slice_get tacs c))

  unfolds : (tacs : List Tac) (i left : ℕ) (t : Tac) → slice_get tacs i ≡ Some t → AllByRecursion (IsBehind i (length tacs)) (parts_of t) → size_in w 0 tacs i left ≡ size_row w t (whole tacs) left
  unfolds tacs i left t e parts =
      let rest : List Tac = drop (suc i) tacs in
      let here : (n m : ℕ) → n ≡ i → m ≡ 0 → size_in w n (drop i tacs) m left ≡ size_in w i (t ∷ rest) 0 left = λ n m p q. λ k. size_in w (p k) (drop_at_get tacs i t e k) (q k) left in
      let a : i + 1 ≡ 0 + suc i = omega arith in
      let later : (c : ℕ) → IsBehind i (length tacs) c → size_in w (i + 1) rest (c - (i + 1)) (left_of (slice_get rest (c - (i + 1)))) ≡ size_in w 0 tacs c (left_of (slice_get tacs c)) =
      λ c behind. (let b : c - (i + 1) ≡ c - suc i = omega arith in let lt : i < c = is_later i (length tacs) c behind in let le : suc i ≤ c = omega (arith, lt) in
      let d : slice_get rest (c - (i + 1)) ≡ slice_get tacs c = ap (slice_get rest) b ∙ get_later (suc i) tacs c le in
      let moved : size_in w (i + 1) rest (c - (i + 1)) (left_of (slice_get rest (c - (i + 1)))) ≡ size_in w (0 + suc i) rest (c - suc i) (left_of (slice_get tacs c)) = λ k. size_in w (a k) rest (b k) (left_of (d k)) in
      moved ∙ sym (skips 0 (suc i) tacs c (left_of (slice_get tacs c)) le)) in
      skips 0 i tacs i left (omega arith) ∙ here (0 + i) (i - i) (omega arith) (omega arith)
      ∙ row_same (IsBehind i (length tacs)) (λ c. size_in w (i + 1) rest (c - (i + 1)) (left_of (slice_get rest (c - (i + 1))))) (whole tacs) later w t left parts

module _ {L G J : Type 0} (meaning : L → Meaning G J) (p : ProblemState L J) where
  pub size_unfolds : (i left : ℕ) (t : Tac) → slice_get p.tacs i ≡ Some t → AllByRecursion (IsBehind i (length p.tacs)) (parts_of t) → entry_size meaning p i left ≡ size_row (meaning p.logic).width t (part_size meaning p) left
  size_unfolds i left t e parts = unfolds (meaning p.logic).width p.tacs i left t e parts

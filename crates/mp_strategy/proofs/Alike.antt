-- Meanings that are alike give works on good goals the same outcomes.
use Rattle.std.proofs.Common.{◌≡◌, ℕ, zero, suc, ◌+◌, ◌-◌, Bool, true, false, if◌then◌else◌, List, [], ◌∷◌, length, zip, Option, Some, None, IsTrue, refl, ap, ◌∙◌, arith}
use Rattle.std.specs.List.{AllByRecursion, list_all}
use Rattle.std.specs.Prelude.{slice_get}
use Rattle.mp_logic.specs.declared.tree.Tree.{Tree}
use Rattle.mp_logic.specs.declared.tree.JustId.{JustId}
use Rattle.mp_logic.specs.Meaning.{Meaning, IsLogic}
use Rattle.mp_logic.specs.Trees.{leaves_of}
use Rattle.mp_strategy.specs.declared.tactic.Tac.{Tac}
use Rattle.mp_strategy.specs.declared.tactic.Tac.TheVariants as tac
use Rattle.mp_strategy.specs.declared.tactic.TacId.{TacId}
use Rattle.mp_strategy.specs.declared.outcome.Kind.TheVariants as kind
use Rattle.mp_strategy.specs.declared.outcome.Outcome.{Outcome}
use Rattle.mp_strategy.specs.declared.outcome.Outcome.TheVariants as outcome
use Rattle.mp_strategy.specs.declared.problem.ProblemState.{ProblemState}
use Rattle.mp_strategy.specs.Fits.{rows_fit}
use Rattle.mp_strategy.specs.Laws.{AreAlike, SameOutcomes}
use Rattle.mp_strategy.specs.Problems.{IsProblem}
use Rattle.mp_strategy.specs.Strategies.{failure, stepped, step_or_failed, step_with, left_of, is_leaf, as_many, only_leaf, progressed, completed}
use Rattle.mp_strategy.specs.Evaluation.{Evaluator, with_first, all_of, grafted, on_leaves, onward, else_of, race_of, goes_on, repeat_after, repeat_of, one_each, row_of, eval_in}
use Rattle.mp_strategy.proofs.Allowed.{evals_in}
use Rattle.mp_strategy.proofs.Goods.{allowed_at, Good, AreGood, good_in}
use Rattle.mp_strategy.proofs.Keeping.{paired}
use Rattle.mp_strategy.proofs.Unfolds.{rows_later, rows_of}

module _ {G : Type 0} (good : G → Bool) where
  -- two evaluators give each good goal the same outcome
  abbrev Same : Evaluator G → Evaluator G → Type 0
  Same each other = (f : ℕ) (g : G) → Good good g → each f g ≡ other f g

  all_same : {X : Type 0} (each other : X → Outcome G) (Q : X → Type 0) → ((x : X) → Q x → each x ≡ other x) → (xs : List X) → AllByRecursion Q xs → all_of each xs ≡ all_of other xs
  all_same each other Q h [] q = refl
  all_same each other Q h (x ∷ xs) q = λ i. with_first (h x q.0 i) (all_same each other Q h xs q.1 i)

  leaves_same : (each other : Evaluator G) → Same each other → (f : ℕ) (t : Tree G) → AreGood good (outcome.Tree t) → on_leaves each f t ≡ on_leaves other f t
  leaves_same each other h f t q =
      ap (grafted t)
      (all_same (λ leaf. each (f - leaf.depth) leaf.goal) (λ leaf. other (f - leaf.depth) leaf.goal) (λ leaf. Good good leaf.goal) (λ leaf k. h (f - leaf.depth) leaf.goal k) (leaves_of t) q)

  onward_same : (first second : Outcome G) (on next : Tree G → Outcome G) → first ≡ second → AreGood good first → ((t : Tree G) → AreGood good (outcome.Tree t) → on t ≡ next t) → onward first on ≡ onward second next
  onward_same (outcome.Failure e) second on next same q h = ap (λ o. onward o next) same
  onward_same (outcome.Tree t) second on next same q h = h t q ∙ ap (λ o. onward o next) same

  race_same : (each other : TacId → Outcome G) (none : Outcome G) → ((b : TacId) → each b ≡ other b) → (bs : List TacId) → race_of each none bs ≡ race_of other none bs
  race_same each other none h [] = refl
  race_same each other none h (b ∷ []) = h b
  race_same each other none h (b ∷ c ∷ bs) = λ i. else_of (h b i) (race_same each other none h (c ∷ bs) i)

  goes_on_same : (each other : Evaluator G) → Same each other → (leaf : Bool) (f : ℕ) (g : G) (t : Tree G) → AreGood good (outcome.Tree t) → goes_on leaf each f g t ≡ goes_on leaf other f g t
  goes_on_same each other h true f g t q = refl
  goes_on_same each other h false f g t q = leaves_same each other h f t q

  after_same : (each other : Evaluator G) → Same each other → (first second : Outcome G) (f : ℕ) (g : G) → first ≡ second → AreGood good first → repeat_after first each f g ≡ repeat_after second other f g
  after_same each other h (outcome.Failure e) second f g same q = ap (λ o. repeat_after o other f g) same
  after_same each other h (outcome.Tree t) second f g same q = goes_on_same each other h (is_leaf t) f g t q ∙ ap (λ o. repeat_after o other f g) same

  -- parts that give good goals good outcomes, and those of the other meaning
  module _ (part other : ℕ → Evaluator G) (h : (c : ℕ) → Same (part c) (other c)) (k : (c f : ℕ) (g : G) → Good good g → AreGood good (part c f g)) where
    repeat_same : (c n : ℕ) → Same (repeat_of (part c) n) (repeat_of (other c) n)
    repeat_same c zero f g q = refl
    repeat_same c (suc n) f g q = after_same (repeat_of (part c) n) (repeat_of (other c) n) (repeat_same c n) (part c f g) (other c f g) f g (h c f g q) (k c f g q)

    listed_same : (here : ℕ) (bs : List TacId) (f : ℕ) (g : G) (t : Tree G) → AreGood good (outcome.Tree t) → (many : Bool) → one_each many part here bs f g t ≡ one_each many other here bs f g t
    listed_same here bs f g t q true =
        ap (grafted t)
        (all_same (λ x. part x.0.0 (f - x.1.depth) x.1.goal) (λ x. other x.0.0 (f - x.1.depth) x.1.goal) (λ x. Good good x.1.goal) (λ x e. h x.0.0 (f - x.1.depth) x.1.goal e) (zip bs (leaves_of t))
        (paired (λ leaf. Good good leaf.goal) bs (leaves_of t) q))
    listed_same here bs f g t q false = refl

module _ {G J : Type 0} (m n : Meaning G J) (justs : List J) (lawful : IsLogic m) (all_allowed : IsTrue (list_all m.allowed justs)) (alike : AreAlike m n) where
  step_same : (here : ℕ) (just : JustId) → Same m.good (step_with m justs here just) (step_with n justs here just)
  step_same here just zero g q = refl
  step_same here just (suc f) g q = by (slice_get justs just.0) refl
    where
      by : (o : Option J) → slice_get justs just.0 ≡ o → step_or_failed m o here just g ≡ step_or_failed n o here just g
      by None e = refl
      by (Some j) e = ap (stepped here just g) (alike.step j g (allowed_at m.allowed justs just.0 j all_allowed e) q)

  progressed_same : (here : ℕ) (g : G) (t : Tree G) → progressed m here g t ≡ progressed n here g t
  progressed_same here g t = λ i. if only_leaf (λ a b. alike.same a b i) (leaves_of t) g then failure kind.NoProgress here g else outcome.Tree t

  row_same : (part other : ℕ → Evaluator G) → ((c : ℕ) → Same m.good (part c) (other c)) → ((c f : ℕ) (g : G) → Good m.good g → AreGood m.good (part c f g)) →
      (t : Tac) (here left : ℕ) → Same m.good (row_of m justs t here part left) (row_of n justs t here other left)
  row_same part other h k tac.Id here left f g q = refl
  row_same part other h k tac.Fail here left f g q = refl
  row_same part other h k (tac.Step j) here left f g q = step_same here j f g q
  row_same part other h k (tac.Then a b) here left f g q =
      onward_same m.good (part a.0 f g) (other a.0 f g) (on_leaves (part b.0) f) (on_leaves (other b.0) f) (h a.0 f g q) (k a.0 f g q) (λ t e. leaves_same m.good (part b.0) (other b.0) (h b.0) f t e)
  row_same part other h k (tac.ThenL a bs) here left f g q =
      onward_same m.good (part a.0 f g) (other a.0 f g) (λ t. one_each (as_many bs t) part here bs f g t) (λ t. one_each (as_many bs t) other here bs f g t) (h a.0 f g q) (k a.0 f g q)
      (λ t e. listed_same m.good part other h k here bs f g t e (as_many bs t))
  row_same part other h k (tac.Else a b) here left f g q = λ i. else_of (h a.0 f g q i) (h b.0 f g q i)
  row_same part other h k (tac.Race bs) here left f g q = race_same m.good (λ (b : TacId). part b.0 f g) (λ (b : TacId). other b.0 f g) (failure kind.Failed here g) (λ b. h b.0 f g q) bs
  row_same part other h k (tac.Repeat times a) here left f g q = repeat_same m.good part other h k a.0 left f g q
  row_same part other h k (tac.Progress a) here left f g q =
      onward_same m.good (part a.0 f g) (other a.0 f g) (progressed m here g) (progressed n here g) (h a.0 f g q) (k a.0 f g q) (λ t e. progressed_same here g t)
  row_same part other h k (tac.Complete a) here left f g q = onward_same m.good (part a.0 f g) (other a.0 f g) (completed here g) (completed here g) (h a.0 f g q) (k a.0 f g q) (λ t e. refl)

  -- what evaluation gives a good goal is good, also of an entry that isn't there
  eval_good : (count here : ℕ) (ts : List Tac) → rows_fit count here ts ≡ true → (at left f : ℕ) (g : G) → Good m.good g → AreGood m.good (eval_in m justs here ts at left f g)
  eval_good count here [] fits at left f g q = q
  eval_good count here (t ∷ ts) fits zero left f g q =
      good_in m lawful justs all_allowed here (t ∷ ts) zero left f g (eval_in m justs here (t ∷ ts) zero left f g) q (evals_in m justs count here (t ∷ ts) zero left fits (omega arith) f g)
  eval_good count here (t ∷ ts) fits (suc at) left f g q = eval_good count (here + 1) ts (rows_later count here t ts fits) at left f g q

  pub same_in : (count here : ℕ) (ts : List Tac) → rows_fit count here ts ≡ true → (at left : ℕ) → Same m.good (eval_in m justs here ts at left) (eval_in n justs here ts at left)
  same_in count here [] fits at left f g q = refl
  same_in count here (t ∷ ts) fits zero left f g q =
      row_same (λ c. eval_in m justs (here + 1) ts (c - (here + 1)) (left_of (slice_get ts (c - (here + 1)))))
      (λ c. eval_in n justs (here + 1) ts (c - (here + 1)) (left_of (slice_get ts (c - (here + 1)))))
      (λ c. same_in count (here + 1) ts (rows_later count here t ts fits) (c - (here + 1)) (left_of (slice_get ts (c - (here + 1)))))
      (λ c. eval_good count (here + 1) ts (rows_later count here t ts fits) (c - (here + 1)) (left_of (slice_get ts (c - (here + 1))))) t here left f g q
  same_in count here (t ∷ ts) fits (suc at) left f g q = same_in count (here + 1) ts (rows_later count here t ts fits) at left f g q

pub same_outcomes : {L G J : Type 0} (meaning : L → Meaning G J) (p : ProblemState L J) → IsLogic (meaning p.logic) → IsProblem meaning p → SameOutcomes meaning p
same_outcomes meaning p lawful is other work alike good =
    same_in (meaning p.logic) (other p.logic) p.justs lawful is.allowed alike (length p.justs) 0 p.tacs (rows_of (length p.justs) p.tacs is.fits) work.tac.0 work.left work.fuel work.goal good

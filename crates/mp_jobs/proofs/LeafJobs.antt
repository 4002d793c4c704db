-- The jobs on the leaves of a tree.
use Rattle.std.proofs.Common.{◌≡◌, ℕ, ◌≤◌, false, IsTrue, List, [], ◌∷◌, map, length, refl, subst, ◌∙◌, arith}
use Rattle.std.specs.List.{AllByRecursion}
use Rattle.mp_logic.specs.Meaning.{Meaning}
use Rattle.mp_logic.specs.Trees.{leaf_count_of}
use Rattle.mp_logic.specs.declared.tree.Tree.{Tree}
use Rattle.mp_strategy.specs.declared.problem.ProblemState.{ProblemState}
use Rattle.mp_strategy.specs.declared.work.Work.{Work}
use Rattle.mp_strategy.specs.Strategies.{Given, All}
use Rattle.mp_jobs.specs.declared.node.Node.{Node, Todo, Leaves}
use Rattle.mp_jobs.specs.Costs.{Size, IsWithin}
use Rattle.mp_jobs.specs.Ends.{done_of}
use Rattle.mp_jobs.specs.Epochs.{claims_under, claims_step, total, under}
use Rattle.mp_jobs.specs.Kept.{Kept}
use Rattle.mp_jobs.specs.Shapes.{Shape, IsGoodTree}
use Rattle.mp_jobs.specs.Sizes.{size_of}
use Rattle.mp_jobs.specs.Yields.{LeavesGive, Yields}
use Rattle.std.specs.Prelude.{◌-◌, ◌<◌, zip}
use Rattle.std.proofs.lemmas.List.{length-map}
use Rattle.mp_logic.specs.Trees.{LeafAt, leaves_of, EachLeaf}
use Rattle.mp_strategy.specs.declared.limits.TheConstants.{MOST_FUEL}
use Rattle.mp_strategy.specs.declared.tactic.TacId.{TacId}
use Rattle.mp_strategy.specs.Strategies.{OnLeaves}
use Rattle.mp_strategy.specs.Works.{IsWork, work_of}
use Rattle.mp_jobs.specs.Settlement.{leaf_job, listed_job}
use Rattle.mp_jobs.specs.Yields.{EntryGives, PartGives}
use Rattle.mp_jobs.proofs.Folds.{fold-Todo, fold-Leaves}
use Rattle.mp_jobs.proofs.Less.{IsLess, all_less, pairs_map}
use Rattle.mp_jobs.proofs.ShapeSteps.{shape-Todo, shape-Leaves, back}
use Rattle.mp_jobs.proofs.YieldSteps.{yields-Todo, yields-Leaves, through}

module _ {L G J : Type 0} (meaning : L → Meaning G J) (p : ProblemState L J) where
  abbrev Y : Node G → Given G
  Y = Yields meaning p

  abbrev S : Node G → Size
  S = size_of meaning p

  abbrev H : Node G → Type 0
  H = Shape meaning p

  abbrev C : ℕ → Node G → ℕ
  C e = claims_under e

  abbrev K : Node G → Node G → Type 0
  K m n = Kept meaning p 1 (λ e. 0) m n

  abbrev Opens : Tree G → Type 0
  Opens t = EachLeaf (λ g. IsTrue ((meaning p.logic).good g)) t

  -- each leaf's job is a work where its strategy is in the table
  pub leaf_works : (b : TacId) (left f : ℕ) (t : Tree G) → b.0 < length p.tacs → f ≤ MOST_FUEL → Opens t
      → AllByRecursion (λ (leaf : LeafAt G). IsWork meaning p (record { tac = b; left = left; fuel = f - leaf.depth; goal = leaf.goal })) (leaves_of t)
  leaf_works b left f t lt le g = by (leaves_of t) g where
    by : (ls : List (LeafAt G)) → AllByRecursion (λ (leaf : LeafAt G). IsTrue ((meaning p.logic).good leaf.goal)) ls → AllByRecursion (λ (leaf : LeafAt G). IsWork meaning p (record { tac = b; left = left; fuel = f - leaf.depth; goal = leaf.goal })) ls
    by [] h = tt
    by (l ∷ ls) h = (record { tac = lt; fuel = omega (arith, le); good = h.0 }, by ls h.1)

  pub listed_works : (bs : List TacId) (f : ℕ) (t : Tree G) → AllByRecursion (λ (b : TacId). b.0 < length p.tacs) bs → f ≤ MOST_FUEL → Opens t
      → AllByRecursion (λ (x : TacId × LeafAt G). IsWork meaning p (work_of p.tacs x.0 (f - x.1.depth) x.1.goal)) (zip bs (leaves_of t))
  listed_works bs f t lt le g = by bs (leaves_of t) lt g where
    by : (bs : List TacId) (ls : List (LeafAt G)) → AllByRecursion (λ (b : TacId). b.0 < length p.tacs) bs → AllByRecursion (λ (leaf : LeafAt G). IsTrue ((meaning p.logic).good leaf.goal)) ls
        → AllByRecursion (λ (x : TacId × LeafAt G). IsWork meaning p (work_of p.tacs x.0 (f - x.1.depth) x.1.goal)) (zip bs ls)
    by [] ls i h = tt
    by (b ∷ bs) [] i h = tt
    by (b ∷ bs) (l ∷ ls) i h = (record { tac = i.0; fuel = omega (arith, le); good = h.0 }, by bs ls i.1 h.1)

  -- all jobs by one strategy yield what it gives on the leaves
  pub leaves_yield : (b : TacId) (left : ℕ) (t : Tree G) (f : ℕ) → IsLess (LeavesGive Y t (map (leaf_job b left f) (leaves_of t)) false) (OnLeaves (EntryGives meaning p b.0 left) f t)
  leaves_yield b left t f o y =
      all_less Y (λ (leaf : LeafAt G). EntryGives meaning p b.0 left (f - leaf.depth) leaf.goal) t _ _
      (pairs_map _ (leaf_job b left f) (λ leaf q z. through (yields-Todo meaning p (record { tac = b; left = left; fuel = f - leaf.depth; goal = leaf.goal })) q z) (leaves_of t)) o y

  pub listed_yield : (bs : List TacId) (f : ℕ) (ls : List (LeafAt G)) (t : Tree G)
      → IsLess (LeavesGive Y t (map (listed_job meaning p f) (zip bs ls)) false) (All (λ (x : TacId × LeafAt G). PartGives meaning p x.0.0 (f - x.1.depth) x.1.goal) t (zip bs ls))
  listed_yield bs f ls t o y =
      all_less Y (λ (x : TacId × LeafAt G). PartGives meaning p x.0.0 (f - x.1.depth) x.1.goal) t _ _
      (pairs_map _ (listed_job meaning p f) (λ x q z. through (yields-Todo meaning p (work_of p.tacs x.0 (f - x.1.depth) x.1.goal)) q z) (zip bs ls)) o y

  module _ {X : Type 0} (job : X → Work G) where
    abbrev jobs : List X → List (Node G)
    jobs xs = map (λ x. Todo (job x)) xs

    none_claimed : (e : ℕ) (xs : List X) → total (map (C e) (jobs xs)) ≡ 0
    none_claimed e [] = refl
    none_claimed e (x ∷ xs) = let a : C e (Todo (job x)) ≡ 0 = fold-Todo (claims_step (under e)) (job x) in let b = none_claimed e xs in omega (arith, a, b)

    as_many_results : (xs : List X) → length (map (λ k. done_of k) (jobs xs)) ≡ length xs
    as_many_results xs = length-map (jobs xs) (λ k. done_of k) ∙ length-map xs (λ x. Todo (job x))

    shapes : (xs : List X) → AllByRecursion (λ x. IsWork meaning p (job x)) xs → AllByRecursion H (jobs xs)
    shapes [] a = tt
    shapes (x ∷ xs) a = (back _ _ (shape-Todo meaning p (job x)) a.0, shapes xs a.1)

    -- a node that becomes a tree with a job on each leaf
    pub planted_kept : (n : Node G) (t : Tree G) (xs : List X) → IsGoodTree meaning p t → AllByRecursion (λ x. IsWork meaning p (job x)) xs → length xs ≡ leaf_count_of t
        → IsLess (LeavesGive Y t (jobs xs) false) (Y n) → IsWithin 1 (S (Leaves t (jobs xs) false)) (S n) → K (Leaves t (jobs xs) false) n
    planted_kept n t xs g a l y s = record {
      shape = back _ _ (shape-Leaves meaning p t (jobs xs) false) (g, shapes xs a, as_many_results xs ∙ l);
      yields = λ o z. y o (subst (λ q. q o) (yields-Leaves meaning p t (jobs xs) false) z);
      sizes = s;
      epochs = λ e. (let q = fold-Leaves (claims_step (under e)) t (jobs xs) false in let r = none_claimed e xs in omega (arith, q, r));
    }

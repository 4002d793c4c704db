-- Kids that are all done as trees.
use Rattle.std.proofs.Common.{◌≡◌, ℕ, List, [], ◌∷◌, map, length, refl, ap, subst, Some, None, arith}
use Rattle.std.specs.Option.{option_map}
use Rattle.std.specs.declared.option.Option.{Option}
use Rattle.std.specs.List.{AllByRecursion, AllZip}
use Rattle.mp_logic.specs.Meaning.{Meaning}
use Rattle.mp_logic.specs.Trees.{leaf_count_of}
use Rattle.mp_logic.specs.declared.tree.Tree.{Tree}
use Rattle.mp_strategy.specs.declared.problem.ProblemState.{ProblemState}
use Rattle.mp_strategy.specs.declared.outcome.Outcome.{Outcome}
use Rattle.mp_strategy.specs.declared.outcome.Outcome.TheVariants as outcome
use Rattle.mp_strategy.specs.Strategies.{Given, EachTree}
use Rattle.mp_jobs.specs.declared.node.Node.{Node}
use Rattle.mp_jobs.specs.Costs.{Size, width_sum}
use Rattle.mp_jobs.specs.Ends.{done_of}
use Rattle.mp_jobs.specs.Epochs.{claims_under, total}
use Rattle.mp_jobs.specs.Kept.{Kept}
use Rattle.mp_jobs.specs.Settlement.{trees_by, trees_of}
use Rattle.mp_jobs.specs.Shapes.{Shape, IsGoodTree}
use Rattle.mp_jobs.specs.Sizes.{size_of}
use Rattle.mp_jobs.specs.Yields.{Yields}
use Rattle.mp_jobs.proofs.DoneNodes.{yields_own, size_done, good_own}

module _ {L G J : Type 0} (meaning : L → Meaning G J) (p : ProblemState L J) where
  abbrev Y : Node G → Given G
  Y = Yields meaning p

  abbrev S : Node G → Size
  S = size_of meaning p

  abbrev H : Node G → Type 0
  H = Shape meaning p

  abbrev C : ℕ → Node G → ℕ
  C e = claims_under e

  abbrev K : Node G → Node G → Type 0
  K m n = Kept meaning p 1 (λ e. 0) m n

  -- a fact of each kid and its tree, where all kids are trees
  module _ (P : Node G → Tree G → Type 0) (h : (n : Node G) (t : Tree G) → done_of n ≡ Some (outcome.Tree t) → H n → P n t) where
    trees_rest : (k : Node G) (ks : List (Node G)) (t : Tree G) (ts : List (Tree G)) (o : Option (List (Tree G))) → P k t → option_map (λ xs. t ∷ xs) o ≡ Some ts → ((xs : List (Tree G)) → o ≡ Some xs → AllZip P ks xs) → AllZip P (k ∷ ks) ts
    trees_rest k ks t ts None q f rest = absurd (cc)
    trees_rest k ks t ts (Some xs) q f rest = let is : t ∷ xs ≡ ts = cc in subst (λ ys. AllZip P (k ∷ ks) ys) is (q, rest xs refl)

    trees_first : (k : Node G) (ks : List (Node G)) (ts : List (Tree G)) (r : Option (Outcome G)) → done_of k ≡ r → H k → trees_by r (trees_of ks) ≡ Some ts → ((xs : List (Tree G)) → trees_of ks ≡ Some xs → AllZip P ks xs) → AllZip P (k ∷ ks) ts
    trees_first k ks ts None q s f rest = absurd (cc)
    trees_first k ks ts (Some (outcome.Failure e)) q s f rest = absurd (cc)
    trees_first k ks ts (Some (outcome.Tree t)) q s f rest = trees_rest k ks t ts (trees_of ks) (h k t q s) f rest

    trees_are : (ks : List (Node G)) (ts : List (Tree G)) → trees_of ks ≡ Some ts → AllByRecursion H ks → AllZip P ks ts
    trees_are [] ts f s = let is : [] ≡ ts = cc in subst (λ ys. AllZip P [] ys) is tt
    trees_are (k ∷ ks) ts f s = trees_first k ks ts (done_of k) refl s.0 f (λ xs g. trees_are ks xs g s.1)

  -- a kid that is done as this tree
  pub record Tells (n : Node G) (t : Tree G) : Type 0 where
    pub gives : Y n (outcome.Tree t)
    pub fine : IsGoodTree meaning p t
    pub wide : (S n).wide ≡ leaf_count_of t

  tells : (n : Node G) (t : Tree G) → done_of n ≡ Some (outcome.Tree t) → H n → Tells n t
  tells n t q h = record {
    gives = yields_own meaning p n (outcome.Tree t) q;
    fine = good_own meaning p n (outcome.Tree t) q h;
    wide = ap (λ (s : Size). s.wide) (size_done meaning p n (outcome.Tree t) q);
  }

  -- the kids are done as these trees
  abbrev pub Told : List (Node G) → List (Tree G) → Type 0
  Told ks ts = AllZip Tells ks ts

  pub tells_all : (ks : List (Node G)) (ts : List (Tree G)) → trees_of ks ≡ Some ts → AllByRecursion H ks → Told ks ts
  tells_all ks ts e h = trees_are Tells tells ks ts e h

  pub tells_each : (ks : List (Node G)) (ts : List (Tree G)) → Told ks ts → EachTree Y ks ts
  tells_each [] [] p = tt
  tells_each [] (t ∷ ts) p = p
  tells_each (k ∷ ks) [] p = p
  tells_each (k ∷ ks) (t ∷ ts) p = (p.0.gives, tells_each ks ts p.1)

  pub tells_good : (ks : List (Node G)) (ts : List (Tree G)) → Told ks ts → AllByRecursion (IsGoodTree meaning p) ts
  tells_good [] [] p = tt
  tells_good [] (t ∷ ts) p = absurd p
  tells_good (k ∷ ks) [] p = absurd p
  tells_good (k ∷ ks) (t ∷ ts) p = (p.0.fine, tells_good ks ts p.1)

  pub tells_wide : (ks : List (Node G)) (ts : List (Tree G)) → Told ks ts → width_sum (map S ks) ≡ total (map leaf_count_of ts)
  tells_wide [] [] p = refl
  tells_wide [] (t ∷ ts) p = absurd p
  tells_wide (k ∷ ks) [] p = absurd p
  tells_wide (k ∷ ks) (t ∷ ts) p = let a : (S k).wide ≡ leaf_count_of t = p.0.wide in let b = tells_wide ks ts p.1 in omega (arith, a, b)

  pub tells_many : (ks : List (Node G)) (ts : List (Tree G)) → Told ks ts → length ts ≡ length (map (λ k. done_of k) ks)
  tells_many [] [] p = refl
  tells_many [] (t ∷ ts) p = absurd p
  tells_many (k ∷ ks) [] p = absurd p
  tells_many (k ∷ ks) (t ∷ ts) p = let e = tells_many ks ts p.1 in grind arith

-- A grafted tree has no more open leaves than the trees that were grafted.
use Rattle.std.proofs.Common.{◌≡◌, ℕ, ◌+◌, ◌≤◌, List, [], ◌∷◌, map, sum, length, refl, ap, ◌∙◌, arith}
use Rattle.std.proofs.lemmas.Grind.{common_steps}
use Rattle.std.specs.List.{AllByRecursion}
use Rattle.mp_logic.specs.declared.tree.Tree.{Tree, Leaf, Step}
use Rattle.mp_logic.specs.declared.tree.JustId.{JustId}
use Rattle.mp_logic.specs.Trees.{leaf_count_of, graft_from, graft_each, graft_of}
use Rattle.mp_logic.proofs.TreeInduction.{tree_ind}
use Rattle.mp_logic.proofs.TreeSteps.{graft-Step}
use Rattle.mp_strategy.proofs.LeafCounts.{count-Leaf, count-Step as count-Step-sum}
use Rattle.mp_strategy.proofs.Steps.{graft-Leaf}
use Rattle.mp_jobs.specs.Epochs.{total}

sum_more : (n : ℕ) (ns : List ℕ) → sum (n ∷ ns) ≡ n + sum ns
sum_more n ns = grind (arith, common_steps)

sum_is : (ns : List ℕ) → sum ns ≡ total ns
sum_is [] = refl
sum_is (n ∷ ns) = sum_more n ns ∙ ap (λ k. n + k) (sum_is ns)

count-Step : {G : Type 0} (g : G) (just : JustId) (kids : List (Tree G)) → leaf_count_of (Step g just kids) ≡ total (map leaf_count_of kids)
count-Step g just kids = count-Step-sum g just kids ∙ sum_is (map leaf_count_of kids)

module _ {G : Type 0} where
  abbrev L : List (Tree G) → ℕ
  L ts = total (map leaf_count_of ts)

  -- what is left and what was taken are what was there
  record Weighs (n taken : ℕ) (ts rest : List (Tree G)) : Type 0 where
    leaves : taken + L rest ≡ L ts
    trees : n + length rest ≡ length ts

  abbrev Counts : Tree G → Type 0
  Counts t = (ts : List (Tree G)) → leaf_count_of t ≤ length ts → Weighs (leaf_count_of t) (leaf_count_of (graft_from t ts).0) ts (graft_from t ts).1

  at_leaf : (g : G) → Counts (Leaf g)
  at_leaf g [] le = absurd (let c = count-Leaf g in omega (arith, c, le))
  at_leaf g (t ∷ ts) le =
      let e = graft-Leaf g (t ∷ ts) in
      let c = count-Leaf g in
      let a : leaf_count_of (graft_from (Leaf g) (t ∷ ts)).0 ≡ leaf_count_of t = ap (λ (p : Tree G × List (Tree G)). leaf_count_of p.0) e in
      let b : L (graft_from (Leaf g) (t ∷ ts)).1 ≡ L ts = ap (λ (p : Tree G × List (Tree G)). L p.1) e in
      let d : length (graft_from (Leaf g) (t ∷ ts)).1 ≡ length ts = ap (λ (p : Tree G × List (Tree G)). length p.1) e in
      record { leaves = omega (arith, a, b); trees = omega (arith, c, d) }

  at_kids : (kids ts : List (Tree G)) → AllByRecursion Counts kids → L kids ≤ length ts → Weighs (L kids) (L (graft_each (map graft_from kids) ts).0) ts (graft_each (map graft_from kids) ts).1
  at_kids [] ts h le = record { leaves = omega arith; trees = omega arith }
  at_kids (k ∷ ks) ts h le =
      let first : Weighs (leaf_count_of k) (leaf_count_of (graft_from k ts).0) ts (graft_from k ts).1 = h.0 ts (omega (arith, le)) in
      let a : leaf_count_of (graft_from k ts).0 + L (graft_from k ts).1 ≡ L ts = first.leaves in
      let b : leaf_count_of k + length (graft_from k ts).1 ≡ length ts = first.trees in
      let rest = at_kids ks (graft_from k ts).1 h.1 (omega (arith, b, le)) in
      let c : L (graft_each (map graft_from ks) (graft_from k ts).1).0 + L (graft_each (map graft_from ks) (graft_from k ts).1).1 ≡ L (graft_from k ts).1 = rest.leaves in
      let d : L ks + length (graft_each (map graft_from ks) (graft_from k ts).1).1 ≡ length (graft_from k ts).1 = rest.trees in
      record { leaves = omega (arith, a, c); trees = omega (arith, b, d) }

  at_step : (g : G) (just : JustId) (kids : List (Tree G)) → AllByRecursion Counts kids → Counts (Step g just kids)
  at_step g just kids h ts le =
      let e = graft-Step g just kids ts in
      let n = count-Step g just kids in
      let all = at_kids kids ts h (omega (arith, n, le)) in
      let p : L (graft_each (map graft_from kids) ts).0 + L (graft_each (map graft_from kids) ts).1 ≡ L ts = all.leaves in
      let q : L kids + length (graft_each (map graft_from kids) ts).1 ≡ length ts = all.trees in
      let c = count-Step g just (graft_each (map graft_from kids) ts).0 in
      let a : leaf_count_of (graft_from (Step g just kids) ts).0 ≡ leaf_count_of (Step g just (graft_each (map graft_from kids) ts).0) = ap (λ (p : Tree G × List (Tree G)). leaf_count_of p.0) e in
      let b : L (graft_from (Step g just kids) ts).1 ≡ L (graft_each (map graft_from kids) ts).1 = ap (λ (p : Tree G × List (Tree G)). L p.1) e in
      let d : length (graft_from (Step g just kids) ts).1 ≡ length (graft_each (map graft_from kids) ts).1 = ap (λ (p : Tree G × List (Tree G)). length p.1) e in
      record { leaves = omega (arith, a, b, c, p); trees = omega (arith, n, d, q) }

  pub graft_count : (t : Tree G) (ts : List (Tree G)) → length ts ≡ leaf_count_of t → leaf_count_of (graft_of t ts) ≤ total (map leaf_count_of ts)
  graft_count t ts e = let w : Weighs (leaf_count_of t) (leaf_count_of (graft_from t ts).0) ts (graft_from t ts).1 = tree_ind Counts at_leaf at_step t ts (omega (arith, e)) in let a : leaf_count_of (graft_from t ts).0 + L (graft_from t ts).1 ≡ L ts = w.leaves in omega (arith, a)

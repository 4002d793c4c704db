-- What a settlement of the kids of a tree keeps.
use Rattle.std.proofs.Common.{◌≡◌, ℕ, ◌+◌, ◌≤◌, Bool, true, false, IsTrue, List, map, refl, sym, subst, ◌∙◌, Some, None, arith}
use Rattle.std.specs.Option.{option_or, option_map}
use Rattle.std.specs.declared.option.Option.{Option}
use Rattle.mp_logic.specs.Meaning.{Meaning}
use Rattle.mp_logic.specs.Trees.{leaf_count_of, graft_of}
use Rattle.mp_logic.specs.declared.tree.Tree.{Tree}
use Rattle.mp_strategy.specs.declared.problem.ProblemState.{ProblemState}
use Rattle.mp_strategy.specs.declared.outcome.Failure.{Failure}
use Rattle.mp_strategy.specs.declared.outcome.Outcome.TheVariants as outcome
use Rattle.mp_strategy.specs.Strategies.{Given, SomeFails, All}
use Rattle.mp_jobs.specs.declared.node.Node.{Node, Done, Leaves}
use Rattle.mp_jobs.specs.Costs.{Size, width_sum, weight_each}
use Rattle.mp_jobs.specs.Epochs.{claims_under, claims_step, total, under}
use Rattle.mp_jobs.specs.Kept.{Kept}
use Rattle.mp_jobs.specs.Settlement.{cut_kids, failing, trees_of, whole_next}
use Rattle.mp_jobs.specs.Shapes.{Shape}
use Rattle.mp_jobs.specs.Sizes.{size_of, size_step}
use Rattle.mp_jobs.specs.Yields.{LeavesGive, Yields}
use Rattle.mp_jobs.proofs.Carries.{within_by}
use Rattle.mp_jobs.proofs.CutKids.{cut_is}
use Rattle.mp_jobs.proofs.DoneNodes.{yields_only, done_size}
use Rattle.mp_jobs.proofs.FailingKid.{failing_is}
use Rattle.mp_jobs.proofs.Folds.{fold-Done, fold-Leaves}
use Rattle.mp_jobs.proofs.GoodGrafts.{each_goal_graft}
use Rattle.mp_jobs.proofs.GraftCounts.{graft_count}
use Rattle.mp_jobs.proofs.Less.{IsLess}
use Rattle.mp_jobs.proofs.ShapeSteps.{shape-Done, shape-Leaves, into, back}
use Rattle.mp_jobs.proofs.WholeKids.{tells_all, tells_each, tells_good, tells_wide, tells_many}
use Rattle.mp_jobs.proofs.YieldSteps.{yields-Done, yields-Leaves}

module _ {L G J : Type 0} (meaning : L → Meaning G J) (p : ProblemState L J) where
  abbrev Y : Node G → Given G
  Y = Yields meaning p

  abbrev S : Node G → Size
  S = size_of meaning p

  abbrev H : Node G → Type 0
  H = Shape meaning p

  abbrev C : ℕ → Node G → ℕ
  C e = claims_under e

  abbrev K : Node G → Node G → Type 0
  K m n = Kept meaning p 1 (λ e. 0) m n

  fails_leaves : (t : Tree G) (ks : List (Node G)) (c : Bool) (e : Failure G) → SomeFails Y ks e → LeavesGive Y t ks c (outcome.Failure e)
  fails_leaves t ks false e h = h
  fails_leaves t ks true e h = h

  cut_yields : (t : Tree G) (ms ks : List (Node G)) (c : Bool) → ((e : Failure G) → SomeFails Y ms e → SomeFails Y ks e) → IsLess (LeavesGive Y t ms true) (LeavesGive Y t ks c)
  cut_yields t ms ks c f (outcome.Failure e) y = fails_leaves t ks c e (f e y)
  cut_yields t ms ks c f (outcome.Tree w) y = absurd y

  whole_by : (o : Option (List (Tree G))) (t : Tree G) (ks : List (Node G)) (c : Bool) (m : Node G) → trees_of ks ≡ o → whole_next t c o ≡ Some m → H (Leaves t ks c) → K m (Leaves t ks c)
  whole_by o t ks true m q f h = absurd (cc)
  whole_by None t ks false m q f h = absurd (cc)
  whole_by (Some ts) t ks false m q f h =
      let is : Done (outcome.Tree (graft_of t ts)) ≡ m = cc in
      let s = into _ _ (shape-Leaves meaning p t ks false) h in
      let told = tells_all meaning p ks ts q s.1 in
      let n : leaf_count_of (graft_of t ts) ≤ total (map leaf_count_of ts) = graft_count t ts (tells_many meaning p ks ts told ∙ s.2) in
      let w = tells_wide meaning p ks ts told in
      subst (λ x. K x (Leaves t ks false)) is (record {
        shape = back _ _ (shape-Done meaning p (outcome.Tree (graft_of t ts))) (each_goal_graft (λ g. IsTrue ((meaning p.logic).good g)) t ts (tells_good meaning p ks ts told) s.0);
        yields = λ o y. subst (λ q. q o) (sym (yields-Leaves meaning p t ks false))
            (subst (λ x. All Y t ks x) (sym (subst (λ q. q o) (yields-Done meaning p (outcome.Tree (graft_of t ts))) y)) (ts, tells_each meaning p ks ts told, refl));
        sizes = within_by 1 _ _ _ _ (done_size meaning p (outcome.Tree (graft_of t ts))) (fold-Leaves (size_step meaning p) t ks false) (record { wide = omega (arith, n, w); heavy = omega arith });
        epochs = λ e. (let d = fold-Done (claims_step (under e)) (outcome.Tree (graft_of t ts)) in omega (arith, d));
      })

  failing_by : (o : Option (Node G)) (t : Tree G) (ks : List (Node G)) (c : Bool) (m : Node G) → failing ks ≡ o → option_or o (whole_next t c (trees_of ks)) ≡ Some m → H (Leaves t ks c) → K m (Leaves t ks c)
  failing_by None t ks c m q f h = whole_by (trees_of ks) t ks c m refl f h
  failing_by (Some k) t ks c m q f h =
      let s = into _ _ (shape-Leaves meaning p t ks c) h in
      let x = failing_is meaning p ks m (q ∙ f) s.1 in
      let wide : (S m).wide ≤ width_sum (map S ks) = x.chosen.wide_each in
      let heavy : (S m).heavy + 1 ≤ weight_each (map S ks) = x.chosen.weight_each in
      record {
        shape = x.chosen.shape;
        yields = λ o y. subst (λ q. q o) (sym (yields-Leaves meaning p t ks c)) (subst (λ z. LeavesGive Y t ks c z) (sym (yields_only meaning p m (outcome.Failure x.e) o x.is y)) (fails_leaves t ks c x.e x.fails));
        sizes = within_by 1 _ _ _ _ refl (fold-Leaves (size_step meaning p) t ks c) (record { wide = wide; heavy = omega (arith, heavy) });
        epochs = λ e. (let a : C e m ≤ total (map (C e) ks) = x.chosen.counts e in let b = fold-Leaves (claims_step (under e)) t ks c in omega (arith, a, b));
      }

  pub leaves_by : (o : Option (List (Node G))) (t : Tree G) (ks : List (Node G)) (c : Bool) (m : Node G) → cut_kids ks ≡ o → option_or (option_map (λ ms. Leaves t ms true) o) (option_or (failing ks) (whole_next t c (trees_of ks))) ≡ Some m
      → H (Leaves t ks c) → K m (Leaves t ks c)
  leaves_by None t ks c m q f h = failing_by (failing ks) t ks c m refl f h
  leaves_by (Some ms) t ks c m q f h =
      let is : Leaves t ms true ≡ m = cc in
      let s = into _ _ (shape-Leaves meaning p t ks c) h in
      let x = cut_is meaning p ks ms q s.1 in
      let wide : width_sum (map S ms) ≤ width_sum (map S ks) = x.wide in
      let heavy : weight_each (map S ms) + 1 ≤ weight_each (map S ks) = x.heavy in
      subst (λ z. K z (Leaves t ks c)) is (record {
        shape = back _ _ (shape-Leaves meaning p t ms true) (s.0, x.shapes, x.last);
        yields = λ o y. subst (λ q. q o) (sym (yields-Leaves meaning p t ks c)) (cut_yields t ms ks c x.fails o (subst (λ q. q o) (yields-Leaves meaning p t ms true) y));
        sizes = within_by 1 _ _ _ _ (fold-Leaves (size_step meaning p) t ms true) (fold-Leaves (size_step meaning p) t ks c) (record { wide = wide; heavy = omega (arith, heavy) });
        epochs = λ e. (let a : total (map (C e) ms) ≤ total (map (C e) ks) = x.counts e in let b = fold-Leaves (claims_step (under e)) t ks c in let d = fold-Leaves (claims_step (under e)) t ms true in omega (arith, a, b, d));
      })

-- What a settlement of a race keeps.
use Rattle.std.proofs.Common.{◌≡◌, ℕ, ◌≤◌, Bool, true, false, List, map, refl, sym, subst, ◌∙◌, Some, None, arith}
use Rattle.std.specs.Option.{option_or}
use Rattle.std.specs.declared.option.Option.{Option}
use Rattle.std.specs.List.{AllByRecursion}
use Rattle.mp_logic.specs.Meaning.{Meaning}
use Rattle.mp_strategy.specs.declared.problem.ProblemState.{ProblemState}
use Rattle.mp_strategy.specs.declared.outcome.Outcome.{Outcome}
use Rattle.mp_strategy.specs.declared.outcome.Outcome.TheVariants as outcome
use Rattle.mp_strategy.specs.Strategies.{Given, RaceGives}
use Rattle.mp_jobs.specs.declared.node.Node.{Node, Race}
use Rattle.mp_jobs.specs.Costs.{Size, weight_sum, widest}
use Rattle.mp_jobs.specs.Ends.{done_of}
use Rattle.mp_jobs.specs.Epochs.{claims_under, claims_step, total, under}
use Rattle.mp_jobs.specs.Kept.{Kept}
use Rattle.mp_jobs.specs.Settlement.{first_tree, all_failed, last_of, when}
use Rattle.mp_jobs.specs.Shapes.{Shape}
use Rattle.mp_jobs.specs.Sizes.{size_of, size_step}
use Rattle.mp_jobs.specs.Yields.{Yields}
use Rattle.mp_jobs.proofs.Carries.{within_by}
use Rattle.mp_jobs.proofs.Chosen.{Chosen}
use Rattle.mp_jobs.proofs.DoneNodes.{yields_only}
use Rattle.mp_jobs.proofs.Folds.{fold-Race}
use Rattle.mp_jobs.proofs.RaceKids.{first_wins, last_loses}
use Rattle.mp_jobs.proofs.ShapeSteps.{shape-Race, into}
use Rattle.mp_jobs.proofs.YieldSteps.{yields-Race}

module _ {L G J : Type 0} (meaning : L → Meaning G J) (p : ProblemState L J) where
  abbrev Y : Node G → Given G
  Y = Yields meaning p

  abbrev S : Node G → Size
  S = size_of meaning p

  abbrev H : Node G → Type 0
  H = Shape meaning p

  abbrev C : ℕ → Node G → ℕ
  C e = claims_under e

  abbrev K : Node G → Node G → Type 0
  K m n = Kept meaning p 1 (λ e. 0) m n

  race_kept : (m : Node G) (ks : List (Node G)) (r : Outcome G) → done_of m ≡ Some r → RaceGives Y ks r → Chosen meaning p m ks → K m (Race ks)
  race_kept m ks r q g c =
      let wide : (S m).wide ≤ widest (map S ks) = c.wide_most in
      let heavy : (S m).heavy ≤ weight_sum (map S ks) = c.weight_sum in
      record {
        shape = c.shape;
        yields = λ o y. subst (λ q. q o) (sym (yields-Race meaning p ks)) (subst (λ x. RaceGives Y ks x) (sym (yields_only meaning p m r o q y)) g);
        sizes = within_by 1 _ _ _ _ refl (fold-Race (size_step meaning p) ks) (record { wide = wide; heavy = omega (arith, heavy) });
        epochs = λ e. (let a : C e m ≤ total (map (C e) ks) = c.counts e in let b = fold-Race (claims_step (under e)) ks in omega (arith, a, b));
      }

  race_last : (b : Bool) (ks : List (Node G)) (m : Node G) → all_failed ks ≡ b → when b (last_of ks) ≡ Some m → AllByRecursion H ks → K m (Race ks)
  race_last false ks m q f h = absurd (cc)
  race_last true ks m q f h = let l = last_loses meaning p ks m q f h in race_kept m ks (outcome.Failure l.e) l.is l.fails l.chosen

  pub race_by : (o : Option (Node G)) (ks : List (Node G)) (m : Node G) → first_tree ks ≡ o → option_or o (when (all_failed ks) (last_of ks)) ≡ Some m → H (Race ks) → K m (Race ks)
  race_by None ks m q f h = let s = into _ _ (shape-Race meaning p ks) h in race_last (all_failed ks) ks m refl f s.1
  race_by (Some k) ks m q f h =
      let s = into _ _ (shape-Race meaning p ks) h in
      let g : first_tree ks ≡ Some m = q ∙ f in
      let w = first_wins meaning p ks m g s.1 in
      race_kept m ks (outcome.Tree w.t) w.is w.gives w.chosen

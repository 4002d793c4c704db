-- The kid that failed where all kids left of it are trees.
use Rattle.std.proofs.Common.{◌≡◌, ℕ, List, [], ◌∷◌, refl, subst, Some, None, inl, inr}
use Rattle.std.specs.declared.option.Option.{Option}
use Rattle.std.specs.List.{AllByRecursion}
use Rattle.mp_logic.specs.Meaning.{Meaning}
use Rattle.mp_strategy.specs.declared.problem.ProblemState.{ProblemState}
use Rattle.mp_strategy.specs.declared.outcome.Failure.{Failure}
use Rattle.mp_strategy.specs.declared.outcome.Outcome.{Outcome}
use Rattle.mp_strategy.specs.declared.outcome.Outcome.TheVariants as outcome
use Rattle.mp_strategy.specs.Strategies.{Given, SomeFails}
use Rattle.mp_jobs.specs.declared.node.Node.{Node}
use Rattle.mp_jobs.specs.Costs.{Size}
use Rattle.mp_jobs.specs.Ends.{done_of}
use Rattle.mp_jobs.specs.Epochs.{claims_under}
use Rattle.mp_jobs.specs.Settlement.{failing_by, failing}
use Rattle.mp_jobs.specs.Shapes.{Shape}
use Rattle.mp_jobs.specs.Sizes.{size_of}
use Rattle.mp_jobs.specs.Yields.{Yields}
use Rattle.mp_jobs.proofs.Chosen.{Chosen, chosen_here, chosen_later}
use Rattle.mp_jobs.proofs.DoneNodes.{yields_own}

module _ {L G J : Type 0} (meaning : L → Meaning G J) (p : ProblemState L J) where
  abbrev Y : Node G → Given G
  Y = Yields meaning p

  abbrev S : Node G → Size
  S = size_of meaning p

  abbrev H : Node G → Type 0
  H = Shape meaning p

  abbrev C : ℕ → Node G → ℕ
  C e = claims_under e

  -- the leftmost failure, all left of it being trees
  pub record Fails (m : Node G) (ks : List (Node G)) : Type 0 where
    pub e : Failure G
    pub is : done_of m ≡ Some (outcome.Failure e)
    pub fails : SomeFails Y ks e
    pub chosen : Chosen meaning p m ks

  fails_by : (k : Node G) (ks : List (Node G)) (m : Node G) (r : Option (Outcome G)) → done_of k ≡ r → failing_by r k (failing ks) ≡ Some m → (failing ks ≡ Some m → AllByRecursion H ks → Fails m ks) → AllByRecursion H (k ∷ ks) → Fails m (k ∷ ks)
  fails_by k ks m None q f rest h = absurd (cc)
  fails_by k ks m (Some (outcome.Failure e)) q f rest h =
      let is : k ≡ m = cc in
      subst (λ x. Fails x (k ∷ ks)) is (record { e = e; is = q; fails = inl (yields_own meaning p k (outcome.Failure e) q); chosen = chosen_here meaning p k ks h.0 })
  fails_by k ks m (Some (outcome.Tree t)) q f rest h =
      let r : Fails m ks = rest f h.1 in
      record { e = r.e; is = r.is; fails = inr (t, yields_own meaning p k (outcome.Tree t) q, r.fails); chosen = chosen_later meaning p m k ks r.chosen }

  pub failing_is : (ks : List (Node G)) (m : Node G) → failing ks ≡ Some m → AllByRecursion H ks → Fails m ks
  failing_is [] m f h = absurd (cc)
  failing_is (k ∷ ks) m f h = fails_by k ks m (done_of k) refl f (failing_is ks m) h

-- What a settlement of an Else node keeps.
use Rattle.std.proofs.Common.{◌≡◌, ℕ, refl, sym, subst, Some, None, inl, inr, arith}
use Rattle.std.specs.declared.option.Option.{Option}
use Rattle.mp_logic.specs.Meaning.{Meaning}
use Rattle.mp_strategy.specs.declared.problem.ProblemState.{ProblemState}
use Rattle.mp_strategy.specs.declared.outcome.Outcome.{Outcome}
use Rattle.mp_strategy.specs.declared.outcome.Outcome.TheVariants as outcome
use Rattle.mp_strategy.specs.Strategies.{Given}
use Rattle.mp_jobs.specs.declared.node.Node.{Node, Else}
use Rattle.mp_jobs.specs.Costs.{Size}
use Rattle.mp_jobs.specs.Ends.{done_of}
use Rattle.mp_jobs.specs.Epochs.{claims_under, claims_step, under}
use Rattle.mp_jobs.specs.Kept.{Kept}
use Rattle.mp_jobs.specs.Settlement.{once_done, else_next}
use Rattle.mp_jobs.specs.Shapes.{Shape}
use Rattle.mp_jobs.specs.Sizes.{size_of, size_step}
use Rattle.mp_jobs.specs.Yields.{Yields}
use Rattle.mp_jobs.proofs.Carries.{within_by}
use Rattle.mp_jobs.proofs.DoneNodes.{yields_own, yields_only}
use Rattle.mp_jobs.proofs.Folds.{fold-Else}
use Rattle.mp_jobs.proofs.ShapeSteps.{shape-Else, into}
use Rattle.mp_jobs.proofs.YieldSteps.{yields-Else}

module _ {L G J : Type 0} (meaning : L → Meaning G J) (p : ProblemState L J) where
  abbrev Y : Node G → Given G
  Y = Yields meaning p

  abbrev S : Node G → Size
  S = size_of meaning p

  abbrev H : Node G → Type 0
  H = Shape meaning p

  abbrev C : ℕ → Node G → ℕ
  C e = claims_under e

  abbrev K : Node G → Node G → Type 0
  K m n = Kept meaning p 1 (λ e. 0) m n

  pub else_by : (r : Option (Outcome G)) (a b m : Node G) → done_of a ≡ r → once_done r (else_next a b) ≡ Some m → H (Else a b) → K m (Else a b)
  else_by None a b m q f h = absurd (cc)
  else_by (Some (outcome.Tree t)) a b m q f h =
      let is : a ≡ m = cc in
      let s = into _ _ (shape-Else meaning p a b) h in
      subst (λ x. K x (Else a b)) is (record {
        shape = s.0;
        yields = λ o y. subst (λ q. q o) (sym (yields-Else meaning p a b)) (let e = yields_only meaning p a (outcome.Tree t) o q y in inl (t, yields_own meaning p a (outcome.Tree t) q, e));
        sizes = within_by 1 _ _ _ _ refl (fold-Else (size_step meaning p) a b) (record { wide = omega arith; heavy = omega arith });
        epochs = λ e. (let c = fold-Else (claims_step (under e)) a b in omega (arith, c));
      })
  else_by (Some (outcome.Failure e)) a b m q f h =
      let is : b ≡ m = cc in
      let s = into _ _ (shape-Else meaning p a b) h in
      subst (λ x. K x (Else a b)) is (record {
        shape = s.1;
        yields = λ o y. subst (λ q. q o) (sym (yields-Else meaning p a b)) (inr (e, yields_own meaning p a (outcome.Failure e) q, y));
        sizes = within_by 1 _ _ _ _ refl (fold-Else (size_step meaning p) a b) (record { wide = omega arith; heavy = omega arith });
        epochs = λ e. (let c = fold-Else (claims_step (under e)) a b in omega (arith, c));
      })

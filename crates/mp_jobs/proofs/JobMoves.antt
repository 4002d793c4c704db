-- What the rules on jobs keep.
use Rattle.std.proofs.Common.{◌≡◌, ℕ, ◌<◌, ◌==◌, ◌&&◌, Bool, true, false, refl, ap, sym, subst, ◌∙◌, Some, arith}
use Rattle.std.proofs.lemmas.Bool.{and_parts}
use Rattle.mp_logic.specs.Meaning.{Meaning, IsLogic}
use Rattle.mp_strategy.specs.declared.problem.ProblemState.{ProblemState}
use Rattle.mp_strategy.specs.declared.work.Work.{Work}
use Rattle.mp_strategy.specs.Strategies.{Evals}
use Rattle.mp_jobs.specs.declared.node.Node.{Node, Todo, Claimed}
use Rattle.mp_jobs.specs.Costs.{Size, IsWithin, work_size}
use Rattle.mp_jobs.specs.Epochs.{one_if, claims_under, claims_step, under}
use Rattle.mp_jobs.specs.Jobs.{some_if, same_work, claim_rule, place_rule, reclaim_rule, lose_rule}
use Rattle.mp_jobs.specs.Kept.{Moves}
use Rattle.mp_jobs.specs.Refines.{Refines}
use Rattle.mp_jobs.specs.Sizes.{size_of, size_step}
use Rattle.mp_jobs.proofs.Exact.{exact}
use Rattle.mp_jobs.proofs.Folds.{fold-Todo, fold-Claimed}
use Rattle.mp_jobs.proofs.Forms.{done-Todo, done-Claimed}
use Rattle.mp_jobs.proofs.JobRules.{todos_by, claims_by}
use Rattle.mp_jobs.proofs.ShapeSteps.{shape-Todo, shape-Claimed, into, back}
use Rattle.mp_jobs.proofs.YieldSteps.{yields-Todo, yields-Claimed}

module _ {L G J : Type 0} (meaning : L → Meaning G J) (p : ProblemState L J) where
  abbrev S : Node G → Size
  S = size_of meaning p

  abbrev C : ℕ → Node G → ℕ
  C e = claims_under e

  abbrev R : (ℕ → ℕ) → Node G → Node G → Type 0
  R more m n = Moves meaning p 0 more m n

  size_same : (a b z : Size) → a ≡ z → b ≡ z → IsWithin 0 a b
  size_same a b z e f =
      let w : a.wide ≡ b.wide = ap (λ (s : Size). s.wide) (e ∙ sym f) in
      let h : a.heavy ≡ b.heavy = ap (λ (s : Size). s.heavy) (e ∙ sym f) in
      record { wide = omega (arith, w); heavy = omega (arith, h) }

  counted : (epoch e who : ℕ) (w : Work G) → C e (Claimed epoch who w) ≡ one_if (epoch == e)
  counted epoch e who w = fold-Claimed (claims_step (under e)) epoch who w

  uncounted : (e : ℕ) (w : Work G) → C e (Todo w) ≡ 0
  uncounted e w = fold-Todo (claims_step (under e)) w

  claimed_from : (epoch who : ℕ) (w : Work G) → R (λ e. one_if (epoch == e)) (Claimed epoch who w) (Todo w)
  claimed_from epoch who w = record {
    stays = λ o e. absurd (let n = done-Todo w in (cc));
    kept = λ h. record {
      shape = back _ _ (shape-Claimed meaning p epoch who w) (into _ _ (shape-Todo meaning p w) h);
      yields = λ o y. subst (λ q. q o) (sym (yields-Todo meaning p w)) (subst (λ q. q o) (yields-Claimed meaning p epoch who w) y);
      sizes = size_same _ _ _ (fold-Claimed (size_step meaning p) epoch who w) (fold-Todo (size_step meaning p) w);
      epochs = λ e. (let a = counted epoch e who w in let b = uncounted e w in omega (arith, a, b));
    };
  }

  pub claim_moves : (epoch who : ℕ) (n m : Node G) → claim_rule epoch who n ≡ Some m → R (λ e. one_if (epoch == e)) m n
  claim_moves epoch who = todos_by (R (λ e. one_if (epoch == e))) (λ w. Some (Claimed epoch who w))
      (λ w m e. (let is : Claimed epoch who w ≡ m = cc in subst (λ x. R (λ e. one_if (epoch == e)) x (Todo w)) is (claimed_from epoch who w)))

  some_is : {A : Type 0} (b : Bool) (a m : A) → some_if b a ≡ Some m → (b ≡ true) × (a ≡ m)
  some_is true a m e = (refl, cc)
  some_is false a m e = absurd (cc)

  reclaimed_from : (old epoch who : ℕ) (w : Work G) → R (λ e. one_if (epoch == e)) (Claimed epoch 0 w) (Claimed old who w)
  reclaimed_from old epoch who w = record {
    stays = λ o e. absurd (let n = done-Claimed old who w in (cc));
    kept = λ h. record {
      shape = back _ _ (shape-Claimed meaning p epoch 0 w) (into _ _ (shape-Claimed meaning p old who w) h);
      yields = λ o y. subst (λ q. q o) (sym (yields-Claimed meaning p old who w)) (subst (λ q. q o) (yields-Claimed meaning p epoch 0 w) y);
      sizes = size_same _ _ _ (fold-Claimed (size_step meaning p) epoch 0 w) (fold-Claimed (size_step meaning p) old who w);
      epochs = λ e. (let a = counted epoch e 0 w in omega (arith, a));
    };
  }

  pub reclaim_moves : (old epoch : ℕ) (n m : Node G) → reclaim_rule old epoch n ≡ Some m → R (λ e. one_if (epoch == e)) m n
  reclaim_moves old epoch = claims_by (R (λ e. one_if (epoch == e))) (λ e who w. some_if (e == old) (Claimed epoch 0 w))
      (λ e who w m f. (let is = some_is (e == old) (Claimed epoch 0 w) m f in subst (λ x. R (λ e. one_if (epoch == e)) x (Claimed e who w)) is.1 (reclaimed_from e epoch who w)))

  lost_from : (old who : ℕ) (w : Work G) → R (λ e. 0) (Todo w) (Claimed old who w)
  lost_from old who w = record {
    stays = λ o e. absurd (let n = done-Claimed old who w in (cc));
    kept = λ h. record {
      shape = back _ _ (shape-Todo meaning p w) (into _ _ (shape-Claimed meaning p old who w) h);
      yields = λ o y. subst (λ q. q o) (sym (yields-Claimed meaning p old who w)) (subst (λ q. q o) (yields-Todo meaning p w) y);
      sizes = size_same _ _ _ (fold-Todo (size_step meaning p) w) (fold-Claimed (size_step meaning p) old who w);
      epochs = λ e. (let b = uncounted e w in omega (arith, b));
    };
  }

  pub lose_moves : (who : ℕ) (n m : Node G) → lose_rule who n ≡ Some m → R (λ e. 0) m n
  lose_moves who = claims_by (R (λ e. 0)) (λ e other w. some_if (other == who) (Todo w))
      (λ e other w m f. (let is = some_is (other == who) (Todo w) m f in subst (λ x. R (λ e. 0) x (Claimed e other w)) is.1 (lost_from e other w)))

  pub place_moves : IsLogic (meaning p.logic) → (epoch : ℕ) (work : Work G) (new : Node G) → Refines meaning p new work
      → (n m : Node G) → place_rule (meaning p.logic).same epoch work new n ≡ Some m → Moves meaning p 1 (λ e. 0) m n
  place_moves lawful epoch work new r = claims_by (Moves meaning p 1 (λ e. 0)) (λ e who w. some_if ((e == epoch) && same_work (meaning p.logic).same w work) new)
      (λ e who w m f. (
      let is = some_is ((e == epoch) && same_work (meaning p.logic).same w work) new m f in
      let both = and_parts (e == epoch) (same_work (meaning p.logic).same w work) is.0 in
      let w-is : work ≡ w = sym (exact (meaning p.logic) lawful w work both.1) in
      let lighter : (S new).heavy < (work_size meaning p work).heavy = r.lighter in
      subst (λ x. Moves meaning p 1 (λ e. 0) x (Claimed e who w)) is.1 (record {
        stays = λ o g. absurd (let n = done-Claimed e who w in (cc));
        kept = λ h. record {
          shape = r.shape;
          yields = λ o y. subst (λ q. q o) (sym (yields-Claimed meaning p e who w)) (subst (λ v. Evals meaning p v o) w-is (r.yields o y));
          sizes = subst (λ z. IsWithin 1 (S new) z) (ap (work_size meaning p) w-is ∙ sym (fold-Claimed (size_step meaning p) e who w)) (record { wide = r.no_wider; heavy = omega (arith, lighter) });
          epochs = λ k. (let u = r.unclaimed k in omega (arith, u));
        };
      })))

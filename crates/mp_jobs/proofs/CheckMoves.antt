-- What a settlement of a Check node keeps.
use Rattle.std.proofs.Common.{◌≡◌, ℕ, ◌≤◌, Bool, true, false, refl, ap, sym, subst, Some, None, inl, inr, arith}
use Rattle.std.specs.declared.option.Option.{Option}
use Rattle.std.specs.Prelude.{slice_get}
use Rattle.mp_logic.specs.Meaning.{Meaning}
use Rattle.mp_logic.specs.Trees.{leaf_count_of}
use Rattle.mp_logic.specs.declared.tree.Tree.{Tree}
use Rattle.mp_strategy.specs.declared.problem.ProblemState.{ProblemState}
use Rattle.mp_strategy.specs.declared.work.Work.{Work}
use Rattle.mp_strategy.specs.declared.outcome.Failure.{Failure}
use Rattle.mp_strategy.specs.declared.outcome.Outcome.{Outcome}
use Rattle.mp_strategy.specs.declared.outcome.Outcome.TheVariants as outcome
use Rattle.mp_strategy.specs.Strategies.{Given}
use Rattle.mp_jobs.specs.declared.node.Node.{Node, Done, Check}
use Rattle.mp_jobs.specs.Costs.{Size, IsWithin}
use Rattle.mp_jobs.specs.Ends.{done_of}
use Rattle.mp_jobs.specs.Epochs.{claims_under}
use Rattle.mp_jobs.specs.Kept.{Kept}
use Rattle.mp_jobs.specs.Settlement.{once_done, check_next}
use Rattle.mp_jobs.specs.Shapes.{Shape}
use Rattle.mp_jobs.specs.Sizes.{width_of, size_of, size_step}
use Rattle.mp_jobs.specs.Yields.{Yields}
use Rattle.std.specs.Prelude.{◌==◌, if◌then◌else◌}
use Rattle.mp_logic.specs.Trees.{leaves_of}
use Rattle.mp_strategy.specs.declared.tactic.Tac.{Tac}
use Rattle.mp_strategy.specs.declared.tactic.Tac.TheVariants as tac
use Rattle.mp_strategy.specs.declared.outcome.Kind.TheVariants as kind
use Rattle.mp_strategy.specs.Laws.{IsGood}
use Rattle.mp_strategy.specs.Strategies.{failure, only_leaf}
use Rattle.mp_jobs.specs.Yields.{CheckGives}
use Rattle.mp_jobs.proofs.BecomesDone.{becomes_done}
use Rattle.mp_jobs.proofs.DoneNodes.{yields_own, size_done, good_own}
use Rattle.mp_jobs.proofs.Folds.{fold-Check}
use Rattle.mp_jobs.proofs.ShapeSteps.{shape-Check, into}
use Rattle.mp_jobs.proofs.YieldSteps.{yields-Check}

module _ {L G J : Type 0} (meaning : L → Meaning G J) (p : ProblemState L J) where
  abbrev Y : Node G → Given G
  Y = Yields meaning p

  abbrev S : Node G → Size
  S = size_of meaning p

  abbrev H : Node G → Type 0
  H = Shape meaning p

  abbrev C : ℕ → Node G → ℕ
  C e = claims_under e

  abbrev K : Node G → Node G → Type 0
  K m n = Kept meaning p 1 (λ e. 0) m n

  abbrev Good : Outcome G → Type 0
  Good o = IsGood (meaning p.logic) o

  either_good : (b : Bool) (q r : Outcome G) → Good q → Good r → Good (if b then q else r)
  either_good true q r g h = g
  either_good false q r g h = h

  either_wide : (b : Bool) (q r : Outcome G) (n : ℕ) → width_of q ≤ n → width_of r ≤ n → width_of (if b then q else r) ≤ n
  either_wide true q r n g h = g
  either_wide false q r n g h = h

  check_done : (t : Option Tac) (w : Work G) (f : Node G) (o q : Outcome G) → slice_get p.tacs w.tac.0 ≡ t → done_of f ≡ Some o → Good q → CheckGives meaning p t w (Y f) q → width_of q ≤ width_of o → K (Done q) (Check w f)
  check_done t w f o q at r g y le =
      becomes_done meaning p (Check w f) q g (subst (λ a. a q) (sym (yields-Check meaning p w f)) (subst (λ a. CheckGives meaning p a w (Y f) q) (sym at) y))
      (let a : (S f).wide ≡ width_of o = ap (λ (s : Size). s.wide) (size_done meaning p f o r) in
      subst (λ z. IsWithin 1 (record { wide = width_of q; heavy = 0 }) z) (sym (fold-Check (size_step meaning p) w f)) (record { wide = omega (arith, a, le); heavy = omega arith }))

  -- the part failed
  check_failed : (t : Option Tac) (w : Work G) (f m : Node G) (d : Failure G) → slice_get p.tacs w.tac.0 ≡ t → done_of f ≡ Some (outcome.Failure d) → Done (outcome.Failure d) ≡ m → H (Check w f)
      → CheckGives meaning p t w (Y f) (outcome.Failure d) → K m (Check w f)
  check_failed t w f m d at r is h y =
      let s = into _ _ (shape-Check meaning p w f) h in
      subst (λ x. K x (Check w f)) is (check_done t w f (outcome.Failure d) (outcome.Failure d) at r (good_own meaning p f (outcome.Failure d) r s.2) y (omega arith))

  -- the part gave a tree, which stays or makes the work fail
  check_tree : (t : Option Tac) (w : Work G) (f m : Node G) (b : Bool) (q r : Outcome G) (u : Tree G) → slice_get p.tacs w.tac.0 ≡ t → done_of f ≡ Some (outcome.Tree u) → Done (if b then q else r) ≡ m
      → Good q → Good r → width_of q ≤ leaf_count_of u → width_of r ≤ leaf_count_of u → CheckGives meaning p t w (Y f) (if b then q else r) → K m (Check w f)
  check_tree t w f m b q r u at e is gq gr wq wr y =
      subst (λ x. K x (Check w f)) is (check_done t w f (outcome.Tree u) (if b then q else r) at e (either_good b q r gq gr) y (either_wide b q r (leaf_count_of u) wq wr))

  check_by : (t : Option Tac) (r : Option (Outcome G)) (w : Work G) (f m : Node G) → slice_get p.tacs w.tac.0 ≡ t → done_of f ≡ r → once_done r (check_next meaning p t w) ≡ Some m → H (Check w f) → K m (Check w f)
  check_by t None w f m at r e h = absurd (cc)
  check_by None (Some o) w f m at r e h = absurd (cc)
  check_by (Some tac.Id) (Some o) w f m at r e h = absurd (cc)
  check_by (Some tac.Fail) (Some o) w f m at r e h = absurd (cc)
  check_by (Some (tac.Step j)) (Some o) w f m at r e h = absurd (cc)
  check_by (Some (tac.Then x z)) (Some o) w f m at r e h = absurd (cc)
  check_by (Some (tac.ThenL x bs)) (Some o) w f m at r e h = absurd (cc)
  check_by (Some (tac.Else x z)) (Some o) w f m at r e h = absurd (cc)
  check_by (Some (tac.Race bs)) (Some o) w f m at r e h = absurd (cc)
  check_by (Some (tac.Repeat n x)) (Some o) w f m at r e h = absurd (cc)
  check_by (Some (tac.Progress x)) (Some (outcome.Failure d)) w f m at r e h = check_failed (Some (tac.Progress x)) w f m d at r (cc) h (inl (d, yields_own meaning p f (outcome.Failure d) r, refl))
  check_by (Some (tac.Progress x)) (Some (outcome.Tree t)) w f m at r e h =
      let s = into _ _ (shape-Check meaning p w f) h in
      check_tree (Some (tac.Progress x)) w f m (only_leaf (meaning p.logic).same (leaves_of t) w.goal) (failure kind.NoProgress w.tac.0 w.goal) (outcome.Tree t) t at r (cc) s.0.good (good_own meaning p f (outcome.Tree t) r s.2) (omega arith) (omega arith)
      (inr (t, yields_own meaning p f (outcome.Tree t) r, refl))
  check_by (Some (tac.Complete x)) (Some (outcome.Failure d)) w f m at r e h = check_failed (Some (tac.Complete x)) w f m d at r (cc) h (inl (d, yields_own meaning p f (outcome.Failure d) r, refl))
  check_by (Some (tac.Complete x)) (Some (outcome.Tree t)) w f m at r e h =
      let s = into _ _ (shape-Check meaning p w f) h in
      check_tree (Some (tac.Complete x)) w f m (leaf_count_of t == 0) (outcome.Tree t) (failure kind.Incomplete w.tac.0 w.goal) t at r (cc) (good_own meaning p f (outcome.Tree t) r s.2) s.0.good (omega arith) (omega arith)
      (inr (t, yields_own meaning p f (outcome.Tree t) r, refl))

  pub check_kept : (w : Work G) (f m : Node G) → once_done (done_of f) (check_next meaning p (slice_get p.tacs w.tac.0) w) ≡ Some m → H (Check w f) → K m (Check w f)
  check_kept w f m e h = check_by (slice_get p.tacs w.tac.0) (done_of f) w f m refl refl e h

-- A job that is expanded yields no more than its work gives.
use Rattle.std.proofs.Common.{◌≡◌, ℕ, zero, suc, ◌-◌, map, length, Some, refl, subst, arith}
use Rattle.std.specs.declared.option.Option.{Option}
use Rattle.std.specs.Prelude.{slice_get}
use Rattle.std.specs.List.{AllByRecursion}
use Rattle.mp_logic.specs.Meaning.{Meaning}
use Rattle.mp_logic.specs.declared.tree.Tree.{Tree}
use Rattle.mp_strategy.specs.declared.problem.ProblemState.{ProblemState}
use Rattle.mp_strategy.specs.declared.tactic.Tac.{Tac}
use Rattle.mp_strategy.specs.declared.tactic.Tac.TheVariants as tac
use Rattle.mp_strategy.specs.declared.tactic.TacId.{TacId}
use Rattle.mp_strategy.specs.declared.work.Work.{Work}
use Rattle.mp_strategy.specs.declared.outcome.Outcome.{Outcome}
use Rattle.mp_strategy.specs.Fits.{parts_of}
use Rattle.mp_strategy.specs.Works.{work_of}
use Rattle.mp_strategy.specs.Strategies.{Given, Gives, OnLeaves, Listed, as_many, RepeatGives, progressed, completed, Row, Evals}
use Rattle.mp_strategy.proofs.Unfolds.{IsBehind}
use Rattle.mp_jobs.specs.declared.node.Node.{Node, Done, Then, Check}
use Rattle.mp_jobs.specs.Expansion.{part_job, repeated, expansion_by, expansion}
use Rattle.mp_jobs.specs.Yields.{EntryGives, PartGives, ThenGives, CheckGives, Yields}
use Rattle.mp_jobs.proofs.Less.{IsLess, race_less, pairs_map, less_same, else_less, onward_less, repeat_step_less}
use Rattle.mp_jobs.proofs.Rows.{to_row, from_row}
use Rattle.mp_jobs.proofs.YieldSteps.{yields-Todo, yields-Done, yields-Then, yields-Check, yields-Else, yields-Race, through}

module _ {L G J : Type 0} (meaning : L → Meaning G J) (p : ProblemState L J) where
  abbrev Y : Node G → Given G
  Y = Yields meaning p

  abbrev W : ℕ → Gives G
  W = PartGives meaning p

  -- the job of a part yields what the part gives
  part_less : (w : Work G) (a : TacId) → IsLess (Y (part_job meaning p w a)) (W a.0 w.fuel w.goal)
  part_less w a o y = through (yields-Todo meaning p (work_of p.tacs a w.fuel w.goal)) o y

  done_less : (q o : Outcome G) → Y (Done q) o → o ≡ q
  done_less q o y = through (yields-Done meaning p q) o y

  then_less : (w : Work G) (a : TacId) (t : Option Tac) → slice_get p.tacs w.tac.0 ≡ t → (o : Outcome G) → Y (Then w (part_job meaning p w a)) o → ThenGives meaning p t w (Y (part_job meaning p w a)) o
  then_less w a t e o y =
      subst (λ q. ThenGives meaning p q w (Y (part_job meaning p w a)) o) e (through (yields-Then meaning p w (part_job meaning p w a)) o y)

  check_less : (w : Work G) (a : TacId) (t : Option Tac) → slice_get p.tacs w.tac.0 ≡ t → (o : Outcome G) → Y (Check w (part_job meaning p w a)) o → CheckGives meaning p t w (Y (part_job meaning p w a)) o
  check_less w a t e o y =
      subst (λ q. CheckGives meaning p q w (Y (part_job meaning p w a)) o) e (through (yields-Check meaning p w (part_job meaning p w a)) o y)

  repeat_less : (w : Work G) (n : ℕ) (a : TacId) (left : ℕ) → w.left ≡ left → slice_get p.tacs w.tac.0 ≡ Some (tac.Repeat n a)
      → ((m f : ℕ) (g : G) → IsLess (EntryGives meaning p w.tac.0 m f g) (RepeatGives (W a.0) m f g))
      → (o : Outcome G) → Y (repeated meaning p left w a) o → RepeatGives (W a.0) left w.fuel w.goal o
  repeat_less w n a zero l e h o y = done_less _ o y
  repeat_less w n a (suc m) l e h o y =
      let k : w.left - 1 ≡ m = omega (arith, l) in
      repeat_step_less (Y (part_job meaning p w a)) (W a.0 w.fuel w.goal) (EntryGives meaning p w.tac.0 (w.left - 1)) (RepeatGives (W a.0) m) (part_less w a)
      (λ f g o y. h m f g o (subst (λ i. EntryGives meaning p w.tac.0 i f g o) k y)) w.fuel w.goal o (then_less w a _ e o y)

  by_tac : (t : Tac) (w : Work G) → slice_get p.tacs w.tac.0 ≡ Some t → AllByRecursion (IsBehind w.tac.0 (length p.tacs)) (parts_of t) → (o : Outcome G)
      → Y (expansion_by meaning p (Some t) w) o → Row (meaning p.logic) p.justs t w.tac.0 W w.left w.fuel w.goal o
  by_tac tac.Id w e parts o y = done_less _ o y
  by_tac tac.Fail w e parts o y = done_less _ o y
  by_tac (tac.Step j) w e parts o y = done_less _ o y
  by_tac (tac.Then a b) w e parts o y =
      let on : Tree G → Given G = OnLeaves (W b.0) w.fuel in
      onward_less (Y (part_job meaning p w a)) (W a.0 w.fuel w.goal) on on (part_less w a) (λ t. less_same (on t)) o (then_less w a _ e o y)
  by_tac (tac.ThenL a bs) w e parts o y =
      let on : Tree G → Given G = λ t. Listed (as_many bs t) W w.tac.0 bs w.fuel w.goal t in
      onward_less (Y (part_job meaning p w a)) (W a.0 w.fuel w.goal) on on (part_less w a) (λ t. less_same (on t)) o (then_less w a _ e o y)
  by_tac (tac.Else a b) w e parts o y =
      else_less (Y (part_job meaning p w a)) (W a.0 w.fuel w.goal) (Y (part_job meaning p w b)) (W b.0 w.fuel w.goal) (part_less w a) (part_less w b) o
      (through (yields-Else meaning p (part_job meaning p w a) (part_job meaning p w b)) o y)
  by_tac (tac.Race bs) w e parts o y =
      race_less Y (λ (b : TacId). W b.0 w.fuel w.goal) (map (part_job meaning p w) bs) bs (pairs_map _ (part_job meaning p w) (part_less w) bs) o
      (through (yields-Race meaning p (map (part_job meaning p w) bs)) o y)
  by_tac (tac.Repeat n a) w e parts o y =
      repeat_less w n a w.left refl e (λ m f g o y. to_row (meaning p.logic) p.justs p.tacs w.tac.0 m (tac.Repeat n a) f g e parts o y) o y
  by_tac (tac.Progress a) w e parts o y =
      let on : Tree G → Given G = λ t q. q ≡ progressed (meaning p.logic) w.tac.0 w.goal t in
      onward_less (Y (part_job meaning p w a)) (W a.0 w.fuel w.goal) on on (part_less w a) (λ t. less_same (on t)) o (check_less w a _ e o y)
  by_tac (tac.Complete a) w e parts o y =
      let on : Tree G → Given G = λ t q. q ≡ completed w.tac.0 w.goal t in
      onward_less (Y (part_job meaning p w a)) (W a.0 w.fuel w.goal) on on (part_less w a) (λ t. less_same (on t)) o (check_less w a _ e o y)

  pub expand_less : (w : Work G) (t : Tac) → slice_get p.tacs w.tac.0 ≡ Some t → AllByRecursion (IsBehind w.tac.0 (length p.tacs)) (parts_of t) → IsLess (Y (expansion meaning p w)) (Evals meaning p w)
  expand_less w t e parts o y =
      from_row (meaning p.logic) p.justs p.tacs w.tac.0 w.left t w.fuel w.goal e parts o
      (by_tac t w e parts o (subst (λ q. Y (expansion_by meaning p q w) o) e y))

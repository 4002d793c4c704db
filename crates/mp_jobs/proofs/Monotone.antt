-- A node whose parts yield less yields no more.
use Rattle.std.proofs.Common.{◌≡◌, Bool, true, false, List, Some, None, sym, subst}
use Rattle.std.specs.declared.option.Option.{Option}
use Rattle.std.specs.List.{AllZip}
use Rattle.std.specs.Prelude.{slice_get}
use Rattle.mp_logic.specs.Meaning.{Meaning}
use Rattle.mp_logic.specs.declared.tree.Tree.{Tree}
use Rattle.mp_strategy.specs.declared.tactic.Tac.{Tac}
use Rattle.mp_strategy.specs.declared.tactic.Tac.TheVariants as tac
use Rattle.mp_strategy.specs.declared.problem.ProblemState.{ProblemState}
use Rattle.mp_strategy.specs.declared.work.Work.{Work}
use Rattle.mp_strategy.specs.declared.outcome.Outcome.TheVariants as outcome
use Rattle.mp_strategy.specs.Strategies.{Given, OnLeaves, Listed, as_many, progressed, completed}
use Rattle.mp_jobs.specs.declared.node.Node.{Node}
use Rattle.mp_jobs.specs.Laws.{YieldsAreMonotone}
use Rattle.mp_jobs.specs.Yields.{LeavesGive, PartGives, ThenGives, CheckGives, Yields}
use Rattle.mp_jobs.proofs.Less.{IsLess, Under, all_less, some_fails, race_less, less_same, else_less, onward_less, repeat_step_less}
use Rattle.mp_jobs.proofs.YieldSteps.{yields-Then, yields-Check, yields-Leaves, yields-Else, yields-Race}

under_by : {G : Type 0} {a b x z : Given G} → a ≡ x → b ≡ z → IsLess x z → IsLess a b
under_by {G} {a} {b} {x} {z} e f h = subst (λ q. IsLess q b) (sym e) (subst (λ q. IsLess x q) (sym f) h)

pub leaves_less : {X Z G : Type 0} (y : X → Given G) (y' : Z → Given G) (t : Tree G) (ms : List X) (ks : List Z) (c : Bool) → AllZip (Under y y') ms ks → IsLess (LeavesGive y t ms c) (LeavesGive y' t ks c)
leaves_less y y' t ms ks false a o h = all_less y y' t ms ks a o h
leaves_less y y' t ms ks true a (outcome.Failure e) h = some_fails y y' ms ks e a h
leaves_less y y' t ms ks true a (outcome.Tree w) h = h

module _ {L G J : Type 0} (meaning : L → Meaning G J) (p : ProblemState L J) where
  pub then_less : (t : Option Tac) (w : Work G) (a b : Given G) → IsLess a b → IsLess (ThenGives meaning p t w a) (ThenGives meaning p t w b)
  then_less None w a b h o y = y
  then_less (Some tac.Id) w a b h o y = y
  then_less (Some tac.Fail) w a b h o y = y
  then_less (Some (tac.Step j)) w a b h o y = y
  then_less (Some (tac.Then x z)) w a b h o y =
      let on : Tree G → Given G = OnLeaves (PartGives meaning p z.0) w.fuel in onward_less a b on on h (λ t. less_same (on t)) o y
  then_less (Some (tac.ThenL x bs)) w a b h o y =
      let on : Tree G → Given G = λ t. Listed (as_many bs t) (PartGives meaning p) w.tac.0 bs w.fuel w.goal t in onward_less a b on on h (λ t. less_same (on t)) o y
  then_less (Some (tac.Else x z)) w a b h o y = y
  then_less (Some (tac.Race bs)) w a b h o y = y
  then_less (Some (tac.Repeat n x)) w a b h o y = repeat_step_less a b _ _ h (λ f g. less_same _) w.fuel w.goal o y
  then_less (Some (tac.Progress x)) w a b h o y = y
  then_less (Some (tac.Complete x)) w a b h o y = y

  pub check_less : (t : Option Tac) (w : Work G) (a b : Given G) → IsLess a b → IsLess (CheckGives meaning p t w a) (CheckGives meaning p t w b)
  check_less None w a b h o y = y
  check_less (Some tac.Id) w a b h o y = y
  check_less (Some tac.Fail) w a b h o y = y
  check_less (Some (tac.Step j)) w a b h o y = y
  check_less (Some (tac.Then x z)) w a b h o y = y
  check_less (Some (tac.ThenL x bs)) w a b h o y = y
  check_less (Some (tac.Else x z)) w a b h o y = y
  check_less (Some (tac.Race bs)) w a b h o y = y
  check_less (Some (tac.Repeat n x)) w a b h o y = y
  check_less (Some (tac.Progress x)) w a b h o y =
      let on : Tree G → Given G = λ t q. q ≡ progressed (meaning p.logic) w.tac.0 w.goal t in onward_less a b on on h (λ t. less_same (on t)) o y
  check_less (Some (tac.Complete x)) w a b h o y =
      let on : Tree G → Given G = λ t q. q ≡ completed w.tac.0 w.goal t in onward_less a b on on h (λ t. less_same (on t)) o y

  abbrev Y : Node G → Given G
  Y = Yields meaning p

  -- a node of each form, by what its parts yield
  pub monotone : YieldsAreMonotone meaning p
  monotone = record {
    then = λ w a b h. under_by (yields-Then meaning p w a) (yields-Then meaning p w b) (then_less (slice_get p.tacs w.tac.0) w (Y a) (Y b) h);
    leaves = λ t ms ks c h. under_by (yields-Leaves meaning p t ms c) (yields-Leaves meaning p t ks c) (leaves_less Y Y t ms ks c h);
    or = λ a b c d h k. under_by (yields-Else meaning p a c) (yields-Else meaning p b d) (else_less (Y a) (Y b) (Y c) (Y d) h k);
    race = λ ms ks h. under_by (yields-Race meaning p ms) (yields-Race meaning p ks) (race_less Y Y ms ks h);
    check = λ w a b h. under_by (yields-Check meaning p w a) (yields-Check meaning p w b) (check_less (slice_get p.tacs w.tac.0) w (Y a) (Y b) h);
  }

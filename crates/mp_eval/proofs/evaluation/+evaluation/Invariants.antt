use Rattle.std.proofs.Common.{◌≡◌, ◌≤◌, ◌<◌, ◌+◌, ◌-◌, ◌*◌, length, map, sum, take, drop, Ok, IsTrue}
use Rattle.std.specs.List.{AllByRecursion, list_all}
use Rattle.mp_logic.specs.Lists.{greatest}
use Rattle.mp_logic.specs.Trees.{leaf_count_of}
use Rattle.mp_logic.specs.Valid.{EachGoal}
use Rattle.mp_strategy.specs.declared.outcome.Kind.TheVariants as kind
use Rattle.mp_strategy.specs.declared.tactic.TacId.{TacId}
use Rattle.mp_strategy.specs.Fits.{is_behind, places}
use Rattle.mp_strategy.specs.Strategies.{failure}
use Rattle.mp_strategy.specs.Evaluation.{part_of, race_of}
use Rattle.mp_strategy.specs.Laws.{tree_depth_of}
use Rattle.mp_eval.specs.Queues.{IsReady, after, drawn, on_kids, weight_at, weight_of}
use Rattle.mp_eval.proofs.Leaves.{followed}
use Rattle.mp_eval.proofs.evaluation.+evaluation.Given as goal

-- Each part stands after its strategy, each repeat has one less left, and a tree is no deeper than the fuel, which is below 2 ^ 32.
abbrev pub decreases-entry : goal.decreases-entry
decreases-entry g l = weight_at (length l.problem.now.tacs) l.at.0 l.left + 9

abbrev pub decreases-part : goal.decreases-part
decreases-part g l = (length l.problem.now.tacs - l.at.0) * 1180591620717411303424 + 295147905179352825866

abbrev pub decreases-then_each : goal.decreases-then_each
decreases-then_each g l = (length l.problem.now.tacs - l.here.0) * 1180591620717411303424 + 8

abbrev pub decreases-then_listed : goal.decreases-then_listed
decreases-then_listed g l = (length l.problem.now.tacs - l.here.0) * 1180591620717411303424 + 8

abbrev pub decreases-or_else : goal.decreases-or_else
decreases-or_else g l = (length l.problem.now.tacs - l.here.0) * 1180591620717411303424 + 8

abbrev pub decreases-race : goal.decreases-race
decreases-race g l = (length l.problem.now.tacs - l.here.0) * 1180591620717411303424 + 8

abbrev pub decreases-repeat : goal.decreases-repeat
decreases-repeat g l = weight_at (length l.problem.now.tacs) l.here.0 l.left + 8

abbrev pub decreases-progress : goal.decreases-progress
decreases-progress g l = (length l.problem.now.tacs - l.here.0) * 1180591620717411303424 + 8

abbrev pub decreases-complete : goal.decreases-complete
decreases-complete g l = (length l.problem.now.tacs - l.here.0) * 1180591620717411303424 + 8

abbrev pub decreases-on_leaves : goal.decreases-on_leaves
decreases-on_leaves g l = weight_of (length l.problem.now.tacs) l.queue.now + 2 * l.fuel + 11

abbrev pub decreases-on_kids : goal.decreases-on_kids
decreases-on_kids g l = weight_of (length l.problem.now.tacs) l.queue.now + 2 * l.fuel + 12

abbrev pub invariant-race-loop-rest : goal.invariant-race-loop-rest
invariant-race-loop-rest g l =
    let each = λ (b : TacId). part_of g.L.Logic.meaning l.problem b.0 l.fuel l.fn.goal in
    record {
      same : race_of each (failure kind.Failed l.fn.here.0 l.fn.goal) l.rest ≡ race_of each (failure kind.Failed l.fn.here.0 l.fn.goal) l.branches;
      given : l.goal ≡ l.fn.goal;
      some : 0 < length l.rest;
      behind : IsTrue (list_all (is_behind l.fn.here.0 (length l.problem.tacs)) (places l.rest));
    }

abbrev pub decreases-race-loop-rest : goal.decreases-race-loop-rest
decreases-race-loop-rest g l = length l.rest

abbrev pub invariant-on_kids-loop-place : goal.invariant-on_kids-loop-place
invariant-on_kids-loop-place g l =
    let draws = drawn g.L.Logic.meaning l.problem in
    let rest = drop l.place l.kids.items in
    record {
      same : followed (Ok (take l.place l.kids.items)) (on_kids draws l.queue l.fuel rest) ≡ on_kids draws l.fn.queue l.fuel l.fn.kids;
      long : length l.kids.items ≡ length l.fn.kids;
      good : AllByRecursion (EachGoal (λ h. IsTrue ((g.L.Logic.meaning l.problem.logic).good h))) rest;
      depth : greatest (map tree_depth_of rest) ≤ l.fuel;
      ready : IsReady (length l.problem.tacs) l.queue (sum (map leaf_count_of rest));
      left : after (sum (map leaf_count_of rest)) l.queue ≡ after (sum (map leaf_count_of l.fn.kids)) l.fn.queue;
      weight : weight_of (length l.problem.tacs) l.queue ≡ weight_of (length l.problem.tacs) l.fn.queue;
    }

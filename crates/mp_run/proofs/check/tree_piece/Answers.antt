use Rattle.std.proofs.Common.{sym, subst}
use Rattle.mp_refiner.specs.Steps.{meaning_of}
use Rattle.mp_replay.specs.Conditions.{CanReplay}
use Rattle.mp_replay.specs.Verdicts.{IsVerdict}
use Rattle.mp_theory.specs.Tables.{Laws}
use Rattle.mp_run.proofs.Replaying.{can_be_replayed, checked_piece}
use Rattle.mp_run.proofs.check.tree_piece.Goals as goal

pub replay-requires-after_bounds : goal.replay-requires-after_bounds
replay-requires-after_bounds c κs =
    subst (λ (t : Laws). CanReplay (meaning_of t) c.args.justs.now c.args.tree.now) (sym c.new-refiner.ensures) (can_be_replayed c.args.theory.now c.args.justs.now c.args.tree.now c.requires.good)

pub returns : goal.returns
returns c =
    checked_piece c.step_law.ensures.steps c.args.names.now c.args.theory.now c.requires.theory c.args.entry.now c.requires.goal c.args.tree.now c.args.justs.now c.requires.good
    c.in_ok-verdict.verdict c.checked_of.result c.line_piece.result
    (subst (λ (t : Laws). IsVerdict (meaning_of t).step c.args.justs.now c.args.tree.now c.args.entry.now.goal c.in_ok-verdict.verdict) c.new-refiner.ensures c.in_ok-verdict.ensures)
    c.checked_of.ensures c.line_piece.ensures

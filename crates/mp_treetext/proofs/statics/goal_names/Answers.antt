use Rattle.std.proofs.Common.{ap, sym, ◌∙◌}
use Rattle.std.proofs.lemmas.List.{take_more}
use Rattle.mp_names.specs.Sets.{is_met, is_among}
use Rattle.mp_names.proofs.Meeting.{meeting}
use Rattle.mp_treetext.proofs.statics.goal_names.Goals as goal

pub loop-goal-preserved : goal.loop-goal-preserved
loop-goal-preserved c name =
    ap (λ m. is_met m name.0) c.in_ok-meet.ensures.met ∙ meeting c.loop-goal.names _ _ c.loop-goal.invariant name
    ∙ ap (λ ns. is_among ns name) (sym (take_more c.args.goals.now c.loop-goal.goal-index _ c.loop-goal-test.true))

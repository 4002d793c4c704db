use Rattle.std.proofs.Common.{ap, ◌∙◌}
use Rattle.mp_strategy.specs.declared.problem.ProblemState.{ProblemState}
use Rattle.mp_strategy.specs.Evaluation.{eval}
use Rattle.mp_drill.specs.Rounds.{evaluated}
use Rattle.mp_drill.specs.Workers.{world}
use Rattle.mp_drill.proofs.Rounding.{if_ok_by}
use Rattle.mp_drill.proofs.Scheduling.{sent}
use Rattle.mp_drill.proofs.drilling.Session.send.Goals as goal

pub returns-clause-reply : goal.returns-clause-reply
returns-clause-reply g c =
    let before = world c.args.self.now.core.machine c.args.self.now.workers.items in
    let ticket = c.in-Some.ticket in
    let parcel = c.in_ok-parcel.parcel in
    let value = c.in_ok-parcel.ensures.value ∙ ap (λ (q : ProblemState _ _). evaluated (eval g.L.Logic.meaning q) ticket) c.problem-problem.ensures in
    if_ok_by _ _ c.deliver.result
    (λ r h. sent (eval g.L.Logic.meaning c.args.self.now.core.problem) before c.args.who ticket parcel c.in_ok-last.last c.take_hand.new.workers.items c.keep_last.new.workers.items r c.deliver.new.core.machine
    c.in-Some.ensures.hand c.in-Some.ensures.workers c.keep_last.ensures c.in_ok-last.ensures value h)
    c.deliver.ensures.reply

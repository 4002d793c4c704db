use Rattle.std.proofs.Common.{◌≡◌, sym, ap, ◌∙◌}
use Rattle.mp_strategy.specs.Evaluation.{eval}
use Rattle.mp_core.specs.declared.core_calls.Claimed.TheVariants as claimed
use Rattle.mp_strategy.specs.declared.problem.ProblemState.{ProblemState}
use Rattle.mp_core.specs.declared.state.CoreState.{CoreState}
use Rattle.mp_core.specs.Cores.{moved}
use Rattle.mp_core.specs.Machine.{next_for}
use Rattle.mp_drill.specs.Rounds.{Rounds, evaluated}
use Rattle.mp_drill.proofs.Rounding.{if_ok_by, onward, round_same, at_finish, at_spent}
use Rattle.mp_drill.proofs.rounds.finish.Goals as goal

pub loop-core-preserved : goal.loop-core-preserved
loop-core-preserved g c =
    let each = λ (k : CoreState _ _ _). eval g.L.Logic.meaning k.problem in
    let s = c.loop-core.core in
    let n = c.next_for_caller.new.self in
    let t = c.in-Ticket.ticket in
    let p = c.in_ok-parcel-in-Ticket.parcel in
    let r = c.in_ok-deliver-in-Ticket.field-0 in
    let new = c.deliver.new.core in
    let given : claimed.Ticket t ≡ (next_for s.machine).0 = sym c.in-Ticket.is ∙ c.in_ok-ticket.ensures.reply in
    let moves : n ≡ moved s (next_for s.machine).1 = c.in_ok-ticket.ensures.state in
    let after : n.machine ≡ (next_for s.machine).1 = ap (λ (k : CoreState _ _ _). k.machine) moves in
    let value : p ≡ evaluated (each c.args.core) t = c.in_ok-parcel-in-Ticket.ensures.value ∙ ap (λ (q : ProblemState _ _). evaluated (eval g.L.Logic.meaning q) t) c.problem-problem.ensures in
    record {
      same = c.in_ok-deliver-in-Ticket.ensures.same ∙ ap (λ (k : CoreState _ _ _). moved k new.machine) (moves ∙ ap (λ (k : CoreState _ _ _). moved k (next_for s.machine).1) c.loop-core.invariant.same);
      sound = c.in_ok-deliver-in-Ticket.ensures.sound (c.in_ok-ticket.ensures.sound c.loop-core.invariant.sound);
      work = round_same s.machine n.machine p r new.machine after c.in_ok-deliver-in-Ticket.ensures.reply ∙ c.loop-core.invariant.work;
      onward = λ o h. c.loop-core.invariant.onward o (onward (each c.args.core) s.machine n.machine t p r new.machine o given after value c.in_ok-deliver-in-Ticket.ensures.reply h);
    }

pub returns-in-Finished : goal.returns-in-Finished
returns-in-Finished g c =
    let each = λ (k : CoreState _ _ _). eval g.L.Logic.meaning k.problem in
    let s = c.loop-core.core in
    let n = c.next_for_caller.new.self in
    let given : claimed.Finished ≡ (next_for s.machine).0 = sym c.in-Finished.is ∙ c.in_ok-ticket.ensures.reply in
    let after : n.machine ≡ (next_for s.machine).1 = ap (λ (k : CoreState _ _ _). k.machine) c.in_ok-ticket.ensures.state in
    c.loop-core.invariant.onward c.in-Some.outcome (at_finish (each c.args.core) s.machine n.machine c.in-Some.outcome given after c.in-Some.ensures.answer)

pub returns-in-Spent : goal.returns-in-Spent
returns-in-Spent g c =
    let each = λ (k : CoreState _ _ _). eval g.L.Logic.meaning k.problem in
    let s = c.loop-core.core in
    let n = c.next_for_caller.new.self in
    let given : claimed.Spent ≡ (next_for s.machine).0 = sym c.in-Spent.is ∙ c.in_ok-ticket.ensures.reply in
    let after : n.machine ≡ (next_for s.machine).1 = ap (λ (k : CoreState _ _ _). k.machine) c.in_ok-ticket.ensures.state in
    let w = c.work.result.now in
    let problem = c.problem-problem.result.now in
    if_ok_by (λ o. o ≡ eval g.L.Logic.meaning problem w) (λ o. Rounds (each c.args.core) c.args.core.machine o) c.evaluate.result
    (λ o e. c.loop-core.invariant.onward o (at_spent (each c.args.core) s.machine n.machine w o given after c.work.ensures.value (e ∙ ap (λ (q : ProblemState _ _). eval g.L.Logic.meaning q w) c.problem-problem.ensures)))
    c.evaluate.ensures.value

use Rattle.std.proofs.Common.{◌≡◌, ap, sym, subst, ◌∙◌}
use Rattle.mp_strategy.specs.Evaluation.{eval, entry_eval}
use Rattle.mp_strategy.specs.Strategies.{Evals}
use Rattle.mp_strategy.proofs.Allowed.{eval_allowed}
use Rattle.mp_strategy.proofs.Inner.{goals_good}
use Rattle.mp_strategy.proofs.Sound.{sound_in}
use Rattle.mp_eval.proofs.evaluation.evaluate.Goals as goal

pub returns-clause-value : goal.returns-clause-value
returns-clause-value g c =
    let each = entry_eval g.L.Logic.meaning c.args.problem.now c.args.work.now.tac.0 c.args.work.now.left c.args.work.now.fuel in
    c.outcome.ensures (each c.in_ok-goal.goal) c.in_ok-goal.goal c.in_ok-ended.ensures ∙ ap each c.in_ok-goal.ensures

pub returns-clause-relation : goal.returns-clause-relation
returns-clause-relation g c =
    let p = c.args.problem.now in
    let work = c.args.work.now in
    let each = entry_eval g.L.Logic.meaning p work.tac.0 work.left work.fuel in
    let value : c.outcome.result ≡ eval g.L.Logic.meaning p work = c.outcome.ensures (each c.in_ok-goal.goal) c.in_ok-goal.goal c.in_ok-ended.ensures ∙ ap each c.in_ok-goal.ensures in
    subst (Evals g.L.Logic.meaning p work) (sym value) (eval_allowed g.L.Logic.meaning p c.known.ensures work c.requires.work.tac)

pub returns-clause-valid : goal.returns-clause-valid
returns-clause-valid g c =
    let p = c.args.problem.now in
    let work = c.args.work.now in
    let each = entry_eval g.L.Logic.meaning p work.tac.0 work.left work.fuel in
    let value : c.outcome.result ≡ eval g.L.Logic.meaning p work = c.outcome.ensures (each c.in_ok-goal.goal) c.in_ok-goal.goal c.in_ok-ended.ensures ∙ ap each c.in_ok-goal.ensures in
    sound_in (g.L.Logic.meaning p.logic) p.justs 0 p.tacs work.tac.0 work.left work.fuel work.goal c.outcome.result
    (subst (Evals g.L.Logic.meaning p work) (sym value) (eval_allowed g.L.Logic.meaning p c.known.ensures work c.requires.work.tac))

pub returns-clause-good : goal.returns-clause-good
returns-clause-good g c =
    let p = c.args.problem.now in
    let work = c.args.work.now in
    let each = entry_eval g.L.Logic.meaning p work.tac.0 work.left work.fuel in
    let value : c.outcome.result ≡ eval g.L.Logic.meaning p work = c.outcome.ensures (each c.in_ok-goal.goal) c.in_ok-goal.goal c.in_ok-ended.ensures ∙ ap each c.in_ok-goal.ensures in
    goals_good g.L.Logic.meaning p (g.met.L.Logic.lawful p.logic) c.known.ensures work c.outcome.result c.requires.work.good
    (subst (Evals g.L.Logic.meaning p work) (sym value) (eval_allowed g.L.Logic.meaning p c.known.ensures work c.requires.work.tac))

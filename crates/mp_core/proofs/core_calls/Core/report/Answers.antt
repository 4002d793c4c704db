use Rattle.std.proofs.Common.{rules, ◌≡◌, IsTrue, sym, subst}
use Rattle.mp_strategy.specs.declared.work.Work.{Work}
use Rattle.mp_strategy.specs.Strategies.{Evals}
use Rattle.mp_strategy.proofs.Inner.{goals_good}
use Rattle.mp_core.specs.declared.state.CoreState.{CoreState}
use Rattle.mp_core.proofs.Soundness.{done_shape}
use Rattle.mp_core.proofs.core_calls.Core.report.Goals as goal

pub invariant_of-self : goal.invariant_of-self
invariant_of-self g c =
    let meaning = g.L.Logic.meaning in
    let problem = c.self.inside.problem.now in
    let work = c.self.inside.work in
    let parcel = c.args.parcel in
    let same : parcel.work ≡ work = search rules in
    let honest = subst (λ (core : CoreState _ _ _). Evals meaning core.problem parcel.work parcel.outcome) (sym c.self.view_is) c.requires in
    let good = subst (λ (w : Work _). IsTrue ((meaning problem.logic).good w.goal)) (sym same) c.self.invariant.root.good in
    done_shape meaning problem work parcel.outcome c.self.inside.drawn c.self.invariant.root (goals_good meaning problem (g.met.L.Logic.lawful problem.logic) c.known.ensures parcel.work parcel.outcome good honest)

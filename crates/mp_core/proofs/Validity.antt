-- What a work gives is valid for its goal.
use Rattle.mp_logic.specs.Meaning.{Meaning}
use Rattle.mp_strategy.specs.declared.problem.ProblemState.{ProblemState}
use Rattle.mp_strategy.specs.declared.work.Work.{Work}
use Rattle.mp_strategy.specs.declared.outcome.Outcome.{Outcome}
use Rattle.mp_strategy.specs.Laws.{IsSound}
use Rattle.mp_strategy.specs.Strategies.{Evals}
use Rattle.mp_strategy.proofs.Sound.{sound_in}

-- an outcome that a work gives is valid for its goal, within its fuel
pub evals_valid : {L G J : Type 0} (meaning : L → Meaning G J) (p : ProblemState L J) (work : Work G) (o : Outcome G) → Evals meaning p work o → IsSound meaning p work o
evals_valid meaning p work o h = sound_in (meaning p.logic) p.justs 0 p.tacs work.tac.0 work.left work.fuel work.goal o h

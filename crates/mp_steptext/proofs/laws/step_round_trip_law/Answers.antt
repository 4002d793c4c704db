use Rattle.mp_steptext.proofs.StepRound.{step_is_read}
use Rattle.mp_steptext.proofs.laws.step_round_trip_law.Goals as goal

pub returns : goal.returns
returns c = step_is_read

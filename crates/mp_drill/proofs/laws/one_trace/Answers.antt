use Rattle.mp_drill.proofs.Uniqueness.{one_trace}
use Rattle.mp_drill.proofs.laws.one_trace.Goals as goal

pub returns : goal.returns
returns g c eval = one_trace eval

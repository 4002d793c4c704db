use Rattle.mp_drill.proofs.Agreement.{same_traces}
use Rattle.mp_drill.proofs.laws.same_traces.Goals as goal

pub returns : goal.returns
returns g c = λ eval other. same_traces eval other

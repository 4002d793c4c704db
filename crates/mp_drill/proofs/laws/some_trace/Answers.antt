use Rattle.mp_drill.proofs.Existence.{decide_work, some_trace}
use Rattle.mp_drill.proofs.laws.some_trace.Goals as goal

pub returns : goal.returns
returns g c logic eval work events = some_trace eval (decide_work (g.L.Logic.meaning logic) (g.met.L.Logic.lawful logic)) work events

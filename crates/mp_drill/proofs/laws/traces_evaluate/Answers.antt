use Rattle.mp_drill.proofs.Outcomes.{trace_gives_eval}
use Rattle.mp_drill.proofs.laws.traces_evaluate.Goals as goal

pub returns : goal.returns
returns g c eval work events replies o trace = trace_gives_eval eval work events replies o trace

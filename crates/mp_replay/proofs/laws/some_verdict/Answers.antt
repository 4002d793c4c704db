use Rattle.mp_replay.proofs.Validity.{some_verdict}
use Rattle.mp_replay.proofs.laws.some_verdict.Goals as goal

pub returns : goal.returns
returns g c = some_verdict (g.L.Logic.meaning c.args.logic.now) (g.met.L.Logic.lawful c.args.logic.now)

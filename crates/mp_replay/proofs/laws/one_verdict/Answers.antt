use Rattle.mp_replay.proofs.Validity.{one_verdict}
use Rattle.mp_replay.proofs.laws.one_verdict.Goals as goal

pub returns : goal.returns
returns g c = one_verdict (g.L.Logic.meaning c.args.logic.now)

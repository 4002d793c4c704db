use Rattle.mp_replay.proofs.Validity.{verdict_is_validity}
use Rattle.mp_replay.proofs.laws.verdict_is_validity.Goals as goal

pub returns : goal.returns
returns g c = verdict_is_validity (g.L.Logic.meaning c.args.logic.now)

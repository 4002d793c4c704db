use Rattle.std.proofs.Common.{sym, arith}
use Rattle.mp_match.proofs.Steps.{params-length}
use Rattle.mp_match.proofs.patterns.match_params.Goals as goal

pub returns-then-pats-values : goal.returns-then-pats-values
returns-then-pats-values c = sym (params-length c.args.pats.now c.args.values.now c.args.found.now (omega arith))

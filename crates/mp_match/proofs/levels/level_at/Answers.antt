use Rattle.std.proofs.Common.{◌-◌, arith}
use Rattle.mp_term.proofs.Ranges.{level-bound}
use Rattle.mp_match.proofs.levels.level_at.Goals as goal

pub returns-else-level-named : goal.returns-else-level-named
returns-else-level-named c = λ d. rw (level-bound c.args.place.now.named c.args.place.now.next (c.args.scope - c.args.place.now.next) c.args.level d (omega arith) (omega arith)) (omega arith)

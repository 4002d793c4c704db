use Rattle.std.proofs.Common.{rules}
use Rattle.mp_ports.proofs.Streams.{Appends-next}
use Rattle.mp_ports.proofs.output.write_whole.Goals as goal

-- src/output.rt:41:5
pub loop-at-preserved : goal.loop-at-preserved
loop-at-preserved g c = search (rules, Appends-next)

use Rattle.std.proofs.Common.{◌≡◌, drop}
use Rattle.mp_ports.specs.Sinks.{listed}
use Rattle.mp_ports.proofs.memory.listed_at.Given as goal

abbrev pub invariant-loop-entry : goal.invariant-loop-entry
invariant-loop-entry l = listed l.call l.entries ≡ listed l.call (drop l.entry-index l.entries)

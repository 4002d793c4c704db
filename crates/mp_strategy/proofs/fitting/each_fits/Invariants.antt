use Rattle.std.proofs.Common.{◌≡◌, drop}
use Rattle.mp_strategy.specs.Fits.{rows_fit}
use Rattle.mp_strategy.proofs.fitting.each_fits.Given as goal

abbrev pub invariant-loop-here : goal.invariant-loop-here
invariant-loop-here l = rows_fit l.justs l.here (drop l.here l.entries) ≡ rows_fit l.justs 0 l.entries

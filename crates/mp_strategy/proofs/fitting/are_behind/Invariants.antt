use Rattle.std.proofs.Common.{◌≡◌, drop}
use Rattle.std.specs.List.{list_all}
use Rattle.mp_strategy.specs.Fits.{is_behind, places}
use Rattle.mp_strategy.proofs.fitting.are_behind.Given as goal

abbrev pub invariant-loop-part : goal.invariant-loop-part
invariant-loop-part l = list_all (is_behind l.here l.count) (places (drop l.part-index l.parts)) ≡ list_all (is_behind l.here l.count) (places l.parts)

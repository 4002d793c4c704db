use Rattle.std.proofs.Common.{◌≡◌, [], drop}
use Rattle.mp_steptext.specs.Names.{all_met, given_numbers}
use Rattle.mp_steptext.proofs.names.given_names.Given as goal

abbrev pub invariant-loop-raw : goal.invariant-loop-raw
invariant-loop-raw g l = all_met l.names (given_numbers (drop l.raw-index l.given)) ≡ all_met [] (given_numbers l.given)

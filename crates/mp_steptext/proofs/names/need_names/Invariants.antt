use Rattle.std.proofs.Common.{◌≡◌, [], drop}
use Rattle.mp_steptext.specs.Names.{all_met, need_numbers}
use Rattle.mp_steptext.proofs.names.need_names.Given as goal

abbrev pub invariant-loop-need : goal.invariant-loop-need
invariant-loop-need l = all_met l.names (need_numbers (drop l.need-index l.needs)) ≡ all_met [] (need_numbers l.needs)

use Rattle.std.proofs.Common.{◌≡◌, true, take}
use Rattle.std.specs.List.{list_all}
use Rattle.mp_words.specs.Faults.{is_behind}
use Rattle.mp_steptext.proofs.statics.are_behind.Given as goal

abbrev pub invariant-loop-raw : goal.invariant-loop-raw
invariant-loop-raw g l = list_all (λ x. is_behind l.held x.name.at) (take l.raw-index l.given) ≡ true

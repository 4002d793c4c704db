use Rattle.std.proofs.Common.{◌≡◌, take}
use Rattle.mp_treetext.specs.Values.{file_value}
use Rattle.mp_treetext.proofs.making.build_file.Given as goal

abbrev pub invariant-loop-raw : goal.invariant-loop-raw
invariant-loop-raw l = l.built ≡ file_value l.theory l.source (take l.raw-index l.raw-items)

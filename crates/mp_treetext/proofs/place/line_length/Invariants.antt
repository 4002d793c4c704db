use Rattle.std.proofs.Common.{◌≡◌, ◌+◌, drop}
use Rattle.mp_treetext.specs.Places.{line_length}
use Rattle.mp_treetext.proofs.place.line_length.Given as goal

abbrev pub invariant-loop-byte : goal.invariant-loop-byte
invariant-loop-byte l = record {
  number : l.count ≡ l.byte-index;
  left : l.count + line_length (drop l.byte-index l.bytes) ≡ line_length l.bytes;
}

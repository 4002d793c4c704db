use Rattle.std.proofs.Common.{◌≡◌, ◌+◌, drop}
use Rattle.mp_treetext.specs.Places.{spaces_in_front}
use Rattle.mp_treetext.proofs.place.spaces_in_front.Given as goal

abbrev pub invariant-loop-byte : goal.invariant-loop-byte
invariant-loop-byte l = record {
  number : l.count ≡ l.byte-index;
  left : l.count + spaces_in_front (drop l.byte-index l.bytes) ≡ spaces_in_front l.bytes;
}

use Rattle.std.proofs.Common.{◌≡◌, ◌++◌, ◌+◌, length, take, drop}
use Rattle.mp_treetext.specs.OneLine.{from_line, front_line, other_lines, until_line}
use Rattle.mp_treetext.proofs.line.split_line.Given as goal

abbrev pub invariant-loop-word : goal.invariant-loop-word
invariant-loop-word l = record {
  rest : l.rest ≡ drop l.count l.words;
  number : l.count + length l.rest ≡ length l.words;
  front : take l.count l.words ++ until_line l.rest ≡ front_line l.words;
  other : from_line l.rest ≡ other_lines l.words;
}

abbrev pub decreases-loop-word : goal.decreases-loop-word
decreases-loop-word l = length l.rest

use Rattle.std.proofs.Common.{◌≡◌, ◌++◌, [], map, length}
use Rattle.mp_patterntext.specs.Buildable.{AreFaultless}
use Rattle.mp_patterntext.specs.Values.{each_pattern_value, pattern_of}
use Rattle.mp_theorytext.proofs.making.take_conditions.Given as goal

abbrev pub decreases-loop-raw : goal.decreases-loop-raw
decreases-loop-raw l = length l.waiting

abbrev pub invariant-loop-raw : goal.invariant-loop-raw
invariant-loop-raw l = record {
  faultless : AreFaultless l.waiting [];
  made : l.conds ++ each_pattern_value (map pattern_of l.waiting) [] ≡ each_pattern_value (map pattern_of l.fn.raws) [];
}

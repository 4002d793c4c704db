use Rattle.std.proofs.Common.{◌≡◌, ◌+◌, ◌<◌, [], length}
use Rattle.mp_theory.specs.Tables.{law_count}
use Rattle.mp_theorytext.specs.Statics.{theory_faults}
use Rattle.mp_theorytext.specs.Values.{with_laws}
use Rattle.mp_theorytext.proofs.making.build_theory.Given as goal

abbrev pub decreases-loop-raw : goal.decreases-loop-raw
decreases-loop-raw l = length l.waiting

abbrev pub invariant-loop-raw : goal.invariant-loop-raw
invariant-loop-raw l = record {
  made : with_laws l.theory l.waiting ≡ with_laws l.fn.theory l.fn.raws;
  few : law_count l.theory + length l.waiting < 4294967295;
  faultless : theory_faults l.theory l.waiting ≡ [];
}

use Rattle.std.proofs.Common.{ap, sym, ◌∙◌}
use Rattle.mp_theorytext.specs.Statics.{theory_faults}
use Rattle.mp_theorytext.proofs.Adding.{first_added}
use Rattle.mp_theorytext.proofs.making.build_theory.Goals as goal

pub take_written-requires-clause-faultless : goal.take_written-requires-clause-faultless
take_written-requires-clause-faultless c =
    (first_added c.loop-raw.theory c.in-Some.raw c.next.new.self (ap (theory_faults c.loop-raw.theory) (sym c.in-Some.ensures) ∙ c.loop-raw.invariant.faultless)).0

use Rattle.mp_theorytext.proofs.FaultWalks.{theory_parts}
use Rattle.mp_theorytext.proofs.statics.theory_fault.Goals as goal

pub returns : goal.returns
returns c =
    theory_parts c.args.theory.now c.args.raws.now c.as_slice-raws.result.now c.check_free-held.result c.in_ok-held.held c.in_ok-found.found c.as_slice-raws.ensures c.check_free-held.ensures c.in_ok-held.ensures c.in_ok-found.ensures

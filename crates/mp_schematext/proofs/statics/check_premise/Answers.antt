use Rattle.mp_patterntext.specs.Scopes.{syms_of}
use Rattle.mp_schematext.proofs.FaultWalks.{premise_parts}
use Rattle.mp_schematext.proofs.statics.check_premise.Goals as goal

pub returns : goal.returns
returns c =
    premise_parts c.args.raw.now (syms_of c.args.concl.now) c.as_slice.result.now c.in_ok-known.known.items c.args.held c.check_known-held.result c.in_ok-found.found c.in_ok-known.ensures c.as_slice.ensures.value c.check_known-held.ensures
    c.in_ok-found.ensures

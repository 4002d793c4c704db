use Rattle.std.proofs.lemmas.List.{get_or_default}
use Rattle.mp_patterntext.specs.Scopes.{syms_of}
use Rattle.mp_patterntext.proofs.FaultWalks.{unknown_next}
use Rattle.mp_patterntext.proofs.holes.check_unknown.Goals as goal

pub loop-name-preserved : goal.loop-name-preserved
loop-name-preserved c =
    let asked = c.args.asked.now in
    let i = c.loop-name.name-index in
    unknown_next c.in_ok-names.names c.args.why (syms_of c.args.known.now) asked i _ c.place.result c.is_none-unknown.result c.loop-name.held c.sooner_if-held.result _ c.in_ok-names.ensures c.loop-name-test.true (get_or_default asked i _ _ c.loop-name-test.true) c.place.ensures
    c.is_none-unknown.ensures c.sooner_if-held.ensures c.loop-name.invariant

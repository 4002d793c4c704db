use Rattle.std.proofs.Common.{get_or}
use Rattle.std.specs.Prelude.{pos}
use Rattle.mp_term.specs.declared.limits.TheConstants.{MOST_NODES}
use Rattle.mp_words.specs.declared.raw.RawNumber.{RawNumber}
use Rattle.mp_words.specs.Ranges.{number_faults}
use Rattle.mp_words.proofs.FaultParts.{flat_next}
use Rattle.mp_steptext.proofs.KeptSteps.{item_again}
use Rattle.mp_steptext.proofs.statics.check_subterms.Goals as goal

pub loop-number-preserved : goal.loop-number-preserved
loop-number-preserved c =
    let ns = c.args.address.now in
    let i = c.loop-number.number-index in
    let none : RawNumber = record { value = pos 0; at = 0 } in
    flat_next (number_faults 1 MOST_NODES) ns i (get_or ns i none) c.loop-number.held c.check_number-held.result _ c.loop-number-test.true (item_again ns i none c.loop-number-test.true) c.check_number-held.ensures c.loop-number.invariant

use Rattle.std.proofs.Common.{get_or}
use Rattle.std.specs.List.{flat_map}
use Rattle.std.specs.Prelude.{pos, slice_get}
use Rattle.mp_term.specs.declared.limits.TheConstants.{MOST_DEPTH, MOST_NODES}
use Rattle.mp_words.specs.declared.fail.TextWhy.TheVariants as why
use Rattle.mp_words.specs.declared.raw.RawNumber.{RawNumber}
use Rattle.mp_words.specs.Faults.{fault_at_any}
use Rattle.mp_words.specs.Ranges.{number_faults}
use Rattle.mp_words.proofs.NoFaults.{nil_parts}
use Rattle.mp_steptext.proofs.KeptSteps.{item_again, nil_at}
use Rattle.mp_steptext.proofs.value.build_address.Goals as goal

pub build_subterm-requires : goal.build_subterm-requires
build_subterm-requires c =
    let ns = c.args.address.now in
    let i = c.loop-number.number-index in
    let none : RawNumber = record { value = pos 0; at = 0 } in
    let lt = c.loop-number-test.true in
    nil_at (number_faults 1 MOST_NODES) ns i (get_or ns i none) lt (item_again ns i none lt) (nil_parts (flat_map (number_faults 1 MOST_NODES) ns) (fault_at_any (λ (n : RawNumber). n.at) why.BadNumber (slice_get ns MOST_DEPTH)) c.requires).0

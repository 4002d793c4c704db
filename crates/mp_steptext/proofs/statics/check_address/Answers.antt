use Rattle.std.proofs.Common.{◌≡◌, Option, None, Some, ap, sym, ◌∙◌}
use Rattle.std.specs.Prelude.{slice_get}
use Rattle.std.specs.List.{flat_map}
use Rattle.std.specs.Option.{option_copied}
use Rattle.mp_term.specs.declared.limits.TheConstants.{MOST_DEPTH, MOST_NODES}
use Rattle.mp_words.specs.declared.fail.TextWhy.TheVariants as why
use Rattle.mp_words.specs.declared.raw.RawNumber.{RawNumber}
use Rattle.mp_words.specs.Faults.{fault_at_any, least_from}
use Rattle.mp_words.specs.Ranges.{number_faults}
use Rattle.mp_words.proofs.FaultParts.{two_parts}
use Rattle.mp_steptext.proofs.MetNames.{item_at}
use Rattle.mp_steptext.proofs.statics.check_address.Goals as goal

pub returns-in-Some : goal.returns-in-Some
returns-in-Some c =
    let ns = c.args.address.now in
    let too_long = λ (o : Option RawNumber). fault_at_any (λ (n : RawNumber). n.at) why.BadNumber o in
    let there : Some c.in-Some.number.now ≡ slice_get ns MOST_DEPTH = sym (ap option_copied c.in-Some.is) ∙ item_at ns MOST_DEPTH c.get.result c.get.ensures.lookup in
    two_parts c.args.held c.check_subterms-held.result c.sooner_of.result (flat_map (number_faults 1 MOST_NODES) ns) (too_long (slice_get ns MOST_DEPTH)) c.check_subterms-held.ensures
    (c.sooner_of.ensures ∙ ap (λ o. least_from c.check_subterms-held.result (too_long o)) there)

pub returns-in-None : goal.returns-in-None
returns-in-None c =
    let ns = c.args.address.now in
    let too_long = λ (o : Option RawNumber). fault_at_any (λ (n : RawNumber). n.at) why.BadNumber o in
    let there : None ≡ slice_get ns MOST_DEPTH = sym (ap option_copied c.in-None.is) ∙ item_at ns MOST_DEPTH c.get.result c.get.ensures.lookup in
    two_parts c.args.held c.check_subterms-held.result c.check_subterms-held.result (flat_map (number_faults 1 MOST_NODES) ns) (too_long (slice_get ns MOST_DEPTH)) c.check_subterms-held.ensures
    (ap (λ o. least_from c.check_subterms-held.result (too_long o)) there)

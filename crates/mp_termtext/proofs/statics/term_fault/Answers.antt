use Rattle.std.proofs.Common.{[], None, refl, ap, sym, ◌∙◌}
use Rattle.mp_words.specs.declared.fail.TextWhy.TheVariants as why
use Rattle.std.specs.Prelude.{nat_lt}
use Rattle.mp_words.specs.Faults.{fault_if, least_from}
use Rattle.mp_termtext.specs.Statics.{faults_of, at_of, raw_size_of}
use Rattle.mp_words.proofs.Soonest.{least_from_append}
use Rattle.mp_termtext.proofs.statics.term_fault.Goals as goal

pub returns : goal.returns
returns c =
    let raw = c.args.raw.now in
    let n = raw_size_of raw in
    c.check_size.ensures n (sym c.raw_size.ensures)
    ∙ ap (λ l. least_from c.in_ok-held.held (fault_if (nat_lt 20000 n) l why.TooBig)) c.at_of.ensures
    ∙ ap (λ h. least_from h (fault_if (nat_lt 20000 n) (at_of raw) why.TooBig)) (c.in_ok-held.ensures.fault 1 refl ∙ ap (λ env. least_from None (faults_of c.args.free raw env 1)) c.new-env.ensures.items)
    ∙ sym (least_from_append None (faults_of c.args.free raw [] 1) (fault_if (nat_lt 20000 n) (at_of raw) why.TooBig))

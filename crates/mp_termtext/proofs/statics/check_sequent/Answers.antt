use Rattle.std.proofs.Common.{[], refl, ap, ◌∙◌, sum_by}
use Rattle.mp_logic.specs.Trees.{counted}
use Rattle.mp_words.specs.Faults.{least_from, too_many}
use Rattle.mp_termtext.specs.Statics.{faults_of, hyp_names, hyps_faults, raw_sequent_size_of, raw_size_of}
use Rattle.mp_termtext.proofs.FaultSteps.{counted_both, sequent_parts}
use Rattle.mp_termtext.proofs.statics.check_sequent.Goals as goal

pub returns : goal.returns
returns c =
    let s = c.args.raw.now in
    let hyps = c.hyps_size.ensures ∙ ap (λ hs. counted (sum_by (λ h. raw_size_of h.term) hs)) c.as_slice-3.ensures in
    let size = counted_both (sum_by (λ h. raw_size_of h.term) s.hyps) (raw_size_of s.concl) c.hyps_size.result c.raw_size.result c.saturating_add-size.result hyps c.raw_size.ensures c.saturating_add-size.ensures in
    sequent_parts c.args.held s c.check_count-held.result c.in_ok-held.held c.in_ok-held-2.held c.check_size.result
    (c.check_count-held.ensures ∙ ap (λ hs. least_from c.args.held (too_many (λ h. h.at) 200 hs)) c.as_slice.ensures)
    (c.in_ok-held.ensures.fault ∙ ap (λ hs. least_from c.check_count-held.result (hyps_faults hs [])) c.as_slice-2.ensures)
    (c.in_ok-held-2.ensures.fault 1 refl ∙ ap (λ env. least_from c.in_ok-held.held (faults_of 0 s.concl env 1)) (c.in_ok-held.ensures.env ∙ ap hyp_names c.as_slice-2.ensures))
    (c.check_size.ensures (raw_sequent_size_of s) size)

use Rattle.std.proofs.Common.{[], ap, ◌∙◌}
use Rattle.mp_termtext.specs.Statics.{hyp_names, hyps_faults}
use Rattle.mp_termtext.proofs.Faultless.{concl_faultless, sequent_faultless}
use Rattle.mp_termtext.proofs.value.build_sequent.Goals as goal

pub build_hyps-requires-clause-faultless : goal.build_hyps-requires-clause-faultless
build_hyps-requires-clause-faultless c = ap (λ hs. hyps_faults hs []) c.as_slice.ensures ∙ (sequent_faultless c.args.raw.now c.requires).1

pub build_term-requires-clause-faultless : goal.build_term-requires-clause-faultless
build_term-requires-clause-faultless c = concl_faultless c.args.raw.now c.build_hyps.new.env.items (c.in_ok-hyps.ensures.env ∙ ap hyp_names c.as_slice.ensures) c.requires

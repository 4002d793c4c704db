use Rattle.std.proofs.Common.{◌≡◌, ◌++◌, [], drop}
use Rattle.mp_words.specs.Faults.{least_from}
use Rattle.mp_termtext.specs.Statics.{hyps_faults, hyp_names}
use Rattle.mp_termtext.proofs.statics.check_hyps.Given as goal

abbrev pub invariant-loop-hyp : goal.invariant-loop-hyp
invariant-loop-hyp l = record {
  names : l.env.items ++ hyp_names (drop l.hyp-index l.hyps) ≡ hyp_names l.hyps;
  found : least_from l.held (hyps_faults (drop l.hyp-index l.hyps) l.env.items) ≡ least_from l.fn.held (hyps_faults l.hyps []);
}

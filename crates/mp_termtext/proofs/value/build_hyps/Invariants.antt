use Rattle.std.proofs.Common.{◌≡◌, ◌++◌, [], drop, length}
use Rattle.mp_termtext.specs.Statics.{hyps_faults, hyp_names}
use Rattle.mp_termtext.specs.Values.{hyps_value}
use Rattle.mp_termtext.proofs.value.build_hyps.Given as goal

abbrev pub invariant-loop-hyp : goal.invariant-loop-hyp
invariant-loop-hyp l = record {
  faultless : hyps_faults (drop l.hyp-index l.hyps) l.env.items ≡ [];
  count : length l.env.items ≡ l.hyp-index;
  names : l.env.items ++ hyp_names (drop l.hyp-index l.hyps) ≡ hyp_names l.hyps;
  built : l.built ++ hyps_value (drop l.hyp-index l.hyps) l.env.items ≡ hyps_value l.hyps [];
}

use Rattle.std.proofs.Common.{◌≡◌, drop}
use Rattle.std.specs.List.{flat_map}
use Rattle.mp_words.specs.Faults.{least_from}
use Rattle.mp_theorytext.specs.Statics.{size_faults}
use Rattle.mp_theorytext.proofs.rewrite.check_condition_sizes.Given as goal

abbrev pub invariant-loop-cond : goal.invariant-loop-cond
invariant-loop-cond l = least_from l.held (flat_map size_faults (drop l.cond-index l.conds)) ≡ least_from l.fn.held (flat_map size_faults l.conds)

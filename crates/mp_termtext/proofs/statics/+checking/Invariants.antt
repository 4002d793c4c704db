use Rattle.std.proofs.Common.{◌≡◌, ◌+◌, ℕ, min, map, drop}
use Rattle.mp_words.specs.Faults.{least_from}
use Rattle.mp_termtext.specs.Statics.{each_faults, faults_of, bound_faults_of}
use Rattle.mp_termtext.proofs.statics.+checking.Given as goal

abbrev pub invariant-check_in-loop-sub : goal.invariant-check_in-loop-sub
invariant-check_in-loop-sub l = record {
  kept : l.env.items ≡ l.fn.env.items;
  found : (d : ℕ) → min d 201 ≡ l.depth → least_from l.held (each_faults (map (bound_faults_of l.free) (drop l.sub-index l.sub-items)) l.fn.env.items (d + 1)) ≡ least_from l.fn.held (faults_of l.free l.fn.raw l.fn.env.items d);
}

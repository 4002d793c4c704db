use Rattle.std.proofs.Common.{◌≡◌, ◌≤◌, drop}
use Rattle.mp_words.specs.Faults.{least_from}
use Rattle.mp_schematext.specs.Statics.{misplaced_faults}
use Rattle.mp_schematext.proofs.statics.check_between.Given as goal

abbrev pub invariant-loop-item : goal.invariant-loop-item
invariant-loop-item l = record {
  few : l.before ≤ l.item-index;
  found : least_from l.held (misplaced_faults l.before (drop l.item-index l.items)) ≡ least_from l.fn.held (misplaced_faults 0 l.items);
}

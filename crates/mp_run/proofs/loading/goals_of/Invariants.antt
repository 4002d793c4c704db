use Rattle.std.proofs.Common.{◌≡◌, ◌++◌, map, drop}
use Rattle.mp_scripttext.specs.declared.script.Entry.{Entry}
use Rattle.mp_run.proofs.loading.goals_of.Given as goal

abbrev pub invariant-loop-entry : goal.invariant-loop-entry
invariant-loop-entry l = l.goals ++ map (λ (e : Entry). e.name) (drop l.entry-index l.entry-items) ≡ map (λ (e : Entry). e.name) l.fn.script.entries

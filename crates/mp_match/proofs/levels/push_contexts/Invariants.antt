use Rattle.std.proofs.Common.{◌≡◌, ◌++◌, drop}
use Rattle.mp_schema.specs.Values.{variables_of}
use Rattle.mp_match.proofs.levels.push_contexts.Given as goal

abbrev pub invariant-loop-name : goal.invariant-loop-name
invariant-loop-name l = l.levels ++ variables_of l.ctxs (drop l.name-index l.name-items) ≡ l.initial.levels ++ variables_of l.ctxs l.name-items

use Rattle.std.proofs.Common.{◌≡◌, ◌++◌}
use Rattle.mp_scripttext.specs.declared.plan.Plan.{Plan}
use Rattle.mp_scripttext.specs.Plans.{holes}
use Rattle.mp_scripttext.proofs.plan.push_holes.Given as goal

abbrev pub invariant-loop : goal.invariant-loop
invariant-loop l = (let now : Plan = record { tacs = l.fn.plan.tacs ++ holes l.counter; justs = l.fn.plan.justs } in l.plan ≡ now)

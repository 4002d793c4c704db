use Rattle.std.proofs.Common.{take}
use Rattle.mp_names.specs.Sets.{Met}
use Rattle.mp_treetext.proofs.statics.goal_names.Given as goal

abbrev pub invariant-loop-goal : goal.invariant-loop-goal
invariant-loop-goal l = Met l.names (take l.goal-index l.goals)

use Rattle.std.proofs.Common.{◌≡◌, ◌++◌, map, length}
use Rattle.mp_logic.specs.declared.tree.Tree.TheVariants.{Leaf}
use Rattle.mp_eval.proofs.rows.open_leaves.Given as goal

abbrev pub invariant-loop-goal : goal.invariant-loop-goal
invariant-loop-goal g l = l.kids ++ map Leaf l.rest ≡ map Leaf l.fn.goals

abbrev pub decreases-loop-goal : goal.decreases-loop-goal
decreases-loop-goal g l = length l.rest

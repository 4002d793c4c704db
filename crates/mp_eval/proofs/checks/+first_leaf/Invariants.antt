use Rattle.std.proofs.Common.{◌≡◌, drop, map}
use Rattle.std.specs.List.{flat_map}
use Rattle.mp_logic.specs.Trees.{deeper, leaves_of}
use Rattle.mp_eval.specs.Leaves.{first_goal}
use Rattle.mp_eval.proofs.checks.+first_leaf.Given as goal

abbrev pub invariant-loop-kid : goal.invariant-loop-kid
invariant-loop-kid g l = first_goal (flat_map (λ kid. map deeper (leaves_of kid)) (drop l.kid-index l.kid-items)) ≡ first_goal (leaves_of l.fn.tree)

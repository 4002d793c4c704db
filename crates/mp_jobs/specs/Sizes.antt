-- The width and the weight of a node of the job tree.
use Rattle.std.specs.Prelude.{ℕ, ◌+◌, max}
use Rattle.mp_logic.specs.Meaning.{Meaning}
use Rattle.mp_logic.specs.Trees.{leaf_count_of}
use Rattle.mp_strategy.specs.declared.outcome.Outcome.{Outcome}
use Rattle.mp_strategy.specs.declared.outcome.Outcome.TheVariants as outcome
use Rattle.mp_strategy.specs.declared.problem.ProblemState.{ProblemState}
use Rattle.mp_jobs.specs.declared.node.Node.{Node, Node-F, fold-Node}
use Rattle.mp_jobs.specs.declared.node.Node.TheOpen as layer
use Rattle.mp_jobs.specs.Costs.{Size, widest, width_sum, weight_sum, weight_each, work_size, then_size}

-- the number of open leaves; a failure has none
abbrev pub width_of : {G : Type 0} → Outcome G → ℕ
width_of (outcome.Tree t) = leaf_count_of t
width_of (outcome.Failure e) = 0

module _ {L G J : Type 0} (meaning : L → Meaning G J) (p : ProblemState L J) where
  -- the size of one level of a node, by those of its parts
  abbrev pub size_step : Node-F G Size → Size
  size_step (layer.Todo work) = work_size meaning p work
  size_step (layer.Claimed epoch who work) = work_size meaning p work
  size_step (layer.Done o) = record { wide = width_of o; heavy = 0 }
  size_step (layer.Then work first) = then_size meaning p work first
  size_step (layer.Leaves tree kids cut) = record { wide = width_sum kids; heavy = 1 + weight_each kids }
  size_step (layer.Else first second) = record { wide = max first.wide second.wide; heavy = 1 + (first.heavy + second.heavy) }
  size_step (layer.Race kids) = record { wide = widest kids; heavy = 1 + weight_sum kids }
  size_step (layer.Check work inner) = record { wide = inner.wide; heavy = 1 + inner.heavy }

  -- the size of a node
  abbrev pub size_of : Node G → Size
  size_of = fold-Node G Size size_step

  -- the weight of a node: each unit lowers it
  abbrev pub weight_of : Node G → ℕ
  weight_of n = (size_of n).heavy

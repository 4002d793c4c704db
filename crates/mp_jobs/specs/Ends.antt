-- How a node is done.
use Rattle.std.specs.Prelude.{Bool, true, false, Some, None}
use Rattle.std.specs.declared.option.Option.{Option}
use Rattle.mp_strategy.specs.declared.outcome.Outcome.{Outcome}
use Rattle.mp_strategy.specs.declared.outcome.Outcome.TheVariants as outcome
use Rattle.mp_jobs.specs.declared.node.Node.{Node, Node-F, out-Node}
use Rattle.mp_jobs.specs.declared.node.Node.TheOpen as layer

-- the outcome of one level of a node that is done
abbrev pub done_at : {G X : Type 0} → Node-F G X → Option (Outcome G)
done_at (layer.Todo work) = None
done_at (layer.Claimed epoch who work) = None
done_at (layer.Done o) = Some o
done_at (layer.Then work first) = None
done_at (layer.Leaves tree kids cut) = None
done_at (layer.Else first second) = None
done_at (layer.Race kids) = None
done_at (layer.Check work inner) = None

-- the outcome of a node that is done
abbrev pub done_of : {G : Type 0} → Node G → Option (Outcome G)
done_of {G} n = done_at (out-Node G n)

-- whether there is an outcome, and it is a tree
abbrev pub is_tree : {G : Type 0} → Option (Outcome G) → Bool
is_tree (Some (outcome.Tree t)) = true
is_tree (Some (outcome.Failure e)) = false
is_tree None = false

-- whether there is an outcome, and it is a failure
abbrev pub is_failure : {G : Type 0} → Option (Outcome G) → Bool
is_failure (Some (outcome.Failure e)) = true
is_failure (Some (outcome.Tree t)) = false
is_failure None = false

-- Units of work on a node.
use Rattle.std.specs.Prelude.{ℕ, zero, suc}
use Rattle.std.specs.Option.{option_or, unwrap_or}
use Rattle.std.specs.declared.option.Option.{Option}
use Rattle.mp_logic.specs.Meaning.{Meaning}
use Rattle.mp_strategy.specs.declared.problem.ProblemState.{ProblemState}
use Rattle.mp_jobs.specs.declared.node.Node.{Node}
use Rattle.mp_jobs.specs.Expansion.{expand_rule}
use Rattle.mp_jobs.specs.Settlement.{settle_rule}
use Rattle.mp_jobs.specs.Walks.{first_change}

module _ {L G J : Type 0} (meaning : L → Meaning G J) (p : ProblemState L J) where
  -- one unit: a settlement where some node is ready, and else an expansion of the leftmost job that is to do
  abbrev pub unit_of : Node G → Option (Node G)
  unit_of n = option_or (first_change (settle_rule meaning p) n) (first_change (expand_rule meaning p) n)

  -- the node after so many units; it stays as it is once nothing is left to do
  abbrev pub units_of : ℕ → Node G → Node G
  units_of zero n = n
  units_of (suc k) n = unwrap_or (unit_of (units_of k n)) (units_of k n)

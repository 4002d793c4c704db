-- Several changes by one rule, one after the other.
use Rattle.std.specs.Prelude.{◌≡◌, ℕ, zero, suc, Some, None}
use Rattle.std.specs.declared.option.Option.{Option}
use Rattle.mp_logic.specs.Meaning.{Meaning}
use Rattle.mp_strategy.specs.declared.problem.ProblemState.{ProblemState}
use Rattle.mp_jobs.specs.declared.node.Node.{Node}
use Rattle.mp_jobs.specs.Settlement.{settle_rule}
use Rattle.mp_jobs.specs.Sizes.{weight_of}
use Rattle.mp_jobs.specs.Walks.{Rule, first_change}

-- what follows on a change, and the node itself where there is none
abbrev pub run_on : {G : Type 0} → Option (Node G) → (Node G → Node G) → Node G → Node G
run_on None rest n = n
run_on (Some m) rest n = rest m

-- the node after so many changes, each of the first node that the rule changes; fewer where it changes nothing more
abbrev pub run : {G : Type 0} → Rule G → ℕ → Node G → Node G
run rule zero n = n
run rule (suc k) n = run_on (first_change rule n) (run rule k) n

module _ {L G J : Type 0} (meaning : L → Meaning G J) (p : ProblemState L J) where
  -- the node with every settlement made, each of the first node that is ready: a node of this weight has no more of them to make
  abbrev pub settled : Node G → Node G
  settled n = run (settle_rule meaning p) (weight_of meaning p n) n

  -- some number of whole settlements was made
  abbrev pub SettledInPart : Node G → Node G → Type 0
  SettledInPart old new = (k : ℕ) × (new ≡ run (settle_rule meaning p) k old)

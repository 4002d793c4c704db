-- A core: its problem, and the machine that it is.
use Rattle.mp_strategy.specs.declared.work.Work.{Work}
use Rattle.mp_strategy.specs.declared.problem.ProblemState.{ProblemState}
use Rattle.mp_core.specs.declared.node.Node.{Node}
use Rattle.mp_core.specs.declared.node.Node.TheVariants as node
use Rattle.mp_core.specs.declared.state.MachineState.{MachineState}
use Rattle.mp_core.specs.declared.state.CoreState.{CoreState}
use Rattle.mp_core.specs.declared.core_calls.Root.{Root}
use Rattle.mp_core.specs.declared.core_calls.Root.TheVariants as root

-- the core on this problem whose machine is in this state
abbrev pub started : {L J G : Type 0} → ProblemState L J → MachineState G → CoreState L J G
started p s = record { problem = p; machine = s }

-- the core with this state of its machine
abbrev pub moved : {L J G : Type 0} → CoreState L J G → MachineState G → CoreState L J G
moved core s = record core { machine = s }

-- the node of a root that stands so, with its work
abbrev pub node_at : {G : Type 0} → Root G → Work G → Node G
node_at root.Todo work = node.Todo work
node_at (root.Claimed epoch who) work = node.Claimed epoch who work
node_at (root.Done o) work = node.Done o

-- The shape of a state of the machine, and when a state is sound.
use Rattle.std.specs.Prelude.{◌≡◌, ◌≢◌, ◌+◌, ◌<◌, ⊤, All, AllPairs}
use Rattle.mp_logic.specs.Meaning.{Meaning}
use Rattle.mp_strategy.specs.declared.work.Work.{Work}
use Rattle.mp_strategy.specs.declared.outcome.Outcome.{Outcome}
use Rattle.mp_strategy.specs.declared.problem.ProblemState.{ProblemState}
use Rattle.mp_strategy.specs.Laws.{IsGood}
use Rattle.mp_strategy.specs.Works.{IsWork}
use Rattle.mp_strategy.specs.Strategies.{Evals}
use Rattle.mp_core.specs.declared.node.Node.{Node}
use Rattle.mp_core.specs.declared.node.Node.TheVariants as node
use Rattle.mp_core.specs.declared.state.MachineState.{MachineState}
use Rattle.mp_core.specs.declared.core_calls.Claimed.{Claimed}
use Rattle.mp_core.specs.declared.core_calls.Claimed.TheVariants as claimed
use Rattle.mp_core.specs.declared.state.CoreState.{CoreState}
use Rattle.mp_core.specs.Nodes.{epochs_of}

-- each work in a node is such a work, and each outcome in it is such an outcome
abbrev pub EachPart : {G : Type 0} → (Work G → Type 0) → (Outcome G → Type 0) → Node G → Type 0
EachPart is_work is_outcome (node.Todo work) = is_work work
EachPart is_work is_outcome (node.Claimed epoch who work) = is_work work
EachPart is_work is_outcome (node.Done o) = is_outcome o

-- the shape of a state: the root work and each work in the node may be given to calls, and each goal of an outcome in it is
-- good; no epoch stands in two leaves of the node, and each is below the next one
pub record HasShape {L G J : Type 0} (meaning : L → Meaning G J) (p : ProblemState L J) (s : MachineState G) : Type 0 where
  pub root : IsWork meaning p s.work
  pub parts : EachPart (IsWork meaning p) (IsGood (meaning p.logic)) s.node
  pub distinct : AllPairs (λ one other. one ≢ other) (epochs_of s.node)
  pub below : All (λ epoch. epoch < s.drawn + 1) (epochs_of s.node)

-- what a node can still become, by what a work gives
abbrev pub Yields : {G : Type 0} → (Work G → Outcome G → Type 0) → Node G → Outcome G → Type 0
Yields evals (node.Todo work) o = evals work o
Yields evals (node.Claimed epoch who work) o = evals work o
Yields evals (node.Done p) o = o ≡ p

-- a state is sound: its node yields only what the root work gives
abbrev pub IsSoundState : {G : Type 0} → (Work G → Outcome G → Type 0) → MachineState G → Type 0
IsSoundState {G} evals s = (o : Outcome G) → Yields evals s.node o → evals s.work o

-- the machine of a core is sound for the core's problem
abbrev pub IsSoundCore : {L G J : Type 0} → (L → Meaning G J) → CoreState L J G → Type 0
IsSoundCore meaning core = IsSoundState (Evals meaning core.problem) core.machine

-- a ticket that is handed out has such a work
abbrev pub TicketHas : {G : Type 0} → (Work G → Type 0) → Claimed G → Type 0
TicketHas is_work (claimed.Ticket t) = is_work t.work
TicketHas is_work claimed.Nothing = ⊤
TicketHas is_work claimed.Finished = ⊤
TicketHas is_work claimed.Spent = ⊤

-- What a node of the job tree can still become: a relation, with the rows of the strategies for the nodes.
use Rattle.std.specs.Prelude.{◌≡◌, ℕ, ◌-◌, Bool, true, false, List, Some, slice_get}
use Rattle.std.specs.declared.option.Option.{Option}
use Rattle.mp_logic.specs.declared.tree.Tree.{Tree}
use Rattle.mp_logic.specs.Meaning.{Meaning}
use Rattle.mp_strategy.specs.declared.tactic.Tac.{Tac}
use Rattle.mp_strategy.specs.declared.tactic.Tac.TheVariants as tac
use Rattle.mp_strategy.specs.declared.outcome.Outcome.{Outcome}
use Rattle.mp_strategy.specs.declared.outcome.Outcome.TheVariants as outcome
use Rattle.mp_strategy.specs.declared.problem.ProblemState.{ProblemState}
use Rattle.mp_strategy.specs.declared.work.Work.{Work}
use Rattle.mp_strategy.specs.Strategies.{Given, Gives, SomeFails, All, Onward, OnLeaves, ElseGives, RaceGives, RepeatStep, Listed, as_many, left_of, progressed, completed, EvalsIn, Evals}
use Rattle.mp_jobs.specs.declared.node.Node.{Node, Node-F}
use Rattle.mp_jobs.specs.declared.node.Node.TheOpen as layer
use Rattle.mp_jobs.specs.declared.node.Node.TheFolds.{rec-Node}

-- the failure of the leftmost kid that fails, and where no kid was cut off the tree with the kids' trees grafted
abbrev pub LeavesGive : {X G : Type 0} → (X → Given G) → Tree G → List X → Bool → Given G
LeavesGive each t ks false o = All each t ks o
LeavesGive each t ks true (outcome.Failure e) = SomeFails each ks e
LeavesGive each t ks true (outcome.Tree whole) = ⊥

module _ {L G J : Type 0} (meaning : L → Meaning G J) (p : ProblemState L J) where
  -- what the entry at a place of the table gives that has so many repeats left
  abbrev pub EntryGives : ℕ → ℕ → Gives G
  EntryGives at left = EvalsIn (meaning p.logic) p.justs 0 p.tacs at left

  -- what the entries of the table give by themselves
  abbrev pub PartGives : ℕ → Gives G
  PartGives at = EntryGives at (left_of (slice_get p.tacs at))

  -- what a work with this strategy gives, by what its first part yields; no other work waits for a first part
  abbrev pub ThenGives : Option Tac → Work G → Given G → Given G
  ThenGives (Some (tac.Then a b)) w first o = Onward first (OnLeaves (PartGives b.0) w.fuel) o
  ThenGives (Some (tac.ThenL a bs)) w first o = Onward first (λ t. Listed (as_many bs t) PartGives w.tac.0 bs w.fuel w.goal t) o
  ThenGives (Some (tac.Repeat n a)) w first o = RepeatStep first (EntryGives w.tac.0 (w.left - 1)) w.fuel w.goal o
  ThenGives other w first o = ⊥

  -- what a work with this strategy gives, by what its part yields; no other work looks at its part's tree
  abbrev pub CheckGives : Option Tac → Work G → Given G → Given G
  CheckGives (Some (tac.Progress a)) w inner o = Onward inner (λ t q. q ≡ progressed (meaning p.logic) w.tac.0 w.goal t) o
  CheckGives (Some (tac.Complete a)) w inner o = Onward inner (λ t q. q ≡ completed w.tac.0 w.goal t) o
  CheckGives other w inner o = ⊥

  -- what one level of a node yields, by what its parts yield
  abbrev pub yields_step : (X : Type 0) → (X → Node G) → (X → Given G) → Node-F G X → Given G
  yields_step X node yields (layer.Todo work) o = Evals meaning p work o
  yields_step X node yields (layer.Claimed epoch who work) o = Evals meaning p work o
  yields_step X node yields (layer.Done q) o = o ≡ q
  yields_step X node yields (layer.Then work first) o = ThenGives (slice_get p.tacs work.tac.0) work (yields first) o
  yields_step X node yields (layer.Leaves tree kids cut) o = LeavesGive yields tree kids cut o
  yields_step X node yields (layer.Else first second) o = ElseGives (yields first) (yields second) o
  yields_step X node yields (layer.Race kids) o = RaceGives yields kids o
  yields_step X node yields (layer.Check work inner) o = CheckGives (slice_get p.tacs work.tac.0) work (yields inner) o

  -- the outcomes that a node can still become
  abbrev pub Yields : Node G → Given G
  Yields n = rec-Node G (Given G) yields_step n

  -- the new node yields no outcome that the old one doesn't
  abbrev pub YieldsNoMore : Node G → Node G → Type 0
  YieldsNoMore new old = (o : Outcome G) → Yields new o → Yields old o

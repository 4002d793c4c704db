-- What holds of the nodes of the job tree.
use Rattle.std.specs.Prelude.{◌≡◌, ◌↔◌, ℕ, ◌≤◌, Bool, IsTrue, List, Some, None}
use Rattle.std.specs.List.{AllZip}
use Rattle.std.specs.Option.{is_some}
use Rattle.mp_logic.specs.Meaning.{Meaning}
use Rattle.mp_logic.specs.declared.tree.Tree.{Tree}
use Rattle.mp_strategy.specs.declared.problem.ProblemState.{ProblemState}
use Rattle.mp_strategy.specs.declared.work.Work.{Work}
use Rattle.mp_strategy.specs.Works.{IsWork}
use Rattle.mp_jobs.specs.declared.node.Node.{Node, Todo, Then, Leaves, Else, Race, Check}
use Rattle.mp_jobs.specs.Costs.{work_size}
use Rattle.mp_jobs.specs.Ends.{done_of}
use Rattle.mp_jobs.specs.Kept.{Kept}
use Rattle.mp_jobs.specs.Finding.{is_live}
use Rattle.mp_jobs.specs.Refines.{Refines}
use Rattle.mp_jobs.specs.Runs.{settled}
use Rattle.mp_jobs.specs.Settlement.{IsSettled}
use Rattle.mp_jobs.specs.Shapes.{Shape}
use Rattle.mp_jobs.specs.Sizes.{weight_of}
use Rattle.mp_jobs.specs.Steps.{Steps, IsSteady, IsNoMore, IsSoundFor}
use Rattle.mp_jobs.specs.Units.{units_of}
use Rattle.mp_jobs.specs.Walks.{Rule, first_change}
use Rattle.mp_jobs.specs.Yields.{YieldsNoMore}

module _ {L G J : Type 0} (meaning : L → Meaning G J) (p : ProblemState L J) where
  -- a node whose parts yield no more yields no more
  pub record YieldsAreMonotone : Type 0 where
    pub then : (w : Work G) (new old : Node G) → YieldsNoMore meaning p new old → YieldsNoMore meaning p (Then w new) (Then w old)
    pub leaves : (t : Tree G) (new old : List (Node G)) (cut : Bool) → AllZip (YieldsNoMore meaning p) new old → YieldsNoMore meaning p (Leaves t new cut) (Leaves t old cut)
    pub or : (new old new' old' : Node G) → YieldsNoMore meaning p new old → YieldsNoMore meaning p new' old' → YieldsNoMore meaning p (Else new new') (Else old old')
    pub race : (new old : List (Node G)) → AllZip (YieldsNoMore meaning p) new old → YieldsNoMore meaning p (Race new) (Race old)
    pub check : (w : Work G) (new old : Node G) → YieldsNoMore meaning p new old → YieldsNoMore meaning p (Check w new) (Check w old)

  -- each change by a rule keeps the shape, yields no more, lowers the weight, raises no width, and claims nothing
  abbrev pub EachChangeKeeps : Rule G → Type 0
  EachChangeKeeps rule = (old new : Node G) → Shape meaning p old → first_change rule old ≡ Some new → Kept meaning p 1 (λ e. 0) new old

  -- the weight of a node is 0 exactly where the node is done
  abbrev pub OnlyDoneIsWeightless : Type 0
  OnlyDoneIsWeightless = (n : Node G) → Shape meaning p n → (weight_of meaning p n ≡ 0) ↔ IsTrue (is_some (done_of n))

  -- a node on which every settlement was made is settled
  abbrev pub SettledIsSettled : Type 0
  SettledIsSettled = (n : Node G) → Shape meaning p n → IsSettled meaning p (settled meaning p n)

  -- a settled node that isn't done has a job that is to do or claimed
  abbrev pub SettledIsLive : Type 0
  SettledIsLive = (n : Node G) → Shape meaning p n → IsSettled meaning p n → done_of n ≡ None → IsTrue (is_live n)

  -- after at least one unit on the job of a work the node refines the work
  abbrev pub UnitsRefine : Type 0
  UnitsRefine = (work : Work G) (k : ℕ) → IsWork meaning p work → 1 ≤ k → Refines meaning p (units_of meaning p k (Todo work)) work

  -- after steps in any order a node is steady if it was, and it is no more than it was
  abbrev pub StepsKeep : Type 0
  StepsKeep = (old new : Node G) (i j : ℕ) → Steps meaning p old i new j → IsSteady meaning p old i → IsSteady meaning p new j × IsNoMore meaning p new old

  -- a node that steps reach from the job of a work is steady, yields only what the work gives, and weighs no more than the work costs
  abbrev pub RunsAreSound : Type 0
  RunsAreSound = (work : Work G) (n : Node G) (i j : ℕ) → IsWork meaning p work → Steps meaning p (Todo work) i n j
      → IsSteady meaning p n j × IsSoundFor meaning p work n × (weight_of meaning p n ≤ (work_size meaning p work).heavy)

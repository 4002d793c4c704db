-- What a drill keeps while it runs.
use Rattle.std.specs.Prelude.{◌≡◌, List, length, All, IfSome}
use Rattle.mp_drill.specs.declared.limits.TheConstants.{WORKERS}
use Rattle.mp_logic.specs.Meaning.{Meaning}
use Rattle.mp_strategy.specs.declared.work.Work.{Work}
use Rattle.mp_strategy.specs.declared.outcome.Outcome.{Outcome}
use Rattle.mp_strategy.specs.Works.{IsWork}
use Rattle.mp_strategy.specs.Strategies.{Evals}
use Rattle.mp_core.specs.declared.state.CoreState.{CoreState}
use Rattle.mp_core.specs.Sound.{IsSoundCore}
use Rattle.mp_drill.specs.declared.workers.Worker.{Worker}

-- a worker's ticket is for such a work, and its last parcel has an outcome that its work gives
abbrev pub IsTrueWorker : {G : Type 0} → (Work G → Type 0) → (Work G → Outcome G → Type 0) → Worker G → Type 0
IsTrueWorker is_work evals w = IfSome w.hand (λ t. is_work t.work) × IfSome w.last (λ p. evals p.work p.outcome)

-- the core is sound, and there are workers 0 to 64, each of them true
pub record IsReady {L G J : Type 0} (meaning : L → Meaning G J) (core : CoreState L J G) (workers : List (Worker G)) : Type 0 where
  pub sound : IsSoundCore meaning core
  pub count : length workers ≡ WORKERS
  pub workers_true : All (IsTrueWorker (IsWork meaning core.problem) (Evals meaning core.problem)) workers

-- What the workers hold beside the core.
use Rattle.std.specs.Prelude.{ℕ, List, None, slice_index_or, slice_set, replicate}
use Rattle.mp_drill.specs.declared.limits.TheConstants.{WORKERS}
use Rattle.std.specs.declared.option.Option.{Option}
use Rattle.mp_strategy.specs.declared.work.Work.{Work}
use Rattle.mp_core.specs.declared.state.MachineState.{MachineState}
use Rattle.mp_core.specs.declared.state.Ticket.{Ticket}
use Rattle.mp_core.specs.Machine.{opening}
use Rattle.mp_drill.specs.declared.workers.Worker.{Worker}

-- a worker that holds nothing
abbrev pub idle : {G : Type 0} → Worker G
idle = record { hand = None; last = None }

-- the core's machine, and what each worker holds, by its number
pub record World (G : Type 0) : Type 0 where
  pub machine : MachineState G
  pub workers : List (Worker G)

module _ {G : Type 0} where
  -- the worker of this number; no other number has one
  abbrev pub worker_at : List (Worker G) → ℕ → Worker G
  worker_at workers who = slice_index_or workers who idle

  -- the worker holds this ticket, or none
  abbrev pub with_hand : List (Worker G) → ℕ → Option (Ticket G) → List (Worker G)
  with_hand workers who hand = slice_set workers who (record { hand = hand; last = (worker_at workers who).last })

  -- the world of this machine and these workers
  abbrev pub world : MachineState G → List (Worker G) → World G
  world machine workers = record { machine = machine; workers = workers }

  -- the root work is to do, and workers 0 to 64 hold nothing
  abbrev pub first_world : Work G → World G
  first_world work = record { machine = opening work; workers = replicate WORKERS idle }

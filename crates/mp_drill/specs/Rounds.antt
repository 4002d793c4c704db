-- The caller's rounds until the root is done.
use Rattle.std.specs.Prelude.{◌≡◌, Some}
use Rattle.mp_strategy.specs.declared.work.Work.{Work}
use Rattle.mp_strategy.specs.declared.outcome.Outcome.{Outcome}
use Rattle.mp_core.specs.declared.state.MachineState.{MachineState}
use Rattle.mp_core.specs.declared.state.Ticket.{Ticket}
use Rattle.mp_core.specs.declared.state.Parcel.{Parcel}
use Rattle.mp_core.specs.declared.core_calls.Claimed.TheVariants as claimed
use Rattle.mp_core.specs.declared.core_calls.Reported.{Reported}
use Rattle.mp_core.specs.Machine.{next_for, Reports, answer_of}

module _ {G : Type 0} (eval : Work G → Outcome G) where
  -- the ticket's parcel, with what its work evaluates to
  abbrev pub evaluated : Ticket G → Parcel G
  evaluated t = record { epoch = t.epoch; work = t.work; outcome = eval t.work }

  -- from this state the rounds end with this outcome. A round is one ticket for the caller and one report; if the
  -- epochs are spent, the root work is evaluated
  pub data Rounds : MachineState G → Outcome G → Type 0 where
    finished : (s : MachineState G) (o : Outcome G) → (next_for s).0 ≡ claimed.Finished → answer_of (next_for s).1 ≡ Some o → Rounds s o
    spent : (s : MachineState G) → (next_for s).0 ≡ claimed.Spent → Rounds s (eval s.work)
    round : (s : MachineState G) (t : Ticket G) (reply : Reported G) (new : MachineState G) (o : Outcome G)
        → (next_for s).0 ≡ claimed.Ticket t → Reports (next_for s).1 (evaluated t) reply new → Rounds new o → Rounds s o

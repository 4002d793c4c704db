-- The trace of a schedule: what each event is answered, and the outcome at the end.
use Rattle.std.specs.Prelude.{◌≡◌, ℕ, List, [], ◌∷◌, Some, None, slice_set}
use Rattle.std.specs.declared.option.Option.{Option}
use Rattle.mp_strategy.specs.declared.work.Work.{Work}
use Rattle.mp_strategy.specs.declared.outcome.Outcome.{Outcome}
use Rattle.mp_core.specs.declared.state.MachineState.{MachineState}
use Rattle.mp_core.specs.declared.state.Ticket.{Ticket}
use Rattle.mp_core.specs.declared.state.Parcel.{Parcel}
use Rattle.mp_core.specs.declared.core_calls.Claimed.{Claimed}
use Rattle.mp_core.specs.declared.core_calls.Claimed.TheVariants as claimed
use Rattle.mp_core.specs.declared.core_calls.Reported.TheVariants as reported
use Rattle.mp_core.specs.Machine.{claimed_by, reissued, lost_by, Reports}
use Rattle.mp_drill.specs.declared.schedule.Event.{Event}
use Rattle.mp_drill.specs.declared.schedule.Event.TheVariants as event
use Rattle.mp_drill.specs.declared.schedule.Reply.{Reply}
use Rattle.mp_drill.specs.declared.schedule.Reply.TheVariants as reply
use Rattle.mp_drill.specs.declared.workers.Worker.{Worker}
use Rattle.mp_drill.specs.Workers.{World, idle, worker_at, with_hand, first_world}
use Rattle.mp_drill.specs.Rounds.{evaluated, Rounds}

module _ {G : Type 0} where
  -- a core's answer to a claim, as a reply
  abbrev pub claim_reply : Claimed G → Reply
  claim_reply (claimed.Ticket t) = reply.Ticket t.epoch
  claim_reply claimed.Nothing = reply.Nothing
  claim_reply claimed.Finished = reply.Finished
  claim_reply claimed.Spent = reply.Spent

  -- a ticket replaces the worker's hand; if there is none, the hand stays
  abbrev pub hand_over : Claimed G → ℕ → List (Worker G) → List (Worker G)
  hand_over (claimed.Ticket t) who workers = with_hand workers who (Some t)
  hand_over claimed.Nothing who workers = workers
  hand_over claimed.Finished who workers = workers
  hand_over claimed.Spent who workers = workers

  -- the core's answer to the worker's claim, and its state after it
  abbrev pub Handed : Claimed G × MachineState G → ℕ → World G → Reply → World G → Type 0
  Handed given who w r new = (r ≡ claim_reply given.0) × (new ≡ record { machine = given.1; workers = hand_over given.0 who w.workers })

  -- the parcel is reported, and is taken or stale
  abbrev pub Delivers : MachineState G → Parcel G → Reply → MachineState G → Type 0
  Delivers s p reply.Taken new = Reports s p reported.Taken new
  Delivers s p reply.Stale new = Reports s p (reported.Stale p) new
  Delivers s p other new = ⊥

module _ {G : Type 0} (eval : Work G → Outcome G) where
  -- the worker's ticket, if it holds one, becomes a parcel that is reported and kept as its last one
  abbrev pub Sends : Option (Ticket G) → ℕ → World G → Reply → World G → Type 0
  Sends None who w r new = (r ≡ reply.Empty) × (new ≡ w)
  Sends (Some t) who w r new = Delivers w.machine (evaluated eval t) r new.machine
      × (new.workers ≡ slice_set w.workers who (record { hand = None; last = Some (evaluated eval t) }))

  -- the worker's last parcel, if there is one, is reported once more
  abbrev pub Repeats : Option (Parcel G) → World G → Reply → World G → Type 0
  Repeats None w r new = (r ≡ reply.Empty) × (new ≡ w)
  Repeats (Some p) w r new = Delivers w.machine p r new.machine × (new.workers ≡ w.workers)

  -- the event takes the one world to the other, and is answered so
  abbrev pub Happens : World G → Event → Reply → World G → Type 0
  Happens w (event.Claim who) r new = Handed (claimed_by w.machine who) who w r new
  Happens w event.Reissue r new = Handed (reissued w.machine) 0 w r new
  Happens w (event.Send who units) r new = Sends (worker_at w.workers who).hand who w r new
  Happens w (event.Again who) r new = Repeats (worker_at w.workers who).last w r new
  Happens w (event.Die who) r new = (r ≡ reply.Gone) × (new ≡ record w { workers = slice_set w.workers who idle })
  Happens w (event.Lose who) r new = (r ≡ reply.Back (lost_by w.machine who).0) × (new ≡ record w { machine = (lost_by w.machine who).1 })

  -- the events, one after the other, take the one world to the other, and are answered so
  abbrev pub Replies : World G → List Event → List Reply → World G → Type 0
  Replies w [] [] end = end ≡ w
  Replies w (e ∷ es) (r ∷ rs) end = (mid : World G) × Happens w e r mid × Replies mid es rs end
  Replies w [] (r ∷ rs) end = ⊥
  Replies w (e ∷ es) [] end = ⊥

  -- from the start of the work the events are answered so, and the caller's rounds end with the outcome
  abbrev pub IsTrace : Work G → List Event → List Reply → Outcome G → Type 0
  IsTrace work events replies o = (end : World G) × Replies (first_world work) events replies end × Rounds eval end.machine o

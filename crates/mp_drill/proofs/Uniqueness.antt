-- A schedule has one trace.
use Rattle.std.proofs.Common.{◌≡◌, ◌⊎◌, inl, inr, ℕ, List, [], ◌∷◌, Some, None, refl, sym, subst, ◌∙◌}
use Rattle.std.specs.declared.option.Option.{Option}
use Rattle.mp_strategy.specs.declared.work.Work.{Work}
use Rattle.mp_strategy.specs.declared.outcome.Outcome.{Outcome}
use Rattle.mp_core.specs.declared.state.MachineState.{MachineState}
use Rattle.mp_core.specs.declared.state.Ticket.{Ticket}
use Rattle.mp_core.specs.declared.state.Parcel.{Parcel}
use Rattle.mp_core.specs.declared.core_calls.Claimed.{Claimed}
use Rattle.mp_core.specs.declared.core_calls.Reported.TheVariants as reported
use Rattle.mp_core.specs.Machine.{claimed_by, reissued, settle, IsDue, IsStale, Reports}
use Rattle.mp_drill.specs.declared.schedule.Event.{Event}
use Rattle.mp_drill.specs.declared.schedule.Event.TheVariants as event
use Rattle.mp_drill.specs.declared.schedule.Reply.{Reply}
use Rattle.mp_drill.specs.declared.schedule.Reply.TheVariants as reply
use Rattle.mp_drill.specs.Workers.{World, worker_at, first_world}
use Rattle.mp_drill.specs.Trace.{Handed, Delivers, Sends, Repeats, Happens, Replies}
use Rattle.mp_drill.specs.Laws.{OneTrace}
use Rattle.mp_drill.proofs.Outcomes.{trace_gives_eval}

module _ {G : Type 0} where
  -- a parcel that is delivered is taken, or it is stale
  How : MachineState G → Parcel G → Reply → MachineState G → Type 0
  How s p r new = ((r ≡ reply.Taken) × Reports s p reported.Taken new) ⊎ ((r ≡ reply.Stale) × IsStale s p new)

  how : (s : MachineState G) (p : Parcel G) (r : Reply) (new : MachineState G) → Delivers s p r new → How s p r new
  unfolding How
  how s p reply.Taken new h = inl (refl, h)
  how s p reply.Stale new h = inr (refl, h.1)
  how s p (reply.Ticket k) new h = absurd h
  how s p reply.Nothing new h = absurd h
  how s p reply.Finished new h = absurd h
  how s p reply.Spent new h = absurd h
  how s p (reply.Back k) new h = absurd h
  how s p reply.Gone new h = absurd h
  how s p reply.Empty new h = absurd h

  not_both : (s : MachineState G) (p : Parcel G) (new : MachineState G) → IsDue s p → IsDue (settle s) p → IsStale s p new → ⊥
  not_both s p new due still (inl stale) = stale.0 due
  not_both s p new due still (inr stale) = stale.1 still

  one_stale : (s : MachineState G) (p : Parcel G) (new other : MachineState G) → IsStale s p new → IsStale s p other → new ≡ other
  one_stale s p new other (inl h) (inl k) = h.1 ∙ sym k.1
  one_stale s p new other (inl h) (inr k) = absurd (h.0 k.0)
  one_stale s p new other (inr h) (inl k) = absurd (k.0 h.0)
  one_stale s p new other (inr h) (inr k) = h.2 ∙ sym k.2

  one_how : (s : MachineState G) (p : Parcel G) (r q : Reply) (new other : MachineState G) → How s p r new → How s p q other → (r ≡ q) × (new ≡ other)
  unfolding How
  one_how s p r q new other (inl h) (inl k) = (h.0 ∙ sym k.0, h.1.2 ∙ sym k.1.2)
  one_how s p r q new other (inl h) (inr k) = absurd (not_both s p other h.1.0 h.1.1 k.1)
  one_how s p r q new other (inr h) (inl k) = absurd (not_both s p new k.1.0 k.1.1 h.1)
  one_how s p r q new other (inr h) (inr k) = (h.0 ∙ sym k.0, one_stale s p new other h.1 k.1)

  one_delivery : (s : MachineState G) (p : Parcel G) (r q : Reply) (new other : MachineState G) → Delivers s p r new → Delivers s p q other → (r ≡ q) × (new ≡ other)
  one_delivery s p r q new other h k = one_how s p r q new other (how s p r new h) (how s p q other k)

  one_handing : (given : Claimed G × MachineState G) (who : ℕ) (w : World G) (r q : Reply) (new other : World G) → Handed given who w r new → Handed given who w q other → (r ≡ q) × (new ≡ other)
  one_handing given who w r q new other h k = (h.0 ∙ sym k.0, h.1 ∙ sym k.1)

  one_world : (new other : World G) → new.machine ≡ other.machine → new.workers ≡ other.workers → new ≡ other
  one_world new other e f = λ i. record { machine = e i; workers = f i }

module _ {G : Type 0} (eval : Work G → Outcome G) where
  one_send : (hand : Option (Ticket G)) (who : ℕ) (w : World G) (r q : Reply) (new other : World G) → Sends eval hand who w r new → Sends eval hand who w q other → (r ≡ q) × (new ≡ other)
  one_send None who w r q new other h k = (h.0 ∙ sym k.0, h.1 ∙ sym k.1)
  one_send (Some t) who w r q new other h k =
      let d = one_delivery w.machine _ r q new.machine other.machine h.0 k.0 in
      (d.0, one_world new other d.1 (h.1 ∙ sym k.1))

  one_repeat : (last : Option (Parcel G)) (w : World G) (r q : Reply) (new other : World G) → Repeats eval last w r new → Repeats eval last w q other → (r ≡ q) × (new ≡ other)
  one_repeat None w r q new other h k = (h.0 ∙ sym k.0, h.1 ∙ sym k.1)
  one_repeat (Some p) w r q new other h k =
      let d = one_delivery w.machine p r q new.machine other.machine h.0 k.0 in
      (d.0, one_world new other d.1 (h.1 ∙ sym k.1))

  -- an event has one reply, and leaves one world
  one_reply : (w : World G) (e : Event) (r q : Reply) (new other : World G) → Happens eval w e r new → Happens eval w e q other → (r ≡ q) × (new ≡ other)
  one_reply w (event.Claim who) r q new other h k = one_handing (claimed_by w.machine who) who w r q new other h k
  one_reply w event.Reissue r q new other h k = one_handing (reissued w.machine) 0 w r q new other h k
  one_reply w (event.Send who units) r q new other h k = one_send (worker_at w.workers who).hand who w r q new other h k
  one_reply w (event.Again who) r q new other h k = one_repeat (worker_at w.workers who).last w r q new other h k
  one_reply w (event.Die who) r q new other h k = (h.0 ∙ sym k.0, h.1 ∙ sym k.1)
  one_reply w (event.Lose who) r q new other h k = (h.0 ∙ sym k.0, h.1 ∙ sym k.1)

  one_list : (w : World G) (es : List Event) (rs qs : List Reply) (end other : World G) → Replies eval w es rs end → Replies eval w es qs other → rs ≡ qs
  one_list w [] [] [] end other h k = refl
  one_list w [] [] (q ∷ qs) end other h k = absurd k
  one_list w [] (r ∷ rs) qs end other h k = absurd h
  one_list w (e ∷ es) [] qs end other h k = absurd h
  one_list w (e ∷ es) (r ∷ rs) [] end other h k = absurd k
  one_list w (e ∷ es) (r ∷ rs) (q ∷ qs) end other h k =
      let first = one_reply w e r q h.0 k.0 h.1 k.1 in
      let rest = one_list h.0 es rs qs end other h.2 (subst (λ m. Replies eval m es qs other) (sym first.1) k.2) in
      λ i. first.0 i ∷ rest i

  pub one_trace : OneTrace eval
  one_trace work events rs qs o p h k =
      (one_list (first_world work) events rs qs h.0 k.0 h.1 k.1, trace_gives_eval eval work events rs o h ∙ sym (trace_gives_eval eval work events qs p k))

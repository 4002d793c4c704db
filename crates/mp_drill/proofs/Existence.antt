-- Each schedule has a trace, and it ends with what the root work evaluates to.
use Rattle.std.proofs.Common.{◌≡◌, ℕ, ◌+◌, ◌==◌, ◌⊎◌, Bool, true, false, List, [], ◌∷◌, Some, None, slice_set, refl, sym, ap, subst, ◌∙◌, inl, inr, true≢false, if◌then◌else◌}
use Rattle.std.specs.declared.option.Option.{Option}
use Rattle.std.proofs.lemmas.Bool.{cases_eq}
use Rattle.mp_logic.specs.Meaning.{Meaning, IsLogic}
use Rattle.mp_strategy.specs.declared.work.Work.{Work}
use Rattle.mp_strategy.specs.declared.outcome.Outcome.{Outcome}
use Rattle.mp_core.specs.declared.node.Node.{Node}
use Rattle.mp_core.specs.declared.node.Node.TheVariants as node
use Rattle.mp_core.specs.declared.state.MachineState.{MachineState}
use Rattle.mp_core.specs.declared.state.Ticket.{Ticket}
use Rattle.mp_core.specs.declared.state.Parcel.{Parcel}
use Rattle.mp_core.specs.declared.core_calls.Claimed.{Claimed}
use Rattle.mp_core.specs.declared.core_calls.Claimed.TheVariants as claimed
use Rattle.mp_core.specs.declared.core_calls.Reported.TheVariants as reported
use Rattle.mp_core.specs.Nodes.{HasClaim}
use Rattle.mp_core.specs.Machine.{last_epoch, next_for, or_reissued, claimed_by, reissued, lost_by, settle, placed, IsDue}
use Rattle.mp_drill.specs.declared.schedule.Event.{Event}
use Rattle.mp_drill.specs.declared.schedule.Event.TheVariants as event
use Rattle.mp_drill.specs.declared.schedule.Reply.{Reply}
use Rattle.mp_drill.specs.declared.schedule.Reply.TheVariants as reply
use Rattle.mp_drill.specs.Workers.{World, idle, worker_at, first_world}
use Rattle.mp_drill.specs.Rounds.{evaluated, Rounds, finished, spent, round}
use Rattle.mp_drill.specs.Trace.{claim_reply, hand_over, Handed, Delivers, Sends, Repeats, Happens, Replies, IsTrace}
use Rattle.mp_drill.proofs.Outcomes.{trace_gives_eval}
use Rattle.mp_drill.proofs.Rounding.{weight_at, got, delivered}

decide_both : {P Q : Type 0} → P ⊎ (P → ⊥) → Q ⊎ (Q → ⊥) → (P × Q) ⊎ (P × Q → ⊥)
decide_both (inl p) (inl q) = inl (p, q)
decide_both (inl p) (inr not) = inr (λ h. not h.1)
decide_both (inr not) q = inr (λ h. not h.0)

-- goals that can be compared make works that can
module _ {G J : Type 0} (m : Meaning G J) (lawful : IsLogic m) where
  by_test : (a b : G) (test : Bool) → m.same a b ≡ test → (a ≡ b) ⊎ ((a ≡ b) → ⊥)
  by_test a b true e = inl ((lawful.same_is a b).0 e)
  by_test a b false e = inr (λ h. true≢false (sym ((lawful.same_is a b).1 h) ∙ e))

  same_fields : (number left fuel : ℕ) (goal : G) (b : Work G) → number ≡ b.tac.0 → left ≡ b.left → fuel ≡ b.fuel → goal ≡ b.goal
      → ◌≡◌ {A = Work G} (record { tac = record { 0 = number }; left = left; fuel = fuel; goal = goal }) b
  same_fields number left fuel goal b e f g h = rw (e, f, g, h) refl

  by_fields : (a b : Work G) → (a.tac.0 ≡ b.tac.0) ⊎ (a.tac.0 ≡ b.tac.0 → ⊥) → (a.left ≡ b.left) ⊎ (a.left ≡ b.left → ⊥) → (a.fuel ≡ b.fuel) ⊎ (a.fuel ≡ b.fuel → ⊥)
      → (a.goal ≡ b.goal) ⊎ (a.goal ≡ b.goal → ⊥) → (a ≡ b) ⊎ ((a ≡ b) → ⊥)
  by_fields a b (inl e) (inl f) (inl g) (inl h) = inl (same_fields a.tac.0 a.left a.fuel a.goal b e f g h)
  by_fields a b (inl e) (inl f) (inl g) (inr not) = inr (λ s. not (ap (λ (w : Work G). w.goal) s))
  by_fields a b (inl e) (inl f) (inr not) d = inr (λ s. not (ap (λ (w : Work G). w.fuel) s))
  by_fields a b (inl e) (inr not) c d = inr (λ s. not (ap (λ (w : Work G). w.left) s))
  by_fields a b (inr not) n c d = inr (λ s. not (ap (λ (w : Work G). w.tac.0) s))

  pub decide_work : (a b : Work G) → (a ≡ b) ⊎ ((a ≡ b) → ⊥)
  decide_work a b = by_fields a b (cases_eq a.tac.0 b.tac.0) (cases_eq a.left b.left) (cases_eq a.fuel b.fuel) (by_test a.goal b.goal (m.same a.goal b.goal) refl)

module _ {G : Type 0} (eval : Work G → Outcome G) (decide : (a b : Work G) → (a ≡ b) ⊎ ((a ≡ b) → ⊥)) where
  -- a job is claimed under the epoch with this work, or none is
  decide_claim : (epoch : ℕ) (work : Work G) (n : Node G) → HasClaim epoch work n ⊎ (HasClaim epoch work n → ⊥)
  decide_claim epoch work (node.Todo own) = inr (λ h. h)
  decide_claim epoch work (node.Claimed own who held) = decide_both (cases_eq own epoch) (decide held work)
  decide_claim epoch work (node.Done o) = inr (λ h. h)

  deliver_by : (s : MachineState G) (p : Parcel G) → IsDue s p ⊎ (IsDue s p → ⊥) → IsDue (settle s) p ⊎ (IsDue (settle s) p → ⊥)
      → (r : Reply) × (new : MachineState G) × Delivers s p r new
  deliver_by s p (inl due) (inl still) = (reply.Taken, settle (placed (settle s) p), (due, still, refl))
  deliver_by s p (inl due) (inr withdrawn) = (reply.Stale, settle s, (refl, inr (due, withdrawn, refl)))
  deliver_by s p (inr not-due) now = (reply.Stale, s, (refl, inl (not-due, refl)))

  some_delivery : (s : MachineState G) (p : Parcel G) → (r : Reply) × (new : MachineState G) × Delivers s p r new
  some_delivery s p = deliver_by s p (decide_claim p.epoch p.work s.node) (decide_claim p.epoch p.work (settle s).node)

  some_handing : (given : Claimed G × MachineState G) (who : ℕ) (w : World G) → (r : Reply) × (new : World G) × Handed given who w r new
  some_handing given who w = (claim_reply given.0, record { machine = given.1; workers = hand_over given.0 who w.workers }, (refl, refl))

  some_send : (hand : Option (Ticket G)) (who : ℕ) (w : World G) → (r : Reply) × (new : World G) × Sends eval hand who w r new
  some_send None who w = (reply.Empty, w, (refl, refl))
  some_send (Some t) who w =
      let d = some_delivery w.machine (evaluated eval t) in
      (d.0, record { machine = d.1; workers = slice_set w.workers who (record { hand = None; last = Some (evaluated eval t) }) }, (d.2, refl))

  some_repeat : (last : Option (Parcel G)) (w : World G) → (r : Reply) × (new : World G) × Repeats eval last w r new
  some_repeat None w = (reply.Empty, w, (refl, refl))
  some_repeat (Some p) w = let d = some_delivery w.machine p in (d.0, record { machine = d.1; workers = w.workers }, (d.2, refl))

  -- each event is answered
  pub some_reply : (w : World G) (e : Event) → (r : Reply) × (new : World G) × Happens eval w e r new
  some_reply w (event.Claim who) = some_handing (claimed_by w.machine who) who w
  some_reply w event.Reissue = some_handing (reissued w.machine) 0 w
  some_reply w (event.Send who units) = some_send (worker_at w.workers who).hand who w
  some_reply w (event.Again who) = some_repeat (worker_at w.workers who).last w
  some_reply w (event.Die who) = (reply.Gone, record w { workers = slice_set w.workers who idle }, (refl, refl))
  some_reply w (event.Lose who) = (reply.Back (lost_by w.machine who).0, record w { machine = (lost_by w.machine who).1 }, (refl, refl))

  -- each list of events is answered
  pub some_replies : (w : World G) (es : List Event) → (rs : List Reply) × (end : World G) × Replies eval w es rs end
  some_replies w [] = ([], w, refl)
  some_replies w (e ∷ es) =
      let first = some_reply w e in
      let rest = some_replies first.1 es in
      (first.0 ∷ rest.0, rest.1, (first.1, first.2, rest.2))

  -- where nothing is left the rounds end at once
  ended : (work : Work G) (n : Node G) (drawn : ℕ) → weight_at n ≡ 0 → (o : Outcome G) × Rounds eval (record { work = work; node = n; drawn = drawn }) o
  ended work (node.Todo w) drawn e = absurd (cc)
  ended work (node.Claimed epoch who w) drawn e = absurd (cc)
  ended work (node.Done o) drawn e = (o, finished _ o refl refl)

  one_round : (s : MachineState G) (t : Ticket G) → (next_for s).0 ≡ claimed.Ticket t → (o : Outcome G) × Rounds eval s o
  one_round s t e =
      let next = (next_for s).1 in
      let p = evaluated eval t in
      let d = some_delivery next p in
      let done = delivered next p d.0 d.1 (got s t next (sym e) refl).claimed_is d.2 in
      let rest = ended d.1.work d.1.node d.1.drawn done.1 in
      (rest.0, round s t reported.Taken d.1 rest.0 e done.0 rest.1)

  ticket_or_spent : (s : MachineState G) (t : Ticket G) → ((next_for s).0 ≡ claimed.Spent) ⊎ ((next_for s).0 ≡ claimed.Ticket t) → (o : Outcome G) × Rounds eval s o
  ticket_or_spent s t (inl e) = (eval s.work, spent s e)
  ticket_or_spent s t (inr e) = one_round s t e

  which_claim : (is_spent : Bool) (t : Ticket G) (s m : MachineState G) → let c = (or_reissued (if is_spent then claimed.Spent else claimed.Ticket t, if is_spent then s else m)).0 in (c ≡ claimed.Spent) ⊎ (c ≡ claimed.Ticket t)
  which_claim true t s m = inl refl
  which_claim false t s m = inr refl

  which_issue : (is_spent : Bool) (t : Ticket G) → let c = (if is_spent then claimed.Spent else claimed.Ticket t) in (c ≡ claimed.Spent) ⊎ (c ≡ claimed.Ticket t)
  which_issue true t = inl refl
  which_issue false t = inr refl

  rounds_at : (work : Work G) (n : Node G) (drawn : ℕ) → (o : Outcome G) × Rounds eval (record { work = work; node = n; drawn = drawn }) o
  rounds_at work (node.Todo w) drawn =
      let s : MachineState G = record { work = work; node = node.Todo w; drawn = drawn } in
      let m : MachineState G = record { work = work; node = node.Claimed (drawn + 1) 0 w; drawn = drawn + 1 } in
      let t : Ticket G = record { epoch = drawn + 1; work = w } in
      ticket_or_spent s t (which_claim (drawn == last_epoch) t s m)
  rounds_at work (node.Claimed epoch who w) drawn =
      let t : Ticket G = record { epoch = drawn + 1; work = w } in
      ticket_or_spent _ t (which_issue (drawn == last_epoch) t)
  rounds_at work (node.Done o) drawn = ended work (node.Done o) drawn refl

  -- from each state the caller's rounds end
  pub some_rounds : (s : MachineState G) → (o : Outcome G) × Rounds eval s o
  some_rounds s = rounds_at s.work s.node s.drawn

  pub some_trace : (work : Work G) (es : List Event) → (rs : List Reply) × IsTrace eval work es rs (eval work)
  some_trace work es =
      let told = some_replies (first_world work) es in
      let rest = some_rounds told.1.machine in
      let trace : IsTrace eval work es told.0 rest.0 = (told.1, told.2, rest.1) in
      (told.0, subst (λ o. IsTrace eval work es told.0 o) (trace_gives_eval eval work es told.0 rest.0 trace) trace)

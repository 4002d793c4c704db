-- A trace depends on evaluation only by what its own work evaluates to.
use Rattle.std.proofs.Common.{◌≡◌, inl, inr, ℕ, ◌+◌, ◌==◌, Bool, true, false, if◌then◌else◌, List, [], ◌∷◌, Some, None, length, All, IfSome, refl, sym, subst, ap, ◌∙◌}
use Rattle.std.specs.Bool.{⊤}
use Rattle.std.specs.declared.option.Option.{Option}
use Rattle.std.proofs.lemmas.Bool.{cases_lt}
use Rattle.std.proofs.lemmas.List.{get_or_past}
use Rattle.std.proofs.lemmas.List.Elements.{All-set, All-get_or, All-replicate}
use Rattle.std.specs.Prelude.{slice_set}
use Rattle.mp_strategy.specs.declared.work.Work.{Work}
use Rattle.mp_strategy.specs.declared.outcome.Outcome.{Outcome}
use Rattle.mp_core.specs.declared.node.Node.{Node}
use Rattle.mp_core.specs.declared.node.Node.TheVariants as node
use Rattle.mp_core.specs.declared.state.MachineState.{MachineState}
use Rattle.mp_core.specs.declared.state.Ticket.{Ticket}
use Rattle.mp_core.specs.declared.state.Parcel.{Parcel}
use Rattle.mp_core.specs.declared.core_calls.Claimed.{Claimed}
use Rattle.mp_core.specs.declared.core_calls.Claimed.TheVariants as claimed
use Rattle.mp_core.specs.declared.core_calls.Reported.{Reported}
use Rattle.mp_core.specs.declared.core_calls.Reported.TheVariants as reported
use Rattle.mp_core.specs.Nodes.{claim_by, give_back, place}
use Rattle.mp_core.specs.Machine.{last_epoch, issue_reply, issue_state, claimed_by, reissued, or_reissued, next_for, lost_by, IsStale, Reports}
use Rattle.mp_core.specs.Sound.{TicketHas}
use Rattle.mp_core.specs.Events.{Event as Call, Claim, Lose, Reissue, NextForCaller}
use Rattle.mp_core.proofs.Soundness.{step_same, report_same}
use Rattle.mp_drill.specs.declared.schedule.Event.{Event}
use Rattle.mp_drill.specs.declared.schedule.Event.TheVariants as event
use Rattle.mp_drill.specs.declared.schedule.Reply.{Reply}
use Rattle.mp_drill.specs.declared.schedule.Reply.TheVariants as reply
use Rattle.mp_drill.specs.declared.workers.Worker.{Worker}
use Rattle.mp_drill.specs.Laws.{SameTraces}
use Rattle.mp_drill.specs.Workers.{World, idle, worker_at, first_world}
use Rattle.mp_drill.specs.Rounds.{evaluated, Rounds, finished, spent, round}
use Rattle.mp_drill.specs.Trace.{hand_over, Handed, Delivers, Sends, Repeats, Happens, Replies, IsTrace}

module _ {G : Type 0} (root : Work G) where
  -- ## The machine has no work but the root's

  abbrev Own : Node G → Type 0
  Own (node.Todo w) = w ≡ root
  Own (node.Claimed epoch who w) = w ≡ root
  Own (node.Done o) = ⊤

  abbrev TicketOwn : Claimed G → Type 0
  TicketOwn = TicketHas (λ w. w ≡ root)

  record Owned (s : MachineState G) : Type 0 where
    pub work : s.work ≡ root
    pub node : Own s.node

  -- a ticket of the root's work, and a machine that has no other
  record Handing (given : Claimed G × MachineState G) : Type 0 where
    pub ticket : TicketOwn given.0
    pub node : Own given.1.node

  abbrev at : Work G → Node G → ℕ → MachineState G
  at work n drawn = record { work = work; node = n; drawn = drawn }

  issued_own : (none : Bool) (s : MachineState G) (n : Node G) → Own s.node → Own n → Own (if none then s else record s { node = n; drawn = s.drawn + 1 }).node
  issued_own true s n old new = old
  issued_own false s n old new = new

  issued_ticket : (none : Bool) (epoch : ℕ) (w : Work G) → w ≡ root → TicketOwn (if none then claimed.Spent else claimed.Ticket (record { epoch = epoch; work = w }))
  issued_ticket true epoch w h = tt
  issued_ticket false epoch w h = h

  claim_own : (work : Work G) (n : Node G) (drawn who : ℕ) → Own n → Handing (claimed_by (at work n drawn) who)
  claim_own work (node.Todo w) drawn who h = record {
    ticket = issued_ticket (drawn == last_epoch) (drawn + 1) w h;
    node = issued_own (drawn == last_epoch) (at work (node.Todo w) drawn) (claim_by w (drawn + 1) who) h h;
  }
  claim_own work (node.Claimed epoch holder w) drawn who h = record { ticket = tt; node = h }
  claim_own work (node.Done o) drawn who h = record { ticket = tt; node = tt }

  reclaim_own : (same : Bool) (w : Work G) (epoch holder new : ℕ) → w ≡ root → Own (if same then claim_by w new 0 else node.Claimed epoch holder w)
  reclaim_own true w epoch holder new h = h
  reclaim_own false w epoch holder new h = h

  reissue_own : (work : Work G) (n : Node G) (drawn : ℕ) → Own n → Handing (reissued (at work n drawn))
  reissue_own work (node.Todo w) drawn h = record { ticket = tt; node = h }
  reissue_own work (node.Claimed epoch holder w) drawn h = record {
    ticket = issued_ticket (drawn == last_epoch) (drawn + 1) w h;
    node = issued_own (drawn == last_epoch) (at work (node.Claimed epoch holder w) drawn) _ h (reclaim_own (epoch == epoch) w epoch holder (drawn + 1) h);
  }
  reissue_own work (node.Done o) drawn h = record { ticket = tt; node = tt }

  or_own : (given : Claimed G) (s : MachineState G) → TicketOwn given → Own s.node → Handing (or_reissued (given, s))
  or_own (claimed.Ticket t) s ticket h = record { ticket = ticket; node = h }
  or_own claimed.Nothing s ticket h = reissue_own s.work s.node s.drawn h
  or_own claimed.Finished s ticket h = record { ticket = tt; node = h }
  or_own claimed.Spent s ticket h = record { ticket = tt; node = h }

  next_own : (work : Work G) (n : Node G) (drawn : ℕ) → Own n → Handing (next_for (at work n drawn))
  next_own work (node.Todo w) drawn h =
      let c = claim_own work (node.Todo w) drawn 0 h in
      or_own (issue_reply (at work (node.Todo w) drawn) w) (issue_state (at work (node.Todo w) drawn) (claim_by w (drawn + 1) 0)) c.ticket c.node
  next_own work (node.Claimed epoch holder w) drawn h = reissue_own work (node.Claimed epoch holder w) drawn h
  next_own work (node.Done o) drawn h = record { ticket = tt; node = tt }

  give_own : (own : Bool) (w : Work G) (epoch holder : ℕ) → w ≡ root → Own (if own then node.Todo w else node.Claimed epoch holder w)
  give_own true w epoch holder h = h
  give_own false w epoch holder h = h

  lose_own : (n : Node G) (who : ℕ) → Own n → Own (give_back who n)
  lose_own (node.Todo w) who h = h
  lose_own (node.Claimed epoch holder w) who h = give_own (holder == who) w epoch holder h
  lose_own (node.Done o) who h = tt

  put_own : (same : Bool) (w : Work G) (epoch holder : ℕ) (o : Outcome G) → w ≡ root → Own (if same then node.Done o else node.Claimed epoch holder w)
  put_own true w epoch holder o h = tt
  put_own false w epoch holder o h = h

  place_own : (epoch : ℕ) (o : Outcome G) (n : Node G) → Own n → Own (place epoch (node.Done o) n)
  place_own epoch o (node.Todo w) h = h
  place_own epoch o (node.Claimed own holder w) h = put_own (own == epoch) w own holder o h
  place_own epoch o (node.Done p) h = tt

  moved_own : (s new : MachineState G) → new ≡ s → Own s.node → Own new.node
  moved_own s new e h = subst (λ (t : MachineState G). Own t.node) (sym e) h

  stale_own : (s : MachineState G) (p : Parcel G) (new : MachineState G) → IsStale s p new → Own s.node → Own new.node
  stale_own s p new (inl r) h = moved_own s new r.1 h
  stale_own s p new (inr r) h = moved_own s new r.2 h

  report_own : (s : MachineState G) (p : Parcel G) (r : Reported G) (new : MachineState G) → Reports s p r new → Owned s → Owned new
  report_own s p r new h own = record { work = report_same s p r new h ∙ own.work; node = by r h }
    where
      by : (r : Reported G) → Reports s p r new → Own new.node
      by reported.Taken h = moved_own _ new h.2 (place_own p.epoch p.outcome s.node own.node)
      by (reported.Stale back) h = stale_own s p new h.1 own.node
      by reported.TakenUnsettled h = absurd h
      by (reported.NoMemory back) h = absurd h

  next_owned : (s : MachineState G) → Owned s → Owned (next_for s).1
  next_owned s own = record { work = step_same s NextForCaller (next_for s).1 refl ∙ own.work; node = (next_own s.work s.node s.drawn own.node).node }

  -- ## So has the world

  abbrev HoldsOwn : Worker G → Type 0
  HoldsOwn w = IfSome w.hand (λ t. t.work ≡ root)

  record Kept (w : World G) : Type 0 where
    pub machine : Owned w.machine
    pub workers : All HoldsOwn w.workers

  hand_kept : (given : Claimed G) (who : ℕ) (ws : List (Worker G)) → TicketOwn given → All HoldsOwn ws → All HoldsOwn (hand_over given who ws)
  hand_kept (claimed.Ticket t) who ws own all = All-set HoldsOwn ws who (record { hand = Some t; last = (worker_at ws who).last }) own all
  hand_kept claimed.Nothing who ws own all = all
  hand_kept claimed.Finished who ws own all = all
  hand_kept claimed.Spent who ws own all = all

  handed_kept : (given : Claimed G × MachineState G) (who : ℕ) (w : World G) (r : Reply) (new : World G) → given.1.work ≡ w.machine.work → Handing given → Kept w → Handed given who w r new → Kept new
  handed_kept given who w r new same own kept h =
      subst (λ v. Kept v) (sym h.1) (record {
        machine = record { work = same ∙ kept.machine.work; node = own.node };
        workers = hand_kept given.0 who w.workers own.ticket kept.workers;
      })

  worker_own : (ws : List (Worker G)) (who : ℕ) → All HoldsOwn ws → HoldsOwn (worker_at ws who)
  worker_own ws who all =
      elim (cases_lt who (length ws)) [ inl h ↦ All-get_or HoldsOwn ws who idle h all | inr h ↦ subst HoldsOwn (sym (get_or_past ws who idle h)) tt ]

  delivered_own : (s : MachineState G) (p : Parcel G) (r : Reply) (new : MachineState G) → Delivers s p r new → Owned s → Owned new
  delivered_own s p reply.Taken new h own = report_own s p reported.Taken new h own
  delivered_own s p reply.Stale new h own = report_own s p (reported.Stale p) new h own
  delivered_own s p (reply.Ticket k) new h own = absurd h
  delivered_own s p reply.Nothing new h own = absurd h
  delivered_own s p reply.Finished new h own = absurd h
  delivered_own s p reply.Spent new h own = absurd h
  delivered_own s p (reply.Back k) new h own = absurd h
  delivered_own s p reply.Gone new h own = absurd h
  delivered_own s p reply.Empty new h own = absurd h

  module _ (eval : Work G → Outcome G) where
    sent_kept : (hand : Option (Ticket G)) (who : ℕ) (w : World G) (r : Reply) (new : World G) → Sends eval hand who w r new → Kept w → Kept new
    sent_kept None who w r new h kept = subst (λ v. Kept v) (sym h.1) kept
    sent_kept (Some t) who w r new h kept = record {
      machine = delivered_own w.machine (evaluated eval t) r new.machine h.0 kept.machine;
      workers = subst (All HoldsOwn) (sym h.1) (All-set HoldsOwn w.workers who (record { hand = None; last = Some (evaluated eval t) }) tt kept.workers);
    }

    repeated_kept : (last : Option (Parcel G)) (w : World G) (r : Reply) (new : World G) → Repeats eval last w r new → Kept w → Kept new
    repeated_kept None w r new h kept = subst (λ v. Kept v) (sym h.1) kept
    repeated_kept (Some p) w r new h kept = record { machine = delivered_own w.machine p r new.machine h.0 kept.machine; workers = subst (All HoldsOwn) (sym h.1) kept.workers }

    happens_kept : (w : World G) (e : Event) (r : Reply) (new : World G) → Happens eval w e r new → Kept w → Kept new
    happens_kept w (event.Claim who) r new h kept =
        let m = w.machine in
        handed_kept (claimed_by m who) who w r new (step_same m (Claim who) (claimed_by m who).1 refl) (claim_own m.work m.node m.drawn who kept.machine.node) kept h
    happens_kept w event.Reissue r new h kept =
        let m = w.machine in handed_kept (reissued m) 0 w r new (step_same m Reissue (reissued m).1 refl) (reissue_own m.work m.node m.drawn kept.machine.node) kept h
    happens_kept w (event.Send who units) r new h kept = sent_kept (worker_at w.workers who).hand who w r new h kept
    happens_kept w (event.Again who) r new h kept = repeated_kept (worker_at w.workers who).last w r new h kept
    happens_kept w (event.Die who) r new h kept =
        subst (λ v. Kept v) (sym h.1) (record { machine = kept.machine; workers = All-set HoldsOwn w.workers who idle tt kept.workers })
    happens_kept w (event.Lose who) r new h kept =
        subst (λ v. Kept v) (sym h.1) (record { machine = record { work = kept.machine.work; node = lose_own w.machine.node who kept.machine.node }; workers = kept.workers })

  -- ## Another evaluation

  module _ (eval other : Work G → Outcome G) (same : eval root ≡ other root) where
    outcome_same : (w : Work G) → w ≡ root → eval w ≡ other w
    outcome_same w e = ap eval e ∙ same ∙ sym (ap other e)

    parcel_same : (t : Ticket G) → t.work ≡ root → evaluated eval t ≡ evaluated other t
    parcel_same t e = ap (λ o. record { epoch = t.epoch; work = t.work; outcome = o }) (outcome_same t.work e)

    sends_same : (hand : Option (Ticket G)) (who : ℕ) (w : World G) (r : Reply) (new : World G) → IfSome hand (λ t. t.work ≡ root) → Sends eval hand who w r new → Sends other hand who w r new
    sends_same None who w r new own h = h
    sends_same (Some t) who w r new own h =
        subst (λ p. Delivers w.machine p r new.machine × (new.workers ≡ slice_set w.workers who (record { hand = None; last = Some p }))) (parcel_same t own) h

    repeats_same : (last : Option (Parcel G)) (w : World G) (r : Reply) (new : World G) → Repeats eval last w r new → Repeats other last w r new
    repeats_same None w r new h = h
    repeats_same (Some p) w r new h = h

    happens_same : (w : World G) (e : Event) (r : Reply) (new : World G) → Kept w → Happens eval w e r new → Happens other w e r new
    happens_same w (event.Claim who) r new kept h = h
    happens_same w event.Reissue r new kept h = h
    happens_same w (event.Send who units) r new kept h = sends_same (worker_at w.workers who).hand who w r new (worker_own w.workers who kept.workers) h
    happens_same w (event.Again who) r new kept h = repeats_same (worker_at w.workers who).last w r new h
    happens_same w (event.Die who) r new kept h = h
    happens_same w (event.Lose who) r new kept h = h

    -- the same replies, and the end has no other work
    replies_same : (w : World G) (es : List Event) (rs : List Reply) (end : World G) → Kept w → Replies eval w es rs end → Replies other w es rs end × Kept end
    replies_same w [] [] end kept h = (h, subst (λ v. Kept v) (sym h) kept)
    replies_same w (e ∷ es) (r ∷ rs) end kept h =
        let rest = replies_same h.0 es rs end (happens_kept eval w e r h.0 h.1 kept) h.2 in
        ((h.0, happens_same w e r h.0 kept h.1, rest.0), rest.1)
    replies_same w [] (r ∷ rs) end kept h = absurd h
    replies_same w (e ∷ es) [] end kept h = absurd h

    rounds_same : (s : MachineState G) (o : Outcome G) → Owned s → Rounds eval s o → Rounds other s o
    rounds_same s o own (finished _ _ f a) = finished s o f a
    rounds_same s o own (spent _ e) = subst (λ p. Rounds other s p) (sym (outcome_same s.work own.work)) (spent s e)
    rounds_same s o own (round _ t given new _ e r rest) =
        let ticket = subst TicketOwn e (next_own s.work s.node s.drawn own.node).ticket in
        let after = report_own (next_for s).1 (evaluated eval t) given new r (next_owned s own) in
        round s t given new o e (subst (λ p. Reports (next_for s).1 p given new) (parcel_same t ticket) r) (rounds_same new o after rest)

pub same_traces : {G : Type 0} (eval other : Work G → Outcome G) → SameTraces eval other
same_traces eval other work events replies o same h =
    let start : Kept work (first_world work) = record { machine = record { work = refl; node = refl }; workers = All-replicate (HoldsOwn work) 65 idle tt } in
    let all = replies_same work eval other same (first_world work) events replies h.0 start h.1 in
    (h.0, all.0, rounds_same work eval other same h.0.machine o all.1.machine h.2)

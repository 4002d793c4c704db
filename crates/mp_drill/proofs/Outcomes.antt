-- Whatever the schedule, a trace ends with what the root work evaluates to.
use Rattle.std.proofs.Common.{◌≡◌, ℕ, suc, List, [], ◌∷◌, Some, None, length, All, IfSome, refl, sym, subst, ap, ◌∙◌, inl, inr}
use Rattle.std.specs.declared.option.Option.{Option}
use Rattle.std.proofs.lemmas.Bool.{cases_lt}
use Rattle.std.proofs.lemmas.List.{get_or_past}
use Rattle.std.proofs.lemmas.List.Elements.{All-set, All-get_or, All-replicate}
use Rattle.mp_strategy.specs.declared.work.Work.{Work}
use Rattle.mp_strategy.specs.declared.outcome.Outcome.{Outcome}
use Rattle.mp_core.specs.declared.state.MachineState.{MachineState}
use Rattle.mp_core.specs.declared.state.Ticket.{Ticket}
use Rattle.mp_core.specs.declared.state.Parcel.{Parcel}
use Rattle.mp_core.specs.declared.core_calls.Claimed.{Claimed}
use Rattle.mp_core.specs.declared.core_calls.Claimed.TheVariants as claimed
use Rattle.mp_core.specs.declared.core_calls.Reported.{Reported}
use Rattle.mp_core.specs.declared.core_calls.Reported.TheVariants as reported
use Rattle.mp_core.specs.Machine.{next_for, claimed_by, reissued, lost_by, Reports}
use Rattle.mp_core.specs.Events.{Event as Call, Claim, Lose, Reissue, NextForCaller, IsHonest, Steps}
use Rattle.mp_core.specs.Sound.{IsSoundState}
use Rattle.mp_core.proofs.Soundness.{step_keeps, step_same, report_keeps, report_same, opening_sound, answer_true}
use Rattle.mp_drill.specs.declared.schedule.Event.{Event}
use Rattle.mp_drill.specs.declared.schedule.Event.TheVariants as event
use Rattle.mp_drill.specs.declared.schedule.Reply.{Reply}
use Rattle.mp_drill.specs.declared.schedule.Reply.TheVariants as reply
use Rattle.mp_drill.specs.declared.workers.Worker.{Worker}
use Rattle.mp_drill.specs.Workers.{World, idle, worker_at, first_world}
use Rattle.mp_drill.specs.Rounds.{evaluated, Rounds, finished, spent, round}
use Rattle.mp_drill.specs.Trace.{hand_over, Handed, Delivers, Sends, Repeats, Happens, Replies, IsTrace}

module _ {G : Type 0} (eval : Work G → Outcome G) where
  abbrev Same : Work G → Outcome G → Type 0
  Same w o = o ≡ eval w

  abbrev SoundAt : MachineState G → Type 0
  SoundAt = IsSoundState Same

  abbrev Honest : Worker G → Type 0
  Honest w = IfSome w.last (λ p. p.outcome ≡ eval p.work)

  -- from one state to a later one: it is sound too, and on the same work
  record Later (s new : MachineState G) : Type 0 where
    pub sound : SoundAt new
    pub same : new.work ≡ s.work

  later_by : (s : MachineState G) (c : Call G) (new : MachineState G) → IsHonest Same c → Steps s c new → SoundAt s → Later s new
  later_by s c new honest step h = record { sound = step_keeps Same s c new honest step h; same = step_same s c new step }

  later_report : (s : MachineState G) (p : Parcel G) (r : Reported G) (new : MachineState G) → p.outcome ≡ eval p.work → Reports s p r new → SoundAt s → Later s new
  later_report s p r new honest h sound = record { sound = report_keeps Same s p r new honest h sound; same = report_same s p r new h }

  rounds_give : (s : MachineState G) (o : Outcome G) → Rounds eval s o → SoundAt s → o ≡ eval s.work
  rounds_give s o (finished _ _ f a) h =
      let next = later_by s NextForCaller (next_for s).1 tt refl h in
      answer_true Same (next_for s).1 o next.sound a ∙ ap eval next.same
  rounds_give s o (spent _ e) h = refl
  rounds_give s o (round _ t reply new _ e r rest) h =
      let next = later_by s NextForCaller (next_for s).1 tt refl h in
      let after = later_report (next_for s).1 (evaluated eval t) reply new refl r next.sound in
      rounds_give new o rest after.sound ∙ ap eval (after.same ∙ next.same)

  worker_honest : (ws : List (Worker G)) (who : ℕ) → All Honest ws → Honest (worker_at ws who)
  worker_honest ws who all =
      elim (cases_lt who (length ws)) [ inl h ↦ All-get_or Honest ws who idle h all | inr h ↦ subst Honest (sym (get_or_past ws who idle h)) tt ]

  -- a world after the start
  pub record Good (work : Work G) (w : World G) : Type 0 where
    pub machine : SoundAt w.machine
    pub same : w.machine.work ≡ work
    pub workers : All Honest w.workers

  good_later : (work : Work G) (w : World G) (s : MachineState G) (ws : List (Worker G)) → Good work w → Later w.machine s → All Honest ws → Good work (record { machine = s; workers = ws })
  good_later work w s ws good later all = record { machine = later.sound; same = later.same ∙ good.same; workers = all }

  hand_honest : (given : Claimed G) (who : ℕ) (ws : List (Worker G)) → All Honest ws → All Honest (hand_over given who ws)
  hand_honest (claimed.Ticket t) who ws all = All-set Honest ws who (record { hand = Some t; last = (worker_at ws who).last }) (worker_honest ws who all) all
  hand_honest claimed.Nothing who ws all = all
  hand_honest claimed.Finished who ws all = all
  hand_honest claimed.Spent who ws all = all

  handed_good : (work : Work G) (given : Claimed G × MachineState G) (who : ℕ) (w : World G) (r : Reply) (new : World G) → Good work w → Later w.machine given.1 → Handed given who w r new → Good work new
  handed_good work given who w r new good later h =
      subst (λ v. Good work v) (sym h.1) (good_later work w given.1 _ good later (hand_honest given.0 who w.workers good.workers))

  delivered_later : (s : MachineState G) (p : Parcel G) (r : Reply) (new : MachineState G) → p.outcome ≡ eval p.work → Delivers s p r new → SoundAt s → Later s new
  delivered_later s p reply.Taken new honest h sound = later_report s p reported.Taken new honest h sound
  delivered_later s p reply.Stale new honest h sound = later_report s p (reported.Stale p) new honest h sound
  delivered_later s p (reply.Ticket k) new honest h sound = absurd h
  delivered_later s p reply.Nothing new honest h sound = absurd h
  delivered_later s p reply.Finished new honest h sound = absurd h
  delivered_later s p reply.Spent new honest h sound = absurd h
  delivered_later s p (reply.Back k) new honest h sound = absurd h
  delivered_later s p reply.Gone new honest h sound = absurd h
  delivered_later s p reply.Empty new honest h sound = absurd h

  sends_good : (work : Work G) (hand : Option (Ticket G)) (who : ℕ) (w : World G) (r : Reply) (new : World G) → Good work w → Sends eval hand who w r new → Good work new
  sends_good work None who w r new good h = subst (λ v. Good work v) (sym h.1) good
  sends_good work (Some t) who w r new good h =
      let later = delivered_later w.machine (evaluated eval t) r new.machine refl h.0 good.machine in
      let all = All-set Honest w.workers who (record { hand = None; last = Some (evaluated eval t) }) refl good.workers in
      good_later work w new.machine new.workers good later (subst (λ ws. All Honest ws) (sym h.1) all)

  repeats_good : (work : Work G) (last : Option (Parcel G)) (w : World G) (r : Reply) (new : World G) → IfSome last (λ p. p.outcome ≡ eval p.work) → Good work w → Repeats eval last w r new → Good work new
  repeats_good work None w r new honest good h = subst (λ v. Good work v) (sym h.1) good
  repeats_good work (Some p) w r new honest good h =
      let later = delivered_later w.machine p r new.machine honest h.0 good.machine in
      good_later work w new.machine new.workers good later (subst (λ ws. All Honest ws) (sym h.1) good.workers)

  pub happens_good : (work : Work G) (w : World G) (e : Event) (r : Reply) (new : World G) → Good work w → Happens eval w e r new → Good work new
  happens_good work w (event.Claim who) r new good h =
      handed_good work (claimed_by w.machine who) who w r new good (later_by w.machine (Claim who) _ tt refl good.machine) h
  happens_good work w event.Reissue r new good h =
      handed_good work (reissued w.machine) 0 w r new good (later_by w.machine Reissue _ tt refl good.machine) h
  happens_good work w (event.Send who units) r new good h = sends_good work (worker_at w.workers who).hand who w r new good h
  happens_good work w (event.Again who) r new good h = repeats_good work (worker_at w.workers who).last w r new (worker_honest w.workers who good.workers) good h
  happens_good work w (event.Die who) r new good h =
      subst (λ v. Good work v) (sym h.1) (record { machine = good.machine; same = good.same; workers = All-set Honest w.workers who idle tt good.workers })
  happens_good work w (event.Lose who) r new good h =
      subst (λ v. Good work v) (sym h.1) (good_later work w (lost_by w.machine who).1 w.workers good (later_by w.machine (Lose who) _ tt refl good.machine) good.workers)

  replies_good : (work : Work G) (w : World G) (es : List Event) (rs : List Reply) (end : World G) → Good work w → Replies eval w es rs end → Good work end
  replies_good work w [] [] end good h = subst (λ v. Good work v) (sym h) good
  replies_good work w (e ∷ es) (r ∷ rs) end good h = replies_good work h.0 es rs end (happens_good work w e r h.0 good h.1) h.2
  replies_good work w [] (r ∷ rs) end good h = absurd h
  replies_good work w (e ∷ es) [] end good h = absurd h

  pub first_good : (work : Work G) → Good work (first_world work)
  first_good work = record { machine = opening_sound Same work; same = refl; workers = All-replicate Honest 65 idle tt }

  pub trace_gives_eval : (work : Work G) (es : List Event) (rs : List Reply) (o : Outcome G) → IsTrace eval work es rs o → o ≡ eval work
  trace_gives_eval work es rs o h =
      let good = replies_good work (first_world work) es rs h.0 (first_good work) h.1 in
      rounds_give h.0.machine o h.2 good.machine ∙ ap eval good.same

  -- each event has one reply
  pub replies_length : (w : World G) (es : List Event) (rs : List Reply) (end : World G) → Replies eval w es rs end → length rs ≡ length es
  replies_length w [] [] end h = refl
  replies_length w (e ∷ es) (r ∷ rs) end h = ap (λ n. suc n) (replies_length h.0 es rs end h.2)
  replies_length w [] (r ∷ rs) end h = absurd h
  replies_length w (e ∷ es) [] end h = absurd h

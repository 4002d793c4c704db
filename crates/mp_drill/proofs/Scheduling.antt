-- A schedule from its first event to its last.
use Rattle.std.specs.Prelude.{slice_set}
use Rattle.std.specs.declared.option.Option.{Option}
use Rattle.std.proofs.Common.{◌≡◌, ℕ, zero, suc, Some, None, ◌+◌, ◌<◌, ◌≤◌, Bool, true, false, IsTrue, List, [], ◌∷◌, ◌++◌, get_or, length, drop, All, replicate, refl, sym, subst, ap, ◌∙◌, add-one, append_assoc, append-nil, drop-cons}
use Rattle.std.proofs.lemmas.List.{length-replicate, drop_all}
use Rattle.std.proofs.lemmas.List.Elements.{All-replicate}
use Rattle.std.proofs.lemmas.List.Folds.{list_all_at}
use Rattle.mp_logic.specs.Meaning.{Meaning}
use Rattle.mp_strategy.specs.declared.work.Work.{Work}
use Rattle.mp_strategy.specs.declared.outcome.Outcome.{Outcome}
use Rattle.mp_strategy.specs.Strategies.{Evals}
use Rattle.mp_strategy.specs.Works.{IsWork}
use Rattle.mp_core.specs.declared.state.CoreState.{CoreState}
use Rattle.mp_core.specs.declared.state.MachineState.{MachineState}
use Rattle.mp_core.specs.declared.state.Parcel.{Parcel}
use Rattle.mp_core.specs.declared.state.Ticket.{Ticket}
use Rattle.mp_core.specs.Sound.{IsSoundCore}
use Rattle.mp_drill.specs.declared.schedule.Event.{Event}
use Rattle.mp_drill.specs.declared.schedule.Event.TheVariants as event
use Rattle.mp_drill.specs.declared.schedule.Reply.{Reply}
use Rattle.mp_drill.specs.declared.workers.Worker.{Worker}
use Rattle.mp_drill.specs.Ranges.{is_in_range, are_in_range}
use Rattle.mp_drill.specs.Ready.{IsReady, IsTrueWorker}
use Rattle.mp_drill.specs.Rounds.{evaluated, Rounds}
use Rattle.mp_drill.specs.Workers.{World, idle, worker_at, with_hand, first_world}
use Rattle.mp_drill.specs.Trace.{Delivers, Sends, Happens, Replies, IsTrace}

unless_false : (b : Bool) → (b ≡ false → ⊥) → IsTrue b
unless_false true h = refl
unless_false false h = absurd (h refl)

both : (b : Bool) → b ≡ true → b ≡ false → ⊥
both b e f = cc

-- an event of a schedule in range is in range
pub range_at : (events : List Event) (i : ℕ) (d : Event) → i < length events → IsTrue (are_in_range events) → IsTrue (is_in_range (get_or events i d))
range_at events i d here h = unless_false (is_in_range (get_or events i d)) (λ e. both (are_in_range events) h (list_all_at is_in_range events i d here e))

-- a sound core and idle workers are ready
pub ready_first : {L G J : Type 0} (meaning : L → Meaning G J) (core : CoreState L J G) (workers : List (Worker G)) → IsSoundCore meaning core → workers ≡ replicate 65 idle → IsReady meaning core workers
ready_first {L} {G} {J} meaning core workers sound e =
    let P = IsTrueWorker (IsWork meaning core.problem) (Evals meaning core.problem) in
    record { sound = sound; count = ap length e ∙ length-replicate 65 (idle {G = G}); workers_true = subst (λ ws. All P ws) (sym e) (All-replicate P 65 (idle {G = G}) (tt, tt)) }

module _ {G : Type 0} (eval : Work G → Outcome G) where
  -- what the rest of the schedule does from here, the whole does from the start
  abbrev pub Onward : World G → List Event → List Reply → World G → ℕ → Type 0
  Onward start events done now i = (rest : List Reply) (end : World G) → Replies eval now (drop i events) rest end → Replies eval start events (done ++ rest) end

  pub no_event : (start now : World G) (events : List Event) (done : List Reply) → now ≡ start → done ≡ [] → Onward start events done now 0
  no_event start now events done e f rest end h =
      subst (λ d. Replies eval start events (d ++ rest) end) (sym f) (subst (λ w. Replies eval w events rest end) e h)

  pub next_event : (start now new : World G) (events : List Event) (done : List Reply) (i : ℕ) (d : Event) (r : Reply) → i < length events
      → Happens eval now (get_or events i d) r new → Onward start events done now i → Onward start events (done ++ r ∷ []) new (i + 1)
  next_event start now new events done i d r here happens onward rest end h =
      let rest-is : drop i events ≡ get_or events i d ∷ drop (i + 1) events = rw (add-one, drop-cons events i d here) refl in
      let more = onward (r ∷ rest) end (subst (λ es. Replies eval now es (r ∷ rest) end) (sym rest-is) (new, happens, h)) in
      subst (λ rs. Replies eval start events rs end) (sym (append_assoc done (r ∷ []) rest)) more

  all_dropped : (events : List Event) (i : ℕ) → length events ≤ i → drop i events ≡ []
  all_dropped events i h = drop_all i events h

  -- after the last event the rounds
  pub whole_trace : (work : Work G) (now : World G) (events items : List Event) (done : List Reply) (i : ℕ) (o : Outcome G) → items ≡ events → length items ≤ i
      → Onward (first_world work) items done now i → Rounds eval now.machine o → IsTrace eval work events done o
  whole_trace work now events items done i o e h onward rounds =
      let none : Replies eval now (drop i items) [] now = subst (λ es. Replies eval now es [] now) (sym (all_dropped items i h)) refl in
      let replies = subst (λ rs. Replies eval (first_world work) items rs now) (append-nil done) (onward [] now none) in
      (now, subst (λ es. Replies eval (first_world work) es done now) e replies, rounds)

  set_twice : (ws : List (Worker G)) (i : ℕ) (v w : Worker G) → slice_set (slice_set ws i v) i w ≡ slice_set ws i w
  set_twice [] i v w = refl
  set_twice (x ∷ ws) zero v w = refl
  set_twice (x ∷ ws) (suc i) v w = ap (λ ys. x ∷ ys) (set_twice ws i v w)

  -- a ticket that was taken from the worker's hand is sent, where its parcel is delivered and kept
  pub sent : (w : World G) (who : ℕ) (t : Ticket G) (p last : Parcel G) (taken workers : List (Worker G)) (r : Reply) (machine : MachineState G) → Some t ≡ (worker_at w.workers who).hand
      → taken ≡ with_hand w.workers who None → workers ≡ slice_set taken who (record { hand = None; last = Some last }) → last ≡ p → p ≡ evaluated eval t → Delivers w.machine p r machine
      → Happens eval w (event.Send who 1) r (record { machine = machine; workers = workers })
  sent w who t p last taken workers r machine hand is_taken kept same value h =
      let after : Worker G = record { hand = None; last = Some (evaluated eval t) } in
      let parcel : last ≡ evaluated eval t = same ∙ value in
      let all : workers ≡ slice_set w.workers who after =
      kept ∙ ap (λ q. slice_set taken who (record { hand = None; last = Some q })) parcel ∙ ap (λ ws. slice_set ws who after) is_taken
      ∙ set_twice w.workers who (record { hand = None; last = (worker_at w.workers who).last }) after in
      subst (λ (held : Option (Ticket G)). Sends eval held who w r (record { machine = machine; workers = workers })) hand (subst (λ q. Delivers w.machine q r machine) value h, all)

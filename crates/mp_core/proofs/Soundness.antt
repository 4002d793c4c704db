-- Each call of the machine keeps that a state is sound.
use Rattle.std.proofs.Common.{inl, inr, ◌≡◌, ◌≢◌, ℕ, ◌+◌, ◌<◌, ◌==◌, AllPairs, Bool, true, false, List, [], ◌∷◌, Some, refl, sym, subst, ap, ◌∙◌, if◌then◌else◌, arith}
use Rattle.std.proofs.lemmas.List.Elements.{All-nil, All-cons}
use Rattle.mp_logic.specs.Meaning.{Meaning}
use Rattle.mp_strategy.specs.declared.work.Work.{Work}
use Rattle.mp_strategy.specs.declared.outcome.Outcome.{Outcome}
use Rattle.mp_strategy.specs.declared.problem.ProblemState.{ProblemState}
use Rattle.mp_strategy.specs.Laws.{IsGood}
use Rattle.mp_strategy.specs.Strategies.{Evals}
use Rattle.mp_strategy.specs.Works.{IsWork}
use Rattle.mp_core.specs.declared.node.Node.{Node}
use Rattle.mp_core.specs.declared.node.Node.TheVariants as node
use Rattle.mp_core.specs.declared.state.MachineState.{MachineState}
use Rattle.mp_core.specs.declared.state.Parcel.{Parcel}
use Rattle.mp_core.specs.declared.core_calls.Claimed.{Claimed}
use Rattle.mp_core.specs.declared.core_calls.Claimed.TheVariants as claimed
use Rattle.mp_core.specs.declared.core_calls.Reported.{Reported}
use Rattle.mp_core.specs.declared.core_calls.Reported.TheVariants as reported
use Rattle.mp_core.specs.Nodes.{HasClaim, claim_by, done_of, place, give_back}
use Rattle.mp_core.specs.Machine.{last_epoch, opening, issue_reply, issue_state, claimed_by, reissued, next_for, or_reissued, settle, placed, IsStale, Reports, lost_by, answer_of}
use Rattle.mp_core.specs.Events.{Event, Claim, Report, Lose, Reissue, NextForCaller, Steps, Runs, IsHonest, AllHonest, RunsStaySound, RunsKeepShape, RunsAnswerTruly}
use Rattle.mp_core.specs.Sound.{Yields, HasShape, IsSoundState}

abbrev at : {G : Type 0} → Work G → Node G → ℕ → MachineState G
at work n drawn = record { work = work; node = n; drawn = drawn }

-- one epoch stands in one leaf
alone : (epoch : ℕ) → AllPairs (λ one other. one ≢ other) (epoch ∷ [])
alone epoch i j d before within = absurd (omega arith)

none_twice : AllPairs (λ (one : ℕ) (other : ℕ). one ≢ other) []
none_twice i j d before within = absurd (omega arith)

module _ {L G J : Type 0} (meaning : L → Meaning G J) (problem : ProblemState L J) where
  abbrev Fits : Work G → Type 0
  Fits = IsWork meaning problem

  abbrev Shape : MachineState G → Type 0
  Shape = HasShape meaning problem

  abbrev Shaped : Work G → Node G → ℕ → Type 0
  Shaped work n drawn = Shape (at work n drawn)

  pub claimed_shape : (work w : Work G) (epoch who drawn : ℕ) → Fits work → Fits w → epoch < drawn + 1 → Shaped work (node.Claimed epoch who w) drawn
  claimed_shape work w epoch who drawn root ok below =
      record { root = root; parts = ok; distinct = alone epoch; below = All-cons (λ e. e < drawn + 1) epoch [] below (All-nil (λ e. e < drawn + 1)) }

  pub todo_shape : (work w : Work G) (drawn : ℕ) → Fits work → Fits w → Shaped work (node.Todo w) drawn
  todo_shape work w drawn root ok = record { root = root; parts = ok; distinct = none_twice; below = All-nil (λ e. e < drawn + 1) }

  pub done_shape : (work : Work G) (o : Outcome G) (drawn : ℕ) → Fits work → IsGood (meaning problem.logic) o → Shaped work (node.Done o) drawn
  done_shape work o drawn root good = record { root = root; parts = good; distinct = none_twice; below = All-nil (λ e. e < drawn + 1) }

  issued_shape : (spent : Bool) (s : MachineState G) (n : Node G) → Shape s → Shaped s.work n (s.drawn + 1) → Shape (if spent then s else record s { node = n; drawn = s.drawn + 1 })
  issued_shape true s n old new = old
  issued_shape false s n old new = new

  claim_shape : (work : Work G) (n : Node G) (drawn who : ℕ) → Shaped work n drawn → Shape (claimed_by (at work n drawn) who).1
  claim_shape work (node.Todo w) drawn who h = issued_shape (drawn == last_epoch) _ _ h (claimed_shape work w (drawn + 1) who (drawn + 1) h.root h.parts (omega arith))
  claim_shape work (node.Claimed epoch holder w) drawn who h = h
  claim_shape work (node.Done o) drawn who h = h

  -- a claim that becomes worker 0's, or stays
  reclaim_shape : (same : Bool) (work w : Work G) (epoch holder drawn : ℕ) → Shaped work (node.Claimed epoch holder w) drawn
      → Shaped work (if same then claim_by w (drawn + 1) 0 else node.Claimed epoch holder w) (drawn + 1)
  reclaim_shape true work w epoch holder drawn h = claimed_shape work w (drawn + 1) 0 (drawn + 1) h.root h.parts (omega arith)
  reclaim_shape false work w epoch holder drawn h = let old : epoch < drawn + 1 = h.below 0 0 (omega arith) in claimed_shape work w epoch holder (drawn + 1) h.root h.parts (omega arith)

  reissue_shape : (work : Work G) (n : Node G) (drawn : ℕ) → Shaped work n drawn → Shape (reissued (at work n drawn)).1
  reissue_shape work (node.Todo w) drawn h = h
  reissue_shape work (node.Claimed epoch holder w) drawn h = issued_shape (drawn == last_epoch) _ _ h (reclaim_shape (epoch == epoch) work w epoch holder drawn h)
  reissue_shape work (node.Done o) drawn h = h

  or_shape : (reply : Claimed G) (s : MachineState G) → Shape s → Shape (or_reissued (reply, s)).1
  or_shape (claimed.Ticket t) s h = h
  or_shape claimed.Nothing s h = reissue_shape s.work s.node s.drawn h
  or_shape claimed.Finished s h = h
  or_shape claimed.Spent s h = h

  next_shape : (work : Work G) (n : Node G) (drawn : ℕ) → Shaped work n drawn → Shape (next_for (at work n drawn)).1
  next_shape work (node.Todo w) drawn h = or_shape (issue_reply (at work (node.Todo w) drawn) w) (issue_state (at work (node.Todo w) drawn) (claim_by w (drawn + 1) 0)) (claim_shape work (node.Todo w) drawn 0 h)
  next_shape work (node.Claimed epoch holder w) drawn h = reissue_shape work (node.Claimed epoch holder w) drawn h
  next_shape work (node.Done o) drawn h = h

  give_shape : (own : Bool) (work w : Work G) (epoch holder drawn : ℕ) → Shaped work (node.Claimed epoch holder w) drawn → Shaped work (if own then node.Todo w else node.Claimed epoch holder w) drawn
  give_shape true work w epoch holder drawn h = todo_shape work w drawn h.root h.parts
  give_shape false work w epoch holder drawn h = h

  lose_shape : (work : Work G) (n : Node G) (drawn who : ℕ) → Shaped work n drawn → Shape (lost_by (at work n drawn) who).1
  lose_shape work (node.Todo w) drawn who h = h
  lose_shape work (node.Claimed epoch holder w) drawn who h = give_shape (holder == who) work w epoch holder drawn h
  lose_shape work (node.Done o) drawn who h = h

  put_shape : (same : Bool) (work w : Work G) (epoch holder drawn : ℕ) (o : Outcome G) → IsGood (meaning problem.logic) o → Shaped work (node.Claimed epoch holder w) drawn
      → Shaped work (if same then node.Done o else node.Claimed epoch holder w) drawn
  put_shape true work w epoch holder drawn o good h = done_shape work o drawn h.root good
  put_shape false work w epoch holder drawn o good h = h

  moved_shape : (s new : MachineState G) → new ≡ s → Shape s → Shape new
  moved_shape s new e h = subst (λ t. Shape t) (sym e) h

  stale_shape : (s : MachineState G) (p : Parcel G) (new : MachineState G) → IsStale s p new → Shape s → Shape new
  stale_shape s p new (inl r) h = moved_shape s new r.1 h
  stale_shape s p new (inr r) h = moved_shape (settle s) new r.2 h

  -- what such a work gives has good goals
  module _ (gives : (w : Work G) (o : Outcome G) → Fits w → Evals meaning problem w o → IsGood (meaning problem.logic) o) where
    place_shape : (work : Work G) (n : Node G) (drawn : ℕ) (p : Parcel G) → Evals meaning problem p.work p.outcome → HasClaim p.epoch p.work n → Shaped work n drawn → Shape (placed (at work n drawn) p)
    place_shape work (node.Todo w) drawn p honest due h = absurd due
    place_shape work (node.Claimed epoch holder w) drawn p honest due h =
        put_shape (epoch == p.epoch) work w epoch holder drawn p.outcome (gives p.work p.outcome (subst Fits due.1 h.parts) honest) h
    place_shape work (node.Done o) drawn p honest due h = absurd due

    report_shape : (s : MachineState G) (p : Parcel G) (reply : Reported G) (new : MachineState G) → Evals meaning problem p.work p.outcome → Reports s p reply new → Shape s → Shape new
    report_shape s p reported.Taken new honest r h = moved_shape _ new r.2 (place_shape s.work s.node s.drawn p honest r.0 h)
    report_shape s p (reported.Stale back) new honest r h = stale_shape s p new r.1 h
    report_shape s p reported.TakenUnsettled new honest r h = absurd r
    report_shape s p (reported.NoMemory back) new honest r h = absurd r

    -- each call keeps the shape
    pub step_shape : (s : MachineState G) (e : Event G) (new : MachineState G) → IsHonest (Evals meaning problem) e → Steps s e new → Shape s → Shape new
    step_shape s (Claim who) new honest step h = moved_shape _ new step (claim_shape s.work s.node s.drawn who h)
    step_shape s (Report p) new honest step h = report_shape s p step.0 new honest step.1 h
    step_shape s (Lose who) new honest step h = moved_shape _ new step (lose_shape s.work s.node s.drawn who h)
    step_shape s Reissue new honest step h = moved_shape _ new step (reissue_shape s.work s.node s.drawn h)
    step_shape s NextForCaller new honest step h = moved_shape _ new step (next_shape s.work s.node s.drawn h)

    run_shape : (s : MachineState G) (es : List (Event G)) (end : MachineState G) → AllHonest (Evals meaning problem) es → Runs s es end → Shape s → Shape end
    run_shape s [] end honest run h = moved_shape s end run h
    run_shape s (e ∷ es) end honest run h = run_shape run.0 es end honest.1 run.2 (step_shape s e run.0 honest.0 run.1 h)

    pub runs_keep_shape : (work : Work G) → Fits work → RunsKeepShape meaning problem work
    runs_keep_shape work ok es end honest run = run_shape (opening work) es end honest run (todo_shape work work 0 ok ok)

module _ {G : Type 0} (evals : Work G → Outcome G → Type 0) where
  -- the new node yields no more than the old one
  abbrev pub YieldsLess : Node G → Node G → Type 0
  YieldsLess old new = (o : Outcome G) → Yields evals new o → Yields evals old o

  same_yield : (n : Node G) → YieldsLess n n
  same_yield n o h = h

  issued_yield : (spent : Bool) (s : MachineState G) (n : Node G) → YieldsLess s.node n → YieldsLess s.node (if spent then s else record s { node = n; drawn = s.drawn + 1 }).node
  issued_yield true s n less = same_yield s.node
  issued_yield false s n less = less

  claim_yield : (work : Work G) (n : Node G) (drawn who : ℕ) → YieldsLess n (claimed_by (at work n drawn) who).1.node
  claim_yield work (node.Todo w) drawn who = issued_yield (drawn == last_epoch) (at work (node.Todo w) drawn) (claim_by w (drawn + 1) who) (λ o h. h)
  claim_yield work (node.Claimed epoch holder w) drawn who = same_yield (node.Claimed epoch holder w)
  claim_yield work (node.Done o) drawn who = same_yield (node.Done o)

  reclaim_yield : (same : Bool) (w : Work G) (epoch holder new : ℕ) → YieldsLess (node.Claimed epoch holder w) (if same then claim_by w new 0 else node.Claimed epoch holder w)
  reclaim_yield true w epoch holder new o h = h
  reclaim_yield false w epoch holder new o h = h

  reissue_yield : (work : Work G) (n : Node G) (drawn : ℕ) → YieldsLess n (reissued (at work n drawn)).1.node
  reissue_yield work (node.Todo w) drawn = same_yield (node.Todo w)
  reissue_yield work (node.Claimed epoch holder w) drawn =
      issued_yield (drawn == last_epoch) (at work (node.Claimed epoch holder w) drawn) _ (reclaim_yield (epoch == epoch) w epoch holder (drawn + 1))
  reissue_yield work (node.Done o) drawn = same_yield (node.Done o)

  or_yield : (old : Node G) (reply : Claimed G) (s : MachineState G) → YieldsLess old s.node → YieldsLess old (or_reissued (reply, s)).1.node
  or_yield old (claimed.Ticket t) s less = less
  or_yield old claimed.Nothing s less = λ o h. less o (reissue_yield s.work s.node s.drawn o h)
  or_yield old claimed.Finished s less = less
  or_yield old claimed.Spent s less = less

  next_yield : (work : Work G) (n : Node G) (drawn : ℕ) → YieldsLess n (next_for (at work n drawn)).1.node
  next_yield work (node.Todo w) drawn = or_yield (node.Todo w) (issue_reply (at work (node.Todo w) drawn) w) (issue_state (at work (node.Todo w) drawn) (claim_by w (drawn + 1) 0)) (claim_yield work (node.Todo w) drawn 0)
  next_yield work (node.Claimed epoch holder w) drawn = reissue_yield work (node.Claimed epoch holder w) drawn
  next_yield work (node.Done o) drawn = same_yield (node.Done o)

  give_yield : (own : Bool) (w : Work G) (epoch holder : ℕ) → YieldsLess (node.Claimed epoch holder w) (if own then node.Todo w else node.Claimed epoch holder w)
  give_yield true w epoch holder o h = h
  give_yield false w epoch holder o h = h

  lose_yield : (n : Node G) (who : ℕ) → YieldsLess n (give_back who n)
  lose_yield (node.Todo w) who = same_yield (node.Todo w)
  lose_yield (node.Claimed epoch holder w) who = give_yield (holder == who) w epoch holder
  lose_yield (node.Done o) who = same_yield (node.Done o)

  put_yield : (same : Bool) (w : Work G) (epoch holder : ℕ) (p : Outcome G) → evals w p → YieldsLess (node.Claimed epoch holder w) (if same then node.Done p else node.Claimed epoch holder w)
  put_yield true w epoch holder p given o h = subst (λ r. evals w r) (sym h) given
  put_yield false w epoch holder p given o h = h

  place_yield : (n : Node G) (p : Parcel G) → evals p.work p.outcome → HasClaim p.epoch p.work n → YieldsLess n (place p.epoch (node.Done p.outcome) n)
  place_yield (node.Todo w) p honest due = absurd due
  place_yield (node.Claimed epoch holder w) p honest due = put_yield (epoch == p.epoch) w epoch holder p.outcome (subst (λ v. evals v p.outcome) (sym due.1) honest)
  place_yield (node.Done o) p honest due = absurd due

  moved_yield : (old : Node G) (s new : MachineState G) → new ≡ s → YieldsLess old s.node → YieldsLess old new.node
  moved_yield old s new e less = subst (λ (t : MachineState G). YieldsLess old t.node) (sym e) less

  stale_yield : (s : MachineState G) (p : Parcel G) (new : MachineState G) → IsStale s p new → YieldsLess s.node new.node
  stale_yield s p new (inl r) = moved_yield s.node s new r.1 (same_yield s.node)
  stale_yield s p new (inr r) = moved_yield s.node (settle s) new r.2 (same_yield s.node)

  report_yield : (s : MachineState G) (p : Parcel G) (reply : Reported G) (new : MachineState G) → evals p.work p.outcome → Reports s p reply new → YieldsLess s.node new.node
  report_yield s p reported.Taken new honest r = moved_yield s.node _ new r.2 (place_yield s.node p honest r.0)
  report_yield s p (reported.Stale back) new honest r = stale_yield s p new r.1
  report_yield s p reported.TakenUnsettled new honest r = absurd r
  report_yield s p (reported.NoMemory back) new honest r = absurd r

  -- after each call nothing is yielded that wasn't yielded before
  pub step_yield : (s : MachineState G) (e : Event G) (new : MachineState G) → IsHonest evals e → Steps s e new → YieldsLess s.node new.node
  step_yield s (Claim who) new honest step = moved_yield s.node _ new step (claim_yield s.work s.node s.drawn who)
  step_yield s (Report p) new honest step = report_yield s p step.0 new honest step.1
  step_yield s (Lose who) new honest step = moved_yield s.node _ new step (lose_yield s.node who)
  step_yield s Reissue new honest step = moved_yield s.node _ new step (reissue_yield s.work s.node s.drawn)
  step_yield s NextForCaller new honest step = moved_yield s.node _ new step (next_yield s.work s.node s.drawn)

module _ {G : Type 0} where
  spent_same : (spent : Bool) (s : MachineState G) (n : Node G) → (if spent then s else record s { node = n; drawn = s.drawn + 1 }).work ≡ s.work
  spent_same true s n = refl
  spent_same false s n = refl

  claim_same : (work : Work G) (n : Node G) (drawn who : ℕ) → (claimed_by (record { work = work; node = n; drawn = drawn }) who).1.work ≡ work
  claim_same work (node.Todo w) drawn who = spent_same (drawn == last_epoch) _ _
  claim_same work (node.Claimed epoch holder w) drawn who = refl
  claim_same work (node.Done o) drawn who = refl

  reissue_same : (work : Work G) (n : Node G) (drawn : ℕ) → (reissued (record { work = work; node = n; drawn = drawn })).1.work ≡ work
  reissue_same work (node.Todo w) drawn = refl
  reissue_same work (node.Claimed epoch holder w) drawn = spent_same (drawn == last_epoch) _ _
  reissue_same work (node.Done o) drawn = refl

  or_same : (reply : Claimed G) (s : MachineState G) → (or_reissued (reply, s)).1.work ≡ s.work
  or_same (claimed.Ticket t) s = refl
  or_same claimed.Nothing s = reissue_same s.work s.node s.drawn
  or_same claimed.Finished s = refl
  or_same claimed.Spent s = refl

  next_same : (work : Work G) (n : Node G) (drawn : ℕ) → (next_for (record { work = work; node = n; drawn = drawn })).1.work ≡ work
  next_same work (node.Todo w) drawn = or_same (issue_reply (at work (node.Todo w) drawn) w) (issue_state (at work (node.Todo w) drawn) (claim_by w (drawn + 1) 0)) ∙ claim_same work (node.Todo w) drawn 0
  next_same work (node.Claimed epoch holder w) drawn = reissue_same work (node.Claimed epoch holder w) drawn
  next_same work (node.Done o) drawn = refl

  stale_same : (s : MachineState G) (p : Parcel G) (new : MachineState G) → IsStale s p new → new.work ≡ s.work
  stale_same s p new (inl r) = ap (λ (t : MachineState G). t.work) r.1
  stale_same s p new (inr r) = ap (λ (t : MachineState G). t.work) r.2

  pub report_same : (s : MachineState G) (p : Parcel G) (reply : Reported G) (new : MachineState G) → Reports s p reply new → new.work ≡ s.work
  report_same s p reported.Taken new r = ap (λ (t : MachineState G). t.work) r.2
  report_same s p (reported.Stale back) new r = stale_same s p new r.1
  report_same s p reported.TakenUnsettled new r = absurd r
  report_same s p (reported.NoMemory back) new r = absurd r

  -- no call changes the root work
  pub step_same : (s : MachineState G) (e : Event G) (new : MachineState G) → Steps s e new → new.work ≡ s.work
  step_same s (Claim who) new step = ap (λ (t : MachineState G). t.work) step ∙ claim_same s.work s.node s.drawn who
  step_same s (Report p) new step = report_same s p step.0 new step.1
  step_same s (Lose who) new step = ap (λ (t : MachineState G). t.work) step
  step_same s Reissue new step = ap (λ (t : MachineState G). t.work) step ∙ reissue_same s.work s.node s.drawn
  step_same s NextForCaller new step = ap (λ (t : MachineState G). t.work) step ∙ next_same s.work s.node s.drawn

  pub run_same : (s : MachineState G) (es : List (Event G)) (end : MachineState G) → Runs s es end → end.work ≡ s.work
  run_same s [] end run = ap (λ (t : MachineState G). t.work) run
  run_same s (e ∷ es) end run = run_same run.0 es end run.2 ∙ step_same s e run.0 run.1

module _ {G : Type 0} (evals : Work G → Outcome G → Type 0) where
  -- each call keeps soundness
  pub step_keeps : (s : MachineState G) (e : Event G) (new : MachineState G) → IsHonest evals e → Steps s e new → IsSoundState evals s → IsSoundState evals new
  step_keeps s e new honest step h = λ o y. subst (λ w. evals w o) (sym (step_same s e new step)) (h o (step_yield evals s e new honest step o y))

  pub report_keeps : (s : MachineState G) (p : Parcel G) (reply : Reported G) (new : MachineState G) → evals p.work p.outcome → Reports s p reply new → IsSoundState evals s → IsSoundState evals new
  report_keeps s p reply new honest r h = step_keeps s (Report p) new honest (reply, r) h

  pub run_keeps : (s : MachineState G) (es : List (Event G)) (end : MachineState G) → AllHonest evals es → Runs s es end → IsSoundState evals s → IsSoundState evals end
  run_keeps s [] end honest run h = subst (λ t. IsSoundState evals t) (sym run) h
  run_keeps s (e ∷ es) end honest run h = run_keeps run.0 es end honest.1 run.2 (step_keeps s e run.0 honest.0 run.1 h)

  pub opening_sound : (work : Work G) → IsSoundState evals (opening work)
  opening_sound work = λ o e. e

  answered : (work : Work G) (n : Node G) (drawn : ℕ) (o : Outcome G) → IsSoundState evals (at work n drawn) → done_of n ≡ Some o → evals work o
  answered work (node.Todo w) drawn o h e = absurd (cc)
  answered work (node.Claimed epoch holder w) drawn o h e = absurd (cc)
  answered work (node.Done p) drawn o h e = h o (cc)

  -- what a sound state answers, its root work gives
  pub answer_true : (s : MachineState G) (o : Outcome G) → IsSoundState evals s → answer_of s ≡ Some o → evals s.work o
  answer_true s o h e = answered s.work s.node s.drawn o h e

  pub runs_stay_sound : (work : Work G) → RunsStaySound evals work
  runs_stay_sound work es end honest run = run_keeps (opening work) es end honest run (opening_sound work)

  pub runs_answer_truly : (work : Work G) → RunsAnswerTruly evals work
  runs_answer_truly work es end honest run o e =
      subst (λ w. evals w o) (run_same (opening work) es end run) (answer_true end o (runs_stay_sound work es end honest run) e)

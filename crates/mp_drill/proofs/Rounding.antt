-- What a round of the caller does.
use Rattle.std.proofs.Common.{inl, inr, ◌≡◌, ℕ, Result, Ok, Err, IfOk, ◌+◌, ◌<◌, ◌==◌, Bool, IsTrue, rules, true, false, Some, refl, sym, subst, ap, ◌∙◌, if◌then◌else◌, arith}
use Rattle.mp_strategy.specs.declared.work.Work.{Work}
use Rattle.mp_strategy.specs.declared.outcome.Outcome.{Outcome}
use Rattle.mp_core.specs.declared.node.Node.{Node}
use Rattle.mp_core.specs.declared.node.Node.TheVariants as node
use Rattle.mp_core.specs.declared.state.MachineState.{MachineState}
use Rattle.mp_core.specs.declared.state.Ticket.{Ticket}
use Rattle.mp_core.specs.declared.state.Parcel.{Parcel}
use Rattle.mp_core.specs.declared.core_calls.Claimed.{Claimed}
use Rattle.mp_core.specs.declared.core_calls.Claimed.TheVariants as claimed
use Rattle.mp_core.specs.declared.core_calls.Reported.TheVariants as reported
use Rattle.mp_core.specs.Nodes.{claim_by, place}
use Rattle.mp_core.specs.Machine.{last_epoch, next_for, or_reissued, placed, settle, IsDue, IsStale, Reports, answer_of}
use Rattle.mp_core.specs.Events.{NextForCaller}
use Rattle.mp_core.proofs.Soundness.{step_same, report_same}
use Rattle.mp_drill.specs.declared.schedule.Reply.{Reply}
use Rattle.mp_drill.specs.declared.schedule.Reply.TheVariants as reply
use Rattle.mp_drill.specs.Trace.{Delivers}
use Rattle.mp_drill.specs.Rounds.{evaluated, Rounds, finished, spent, round}

-- how many jobs are left: a root that is done has none
abbrev pub weight_at : {G : Type 0} → Node G → ℕ
weight_at (node.Todo work) = 1
weight_at (node.Claimed epoch who work) = 1
weight_at (node.Done o) = 0

same_epoch : (e : ℕ) → IsTrue (e == e)
same_epoch e = search rules

taken_if : {A : Type 0} (b : Bool) → IsTrue b → (x y : A) → (if b then x else y) ≡ x
taken_if true h x y = refl
taken_if false h x y = absurd (cc)

-- what holds of an answer holds of it in other words
pub if_ok_by : {A E : Type 0} (P Q : A → Type 0) (r : Result A E) → ((a : A) → P a → Q a) → IfOk r P → IfOk r Q
if_ok_by P Q (Ok a) f h = f a h
if_ok_by P Q (Err e) f h = tt

module _ {G : Type 0} where
  -- after the caller got a ticket: the job is its own, under the ticket's epoch
  pub record Got (n : Node G) (t : Ticket G) (new : MachineState G) : Type 0 where
    pub claimed_is : new.node ≡ node.Claimed t.epoch 0 t.work
    pub weight : weight_at n ≡ 1

  issued : (is_spent : Bool) (s : MachineState G) (w : Work G) (n : Node G) (t : Ticket G) (new : MachineState G) → weight_at s.node ≡ 1 → n ≡ node.Claimed (s.drawn + 1) 0 w
      → claimed.Ticket t ≡ (if is_spent then claimed.Spent else claimed.Ticket (record { epoch = s.drawn + 1; work = w }))
      → new ≡ (if is_spent then s else record s { node = n; drawn = s.drawn + 1 }) → Got s.node t new
  issued true s w n t new weight shape e f = absurd (cc)
  issued false s w n t new weight shape e f = record { claimed_is = cc; weight = weight }

  -- a claim that isn't Nothing is what the caller gets
  passed : (is_spent : Bool) (t : Ticket G) (s m : MachineState G) (r : Claimed G) (new : MachineState G)
      → r ≡ (or_reissued (if is_spent then claimed.Spent else claimed.Ticket t, if is_spent then s else m)).0 → new ≡ (or_reissued (if is_spent then claimed.Spent else claimed.Ticket t, if is_spent then s else m)).1
      → (r ≡ (if is_spent then claimed.Spent else claimed.Ticket t)) × (new ≡ (if is_spent then s else m))
  passed true t s m r new e f = (e, f)
  passed false t s m r new e f = (e, f)

  got_at : (work : Work G) (n : Node G) (drawn : ℕ) (t : Ticket G) (new : MachineState G)
      → claimed.Ticket t ≡ (next_for (record { work = work; node = n; drawn = drawn })).0 → new ≡ (next_for (record { work = work; node = n; drawn = drawn })).1 → Got n t new
  got_at work (node.Todo w) drawn t new e f =
      let s : MachineState G = record { work = work; node = node.Todo w; drawn = drawn } in
      let m : MachineState G = record { work = work; node = node.Claimed (drawn + 1) 0 w; drawn = drawn + 1 } in
      let p = passed (drawn == last_epoch) (record { epoch = drawn + 1; work = w }) s m (claimed.Ticket t) new e f in
      issued (drawn == last_epoch) s w (node.Claimed (drawn + 1) 0 w) t new refl refl p.0 p.1
  got_at work (node.Claimed epoch holder w) drawn t new e f =
      let s : MachineState G = record { work = work; node = node.Claimed epoch holder w; drawn = drawn } in
      issued (drawn == last_epoch) s w (if epoch == epoch then claim_by w (drawn + 1) 0 else node.Claimed epoch holder w) t new refl (taken_if (epoch == epoch) (same_epoch epoch) _ _) e f
  got_at work (node.Done o) drawn t new e f = absurd (cc)

  pub got : (s : MachineState G) (t : Ticket G) (new : MachineState G) → claimed.Ticket t ≡ (next_for s).0 → new ≡ (next_for s).1 → Got s.node t new
  got s t new e f = got_at s.work s.node s.drawn t new e f

  due_by : (n : MachineState G) (m : Node G) (p : Parcel G) → n.node ≡ m → m ≡ node.Claimed p.epoch 0 p.work → IsDue n p
  due_by n m p e f = let P : Node G → Type 0 = λ q. IsDue (record n { node = q }) p in subst P (sym (e ∙ f)) (refl, refl)

  placed_by : (n : MachineState G) (p : Parcel G) → n.node ≡ node.Claimed p.epoch 0 p.work → (placed n p).node ≡ node.Done p.outcome
  placed_by n p e = ap (λ (q : Node G). place p.epoch (node.Done p.outcome) q) e ∙ taken_if (p.epoch == p.epoch) (same_epoch p.epoch) _ _

  not_stale : (n : MachineState G) (p : Parcel G) (new : MachineState G) → n.node ≡ node.Claimed p.epoch 0 p.work → IsStale n p new → ⊥
  not_stale n p new e (inl stale) = stale.0 (due_by n _ p e refl)
  not_stale n p new e (inr stale) = stale.1 (due_by (settle n) _ p e refl)

  -- the caller's parcel is taken, and nothing is left
  pub delivered : (n : MachineState G) (p : Parcel G) (r : Reply) (new : MachineState G) → n.node ≡ node.Claimed p.epoch 0 p.work → Delivers n p r new
      → Reports n p reported.Taken new × (weight_at new.node ≡ 0)
  delivered n p reply.Taken new e h = (h, ap (λ (s : MachineState G). weight_at s.node) h.2 ∙ ap weight_at (placed_by n p e))
  delivered n p reply.Stale new e h = absurd (not_stale n p new e h.1)
  delivered n p (reply.Ticket k) new e h = absurd h
  delivered n p reply.Nothing new e h = absurd h
  delivered n p reply.Finished new e h = absurd h
  delivered n p reply.Spent new e h = absurd h
  delivered n p (reply.Back k) new e h = absurd h
  delivered n p reply.Gone new e h = absurd h
  delivered n p reply.Empty new e h = absurd h

  pub falls : (s n : MachineState G) (t : Ticket G) (p : Parcel G) (r : Reply) (new : MachineState G) → claimed.Ticket t ≡ (next_for s).0 → n ≡ (next_for s).1
      → p.epoch ≡ t.epoch → p.work ≡ t.work → Delivers n p r new → weight_at new.node < weight_at s.node
  falls s n t p r new e f same-epoch same-work h =
      let g = got s t n e f in
      let d = (delivered n p r new (g.claimed_is ∙ cc) h).1 in
      let w = g.weight in
      omega arith

  pub onward : (eval : Work G → Outcome G) (s n : MachineState G) (t : Ticket G) (p : Parcel G) (r : Reply) (new : MachineState G) (o : Outcome G)
      → claimed.Ticket t ≡ (next_for s).0 → n ≡ (next_for s).1 → p ≡ evaluated eval t → Delivers n p r new → Rounds eval new o → Rounds eval s o
  onward eval s n t p r new o e f v h rest =
      let g = got s t n e f in
      let shape : n.node ≡ node.Claimed p.epoch 0 p.work = g.claimed_is ∙ ap (λ (q : Parcel G). node.Claimed q.epoch 0 q.work) (sym v) in
      let taken = (delivered n p r new shape h).0 in
      let report : Reports (next_for s).1 (evaluated eval t) reported.Taken new = subst (λ q. Reports q (evaluated eval t) reported.Taken new) f (subst (λ q. Reports n q reported.Taken new) v taken) in
      round s t reported.Taken new o (sym e) report rest

  delivers_same : (n : MachineState G) (p : Parcel G) (r : Reply) (new : MachineState G) → Delivers n p r new → new.work ≡ n.work
  delivers_same n p reply.Taken new h = report_same n p reported.Taken new h
  delivers_same n p reply.Stale new h = report_same n p (reported.Stale p) new h
  delivers_same n p (reply.Ticket k) new h = absurd h
  delivers_same n p reply.Nothing new h = absurd h
  delivers_same n p reply.Finished new h = absurd h
  delivers_same n p reply.Spent new h = absurd h
  delivers_same n p (reply.Back k) new h = absurd h
  delivers_same n p reply.Gone new h = absurd h
  delivers_same n p reply.Empty new h = absurd h

  pub next_same : (s n : MachineState G) → n ≡ (next_for s).1 → n.work ≡ s.work
  next_same s n f = step_same s NextForCaller n f

  pub round_same : (s n : MachineState G) (p : Parcel G) (r : Reply) (new : MachineState G) → n ≡ (next_for s).1 → Delivers n p r new → new.work ≡ s.work
  round_same s n p r new f h = delivers_same n p r new h ∙ next_same s n f

  pub at_finish : (eval : Work G → Outcome G) (s n : MachineState G) (o : Outcome G) → claimed.Finished ≡ (next_for s).0 → n ≡ (next_for s).1 → Some o ≡ answer_of n → Rounds eval s o
  at_finish eval s n o e f a = finished s o (sym e) (subst (λ q. answer_of q ≡ Some o) f (sym a))

  pub at_spent : (eval : Work G → Outcome G) (s n : MachineState G) (w : Work G) (o : Outcome G) → claimed.Spent ≡ (next_for s).0 → n ≡ (next_for s).1 → w ≡ n.work → o ≡ eval w → Rounds eval s o
  at_spent eval s n w o e f same v = subst (λ q. Rounds eval s q) (sym (v ∙ ap eval (same ∙ next_same s n f))) (spent s (sym e))

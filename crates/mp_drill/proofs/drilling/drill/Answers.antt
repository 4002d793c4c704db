use Rattle.std.proofs.Common.{◌≡◌, ◌<◌, ◌≤◌, ◌+◌, length, get_or, IsTrue, sym, subst, ap, ◌∙◌, arith}
use Rattle.mp_strategy.specs.Evaluation.{eval}
use Rattle.mp_strategy.specs.Strategies.{Evals}
use Rattle.mp_strategy.proofs.Allowed.{eval_allowed}
use Rattle.mp_strategy.proofs.Inner.{goals_good}
use Rattle.mp_core.specs.declared.state.CoreState.{CoreState}
use Rattle.mp_core.specs.Cores.{started, moved}
use Rattle.mp_core.specs.Machine.{opening}
use Rattle.mp_core.proofs.Validity.{evals_valid}
use Rattle.mp_drill.specs.declared.schedule.Event.TheVariants as event
use Rattle.mp_drill.specs.Ranges.{are_in_range}
use Rattle.mp_drill.specs.Rounds.{Rounds}
use Rattle.mp_drill.specs.Workers.{world, first_world}
use Rattle.mp_drill.specs.Trace.{Happens, IsTrace}
use Rattle.mp_drill.proofs.Outcomes.{Good, first_good, happens_good, trace_gives_eval, replies_length}
use Rattle.mp_drill.proofs.Scheduling.{Onward, range_at, ready_first, no_event, next_event, whole_trace}
use Rattle.mp_drill.proofs.drilling.drill.Goals as goal

pub loop-event-init : goal.loop-event-init
loop-event-init g c =
    let problem = c.args.problem.now in
    let work = c.args.work in
    let each = eval g.L.Logic.meaning problem in
    let core = c.in_ok-start.field-0 in
    let workers = c.in_ok-idle_workers.field-0.items in
    let machine : core.machine ≡ opening work = ap (λ (k : CoreState _ _ _). k.machine) c.in_ok-start.ensures.started in
    let first : world core.machine workers ≡ first_world work = ap (λ m. world m workers) machine ∙ ap (λ ws. world (opening work) ws) c.in_ok-idle_workers.ensures in
    record {
      ready = ready_first g.L.Logic.meaning core workers c.in_ok-start.ensures.sound c.in_ok-idle_workers.ensures;
      same = c.in_ok-start.ensures.started ∙ ap (λ m. started problem m) (sym machine);
      good = subst (λ w. Good each work w) (sym first) (first_good each work);
      onward = no_event each (first_world work) (world core.machine workers) c.as_slice-event-items.result.now c.in_ok-replies.replies first c.in_ok-replies.ensures;
    }

pub happen-requires-clause-range : goal.happen-requires-clause-range
happen-requires-clause-range g c κs within =
    let items = c.as_slice-event-items.result.now in
    let here : c.loop-event.event-index < length items = omega arith in
    range_at items c.loop-event.event-index (event.Claim 0) here (subst (λ es. IsTrue (are_in_range es)) (sym c.as_slice-event-items.ensures) c.requires.events)

pub loop-event-preserved : goal.loop-event-preserved
loop-event-preserved g c =
    let problem = c.args.problem.now in
    let work = c.args.work in
    let each = eval g.L.Logic.meaning problem in
    let items = c.as_slice-event-items.result.now in
    let here : c.loop-event.event-index < length items = omega arith in
    let core = c.loop-event.session.core in
    let after = c.happen.new.self.core in
    let now = world core.machine c.loop-event.session.workers.items in
    let new = world after.machine c.happen.new.self.workers.items in
    let reply = c.in_ok-reply.reply in
    let happens = subst (λ ev. Happens ev now (get_or items c.loop-event.event-index (event.Claim 0)) reply new) (ap (λ (k : CoreState _ _ _). eval g.L.Logic.meaning k.problem) c.loop-event.invariant.same) c.in_ok-reply.ensures.reply in
    record {
      ready = c.in_ok-reply.ensures.ready;
      same = c.in_ok-reply.ensures.same ∙ ap (λ (k : CoreState _ _ _). moved k after.machine) c.loop-event.invariant.same;
      good = happens_good each work now (get_or items c.loop-event.event-index (event.Claim 0)) reply new c.loop-event.invariant.good happens;
      onward = subst (λ rs. Onward each (first_world work) items rs new (c.loop-event.event-index + 1)) (sym c.in-Ok.ensures.ok)
          (next_event each (first_world work) now new items c.loop-event.replies c.loop-event.event-index (event.Claim 0) reply here happens c.loop-event.invariant.onward);
    }

pub returns-clause-trace : goal.returns-clause-trace
returns-clause-trace g c =
    let problem = c.args.problem.now in
    let work = c.args.work in
    let each = eval g.L.Logic.meaning problem in
    let core = c.loop-event.session.core in
    let rounds = subst (λ ev. Rounds ev core.machine c.in_ok-outcome.outcome) (ap (λ (k : CoreState _ _ _). eval g.L.Logic.meaning k.problem) c.loop-event.invariant.same) c.in_ok-outcome.ensures in
    let past : length c.as_slice-event-items.result.now ≤ c.loop-event.event-index = omega arith in
    let trace : IsTrace each work c.args.events.now c.loop-event.replies c.in_ok-outcome.outcome =
    whole_trace each work (world core.machine c.loop-event.session.workers.items) c.args.events.now c.as_slice-event-items.result.now c.loop-event.replies c.loop-event.event-index c.in_ok-outcome.outcome
    c.as_slice-event-items.ensures past c.loop-event.invariant.onward rounds in
    trace

pub returns-clause-relation : goal.returns-clause-relation
returns-clause-relation g c =
    let problem = c.args.problem.now in
    let work = c.args.work in
    let each = eval g.L.Logic.meaning problem in
    let core = c.loop-event.session.core in
    let rounds = subst (λ ev. Rounds ev core.machine c.in_ok-outcome.outcome) (ap (λ (k : CoreState _ _ _). eval g.L.Logic.meaning k.problem) c.loop-event.invariant.same) c.in_ok-outcome.ensures in
    let past : length c.as_slice-event-items.result.now ≤ c.loop-event.event-index = omega arith in
    let trace : IsTrace each work c.args.events.now c.loop-event.replies c.in_ok-outcome.outcome =
    whole_trace each work (world core.machine c.loop-event.session.workers.items) c.args.events.now c.as_slice-event-items.result.now c.loop-event.replies c.loop-event.event-index c.in_ok-outcome.outcome
    c.as_slice-event-items.ensures past c.loop-event.invariant.onward rounds in
    let is : c.in_ok-outcome.outcome ≡ each work = trace_gives_eval each work c.args.events.now c.loop-event.replies c.in_ok-outcome.outcome trace in
    let relation = subst (λ o. Evals g.L.Logic.meaning problem work o) (sym is) (eval_allowed g.L.Logic.meaning problem c.known.ensures work c.requires.work.tac) in
    relation

pub returns-clause-valid : goal.returns-clause-valid
returns-clause-valid g c =
    let problem = c.args.problem.now in
    let work = c.args.work in
    let each = eval g.L.Logic.meaning problem in
    let core = c.loop-event.session.core in
    let rounds = subst (λ ev. Rounds ev core.machine c.in_ok-outcome.outcome) (ap (λ (k : CoreState _ _ _). eval g.L.Logic.meaning k.problem) c.loop-event.invariant.same) c.in_ok-outcome.ensures in
    let past : length c.as_slice-event-items.result.now ≤ c.loop-event.event-index = omega arith in
    let trace : IsTrace each work c.args.events.now c.loop-event.replies c.in_ok-outcome.outcome =
    whole_trace each work (world core.machine c.loop-event.session.workers.items) c.args.events.now c.as_slice-event-items.result.now c.loop-event.replies c.loop-event.event-index c.in_ok-outcome.outcome
    c.as_slice-event-items.ensures past c.loop-event.invariant.onward rounds in
    let is : c.in_ok-outcome.outcome ≡ each work = trace_gives_eval each work c.args.events.now c.loop-event.replies c.in_ok-outcome.outcome trace in
    let relation = subst (λ o. Evals g.L.Logic.meaning problem work o) (sym is) (eval_allowed g.L.Logic.meaning problem c.known.ensures work c.requires.work.tac) in
    evals_valid g.L.Logic.meaning problem work c.in_ok-outcome.outcome relation

pub returns-clause-good : goal.returns-clause-good
returns-clause-good g c =
    let problem = c.args.problem.now in
    let work = c.args.work in
    let each = eval g.L.Logic.meaning problem in
    let core = c.loop-event.session.core in
    let rounds = subst (λ ev. Rounds ev core.machine c.in_ok-outcome.outcome) (ap (λ (k : CoreState _ _ _). eval g.L.Logic.meaning k.problem) c.loop-event.invariant.same) c.in_ok-outcome.ensures in
    let past : length c.as_slice-event-items.result.now ≤ c.loop-event.event-index = omega arith in
    let trace : IsTrace each work c.args.events.now c.loop-event.replies c.in_ok-outcome.outcome =
    whole_trace each work (world core.machine c.loop-event.session.workers.items) c.args.events.now c.as_slice-event-items.result.now c.loop-event.replies c.loop-event.event-index c.in_ok-outcome.outcome
    c.as_slice-event-items.ensures past c.loop-event.invariant.onward rounds in
    let is : c.in_ok-outcome.outcome ≡ each work = trace_gives_eval each work c.args.events.now c.loop-event.replies c.in_ok-outcome.outcome trace in
    let relation = subst (λ o. Evals g.L.Logic.meaning problem work o) (sym is) (eval_allowed g.L.Logic.meaning problem c.known.ensures work c.requires.work.tac) in
    goals_good g.L.Logic.meaning problem (g.met.L.Logic.lawful problem.logic) c.known.ensures work c.in_ok-outcome.outcome c.requires.work.good relation

pub returns-clause-length : goal.returns-clause-length
returns-clause-length g c =
    let problem = c.args.problem.now in
    let work = c.args.work in
    let each = eval g.L.Logic.meaning problem in
    let core = c.loop-event.session.core in
    let rounds = subst (λ ev. Rounds ev core.machine c.in_ok-outcome.outcome) (ap (λ (k : CoreState _ _ _). eval g.L.Logic.meaning k.problem) c.loop-event.invariant.same) c.in_ok-outcome.ensures in
    let past : length c.as_slice-event-items.result.now ≤ c.loop-event.event-index = omega arith in
    let trace : IsTrace each work c.args.events.now c.loop-event.replies c.in_ok-outcome.outcome =
    whole_trace each work (world core.machine c.loop-event.session.workers.items) c.args.events.now c.as_slice-event-items.result.now c.loop-event.replies c.loop-event.event-index c.in_ok-outcome.outcome
    c.as_slice-event-items.ensures past c.loop-event.invariant.onward rounds in
    replies_length each (first_world work) c.args.events.now c.loop-event.replies trace.0 trace.1

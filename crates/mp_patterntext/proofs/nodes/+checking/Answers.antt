use Rattle.std.proofs.Common.{◌≡◌, ◌+◌, min, ◌∙◌, arith}
use Rattle.mp_termtext.proofs.FaultSteps.{each_next}
use Rattle.mp_patterntext.specs.Nodes.{node_faults, bound_node_faults}
use Rattle.mp_patterntext.specs.Scopes.{syms_of}
use Rattle.mp_patterntext.proofs.FaultWalks.{meta_parts, op_parts}
use Rattle.mp_patterntext.proofs.nodes.+checking.Goals as goal

pub check_bounds_nodes-loop-sub-preserved : goal.check_bounds_nodes-loop-sub-preserved
check_bounds_nodes-loop-sub-preserved t c = record {
  kept = c.in_ok-held.ensures.env ∙ c.loop-sub.invariant.kept;
  found = λ d e. each_next (bound_node_faults (syms_of c.args.known.now) c.args.is_matched) c.args.subs.now c.loop-sub.sub-index c.sub-item.result c.args.env.now.items c.loop-sub.env.items d c.loop-sub.held c.in_ok-held.held _ c.loop-sub-test.true c.sub-item.is
      c.loop-sub.invariant.kept (c.in_ok-held.ensures.fault d e) (c.loop-sub.invariant.found d e);
}

pub check_argument_nodes-loop-arg-preserved : goal.check_argument_nodes-loop-arg-preserved
check_argument_nodes-loop-arg-preserved t c = record {
  kept = c.in_ok-held.ensures.env ∙ c.loop-arg.invariant.kept;
  found = λ d e. each_next (node_faults (syms_of c.args.known.now) c.args.is_matched) c.args.args.now c.loop-arg.arg-index c.arg-item.result c.args.env.now.items c.loop-arg.env.items d c.loop-arg.held c.in_ok-held.held _ c.loop-arg-test.true c.arg-item.is
      c.loop-arg.invariant.kept (c.in_ok-held.ensures.fault d e) (c.loop-arg.invariant.found d e);
}

pub check_nodes-returns-in_ok-found-in-Op-clause-fault : goal.check_nodes-returns-in_ok-found-in-Op-clause-fault
check_nodes-returns-in_ok-found-in-Op-clause-fault t c = λ d e. (
    let a = c.min-inner.ensures in let b = c.saturating_add.ensures in
    let inner : min (d + 1) 201 ≡ c.min-inner.result = omega (arith, a, b, e) in
    let x = c.in-Op in
    op_parts (syms_of c.args.known.now) c.args.is_matched c.args.raw.now x.name x.params c.as_slice-in-Op.result.now x.subs c.as_slice-subs.result.now x.at c.args.env.now.items d c.args.held c.check_depth-held-in-Op.result c.check_params-held.result
    c.in_ok-found-in-Op.found x.is c.as_slice-in-Op.ensures c.as_slice-subs.ensures (c.check_depth-held-in-Op.ensures d e) c.check_params-held.ensures (c.in_ok-found-in-Op.ensures.fault (d + 1) inner))

pub check_nodes-returns-in_ok-found-in-Meta-clause-fault : goal.check_nodes-returns-in_ok-found-in-Meta-clause-fault
check_nodes-returns-in_ok-found-in-Meta-clause-fault t c = λ d e. (
    let a = c.min-inner.ensures in let b = c.saturating_add.ensures in
    let inner : min (d + 1) 201 ≡ c.min-inner.result = omega (arith, a, b, e) in
    let x = c.in-Meta in
    meta_parts (syms_of c.args.known.now) c.args.is_matched c.args.raw.now x.name x.ctxs c.as_slice-in-Meta.result.now x.args c.as_slice-args.result.now x.at c.args.env.now.items d c.args.held c.check_depth-held-in-Meta.result c.in_ok-held-in-Meta.held
    c.in_ok-found-in-Meta.found x.is c.as_slice-in-Meta.ensures c.as_slice-args.ensures (c.check_depth-held-in-Meta.ensures d e) c.in_ok-held-in-Meta.ensures (c.in_ok-found-in-Meta.ensures.fault (d + 1) inner))

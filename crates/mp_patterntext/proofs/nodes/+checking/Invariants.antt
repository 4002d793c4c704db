use Rattle.std.proofs.Common.{◌≡◌, ℕ, drop, map, min}
use Rattle.mp_words.specs.Faults.{least_from}
use Rattle.mp_termtext.specs.Statics.{each_faults}
use Rattle.mp_patterntext.specs.Nodes.{node_faults, bound_node_faults}
use Rattle.mp_patterntext.specs.Scopes.{syms_of}
use Rattle.mp_patterntext.proofs.nodes.+checking.Given as goal

abbrev pub invariant-check_bounds_nodes-loop-sub : goal.invariant-check_bounds_nodes-loop-sub
invariant-check_bounds_nodes-loop-sub l = record {
  kept : l.env.items ≡ l.fn.env.items;
  found : (d : ℕ) → min d 201 ≡ l.depth
      → least_from l.held (each_faults (map (bound_node_faults (syms_of l.known) l.is_matched) (drop l.sub-index l.subs)) l.fn.env.items d) ≡ least_from l.fn.held (each_faults (map (bound_node_faults (syms_of l.known) l.is_matched) l.subs) l.fn.env.items d);
}

abbrev pub invariant-check_argument_nodes-loop-arg : goal.invariant-check_argument_nodes-loop-arg
invariant-check_argument_nodes-loop-arg l = record {
  kept : l.env.items ≡ l.fn.env.items;
  found : (d : ℕ) → min d 201 ≡ l.depth
      → least_from l.held (each_faults (map (node_faults (syms_of l.known) l.is_matched) (drop l.arg-index l.args)) l.fn.env.items d) ≡ least_from l.fn.held (each_faults (map (node_faults (syms_of l.known) l.is_matched) l.args) l.fn.env.items d);
}

use Rattle.std.proofs.Common.{◌≡◌, ◌+◌, ◌++◌, ◌≤◌, drop, map, max, sum}
use Rattle.mp_logic.specs.Lists.{greatest}
use Rattle.mp_term.specs.Subst.{widest_at}
use Rattle.mp_schema.specs.Sequents.{wide_of}
use Rattle.mp_schema.specs.Values.{instance_of}
use Rattle.mp_build.specs.Rooms.{room, room_bound, IsNarrowSomewhere}
use Rattle.mp_build.specs.Sizes.{inst_size, inst_size_bound, inst_depth, inst_depth_bound, used_from}
use Rattle.mp_build.proofs.sizes.+weighing.Given as goal

abbrev pub invariant-weigh_pattern-loop-sub : goal.invariant-weigh_pattern-loop-sub
invariant-weigh_pattern-loop-sub l =
    let left = drop l.sub-index l.sub-items in
    let v = instance_of l.inst in record {
      small : l.total.size ≤ 20000;
      some : 1 ≤ l.total.depth;
      shallow : l.total.depth ≤ 200;
      size : l.total.size + sum (map (inst_size_bound (wide_of v) v.values) left) ≡ inst_size (wide_of v) v.values l.fn.p;
      depth : max l.total.depth (1 + greatest (map (inst_depth_bound (wide_of v) v.values) left)) ≡ inst_depth (wide_of v) v.values l.fn.p;
      narrow : IsNarrowSomewhere (λ m. widest_at m (map (room_bound (wide_of v) v.values) left));
    }

abbrev pub invariant-weigh_args-loop-arg : goal.invariant-weigh_args-loop-arg
invariant-weigh_args-loop-arg l =
    let v = instance_of l.inst in
    let left = drop l.arg-index l.args in
    let size = inst_size (wide_of v) v.values in
    let depth = inst_depth (wide_of v) v.values in record {
      level : l.level ≡ l.before + l.arg-index;
      sizes : map (λ w. w.size) l.weights.items ++ used_from size l.t l.level left ≡ used_from size l.t l.before l.args;
      depths : map (λ w. w.depth) l.weights.items ++ used_from depth l.t l.level left ≡ used_from depth l.t l.before l.args;
      narrow : IsNarrowSomewhere (λ m. widest_at m (map (room (wide_of v) v.values) left));
    }

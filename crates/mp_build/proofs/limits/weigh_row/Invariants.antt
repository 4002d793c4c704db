use Rattle.std.proofs.Common.{◌≡◌, ◌+◌, ◌≤◌, drop, map, max, sum}
use Rattle.mp_logic.specs.Lists.{greatest}
use Rattle.mp_schema.specs.Values.{instance_of}
use Rattle.mp_build.specs.Sizes.{applied_size, applied_depth}
use Rattle.mp_build.proofs.limits.weigh_row.Given as goal

abbrev pub invariant-loop-t : goal.invariant-loop-t
invariant-loop-t l =
    let left = drop l.t-index l.row in
    let size = applied_size (instance_of l.inst) l.ctxs l.args in
    let depth = applied_depth (instance_of l.inst) l.ctxs l.args in
    (l.total.size ≤ 20000) ×
    (l.total.depth ≤ 200) ×
    (l.total.size + sum (map size left) ≡ sum (map size l.row)) ×
    (max l.total.depth (greatest (map depth left)) ≡ greatest (map depth l.row))

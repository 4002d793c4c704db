use Rattle.std.proofs.Common.{◌≡◌, ◌+◌, ◌≤◌, drop, map, max, sum}
use Rattle.mp_logic.specs.Lists.{greatest}
use Rattle.mp_term.specs.Sizes.{sub_size, sub_size_bound, sub_depth, sub_depth_bound}
use Rattle.mp_build.specs.Sizes.{behind_ones}
use Rattle.mp_build.proofs.weights.+weigh_under.Given as goal

abbrev pub invariant-loop-sub : goal.invariant-loop-sub
invariant-loop-sub l =
    let left = drop l.sub-index l.sub-items in
    let sizes = behind_ones l.before (map (λ w. w.size) l.args) in
    let depths = behind_ones l.before (map (λ w. w.depth) l.args) in
    (l.total.size ≤ 20000) ×
    (1 ≤ l.total.depth) ×
    (l.total.depth ≤ 200) ×
    (l.total.size + sum (map (sub_size_bound sizes) left) ≡ sub_size sizes l.fn.t) ×
    (max l.total.depth (1 + greatest (map (sub_depth_bound depths) left)) ≡ sub_depth depths l.fn.t)

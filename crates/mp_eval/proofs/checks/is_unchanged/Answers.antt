use Rattle.std.proofs.Common.{◌≡◌, ap, sym, ◌∙◌, arith}
use Rattle.mp_logic.specs.Trees.{leaves_of, leaf_count_of, root_of}
use Rattle.mp_strategy.proofs.LeafCounts.{leaf_count-leaves}
use Rattle.mp_eval.proofs.Leaves.{not_only, is_only}
use Rattle.mp_eval.proofs.checks.is_unchanged.Goals as goal

pub returns-then-leaf_count-ne1 : goal.returns-then-leaf_count-ne1
returns-then-leaf_count-ne1 g c =
    let tree = c.args.tree.now in
    not_only (g.L.Logic.meaning c.args.logic.now).same (leaves_of tree) (root_of tree)
    (λ one. let n : leaf_count_of tree ≡ 1 = sym (leaf_count-leaves tree) ∙ one in omega (arith, n, c.leaf_count.ensures, c.if-leaf_count-ne1.true))

pub returns-in-Some : goal.returns-in-Some
returns-in-Some g c =
    let tree = c.args.tree.now in
    let same = (g.L.Logic.meaning c.args.logic.now).same in
    let n : leaf_count_of tree ≡ 1 = omega (arith, c.leaf_count.ensures, c.if-leaf_count-ne1.false) in
    c.same_goal.ensures ∙ ap (same c.in-Some.goal.now) c.root.ensures ∙ is_only same (leaves_of tree) (root_of tree) c.in-Some.goal.now (leaf_count-leaves tree ∙ n) c.in-Some.ensures

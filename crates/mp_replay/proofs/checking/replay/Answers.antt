use Rattle.std.proofs.Common.{◌≡◌, ◌∙◌, sym, arith}
use Rattle.mp_logic.specs.Trees.{root_of, leaf_count_of}
use Rattle.mp_replay.proofs.Validity.{valid_found}
use Rattle.mp_replay.proofs.checking.replay.Goals as goal

pub returns-in-0 : goal.returns-in-0
returns-in-0 g c =
    let m = g.L.Logic.meaning c.args.logic.now in
    let same : root_of c.args.tree.now ≡ c.args.goal.now = sym c.root.ensures ∙ c.same_goals.ensures.0 c.if-not-same_goals.false in
    let none : leaf_count_of c.args.tree.now ≡ 0 = omega arith in
    (valid_found m.step c.args.justs.now c.args.tree.now c.args.goal.now c.first_fault.new.seen same (rw c.in-None.is at c.in_ok-found.ensures), none)

pub returns-in_default : goal.returns-in_default
returns-in_default g c =
    let m = g.L.Logic.meaning c.args.logic.now in
    let same : root_of c.args.tree.now ≡ c.args.goal.now = sym c.root.ensures ∙ c.same_goals.ensures.0 c.if-not-same_goals.false in
    let valid = valid_found m.step c.args.justs.now c.args.tree.now c.args.goal.now c.first_fault.new.seen same (rw c.in-None.is at c.in_ok-found.ensures) in
    (valid, (λ none. omega (arith, c.in_default)), c.leaf_count.ensures)

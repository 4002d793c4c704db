use Rattle.std.proofs.Common.{◌≡◌, ℕ, ◌+◌, ◌-◌, ◌≤◌, sym, ap, ◌∙◌, arith}
use Rattle.mp_term.specs.declared.term.Term.{Var}
use Rattle.mp_term.proofs.ScopeLaws.{width_weakened}
use Rattle.mp_term.proofs.SubLaws.{AreInScope-at}
use Rattle.mp_delay.specs.Moves.{moved}
use Rattle.mp_delay.specs.Instances.{variables_and}
use Rattle.mp_delay.proofs.DelayLaws.{widest-ge}
use Rattle.mp_delay.proofs.InstanceLaws.{made-below, put-moved, put-arg, put-bound, arg-narrow, bound-small, level-inside}
use Rattle.mp_delay.proofs.instance.fill_variable.Goals as goal

pub level_of-requires : goal.level_of-requires
level_of-requires c =
    let r = c.args.filling.now in
    let small = made-below r.moves.now r.count r.args.now (moved r.own.now) r.scope c.args.depth c.args.level c.requires.below c.level_of-at.result c.if-at-filling.true in
    omega (arith, small)

pub returns-then-at-filling : goal.returns-then-at-filling
returns-then-at-filling c =
    let r = c.args.filling.now in
    let low = rw c.level_of-at.ensures at c.if-at-filling.true in
    c.moved_variable.ensures ∙ ap Var (c.level_of.ensures ∙ ap (moved r.moves.now) c.level_of-at.ensures)
    ∙ sym (put-moved r.moves.now r.count r.args.now (moved r.own.now) r.scope c.args.depth c.args.level c.requires.below low)

-- the level counts from the first argument
place : (x n y : ℕ) → x ≡ y → n ≤ x → y ≡ n + (x - n)
place x n y e h = omega (arith, e, h)

pub weaken-requires-clause-scoped : goal.weaken-requires-clause-scoped
weaken-requires-clause-scoped c =
    let r = c.args.filling.now in
    AreInScope-at r.scope r.args.now (c.level_of-at.result - r.count) c.index-filling-place.result c.if-place-filling.true c.requires.args_scoped

pub weaken-requires-clause-narrow : goal.weaken-requires-clause-narrow
weaken-requires-clause-narrow c =
    let r = c.args.filling.now in
    let at = place c.level_of-at.result r.count (moved r.own.now c.args.level) c.level_of-at.ensures c.if-at-filling.false in
    rw (← c.index-filling-place.is)
    (arg-narrow r.moves.now r.count r.args.now (moved r.own.now) r.scope c.args.depth c.args.level c.index-filling-place.result (c.level_of-at.result - r.count) at
    c.if-place-filling.true c.index-filling-place.is c.requires.can)

pub returns-then-place-filling : goal.returns-then-place-filling
returns-then-place-filling c =
    let r = c.args.filling.now in
    let at = place c.level_of-at.result r.count (moved r.own.now c.args.level) c.level_of-at.ensures c.if-at-filling.false in
    rw (← c.index-filling-place.is) at c.in_ok-arg.ensures
    ∙ sym (put-arg r.moves.now r.count r.args.now (moved r.own.now) r.scope c.args.depth c.args.level c.index-filling-place.result (c.level_of-at.result - r.count) at
    c.if-place-filling.true c.index-filling-place.is)

pub overflow_add-filling : goal.overflow_add-filling
overflow_add-filling c =
    let r = c.args.filling.now in
    let at = place c.level_of-at.result r.count (moved r.own.now c.args.level) c.level_of-at.ensures c.if-at-filling.false in
    let small = bound-small r.moves.now r.count r.args.now (moved r.own.now) r.scope c.args.depth c.args.level (Var 0) (c.level_of-at.result - r.count) at c.if-place-filling.false c.requires.can in
    omega (arith, small)

pub returns : goal.returns
returns c =
    let r = c.args.filling.now in
    let at = place c.level_of-at.result r.count (moved r.own.now c.args.level) c.level_of-at.ensures c.if-at-filling.false in
    let inside = level-inside r.moves.now r.count r.args.now (moved r.own.now) r.scope c.args.depth c.args.level c.requires.can in
    c.moved_variable-2.ensures
    ∙ sym (put-bound r.moves.now r.count r.args.now (moved r.own.now) r.scope c.args.depth c.args.level (Var 0) (c.level_of-at.result - r.count) at c.if-place-filling.false inside)

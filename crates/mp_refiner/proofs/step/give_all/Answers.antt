use Rattle.std.proofs.Common.{arith, ◌≡◌, Some, None, sym, ◌∙◌}
use Rattle.mp_refiner.specs.Ready.{IsUsable}
use Rattle.mp_refiner.proofs.Giving.{same_count, for-at, given_narrow, given_value, given_of, given-next, given-fails, given-end, given-ctxs, new-next, new-here}
use Rattle.mp_theory.proofs.ForNeeds.{for_need}
use Rattle.mp_refiner.proofs.step.give_all.Goals as goal

pub bounds-given-place : goal.bounds-given-place
bounds-given-place c = let e = same_count c.args.needs.now c.args.given.now c.requires.count in omega arith

pub give-requires : goal.give-requires
give-requires c =
    let n = c.index-needs-place.result in
    let g = c.index-given-place.result in
    let facts = for_need n g (for-at c.args.needs.now c.args.given.now c.loop-place.place n g c.requires.count (omega arith) c.index-needs-place.is c.index-given-place.is) in
    let u : IsUsable c.args.inst.now.ctxs n = rw c.index-needs-place.is (c.requires.usable c.loop-place.place n (omega arith)) in
    let same = c.loop-place.invariant.ctxs in
    let fresh = new-here c.args.needs.now c.loop-place.place n c.loop-place.inst.metas (omega arith) c.index-needs-place.is c.loop-place.invariant.new in
    rw (← c.index-given-place.is, same) (record { fresh = fresh; distinct = u.distinct; below = u.below; scoped = facts.scoped; narrow = given_narrow n g u.few facts })

pub returns-then-not-branch : goal.returns-then-not-branch
returns-then-not-branch c =
    let e = same_count c.args.needs.now c.args.given.now c.requires.count in
    let n = c.index-needs-place.result in
    let g = c.index-given-place.result in
    let facts = for_need n g (for-at c.args.needs.now c.args.given.now c.loop-place.place n g c.requires.count (omega arith) c.index-needs-place.is c.index-given-place.is) in
    let u : IsUsable c.args.inst.now.ctxs n = rw c.index-needs-place.is (c.requires.usable c.loop-place.place n (omega arith)) in
    let value = given_value c.loop-place.inst c.give.new.inst n g c.args.inst.now.ctxs c.in_ok-give.field-0 c.loop-place.invariant.ctxs u facts
    (rw (← c.index-given-place.is) at c.in_ok-give.ensures.added) (rw (← c.index-given-place.is) at c.in_ok-give.ensures.named) in
    let failed : None ≡ given_of n g c.loop-place.inst = rw c.if-not-branch.true at value in
    given-fails c.args.needs.now c.args.given.now c.loop-place.place n g (omega arith) (omega arith) c.index-needs-place.is c.index-given-place.is c.loop-place.inst _ failed c.loop-place.invariant.left

pub loop-place-preserved : goal.loop-place-preserved
loop-place-preserved c =
    let e = same_count c.args.needs.now c.args.given.now c.requires.count in
    let n = c.index-needs-place.result in
    let g = c.index-given-place.result in
    let facts = for_need n g (for-at c.args.needs.now c.args.given.now c.loop-place.place n g c.requires.count (omega arith) c.index-needs-place.is c.index-given-place.is) in
    let u : IsUsable c.args.inst.now.ctxs n = rw c.index-needs-place.is (c.requires.usable c.loop-place.place n (omega arith)) in
    let value = given_value c.loop-place.inst c.give.new.inst n g c.args.inst.now.ctxs c.in_ok-give.field-0 c.loop-place.invariant.ctxs u facts
    (rw (← c.index-given-place.is) at c.in_ok-give.ensures.added) (rw (← c.index-given-place.is) at c.in_ok-give.ensures.named) in
    let done : Some c.give.new.inst ≡ given_of n g c.loop-place.inst = rw c.if-not-branch.false at value in
    record {
      left = given-next c.args.needs.now c.args.given.now c.loop-place.place n g (omega arith) (omega arith) c.index-needs-place.is c.index-given-place.is c.loop-place.inst c.give.new.inst _ done c.loop-place.invariant.left;
      ctxs = given-ctxs c.loop-place.inst c.give.new.inst n g done ∙ c.loop-place.invariant.ctxs;
      new = new-next c.args.needs.now c.loop-place.place n g c.loop-place.inst c.give.new.inst (omega arith) c.index-needs-place.is done c.loop-place.invariant.new;
    }

pub returns : goal.returns
returns c = sym (given-end c.args.needs.now c.args.given.now c.loop-place.place c.loop-place.inst (omega arith)) ∙ c.loop-place.invariant.left

use Rattle.std.proofs.Common.{◌+◌, refl, arith}
use Rattle.mp_schema.specs.Values.{variables_of}
use Rattle.mp_match.proofs.GivenLaws.{widest-ge, named-none, named-some, given-distinct, given-below, given-few, is-given}
use Rattle.mp_match.proofs.giving.give.Goals as goal

pub len-requires : goal.len-requires
len-requires c =
    let few = given-few (variables_of c.args.inst.now.ctxs c.args.ctxs.now) c.args.arity c.args.body.now c.requires.distinct c.requires.below in
    let w = widest-ge c.args.body.now (200 + c.args.arity) in
    let n = c.requires.narrow in
    rw (c.in_ok-push_range.ensures.ok, c.in_ok-push_contexts.ensures, c.new-levels.ensures) (omega (arith, few, w, n))

pub overflow_add-arity : goal.overflow_add-arity
overflow_add-arity c = let w = widest-ge c.args.body.now (200 + c.args.arity) in let n = c.requires.narrow in omega (arith, w, n)

pub unrename-requires-clause-distinct : goal.unrename-requires-clause-distinct
unrename-requires-clause-distinct c =
    rw (c.in_ok-push_range.ensures.ok, c.in_ok-push_contexts.ensures, c.new-levels.ensures)
    (given-distinct (variables_of c.args.inst.now.ctxs c.args.ctxs.now) c.args.arity c.args.body.now c.requires.distinct c.requires.below)

pub unrename-requires-clause-below : goal.unrename-requires-clause-below
unrename-requires-clause-below c =
    rw (c.in_ok-push_range.ensures.ok, c.in_ok-push_contexts.ensures, c.new-levels.ensures)
    (given-below (variables_of c.args.inst.now.ctxs c.args.ctxs.now) c.args.arity c.args.body.now c.requires.distinct c.requires.below)

pub returns-in_default-clause-named : goal.returns-in_default-clause-named
returns-in_default-clause-named c = (
  λ yes'. absurd (cc),
  λ only.
      absurd (named-none (variables_of c.args.inst.now.ctxs c.args.ctxs.now) c.args.arity c.args.body.now
      (rw (c.in_ok-push_range.ensures.ok, c.in_ok-push_contexts.ensures, c.new-levels.ensures, c.in_default.is) at c.in_ok-value.ensures.listed) only),
)

pub returns-clause-added : goal.returns-clause-added
returns-clause-added c = λ _.
    let len = rw (c.in_ok-push_range.ensures.ok, c.in_ok-push_contexts.ensures, c.new-levels.ensures) at c.len.ensures in
    is-given c.args.inst.now c.args.name c.args.ctxs.now c.args.arity c.args.body.now c.requires.distinct c.requires.below c.requires.scoped c.in-Some.value _ c.requires.fresh
    (rw (c.in_ok-push_range.ensures.ok, c.in_ok-push_contexts.ensures, c.new-levels.ensures, c.in-Some.is) at c.in_ok-value.ensures.inverse)
    (rw (c.in_ok-push.ensures.ok, len) refl)

pub returns-clause-named : goal.returns-clause-named
returns-clause-named c = (
  λ _. named-some (variables_of c.args.inst.now.ctxs c.args.ctxs.now) c.args.arity c.args.body.now c.in-Some.value
      (rw (c.in_ok-push_range.ensures.ok, c.in_ok-push_contexts.ensures, c.new-levels.ensures, c.in-Some.is) at c.in_ok-value.ensures.listed),
  λ _. refl,
)

use Rattle.std.proofs.Common.{◌+◌, ◌-◌, ◌≡◌, drop, length-drop, arith}
use Rattle.mp_match.specs.Walks.{size_after}
use Rattle.mp_match.proofs.Kept.{widest_from-ge, widest_from-take, in_scopes-take}
use Rattle.mp_match.proofs.Contexts.{with_place-ok}
use Rattle.mp_match.proofs.items.match_item.Goals as goal

pub match_hypothesis-requires-clause-room : goal.match_hypothesis-requires-clause-room
match_hypothesis-requires-clause-room c =
    let k = widest_from-ge c.args.place.now.next (drop c.args.place.now.next c.args.hyps.now) in
    let d = length-drop c.args.place.now.next c.args.hyps.now in
    let one = rw c.in-Hyp.is at c.requires.room in
    omega (arith, k, d, one)

pub match_context-requires-clause-scoped : goal.match_context-requires-clause-scoped
match_context-requires-clause-scoped c = in_scopes-take c.args.place.now.next _ (drop c.args.place.now.next c.args.hyps.now) c.requires.scoped

pub match_context-requires-clause-narrow : goal.match_context-requires-clause-narrow
match_context-requires-clause-narrow c =
    let k = widest_from-take c.args.place.now.next (c.args.place.now.next + c.next_size.result - c.args.place.now.next) (drop c.args.place.now.next c.args.hyps.now) in
    omega (arith, k)

pub returns-in-Ctx : goal.returns-in-Ctx
returns-in-Ctx c =
    let e : c.args.place.now.next + c.next_size.result - c.args.place.now.next ≡ size_after c.args.sizes c.args.place.now.ctxs = omega arith in
    rw c.in-Ctx.is (with_place-ok c.match_context.result c.match_context.new.place c.args.found.now _ (rw e at c.match_context.ensures))

use Rattle.std.proofs.Common.{◌≡◌, ◌+◌, ◌-◌, ◌<◌, length, sym, subst, arith}
use Rattle.mp_strategy.proofs.Tables.{Found, found_start, found_next, too_deep, parts_at, parts_within}
use Rattle.mp_strategy.proofs.fitting.is_shallow.Goals as goal

pub loop-behind-init : goal.loop-behind-init
loop-behind-init c = found_start c.args.entries.now (length c.args.entries.now - 0) 4096 (omega arith) c.requires.few

pub depth_by-depth-requires-clause-parts : goal.depth_by-depth-requires-clause-parts
depth_by-depth-requires-clause-parts c =
    let i = length c.args.entries.now - 1 - c.loop-behind.behind in
    let lt : i < length c.args.entries.now = omega (arith, c.loop-behind-test.true) in
    parts_within i (length c.args.entries.now) 4096 _ c.requires.few (parts_at c.args.justs c.args.entries.now i c.index-entries-here.result c.index-entries-here.result c.requires.fit lt c.index-entries-here.is)

pub returns-then-depth-gt-MOST_DEPTH : goal.returns-then-depth-gt-MOST_DEPTH
returns-then-depth-gt-MOST_DEPTH c =
    let i = length c.args.entries.now - 1 - c.loop-behind.behind in
    let lt : i < length c.args.entries.now = omega (arith, c.loop-behind-test.true) in
    let here : length c.args.entries.now - c.loop-behind.behind ≡ i + 1 = omega (arith, c.loop-behind-test.true) in
    let found = subst (λ n. Found c.args.entries.now n c.loop-behind.depths) here c.loop-behind.invariant in
    sym (too_deep c.args.entries.now i c.depth_by-depth.result c.index-entries-here.result c.index-entries-here.result c.loop-behind.depths found (parts_at c.args.justs c.args.entries.now i c.index-entries-here.result c.index-entries-here.result c.requires.fit lt c.index-entries-here.is) lt c.index-entries-here.is c.depth_by-depth.ensures c.if-depth-gt-MOST_DEPTH.true)

pub loop-behind-preserved : goal.loop-behind-preserved
loop-behind-preserved c =
    let i = length c.args.entries.now - 1 - c.loop-behind.behind in
    let lt : i < length c.args.entries.now = omega (arith, c.loop-behind-test.true) in
    let here : length c.args.entries.now - c.loop-behind.behind ≡ i + 1 = omega (arith, c.loop-behind-test.true) in
    let next : i ≡ length c.args.entries.now - (c.loop-behind.behind + 1) = omega (arith, c.loop-behind-test.true) in
    let found = subst (λ n. Found c.args.entries.now n c.loop-behind.depths) here c.loop-behind.invariant in
    found_next c.args.entries.now i c.depth_by-depth.result c.index-entries-here.result c.index-entries-here.result c.loop-behind.depths found (parts_at c.args.justs c.args.entries.now i c.index-entries-here.result c.index-entries-here.result c.requires.fit lt c.index-entries-here.is) lt c.index-entries-here.is c.depth_by-depth.ensures c.if-depth-gt-MOST_DEPTH.false _ next

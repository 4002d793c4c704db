use Rattle.std.proofs.Common.{sym, ◌∙◌, ap, arith, rules}
use Rattle.mp_schema.specs.Occurrences.{occurrences_in, occurrences_in_bound, first_named}
use Rattle.mp_schema.proofs.Layers.{occurrences_in-Op, occurrences_in-Meta, occurrences_in_bound-is}
use Rattle.mp_schema.proofs.Finding.{found_at, not_at}
use Rattle.mp_schema.proofs.first.+first.Goals as goal

pub first_in_bodies-returns-in-Some : goal.first_in_bodies-returns-in-Some
first_in_bodies-returns-in-Some t c =
    let same = ap (λ os. first_named os c.args.name) (sym (occurrences_in_bound-is c.sub-item.result)) in
    let here = found_at occurrences_in_bound c.args.subs.now c.loop-sub.sub-index c.sub-item.result c.args.name (omega arith) c.sub-item.is in
    sym (here _ (c.in-Some.ensures ∙ same)) ∙ c.loop-sub.invariant

pub first_in_bodies-loop-sub-preserved : goal.first_in_bodies-loop-sub-preserved
first_in_bodies-loop-sub-preserved t c =
    let same = ap (λ os. first_named os c.args.name) (sym (occurrences_in_bound-is c.sub-item.result)) in
    let none = not_at occurrences_in_bound c.args.subs.now c.loop-sub.sub-index c.sub-item.result c.args.name (omega arith) c.sub-item.is in
    sym (none _ (c.first_in_pattern.ensures ∙ same) c.in_default.is) ∙ c.loop-sub.invariant

pub first_in_patterns-returns-in-Some : goal.first_in_patterns-returns-in-Some
first_in_patterns-returns-in-Some t c =
    let here = found_at occurrences_in c.args.patterns.now c.loop-p.p-index c.p-item.result c.args.name (omega arith) c.p-item.is in
    sym (here _ c.in-Some.ensures) ∙ c.loop-p.invariant

pub first_in_patterns-loop-p-preserved : goal.first_in_patterns-loop-p-preserved
first_in_patterns-loop-p-preserved t c =
    let none = not_at occurrences_in c.args.patterns.now c.loop-p.p-index c.p-item.result c.args.name (omega arith) c.p-item.is in
    sym (none _ c.first_in_pattern.ensures c.in_default.is) ∙ c.loop-p.invariant

pub first_in_pattern-returns-then-other-name : goal.first_in_pattern-returns-then-other-name
first_in_pattern-returns-then-other-name t c = rw (c.in-Meta.is, occurrences_in-Meta) (search rules)

pub first_in_pattern-returns-in-Op : goal.first_in_pattern-returns-in-Op
first_in_pattern-returns-in-Op t c = rw (c.in-Op.is, occurrences_in-Op) (search rules)

pub first_in_pattern-returns-else-other-name : goal.first_in_pattern-returns-else-other-name
first_in_pattern-returns-else-other-name t c = rw (c.in-Meta.is, occurrences_in-Meta) (search rules)

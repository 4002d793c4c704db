use Rattle.std.proofs.Common.{sym, ◌∙◌, arith}
use Rattle.mp_schema.specs.Occurrences.{occurrences_in_schema}
use Rattle.mp_schema.proofs.Finding.{found_at, not_at}
use Rattle.mp_schema.proofs.first.first_in_schemata.Goals as goal

pub returns-in-Some : goal.returns-in-Some
returns-in-Some c =
    let here = found_at occurrences_in_schema c.args.schemata.now c.loop-s.s-index c.s-item.result c.args.name (omega arith) c.s-item.is in
    sym (here _ c.in-Some.ensures) ∙ c.loop-s.invariant

pub loop-s-preserved : goal.loop-s-preserved
loop-s-preserved c =
    let none = not_at occurrences_in_schema c.args.schemata.now c.loop-s.s-index c.s-item.result c.args.name (omega arith) c.s-item.is in
    sym (none _ c.first_in_schema.ensures c.in_default.is) ∙ c.loop-s.invariant

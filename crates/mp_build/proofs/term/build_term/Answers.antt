use Rattle.std.proofs.Common.{[]}
use Rattle.std.proofs.lemmas.Result.{err_from_is_err_and}
use Rattle.mp_schema.specs.Sequents.{Spot}
use Rattle.mp_schema.specs.Values.{instance_of}
use Rattle.mp_build.proofs.TermFacts.{small, term_over, env-here}
use Rattle.mp_build.proofs.term.build_term.Goals as goal

pub returns-in_err-weigh_pattern : goal.returns-in_err-weigh_pattern
returns-in_err-weigh_pattern c =
    let p = err_from_is_err_and c.from_residual.result c.from_residual.ensures.1 in
    rw (p.1, p.2) (term_over (instance_of c.args.inst.now) c.args.p.now _ c.in_err-weigh_pattern.ensures)

pub returns : goal.returns
returns c =
    let v = instance_of c.args.inst.now in
    let l : Spot = record { env = []; pos = λ name. 0; next = c.args.inst.now.ambient } in
    let made = rw (c.new.ensures.items, c.new-2.ensures.items) at c.in_ok-made.ensures in
    (rw (env-here l c.args.inst.now.ambient) at made, small v c.args.p.now c.in_ok-weigh_pattern.ensures.small c.in_ok-weigh_pattern.ensures.shallow)

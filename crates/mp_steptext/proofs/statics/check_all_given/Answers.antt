use Rattle.std.proofs.Common.{sym, ◌∙◌}
use Rattle.std.specs.List.{flat_map}
use Rattle.mp_words.specs.declared.fail.TextWhy.TheVariants as why
use Rattle.mp_words.specs.Seconds.{second_faults}
use Rattle.mp_words.proofs.FaultParts.{two_parts}
use Rattle.mp_steptext.specs.Statics.{given_faults}
use Rattle.mp_steptext.proofs.Behind.{given_behind}
use Rattle.mp_steptext.proofs.statics.check_all_given.Goals as goal

pub returns-then-are_behind : goal.returns-then-are_behind
returns-then-are_behind g c = sym (given_behind g.B.Body.arity g.B.Body.faults c.args.held c.args.needs.now c.args.given.now (sym c.are_behind.ensures ∙ c.if-are_behind.true))

pub returns : goal.returns
returns g c =
    let gs = c.args.given.now in
    two_parts c.args.held c.in_ok-held.held c.in_ok-found.found (flat_map (given_faults g.B.Body.arity g.B.Body.faults c.args.needs.now) gs) (second_faults (λ x. x.name) why.TwiceWith gs) c.in_ok-held.ensures c.in_ok-found.ensures

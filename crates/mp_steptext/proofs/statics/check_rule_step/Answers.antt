use Rattle.std.proofs.Common.{◌+◌, ap, ◌∙◌}
use Rattle.std.specs.List.{flat_map}
use Rattle.mp_term.specs.declared.limits.TheConstants.{MOST_HYPOTHESES}
use Rattle.mp_theory.specs.Tables.{rule_named}
use Rattle.mp_words.specs.Faults.{least_from}
use Rattle.mp_words.specs.Ranges.{written_number_faults}
use Rattle.mp_words.proofs.FaultParts.{three_parts}
use Rattle.mp_steptext.specs.Statics.{body_faults, named_rule_faults}
use Rattle.mp_steptext.proofs.statics.check_rule_step.Goals as goal

pub returns-in_default : goal.returns-in_default
returns-in_default g c =
    let t = c.args.theory.now in
    let s = c.args.raw.now in
    three_parts c.args.held c.check_written_number-held.result c.in_ok-held.held c.sooner_of.result (written_number_faults 1 (MOST_HYPOTHESES + 1) s.place) (flat_map (body_faults g.B.Body.arity g.B.Body.faults) s.given) (named_rule_faults g.B.Body.arity g.B.Body.faults (rule_named t s.rule.name) s)
    c.check_written_number-held.ensures
    (c.in_ok-held.ensures ∙ ap (λ gs. least_from c.check_written_number-held.result (flat_map (body_faults g.B.Body.arity g.B.Body.faults) gs)) c.as_slice.ensures)
    (c.sooner_of.ensures ∙ ap (λ r. least_from c.in_ok-held.held (named_rule_faults g.B.Body.arity g.B.Body.faults r s)) c.in_default.ensures.rule)

pub returns : goal.returns
returns g c =
    let t = c.args.theory.now in
    let s = c.args.raw.now in
    three_parts c.args.held c.check_written_number-held.result c.in_ok-held.held c.in_ok-found.found (written_number_faults 1 (MOST_HYPOTHESES + 1) s.place) (flat_map (body_faults g.B.Body.arity g.B.Body.faults) s.given) (named_rule_faults g.B.Body.arity g.B.Body.faults (rule_named t s.rule.name) s)
    c.check_written_number-held.ensures
    (c.in_ok-held.ensures ∙ ap (λ gs. least_from c.check_written_number-held.result (flat_map (body_faults g.B.Body.arity g.B.Body.faults) gs)) c.as_slice.ensures)
    (c.in_ok-found.ensures ∙ ap (λ r. least_from c.in_ok-held.held (named_rule_faults g.B.Body.arity g.B.Body.faults r s)) c.in-Some.ensures.rule)

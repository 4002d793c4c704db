use Rattle.std.proofs.Common.{◌≤◌, length, sym, ◌∙◌, arith}
use Rattle.mp_lex.proofs.Strings.{bad_escape, bad_byte, ended, unended, string_checked}
use Rattle.mp_lex.proofs.front.string.Goals as goal

pub returns-then-b-ne92-clause-value : goal.returns-then-b-ne92-clause-value
returns-then-b-ne92-clause-value c =
    let rest = c.args.rest.now in
    c.bad.ensures ∙ sym (bad_escape c.loop-i.i rest c.loop-i-test.true c.loop-i.escaped c.if-escaped.true c.if-b-ne34.true c.if-b-ne92.true)
    ∙ c.loop-i.invariant ∙ string_checked rest

pub returns-then-b-eq34-clause-value : goal.returns-then-b-eq34-clause-value
returns-then-b-eq34-clause-value c =
    let rest = c.args.rest.now in
    c.closed.ensures ∙ sym (ended c.loop-i.i rest c.loop-i-test.true c.loop-i.escaped c.if-escaped.false c.if-b-eq34.true)
    ∙ c.loop-i.invariant ∙ string_checked rest

pub returns-else-printed-clause-value : goal.returns-else-printed-clause-value
returns-else-printed-clause-value c =
    let rest = c.args.rest.now in
    c.bad-else-printed.ensures
    ∙ sym (bad_byte c.loop-i.i rest c.loop-i-test.true c.loop-i.escaped c.if-escaped.false c.if-b-eq34.false (sym c.printed.ensures ∙ c.if-printed.false))
    ∙ c.loop-i.invariant ∙ string_checked rest

pub returns-clause-value : goal.returns-clause-value
returns-clause-value c =
    let rest = c.args.rest.now in
    let most : length rest ≤ c.loop-i.i = omega (arith, c.loop-i-test.false) in
    c.bad-2.ensures ∙ sym (unended c.loop-i.escaped c.loop-i.i rest most) ∙ c.loop-i.invariant ∙ string_checked rest

use Rattle.std.proofs.Common.{◌≡◌, ◌+◌, ◌-◌, ◌≤◌, drop, length, length-drop, get_or, ap, sym, ◌∙◌, false, arith}
use Rattle.std.specs.Prelude.{nat_le, ◌&&◌}
use Rattle.mp_lex.specs.Bytes.{is_opening}
use Rattle.mp_lex.specs.Lex.{front_of}
use Rattle.mp_lex.proofs.Passes.{bad_step, depth_kept, found_bad, found_end, found_nested, found_passed, found_token, lex_end, nested_step, passed_step, token_step}
use Rattle.mp_lex.proofs.TokenLaws.{token_at}
use Rattle.mp_lex.proofs.lexer.next_token.Goals as goal

pub loop-at-preserved : goal.loop-at-preserved
loop-at-preserved c =
    let source = c.args.source.now in
    let at = c.loop-at.at in
    let depth = c.args.depth in
    let lt = c.loop-at-test.true in
    let len = c.in-Passed.len in
    let before = c.loop-at.invariant.behind in
    let n : length (drop at source) ≡ length source - at = length-drop at source in
    let m : len ≤ length (drop at source) = (let a = c.in-Passed.ensures.within.1 in let d : length c.behind.result.now ≡ length (drop at source) = ap length c.behind.ensures in omega (arith, a, d)) in
    let e = c.in-Passed.ensures.value ∙ ap front_of c.behind.ensures in
    record {
      within = omega (arith, lt, m, n);
      behind = omega (arith, before);
      reads = c.loop-at.invariant.reads ∙ passed_step source at depth lt len e c.in-Passed.ensures.within.0 m;
      finds = c.loop-at.invariant.finds ∙ found_passed source at depth lt len e c.in-Passed.ensures.within.0 m;
    }

pub returns-clause-next : goal.returns-clause-next
returns-clause-next c =
    let l = c.loop-at in
    let most = c.loop-at-test.false in
    (l.invariant.reads ∙ lex_end c.args.source.now l.at c.args.depth (omega (arith, most)), l.invariant.finds ∙ found_end c.args.source.now l.at c.args.depth (omega (arith, most)))

pub returns-in-Bad-clause-next : goal.returns-in-Bad-clause-next
returns-in-Bad-clause-next c =
    let l = c.loop-at in
    let source = c.args.source.now in
    let e = c.in-Bad.ensures.value ∙ ap front_of c.behind.ensures in
    (l.invariant.reads ∙ bad_step source l.at c.args.depth c.loop-at-test.true c.in-Bad.ahead c.in-Bad.why e, l.invariant.finds ∙ found_bad source l.at c.args.depth c.loop-at-test.true c.in-Bad.ahead c.in-Bad.why e)

pub returns-then-too_deep-clause-next : goal.returns-then-too_deep-clause-next
returns-then-too_deep-clause-next c =
    let l = c.loop-at in
    let source = c.args.source.now in
    let lt = c.loop-at-test.true in
    let e = c.in-Token.ensures.value ∙ ap front_of c.behind.ensures in
    let deep = sym c.too_deep.ensures ∙ c.if-too_deep.true in
    (l.invariant.reads ∙ nested_step source l.at c.args.depth lt c.in-Token.kind c.in-Token.len e deep, l.invariant.finds ∙ found_nested source l.at c.args.depth lt c.in-Token.kind c.in-Token.len e deep)

pub returns-in-Token-clause-next : goal.returns-in-Token-clause-next
returns-in-Token-clause-next c =
    let l = c.loop-at in
    let source = c.args.source.now in
    let at = l.at in
    let len = c.in-Token.len in
    let lt = c.loop-at-test.true in
    let m : len ≤ length (drop at source) = (let a = c.in-Token.ensures.within.1 in let d : length c.behind.result.now ≡ length (drop at source) = ap length c.behind.ensures in omega (arith, a, d)) in
    let e = c.in-Token.ensures.value ∙ ap front_of c.behind.ensures in
    let shallow : (is_opening (get_or source at 0) && nat_le 250 c.args.depth) ≡ false = sym c.too_deep.ensures ∙ c.if-too_deep.false in (
      l.invariant.reads ∙ token_step source at c.args.depth lt c.in-Token.kind len e shallow c.in-Token.ensures.within.0 m,
      l.invariant.finds ∙ found_token source at c.args.depth lt c.in-Token.kind len e shallow c.in-Token.ensures.within.0 m,
    )

pub returns-in-Token-clause-kind : goal.returns-in-Token-clause-kind
returns-in-Token-clause-kind c = (token_at c.args.source.now c.loop-at.at c.loop-at-test.true c.in-Token.kind c.in-Token.len (c.in-Token.ensures.value ∙ ap front_of c.behind.ensures)).kind

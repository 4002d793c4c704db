use Rattle.std.proofs.Common.{◌∷◌, [], length, length-append, ap, refl, sym, subst, ◌≤◌, ℕ, arith}
use Rattle.mp_names.proofs.Tables.{extends_on}
use Rattle.mp_words.proofs.Lexing.{one_read}
use Rattle.mp_words.proofs.lexed.lex_text.Goals as goal

pub loop-token-preserved : goal.loop-token-preserved
loop-token-preserved c =
    let l = c.loop-token in
    let old = c.args.names.now in
    let source = c.args.source.now in
    let t = c.in-Token.token in
    let some = c.in-Token.ensures.span.some in
    let behind = c.in-Token.ensures.behind in
    let few = l.invariant.few in
    let few_names = l.invariant.few_names in
    let one_name = c.word.ensures.few in
    let longer = ap length c.in-Ok-push.ensures.ok in
    let one_longer = length-append l.words (c.in-Ok.word ∷ []) in
    record {
      so_far = one_read old source l.words l.names l.at l.depth l.invariant.so_far t c.in-Ok.word c.push.new.self c.word.new.names t.to c.depth_after-depth.result
          c.in-Token.ensures.next c.in-Ok.ensures.word c.in-Ok.ensures.table c.in-Ok-push.ensures.ok refl c.depth_after-depth.ensures;
      within = c.in-Token.ensures.span.within;
      shallow = subst (λ (k : ℕ). k ≤ 250) (sym c.depth_after-depth.ensures) c.in-Token.ensures.shallow;
      few = omega (arith, some, behind, few, longer, one_longer);
      grown = extends_on old l.names c.word.new.names l.invariant.grown c.word.ensures.grown;
      few_names = omega (arith, some, behind, few_names, one_name);
    }

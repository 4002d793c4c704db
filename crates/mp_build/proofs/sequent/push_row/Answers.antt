use Rattle.std.proofs.Common.{◌≡◌, ◌++◌, ◌∷◌, [], length, drop, sym, ap, ◌∙◌, rules, arith}
use Rattle.std.proofs.lemmas.Result.{on_ok_weaker}
use Rattle.mp_schema.specs.Sequents.{wide_of}
use Rattle.mp_schema.specs.Values.{instance_of}
use Rattle.mp_build.specs.Sites.{spot_of}
use Rattle.mp_build.proofs.Rows.{row_scope, row_contexts, row_next, row_pushed, row-used, row_substitutable}
use Rattle.mp_build.proofs.RowLists.{fore-count, row-set, row-made, row-longer, row-shared}
use Rattle.mp_build.proofs.sequent.push_row.Goals as goal

pub variables_before-requires-clause-made : goal.variables_before-requires-clause-made
variables_before-requires-clause-made c =
    let a = c.args in row_contexts (instance_of a.inst.now) (spot_of a.site.now) a.ctxs.now a.args.now 0 a.kept.now c.requires

pub returns-then-are_variables : goal.returns-then-are_variables
returns-then-are_variables c =
    let a = c.args in
    let none : length a.args.now ≡ 0 = search rules in
    let is = sym (c.as_slice.ensures.value ∙ c.in_ok-terms.ensures) ∙ c.are_variables.ensures c.if-are_variables.true in
    let same = row-shared (instance_of a.inst.now) (spot_of a.site.now) a.ctxs.now a.args.now a.kept.now none is c.requires in
    on_ok_weaker c.share_row.result (λ e. e ∙ ap (λ xs. a.hyps.now ++ xs) (sym same)) c.share_row.ensures

pub overflow_cast-scope : goal.overflow_cast-scope
overflow_cast-scope c =
    let a = c.args in
    let low = row_scope (instance_of a.inst.now) (spot_of a.site.now) a.ctxs.now a.args.now c.loop-j.j (drop c.loop-j.j a.kept.now) c.loop-j.invariant.0 in
    omega (arith, low)

pub overflow_add-scope : goal.overflow_add-scope
overflow_add-scope c =
    let a = c.args in
    let low = row_scope (instance_of a.inst.now) (spot_of a.site.now) a.ctxs.now a.args.now c.loop-j.j (drop c.loop-j.j a.kept.now) c.loop-j.invariant.0 in
    omega (arith, low)

pub put_in-requires : goal.put_in-requires
put_in-requires c =
    let a = c.args in
    let v = instance_of a.inst.now in
    let l = spot_of a.site.now in
    let j = c.loop-j.j in
    let t = c.index-kept-j.result in
    let many : c.len-first.result ≡ length c.in_ok-terms.terms.items = search rules in
    let first : c.len-first.result ≡ wide_of v a.ctxs.now = many ∙ ap length c.in_ok-terms.ensures ∙ fore-count v l a.ctxs.now a.args.now in
    let both = row_next v l a.ctxs.now a.args.now a.kept.now j t (omega arith) c.index-kept-j.is c.loop-j.invariant.0 in
    let is = row-set v l a.ctxs.now a.args.now j t c.len-first.result c.loop-j.terms.items c.set_args.new.terms.items first c.loop-j.invariant.1 c.in_ok-set_args.ensures in
    let roomed = row-used v l a.ctxs.now a.args.now j t (wide_of v a.ctxs.now) (t ∷ []) both.0 in
    row_substitutable v l a.ctxs.now a.args.now j t [] _ _ both.0 roomed (c.as_slice-in-loop-j.ensures.value ∙ is)

pub loop-j-preserved : goal.loop-j-preserved
loop-j-preserved c =
    let a = c.args in
    let v = instance_of a.inst.now in
    let l = spot_of a.site.now in
    let j = c.loop-j.j in
    let t = c.index-kept-j.result in
    let many : c.len-first.result ≡ length c.in_ok-terms.terms.items = search rules in
    let first : c.len-first.result ≡ wide_of v a.ctxs.now = many ∙ ap length c.in_ok-terms.ensures ∙ fore-count v l a.ctxs.now a.args.now in
    let both = row_next v l a.ctxs.now a.args.now a.kept.now j t (omega arith) c.index-kept-j.is c.loop-j.invariant.0 in
    let is = row-set v l a.ctxs.now a.args.now j t c.len-first.result c.loop-j.terms.items c.set_args.new.terms.items first c.loop-j.invariant.1 c.in_ok-set_args.ensures in
    let made = c.in_ok-hyp.ensures ∙ row-made v l a.ctxs.now a.args.now j t c.as_slice-in-loop-j.result.now (c.as_slice-in-loop-j.ensures.value ∙ is) in (
      both.1,
      row-longer v l a.ctxs.now a.args.now j t c.set_args.new.terms.items _ is (search rules),
      row_pushed v l a.ctxs.now a.args.now a.kept.now a.hyps.now c.loop-j.hyps _ j t c.in_ok-hyp.hyp (omega arith) c.index-kept-j.is made (search rules) c.loop-j.invariant.2,
    )

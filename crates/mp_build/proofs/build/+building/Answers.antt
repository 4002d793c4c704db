use Rattle.std.proofs.Common.{◌≡◌, ℕ, List, length, true, false, if◌then◌else◌, refl, sym, ◌∙◌, arith, rules}
use denote.Param.Weighed.{at_most}
use Rattle.mp_schema.proofs.pattern.Pattern.TheLaws as pattern_size
use Rattle.mp_term.specs.declared.term.Term.{Term}
use Rattle.mp_term.specs.Subst.{occurs_in}
use Rattle.mp_build.specs.Sites.{made_at, the_blank, spot_of}
use Rattle.mp_schema.specs.Values.{instance_of}
use Rattle.mp_build.proofs.Buildable.{bodies_next, bodies_pushed, args_next, args_pushed, contexts_made, substitutable}
use Rattle.mp_build.proofs.Agreeing.{used_behind, meta_made}
use Rattle.mp_build.proofs.build.+building.Goals as goal
use Rattle.mp_build.proofs.build.+building.Goals.{push_args-then-occurs+in_ok-made, push_args-else-occurs+in_ok-made-2}

pub build_bodies-loop-sub-preserved : goal.build_bodies-loop-sub-preserved
build_bodies-loop-sub-preserved t c =
    let a = c.args in
    let v = instance_of a.inst.now in
    let l = spot_of a.site.now in
    let b = c.sub-item.result in
    let before = c.loop-sub.invariant in
    let next = bodies_next v l a.span.base a.subs.now a.span.scope c.loop-sub.sub-index b (omega arith) c.sub-item.is before.0 in (
      next.1,
      bodies_pushed v l a.span.base a.subs.now a.span.scope c.loop-sub.sub-index b _ _ (record { binders = b.binders; body = c.in_ok-body.body }) (omega arith) c.sub-item.is before.0.inner
          (rw c.in_ok-body.ensures refl) (search rules) before.1,
    )

pub push_args-loop-arg-preserved : goal.push_args-loop-arg-preserved
push_args-loop-arg-preserved t c =
    let a = c.args in
    let v = instance_of a.inst.now in
    let l = spot_of a.site.now in
    let before = c.loop-arg.invariant in
    let x = c.arg-item.result in
    let next = args_next v l a.span.base a.args.now a.span.scope c.loop-arg.arg-index x (omega arith) c.arg-item.is before.0 in
    let level : List Term → ℕ = length in
    let many : c.len.result ≡ level c.loop-arg.terms.items = search rules in
    let made : c.if-occurs.made ≡ (if occurs_in (level c.loop-arg.terms.items) a.t.now then made_at v l a.span.base x a.span.scope else the_blank) = elim c.if-occurs.branch [
      | push_args-then-occurs+in_ok-made b ↦
          let stands : occurs_in (level c.loop-arg.terms.items) a.t.now ≡ true = rw many at (sym c.occurs.ensures ∙ b.if-occurs.true) in
          rw (stands, b.made-is) b.in_ok-made.ensures
      | push_args-else-occurs+in_ok-made-2 b ↦
          let none : occurs_in (level c.loop-arg.terms.items) a.t.now ≡ false = rw many at (sym c.occurs.ensures ∙ b.if-occurs.false) in
          rw (none, b.made-is) b.in_ok-made-2.ensures
    ] in
    (next.1, args_pushed v l a.span.base a.t.now a.args.now a.span.scope c.loop-arg.arg-index x _ c.loop-arg.terms.items _ c.if-occurs.made (omega arith) c.arg-item.is made (search rules) before.1)

pub push_args-build_within-requires : goal.push_args-build_within-requires
push_args-build_within-requires t c =
    let a = c.args in
    let v = instance_of a.inst.now in
    let l = spot_of a.site.now in
    let before = c.loop-arg.invariant in
    let x = c.arg-item.result in
    let next = args_next v l a.span.base a.args.now a.span.scope c.loop-arg.arg-index x (omega arith) c.arg-item.is before.0 in
    let m = rw (sym c.arg-item.is) at (at_most pattern_size.the_size a.args.now c.loop-arg.arg-index x (omega arith)) in
    (omega (arith, m, c.decreases), next.0)

pub build_within-variables_before-requires-clause-made : goal.build_within-variables_before-requires-clause-made
build_within-variables_before-requires-clause-made t c =
    let a = c.args in
    let x = c.in-Meta in
    rw c.as_slice-in-Meta.ensures (contexts_made (instance_of a.inst.now) (spot_of a.site.now) a.span.base a.p.now x.name x.ctxs x.args a.span.scope x.is c.requires)

pub build_within-put_or_share-requires : goal.build_within-put_or_share-requires
build_within-put_or_share-requires t c =
    let a = c.args in
    let v = instance_of a.inst.now in
    let l = spot_of a.site.now in
    let x = c.in-Meta in
    let fore = rw c.as_slice-in-Meta.ensures at c.in_ok-terms-in-Meta.ensures in
    let grown = rw c.as_slice-in-Meta-2.ensures at c.in_ok-push_args-in-Meta.ensures in
    let all = used_behind v l a.span.base c.value_or-value.result.now x.ctxs x.args a.span.scope _ _ fore grown in
    let all' = rw c.value_or-value.ensures at (c.as_slice-in-Meta-3.ensures.value ∙ all) in
    rw c.value_or-value.ensures (substitutable v l a.span.base a.p.now x.name x.ctxs x.args a.span.scope _ x.is c.requires all')

pub build_within-returns-in_ok-push_args-in-Meta : goal.build_within-returns-in_ok-push_args-in-Meta
build_within-returns-in_ok-push_args-in-Meta t c =
    let a = c.args in
    let v = instance_of a.inst.now in
    let l = spot_of a.site.now in
    let x = c.in-Meta in
    let fore = rw c.as_slice-in-Meta.ensures at c.in_ok-terms-in-Meta.ensures in
    let grown = rw c.as_slice-in-Meta-2.ensures at c.in_ok-push_args-in-Meta.ensures in
    let all = used_behind v l a.span.base c.value_or-value.result.now x.ctxs x.args a.span.scope _ _ fore grown in
    let made = meta_made v l a.span.base c.value_or-value.result.now a.p.now x.name x.ctxs x.args a.span.scope _ x.is c.value_or-value.ensures (c.as_slice-in-Meta-3.ensures.value ∙ all) in
    rw made at c.put_or_share.ensures

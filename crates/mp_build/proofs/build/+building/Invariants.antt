use Rattle.std.proofs.Common.{◌≡◌, ◌++◌, drop, length}
use Rattle.mp_schema.specs.Values.{instance_of}
use Rattle.mp_build.specs.Sites.{spot_of, bodies_at, used_terms, AreBuildableBodies, AreBuildableArgs}
use Rattle.mp_build.proofs.build.+building.Given as goal

abbrev pub invariant-build_bodies-loop-sub : goal.invariant-build_bodies-loop-sub
invariant-build_bodies-loop-sub l =
    let v = instance_of l.inst in
    let spot = spot_of l.site in
    AreBuildableBodies v spot l.span.base (drop l.sub-index l.subs) l.span.scope ×
    (l.made ++ bodies_at v spot l.span.base (drop l.sub-index l.subs) l.span.scope ≡ bodies_at v spot l.span.base l.subs l.span.scope)

abbrev pub invariant-push_args-loop-arg : goal.invariant-push_args-loop-arg
invariant-push_args-loop-arg l =
    let v = instance_of l.inst in
    let spot = spot_of l.site in
    AreBuildableArgs v spot l.span.base (drop l.arg-index l.args) l.span.scope ×
    (l.terms.items ++ used_terms v spot l.span.base l.t (length l.terms.items) (drop l.arg-index l.args) l.span.scope
    ≡ l.initial.terms.items ++ used_terms v spot l.span.base l.t (length l.initial.terms.items) l.args l.span.scope)

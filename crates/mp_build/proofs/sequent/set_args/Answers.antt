use Rattle.std.proofs.Common.{◌+◌, refl, arith}
use Rattle.std.proofs.lemmas.List.{length-set}
use Rattle.mp_schema.specs.Values.{instance_of}
use Rattle.mp_build.specs.Sites.{spot_of}
use Rattle.mp_build.proofs.Buildable.{args_next}
use Rattle.mp_build.proofs.RowLists.{Setting-first, Setting-next, Setting-end}
use Rattle.mp_build.proofs.sequent.set_args.Goals as goal

pub loop-k-init : goal.loop-k-init
loop-k-init c =
    let a = c.args in
    (c.requires.args, Setting-first (instance_of a.inst.now) (spot_of a.site.now) a.scope a.t.now a.scope a.first a.args.now a.terms.now.items)

pub build_arg-requires : goal.build_arg-requires
build_arg-requires c =
    let a = c.args in
    (args_next (instance_of a.inst.now) (spot_of a.site.now) a.scope a.args.now a.scope c.loop-k.k c.index-args-k.result c.loop-k-test.true c.index-args-k.is c.loop-k.invariant.0).0

pub loop-k-preserved : goal.loop-k-preserved
loop-k-preserved c =
    let a = c.args in
    let v = instance_of a.inst.now in
    let l = spot_of a.site.now in
    let next = args_next v l a.scope a.args.now a.scope c.loop-k.k c.index-args-k.result c.loop-k-test.true c.index-args-k.is c.loop-k.invariant.0 in (
      next.1,
      Setting-next v l a.scope a.t.now a.scope a.first a.args.now a.terms.now.items c.loop-k.terms.items _ c.loop-k.k c.index-args-k.result c.in_ok-made.made c.loop-k-test.true c.index-args-k.is
          c.in_ok-made.ensures refl (length-set c.loop-k.terms.items (a.first + c.loop-k.k) c.in_ok-made.made) c.loop-k.invariant.1,
    )

pub returns : goal.returns
returns c =
    let a = c.args in
    Setting-end (instance_of a.inst.now) (spot_of a.site.now) a.scope a.t.now a.scope a.first a.args.now a.terms.now.items c.loop-k.terms.items c.loop-k.k (omega arith) c.loop-k.invariant.1

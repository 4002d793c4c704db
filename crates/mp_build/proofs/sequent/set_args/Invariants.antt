use Rattle.std.proofs.Common.{drop}
use Rattle.mp_schema.specs.Values.{instance_of}
use Rattle.mp_build.specs.Sites.{spot_of, AreBuildableArgs}
use Rattle.mp_build.proofs.RowLists.{Setting}
use Rattle.mp_build.proofs.sequent.set_args.Given as goal

abbrev pub invariant-loop-k : goal.invariant-loop-k
invariant-loop-k l =
    let v = instance_of l.inst in
    let spot = spot_of l.site in
    AreBuildableArgs v spot l.scope (drop l.k l.args) l.scope × Setting v spot l.scope l.t l.scope l.first l.args l.initial.terms.items l.terms.items l.k

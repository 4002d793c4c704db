use Rattle.std.proofs.Common.{◌≡◌, ◌++◌, drop}
use Rattle.mp_schema.specs.Sequents.{hyps_from, behind_all, first_spot}
use Rattle.mp_schema.specs.Values.{instance_of}
use Rattle.mp_build.specs.Sites.{spot_of, AreItemsBuildable}
use Rattle.mp_build.proofs.sequent.make_sequent.Given as goal

abbrev pub invariant-loop-item : goal.invariant-loop-item
invariant-loop-item l =
    let v = instance_of l.inst in
    let spot = spot_of l.site in
    let items = l.schema.items in
    let left = drop l.item-index items in
    AreItemsBuildable v spot left l.schema.concl ×
    (l.hyps ++ hyps_from v left spot ≡ hyps_from v items first_spot) ×
    (behind_all v left spot ≡ behind_all v items first_spot)

use Rattle.std.proofs.Common.{◌≡◌, sym, ap}
use Rattle.mp_schema.specs.Values.{instance_of, kept_or}
use Rattle.mp_build.proofs.RoomFacts.{narrow_Ctx}
use Rattle.mp_build.proofs.limits.weigh_item.Goals as goal

pub weigh_row-requires-clause-few : goal.weigh_row-requires-clause-few
weigh_row-requires-clause-few c =
    let x = c.in-Ctx in
    let narrow = narrow_Ctx (instance_of c.args.inst.now) c.args.item.now x.name x.ctxs x.args x.is c.requires in
    rw c.as_slice-ctxs.ensures narrow.0

pub weigh_row-requires-clause-narrow : goal.weigh_row-requires-clause-narrow
weigh_row-requires-clause-narrow c =
    let x = c.in-Ctx in
    let narrow = narrow_Ctx (instance_of c.args.inst.now) c.args.item.now x.name x.ctxs x.args x.is c.requires in
    rw c.as_slice-args.ensures narrow.1

pub returns-in-Some : goal.returns-in-Some
returns-in-Some c =
    let v = instance_of c.args.inst.now in
    let x = c.in-Ctx in
    let kept : v.kept x.name ≡ c.in-Some.context.now.hyps = ap kept_or (sym c.in-Some.ensures) in
    rw x.is (rw (c.as_slice-ctxs.ensures, c.as_slice-args.ensures, c.as_slice.ensures, ← kept) at c.weigh_row.ensures)

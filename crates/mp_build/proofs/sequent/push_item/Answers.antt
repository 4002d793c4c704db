use Rattle.std.proofs.Common.{◌≡◌, ap, sym}
use Rattle.mp_schema.specs.Values.{instance_of, kept_or}
use Rattle.mp_build.specs.Sites.{spot_of}
use Rattle.mp_build.proofs.Items.{item_row}
use Rattle.mp_build.proofs.sequent.push_item.Goals as goal

pub push_row-requires : goal.push_row-requires
push_row-requires c =
    let a = c.args in
    let v = instance_of a.inst.now in
    let x = c.in-Ctx in
    let kept : v.kept x.name ≡ c.in-Some.context.now.hyps = ap kept_or (sym c.in-Some.ensures) in
    rw (c.as_slice-ctxs.ensures, c.as_slice-args.ensures, c.as_slice.ensures, ← kept) (item_row v (spot_of a.site.now) a.item.now x.name x.ctxs x.args x.is c.requires)

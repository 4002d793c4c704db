use Rattle.std.proofs.Common.{◌≡◌, ◌++◌, drop}
use Rattle.mp_schema.specs.Sequents.{telescope}
use Rattle.mp_schema.specs.Values.{instance_of}
use Rattle.mp_build.specs.Sites.{spot_of, IsRowBuildable}
use Rattle.mp_build.proofs.RowLists.{IsRowList}
use Rattle.mp_build.proofs.sequent.push_row.Given as goal

abbrev pub invariant-loop-j : goal.invariant-loop-j
invariant-loop-j l =
    let v = instance_of l.inst in
    let spot = spot_of l.site in
    IsRowBuildable v spot l.ctxs l.args l.j (drop l.j l.kept) × IsRowList v spot l.ctxs l.args l.j l.terms.items ×
    (l.hyps ++ telescope v spot l.ctxs l.args l.site.next l.j (drop l.j l.kept) ≡ l.initial.hyps ++ telescope v spot l.ctxs l.args l.site.next 0 l.kept)

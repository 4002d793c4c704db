use Rattle.std.proofs.Common.{◌≡◌, Some, length, sym, ap, ◌∙◌}
use Rattle.std.specs.Prelude.{slice_get}
use Rattle.mp_strategy.specs.declared.problem.ProblemState.{ProblemState}
use Rattle.mp_strategy.proofs.Unfolds.{row_here, parts_here, unfolds}
use Rattle.mp_eval.proofs.rows.row.Goals as goal

pub returns-clause-fits : goal.returns-clause-fits
returns-clause-fits g c =
    let p = c.args.problem.now in
    let is : slice_get p.tacs c.args.at.0 ≡ Some c.in-Some.tac.now = sym (ap (λ (q : ProblemState _ _). slice_get q.tacs c.args.at.0) c.problem.view_is) ∙ sym c.in-Some.ensures in
    row_here (length p.justs) p.tacs c.args.at.0 c.in-Some.tac.now c.known.ensures.fits is

pub returns-clause-means : goal.returns-clause-means
returns-clause-means g c = λ left.
    let p = c.args.problem.now in
    let is : slice_get p.tacs c.args.at.0 ≡ Some c.in-Some.tac.now = sym (ap (λ (q : ProblemState _ _). slice_get q.tacs c.args.at.0) c.problem.view_is) ∙ sym c.in-Some.ensures in
    unfolds (g.L.Logic.meaning p.logic) p.justs p.tacs c.args.at.0 left c.in-Some.tac.now is
    (parts_here (length p.justs) p.tacs c.args.at.0 c.in-Some.tac.now c.known.ensures.fits is)

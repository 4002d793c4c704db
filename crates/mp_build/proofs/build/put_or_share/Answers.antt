use Rattle.std.proofs.Common.{sym, ◌∙◌}
use Rattle.std.proofs.lemmas.Result.{IfOk-weaker}
use Rattle.mp_build.proofs.RowLists.{sub-same}
use Rattle.mp_build.proofs.build.put_or_share.Goals as goal

pub returns-then-are_variables : goal.returns-then-are_variables
returns-then-are_variables c =
    let same = sub-same c.args.t.now c.args.terms.now c.args.scope (c.are_variables.ensures c.if-are_variables.true) c.requires.scoped in
    IfOk-weaker c.copy.result _ _ (λ made e. e ∙ sym same) c.copy.ensures

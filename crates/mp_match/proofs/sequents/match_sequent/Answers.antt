use Rattle.std.proofs.Common.{sym}
use Rattle.std.proofs.lemmas.Result.{IfOk-weaker}
use Rattle.mp_match.proofs.SequentMatch.{sequent_matched}
use Rattle.mp_match.proofs.SequentSpread.{sequent_spread}
use Rattle.mp_match.proofs.sequents.match_sequent.Goals as goal

pub returns-clause-instance : goal.returns-clause-instance
returns-clause-instance c =
    let found = sequent_matched c.args.concl.now c.args.first c.args.goal.now c.requires.conclusion c.requires.sized c.requires.scoped c.requires.narrow in
    IfOk-weaker c.sequent_found.result _ _ (λ r is. rw is found.0) c.sequent_found.ensures

pub returns-clause-covers : goal.returns-clause-covers
returns-clause-covers c =
    let found = sequent_matched c.args.concl.now c.args.first c.args.goal.now c.requires.conclusion c.requires.sized c.requires.scoped c.requires.narrow in
    IfOk-weaker c.sequent_found.result _ _ (λ r is. rw is found.1) c.sequent_found.ensures

pub returns-clause-spread : goal.returns-clause-spread
returns-clause-spread c =
    IfOk-weaker c.sequent_found.result _ _ (λ r is. sequent_spread c.args.concl.now c.args.first c.args.goal.now c.requires.conclusion c.requires.sized c.requires.scoped c.requires.narrow r (sym is))
    c.sequent_found.ensures

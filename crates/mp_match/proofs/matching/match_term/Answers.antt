use Rattle.std.proofs.lemmas.Result.{IfOk-weaker}
use Rattle.mp_match.proofs.TermMatch.{term_matched}
use Rattle.mp_match.proofs.matching.match_term.Goals as goal

pub returns-clause-instance : goal.returns-clause-instance
returns-clause-instance c =
    let found = term_matched c.args.scope c.args.redex.now c.args.t.now c.requires.fine c.requires.no_contexts c.requires.scoped in
    IfOk-weaker c.term_found.result _ _ (λ r is. rw is found.0) c.term_found.ensures

pub returns-clause-covers : goal.returns-clause-covers
returns-clause-covers c =
    let found = term_matched c.args.scope c.args.redex.now c.args.t.now c.requires.fine c.requires.no_contexts c.requires.scoped in
    IfOk-weaker c.term_found.result _ _ (λ r is. rw is found.1) c.term_found.ensures

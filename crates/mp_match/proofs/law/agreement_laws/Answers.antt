use Rattle.mp_match.proofs.Laws.{agreeing_terms, agreeing_sequents, agrees_with_one_more}
use Rattle.mp_match.proofs.law.agreement_laws.Goals as goal

pub returns-clause-terms : goal.returns-clause-terms
returns-clause-terms c = agreeing_terms

pub returns-clause-sequents : goal.returns-clause-sequents
returns-clause-sequents c = agreeing_sequents

pub returns-clause-more : goal.returns-clause-more
returns-clause-more c = agrees_with_one_more

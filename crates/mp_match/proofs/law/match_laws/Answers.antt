use Rattle.mp_match.proofs.Laws.{matches_are_instances, term_matches_are_instances}
use Rattle.mp_match.proofs.law.match_laws.Goals as goal

pub returns-clause-sequents : goal.returns-clause-sequents
returns-clause-sequents c = matches_are_instances

pub returns-clause-terms : goal.returns-clause-terms
returns-clause-terms c = term_matches_are_instances

-- The laws of matching, one term for each.
use Rattle.mp_match.specs.Laws.{MatchesAreInstances, TermMatchesAreInstances, AgreeingTerms, AgreeingSequents, AgreesWithOneMore}
use Rattle.mp_match.proofs.Agreement.{agreeing-terms, agreeing-sequents, agrees-with_more, agrees-more}
use Rattle.mp_match.proofs.SequentMatch.{sequent_matched}
use Rattle.mp_match.proofs.TermMatch.{term_matched}

pub matches_are_instances : MatchesAreInstances
matches_are_instances s first goal conclusion two scoped narrow = sequent_matched s first goal conclusion two scoped narrow

pub term_matches_are_instances : TermMatchesAreInstances
term_matches_are_instances redex scope t fine lists scoped = term_matched scope redex t fine lists scoped

pub agreeing_terms : AgreeingTerms
agreeing_terms i v w av aw p h g env m = agreeing-terms i v w av aw p h g env m

pub agreeing_sequents : AgreeingSequents
agreeing_sequents i v w av aw s placed covered = agreeing-sequents i v w av aw s placed covered

pub agrees_with_one_more : AgreesWithOneMore
agrees_with_one_more i v name scope value fresh = (
  λ a. agrees-with_more i v name scope value fresh a,
  λ b. agrees-more i v name scope value b.0 b.1,
)

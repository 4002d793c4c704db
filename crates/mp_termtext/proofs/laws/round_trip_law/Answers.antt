use Rattle.mp_termtext.proofs.RoundTrip.{sequent_is_read, term_is_read}
use Rattle.mp_termtext.proofs.laws.round_trip_law.Goals as goal

pub returns : goal.returns
returns c = record { term = term_is_read; sequent = sequent_is_read }

use Rattle.mp_words.proofs.Soonest.{least_is_least}
use Rattle.mp_words.proofs.fault.least_is_least.Goals as goal

pub returns : goal.returns
returns c = least_is_least

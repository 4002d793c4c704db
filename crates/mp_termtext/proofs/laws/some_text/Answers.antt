use Rattle.mp_words.specs.Texts.{one_pass}
use Rattle.mp_termtext.specs.Grammar.{sequent, term}
use Rattle.mp_termtext.specs.Statics.{term_faults, sequent_faults}
use Rattle.mp_termtext.specs.Values.{term_value, sequent_value}
use Rattle.mp_words.proofs.Answering as answering
use Rattle.mp_termtext.proofs.laws.some_text.Goals as goal

pub returns : goal.returns
returns c = record {
  term = λ free. answering.some_text term (one_pass (term_faults free)) (term_value free);
  sequent = answering.some_text sequent (one_pass sequent_faults) sequent_value;
}

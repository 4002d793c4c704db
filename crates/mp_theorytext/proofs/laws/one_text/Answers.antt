use Rattle.mp_words.specs.Texts.{one_pass}
use Rattle.mp_theorytext.specs.Grammar.{theory}
use Rattle.mp_theorytext.specs.Statics.{theory_faults}
use Rattle.mp_theorytext.specs.Values.{with_laws}
use Rattle.mp_words.proofs.Answering as answering
use Rattle.mp_theorytext.proofs.laws.one_text.Goals as goal

pub returns : goal.returns
returns c t = answering.one_text theory (one_pass (theory_faults t)) (with_laws t)

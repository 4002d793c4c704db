use Rattle.mp_words.specs.Texts.{one_pass}
use Rattle.mp_words.proofs.Answering.{one_text}
use Rattle.mp_scripttext.specs.Grammar.{script}
use Rattle.mp_scripttext.specs.Statics.{script_faults}
use Rattle.mp_scripttext.specs.Values.{script_of}
use Rattle.mp_scripttext.proofs.laws.one_text.Goals as goal

pub returns : goal.returns
returns c = λ t. one_text script (one_pass (script_faults t)) (script_of t)

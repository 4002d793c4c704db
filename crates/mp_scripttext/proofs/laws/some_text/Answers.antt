use Rattle.mp_words.specs.Texts.{one_pass}
use Rattle.mp_words.proofs.Answering.{some_text}
use Rattle.mp_scripttext.specs.Grammar.{script}
use Rattle.mp_scripttext.specs.Statics.{script_faults}
use Rattle.mp_scripttext.specs.Values.{script_of}
use Rattle.mp_scripttext.proofs.laws.some_text.Goals as goal

pub returns : goal.returns
returns c = λ t. some_text script (one_pass (script_faults t)) (script_of t)

-- What the reader of scripts answers of a text.
use Rattle.std.specs.Prelude.{ℕ, List, Result}
use Rattle.mp_theory.specs.Tables.{Laws}
use Rattle.mp_words.specs.declared.fail.TextFail.{TextFail}
use Rattle.mp_words.specs.Texts.{OneText, ReadsText, SomeText, one_pass}
use Rattle.mp_scripttext.specs.declared.script.Script.{Script}
use Rattle.mp_scripttext.specs.Grammar.{script}
use Rattle.mp_scripttext.specs.Statics.{script_faults}
use Rattle.mp_scripttext.specs.Values.{script_of}

-- the script of the text, or its one fault, or want of memory, with the names after the reading
abbrev pub ReadsScript : Laws → List (List ℕ) → List ℕ → Result Script TextFail → List (List ℕ) → Type 0
ReadsScript t = ReadsText script (one_pass (script_faults t)) (script_of t)

-- in each theory a text has one script or one fault, and not both
abbrev pub OneScriptText : Type 0
OneScriptText = (t : Laws) → OneText script (one_pass (script_faults t)) (script_of t)

-- in each theory a text has a script or a fault
abbrev pub SomeScriptText : Type 0
SomeScriptText = (t : Laws) → SomeText script (one_pass (script_faults t)) (script_of t)

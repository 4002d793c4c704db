-- What the reader of theories answers of a text.
use Rattle.std.specs.Prelude.{ℕ, List, Result}
use Rattle.mp_theory.specs.Tables.{Laws}
use Rattle.mp_words.specs.declared.fail.TextFail.{TextFail}
use Rattle.mp_words.specs.Texts.{OneText, ReadsText, SomeText, one_pass}
use Rattle.mp_theorytext.specs.Grammar.{theory}
use Rattle.mp_theorytext.specs.Statics.{theory_faults}
use Rattle.mp_theorytext.specs.Values.{with_laws}

-- this theory with the laws of a text, or the text's one fault, or want of memory, with the names after the reading
abbrev pub ReadsTheory : Laws → List (List ℕ) → List ℕ → Result Laws TextFail → List (List ℕ) → Type 0
ReadsTheory t = ReadsText theory (one_pass (theory_faults t)) (with_laws t)

-- a text has one theory or one fault, and not both
abbrev pub OneTheoryText : Type 0
OneTheoryText = (t : Laws) → OneText theory (one_pass (theory_faults t)) (with_laws t)

-- a text has a theory or a fault
abbrev pub SomeTheoryText : Type 0
SomeTheoryText = (t : Laws) → SomeText theory (one_pass (theory_faults t)) (with_laws t)

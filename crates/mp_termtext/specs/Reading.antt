-- What the readers of a term and of a sequent answer of a text.
use Rattle.std.specs.Prelude.{ℕ, List, Result}
use Rattle.mp_term.specs.declared.term.Term.{Term}
use Rattle.mp_term.specs.declared.sequent.Sequent.{Sequent}
use Rattle.mp_words.specs.declared.fail.TextFail.{TextFail}
use Rattle.mp_words.specs.Texts.{IsText, OneText, ReadsText, SomeText, one_pass}
use Rattle.mp_termtext.specs.Grammar.{term, sequent}
use Rattle.mp_termtext.specs.Statics.{term_faults, sequent_faults}
use Rattle.mp_termtext.specs.Values.{term_value, sequent_value}

-- a term is all of the text, where so many names are free
abbrev pub IsTermText : ℕ → List (List ℕ) → List ℕ → Term → Type 0
IsTermText free = IsText term (one_pass (term_faults free)) (term_value free)

-- what a reader answers: the term of a text, or its one fault
abbrev pub ReadsTerm : ℕ → List (List ℕ) → List ℕ → Result Term TextFail → List (List ℕ) → Type 0
ReadsTerm free = ReadsText term (one_pass (term_faults free)) (term_value free)

-- a sequent is all of the text
abbrev pub IsSequentText : List (List ℕ) → List ℕ → Sequent → Type 0
IsSequentText = IsText sequent (one_pass sequent_faults) sequent_value

-- what a reader answers: the sequent of a text, or its one fault
abbrev pub ReadsSequent : List (List ℕ) → List ℕ → Result Sequent TextFail → List (List ℕ) → Type 0
ReadsSequent = ReadsText sequent (one_pass sequent_faults) sequent_value

-- a text has one term or one fault, and not both
abbrev pub OneTermText : Type 0
OneTermText = (free : ℕ) → OneText term (one_pass (term_faults free)) (term_value free)

-- a text has one sequent or one fault, and not both
abbrev pub OneSequentText : Type 0
OneSequentText = OneText sequent (one_pass sequent_faults) sequent_value

-- a text has a term or a fault
abbrev pub SomeTermText : Type 0
SomeTermText = (free : ℕ) → SomeText term (one_pass (term_faults free)) (term_value free)

-- a text has a sequent or a fault
abbrev pub SomeSequentText : Type 0
SomeSequentText = SomeText sequent (one_pass sequent_faults) sequent_value

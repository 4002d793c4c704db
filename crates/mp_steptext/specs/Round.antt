-- What is printed of a step is read again as that step.
use Rattle.std.specs.Prelude.{◌≡◌, ℕ, ◌++◌, List, [], map, length, Bool, true, false, nat_le, nat_lt, ◌&&◌, Option, Some, None, Ok, IsTrue}
use Rattle.std.specs.List.{list_all}
use Rattle.mp_names.specs.Table.{AreDistinct, Extends, text_of}
use Rattle.mp_lex.specs.declared.token.Kind.TheVariants as kind
use Rattle.mp_lex.specs.declared.token.Token.{Token}
use Rattle.mp_lex.specs.Forms.{is_text}
use Rattle.mp_lex.specs.Lex.{lex}
use Rattle.mp_term.specs.declared.limits.TheConstants.{MOST_DEPTH, MOST_HYPOTHESES, MOST_NODES}
use Rattle.mp_term.specs.Terms.{size_of}
use Rattle.mp_theory.specs.declared.just.Given.{Given}
use Rattle.mp_theory.specs.declared.just.Just.{Just}
use Rattle.mp_theory.specs.declared.just.Just.TheVariants as just
use Rattle.mp_theory.specs.declared.place.Place.{Place}
use Rattle.mp_theory.specs.declared.place.Place.TheVariants as place
use Rattle.mp_theory.specs.Allowed.{is_allowed}
use Rattle.mp_theory.specs.Tables.{IsTheory, Laws, rewrite_at, rule_at}
use Rattle.mp_words.specs.declared.word.Keyword.TheVariants as keyword
use Rattle.mp_words.specs.declared.word.Word.{Word}
use Rattle.mp_words.specs.Fronts.{is_word}
use Rattle.mp_words.specs.Grammars.{fronted, read}
use Rattle.mp_words.specs.Words.{pieces_of, whats_of}
use Rattle.mp_termtext.specs.declared.raw.RawBound.{RawBound}
use Rattle.mp_termtext.specs.Round.{is_written}
use Rattle.mp_steptext.specs.declared.raw.RawStep.{RawStep}
use Rattle.mp_steptext.specs.Printing.{just_text, rewrite_text, rule_text}
use Rattle.mp_steptext.specs.Terms.{just_of, step_with_terms, term_step_faults}

-- a given term can be written: its need's name begins with a capital letter, and its term has at most 20,000 nodes and can be written
abbrev pub is_written_given : List (List ℕ) → Given → Bool
is_written_given names given = is_text kind.Cap (text_of names given.name.0) && (nat_le (size_of given.body) MOST_NODES && is_written names given.body)

-- the first context has at most 200 hypotheses, if a step says how many
abbrev pub is_written_first : Option ℕ → Bool
is_written_first None = true
is_written_first (Some first) = nat_le first MOST_HYPOTHESES

-- a hypothesis is one of the first 200
abbrev pub is_written_place : Place → Bool
is_written_place place.Concl = true
is_written_place (place.Hyp i) = nat_lt i MOST_HYPOTHESES

-- an address has at most 200 numbers, each below 20,000
abbrev pub is_written_address : List ℕ → Bool
is_written_address address = nat_le (length address) MOST_DEPTH && list_all (λ i. nat_lt i MOST_NODES) address

-- a script can say a step by this justification: its law's name begins with a small letter, its numbers are in their ranges, and its given
-- terms can be written
abbrev pub is_written_just : List (List ℕ) → Laws → Just → Bool
is_written_just names t (just.Rule rule first given) =
    is_text kind.Small (rule_text names (rule_at t rule)) && (is_written_first first && list_all (is_written_given names) given)
is_written_just names t (just.Rewrite rewrite at address) =
    is_text kind.Small (rewrite_text names (rewrite_at t rewrite)) && (is_written_place at && is_written_address address)

-- the words are read as a step without faults, which stands for this justification, and what follows them is left
pub record IsReadAs (t : Laws) (j : Just) (ws rest : List Word) : Type 0 where
  pub raw : RawStep RawBound
  pub is : step_with_terms (ws ++ rest) ≡ read raw rest
  pub faultless : term_step_faults t raw ≡ []
  pub value : just_of t raw ≡ j

-- the words go on with no part of a step by a rule: neither `at` nor `with` stands in front
abbrev pub EndsStep : List Word → Type 0
EndsStep rest = (fronted (is_word keyword.At) rest ≡ false) × (fronted (is_word keyword.With) rest ≡ false)

-- the printed text of a step has tokens; by each table of names that extends the one it is printed by, words that are these tokens, at whatever
-- places they stand and whatever follows them that ends a step, are read as that step
abbrev pub PrintedStepIsRead : Type 0
PrintedStepIsRead =
    (names later : List (List ℕ)) (t : Laws) (j : Just) → Extends names later → AreDistinct later → IsTheory t → IsTrue (is_allowed t j) → IsTrue (is_written_just names t j)
    → (tokens : List Token) × (lex (just_text names t j) ≡ Ok tokens)
    × ((ws rest : List Word) → map (λ w. w.what) ws ≡ whats_of later (pieces_of (just_text names t j) tokens) → EndsStep rest → IsReadAs t j ws rest)

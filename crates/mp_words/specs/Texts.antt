-- From the bytes of a text to its value, or to its one fault.
use Rattle.std.specs.Prelude.{◌≡◌, ◌⊎◌, ℕ, List, [], ◌∷◌, length, unwrap_or, Option, Some, None, Result, Ok, Err}
use Rattle.mp_names.specs.Table.{Extends}
use Rattle.mp_lex.specs.declared.token.Token.{Token}
use Rattle.mp_lex.specs.declared.token.LexWhy.{LexWhy}
use Rattle.mp_lex.specs.declared.token.LexWhy.TheVariants as lex_why
use Rattle.mp_lex.specs.Lex.{found, lex}
use Rattle.mp_words.specs.declared.word.Word.{Word}
use Rattle.mp_words.specs.declared.fail.TextWhy.{TextWhy}
use Rattle.mp_words.specs.declared.fail.TextWhy.TheVariants as why
use Rattle.mp_words.specs.declared.fail.TextErr.{TextErr}
use Rattle.mp_words.specs.declared.fail.TextFail.{TextFail}
use Rattle.mp_words.specs.declared.fail.TextFail.TheVariants as fail
use Rattle.mp_words.specs.declared.parts.ReadFail.{ReadFail}
use Rattle.mp_words.specs.declared.parts.ReadFail.TheVariants as reading
use Rattle.mp_words.specs.Faults.{fault_of_passes}
use Rattle.mp_words.specs.Fronts.{first_at}
use Rattle.mp_words.specs.Grammars.{Parse, read, stuck, whole}
use Rattle.mp_words.specs.Words.{pieces_of, words_in, names_after}

-- the table of names that a text leaves: the names of its tokens are entered, up to its lexical fault if it has one
abbrev pub table_after : List (List ℕ) → List ℕ → List (List ℕ)
table_after names source = names_after names (pieces_of source (found source))

-- the fault of a text that stands for a lexical fault
abbrev pub of_lexical : LexWhy → TextWhy
of_lexical lex_why.BadByte = why.BadByte
of_lexical lex_why.LongName = why.LongName
of_lexical lex_why.BadNumber = why.BadNumber
of_lexical lex_why.BadString = why.BadString
of_lexical lex_why.TooNested = why.TooNested

-- a fault at this byte
abbrev pub error : ℕ → TextWhy → TextErr
error at w = record { at = at; why = w }

-- the place of a reading that is stuck there: the first byte of the first of these words, or the text's length if there are none
abbrev pub stuck_place : List ℕ → List Word → ℕ
stuck_place source rest = unwrap_or (first_at rest) (length source)

-- the words of a text, or its lexical fault, and the table of names after it; nothing if memory ran out
abbrev pub LexesText : List (List ℕ) → List ℕ → Result (List Word) TextFail → List (List ℕ) → Type 0
LexesText old source (Ok words) new = (ts : List Token) × (lex source ≡ Ok ts) × (words ≡ words_in old source ts) × (new ≡ table_after old source)
LexesText old source (Err (fail.Bad e)) new = (w : LexWhy) × (lex source ≡ Err (e.at, w)) × (e.why ≡ of_lexical w) × (new ≡ table_after old source)
LexesText old source (Err fail.NoMemory) new = Unit {0}

-- what a reader that stopped makes of the text: Syntax at the place where it is stuck, or want of memory
abbrev pub stopped : List ℕ → ReadFail → TextFail
stopped source (reading.Stuck at) = fail.Bad (error (unwrap_or at (length source)) why.Syntax)
stopped source reading.NoMemory = fail.NoMemory

-- what static rules may look at beside what is written: the names behind the text, and the text
pub record Context : Type 0 where
  pub names : List (List ℕ)
  pub source : List ℕ

-- static rules of one pass, which look at nothing but what is written
abbrev pub one_pass : {X : Type 0} → (X → List TextErr) → Context → X → List (List TextErr)
one_pass faults c raw = faults raw ∷ []

module _ {X V : Type 0} (g : List Word → Parse Word X) (passes : Context → X → List (List TextErr)) (value : X → V) where
  -- the static fault of what is written in this text, if it has any: the least one of the first pass that finds some
  abbrev pub static_fault : List (List ℕ) → List ℕ → X → Option TextErr
  static_fault names source raw = fault_of_passes (passes (record { names = table_after names source; source = source }) raw)

  -- the text is taken with this value: it has no lexical fault, its words are in the grammar and none is left, no static rule is broken in what they give, and this is its value
  pub record IsText (names : List (List ℕ)) (source : List ℕ) (v : V) : Type 0 where
    pub tokens : List Token
    pub raw : X
    pub lexed : lex source ≡ Ok tokens
    pub is : whole g (words_in names source tokens) ≡ read raw []
    pub faultless : static_fault names source raw ≡ None
    pub has : v ≡ value raw

  -- the text is refused with this fault: the first lexical one; else Syntax at the word where the grammar is stuck; else the static one
  pub data IsFaulty (names : List (List ℕ)) (source : List ℕ) (e : TextErr) : Type 0 where
    bad_token : (w : LexWhy) → lex source ≡ Err (e.at, w) → e.why ≡ of_lexical w → IsFaulty names source e
    stuck_at : (ts : List Token) (rest : List Word) → lex source ≡ Ok ts → whole g (words_in names source ts) ≡ stuck rest → e ≡ error (stuck_place source rest) why.Syntax → IsFaulty names source e
    broken : (ts : List Token) (raw : X) → lex source ≡ Ok ts → whole g (words_in names source ts) ≡ read raw [] → static_fault names source raw ≡ Some e → IsFaulty names source e

  -- what a reader answers of a text, and the table of names after it
  abbrev pub ReadsText : List (List ℕ) → List ℕ → Result V TextFail → List (List ℕ) → Type 0
  ReadsText old source (Ok v) new = IsText old source v × (new ≡ table_after old source)
  ReadsText old source (Err (fail.Bad e)) new = IsFaulty old source e × (new ≡ table_after old source)
  ReadsText old source (Err fail.NoMemory) new = Extends old new

  -- a text has one value or one fault, and not both
  pub record OneText : Type 0 where
    pub one_value : (names : List (List ℕ)) (source : List ℕ) (u v : V) → IsText names source u → IsText names source v → u ≡ v
    pub apart : (names : List (List ℕ)) (source : List ℕ) (v : V) (e : TextErr) → IsText names source v → IsFaulty names source e → ⊥
    pub one_fault : (names : List (List ℕ)) (source : List ℕ) (e f : TextErr) → IsFaulty names source e → IsFaulty names source f → e ≡ f

  -- a text has a value or a fault
  abbrev pub SomeText : Type 0
  SomeText = (names : List (List ℕ)) (source : List ℕ) → ((v : V) × IsText names source v) ⊎ ((e : TextErr) × IsFaulty names source e)

-- what a reader answers that makes one test more behind all others: the test finds nothing; or it tells the fault of what would be the value
abbrev pub Behind : {V : Type 0} → (V → Option TextErr) → (List ℕ → Result V TextFail → List (List ℕ) → Type 0) → List ℕ → Result V TextFail → List (List ℕ) → Type 0
Behind late reads source (Ok v) names = reads source (Ok v) names × (late v ≡ None)
Behind {V} late reads source (Err (fail.Bad e)) names = reads source (Err (fail.Bad e)) names ⊎ ((v : V) × reads source (Ok v) names × (late v ≡ Some e))
Behind late reads source (Err fail.NoMemory) names = reads source (Err fail.NoMemory) names

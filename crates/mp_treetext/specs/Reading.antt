-- What the reader of tree files answers of a text.
use Rattle.std.specs.Prelude.{◌≡◌, ◌⊎◌, ℕ, List, [], ◌∷◌, length, Result, Ok}
use Rattle.mp_logic.specs.declared.sym.Sym.{Sym}
use Rattle.mp_theory.specs.Tables.{IsTheory, Laws}
use Rattle.mp_words.specs.declared.fail.TextErr.{TextErr}
use Rattle.mp_words.specs.declared.fail.TextFail.{TextFail}
use Rattle.mp_words.specs.Texts.{Context, IsFaulty, IsText, ReadsText, table_after}
use Rattle.mp_treetext.specs.declared.printed.Printed.{Printed}
use Rattle.mp_treetext.specs.declared.raw.RawBlock.{RawBlock}
use Rattle.mp_treetext.specs.Differences.{difference_faults}
use Rattle.mp_treetext.specs.Grammar.{file}
use Rattle.mp_treetext.specs.Printed.{EachGoodPrinted, trees_text}
use Rattle.mp_treetext.specs.Statics.{file_faults}
use Rattle.mp_treetext.specs.Values.{file_value}

-- the fault of a file that isn't the printed text of what is read, at the first byte that differs
abbrev pub canonical_faults : Laws → List Sym → Context → List Printed → List TextErr
canonical_faults t goals c ps = difference_faults c.source (trees_text c.names t goals ps)

-- the static rules of tree files in two passes: what is written, and then whether it is written as it is printed
abbrev pub tree_passes : Laws → List Sym → Context → List RawBlock → List (List TextErr)
tree_passes t goals c bs = file_faults t goals c.source bs ∷ canonical_faults t goals c (file_value t c.source bs) ∷ []

module _ (t : Laws) (goals : List Sym) (names : List (List ℕ)) (source : List ℕ) where
  -- these blocks are all of the text, for these goals: it has no lexical fault, its words are in the grammar of tree files, no static rule is
  -- broken, these are the blocks that are written, and the text is the printed one of them
  abbrev pub IsTreesText : List Printed → Type 0
  IsTreesText = IsText (file (table_after names source)) (tree_passes t goals) (file_value t source) names source

  -- this is the one fault of the text: the first lexical one; else Syntax at the word at which the grammar is stuck; else the least static one;
  -- else NotCanonical at the first byte that differs from the printed text of what is read, or at the end of the shorter of the two
  abbrev pub IsTreesFault : TextErr → Type 0
  IsTreesFault = IsFaulty (file (table_after names source)) (tree_passes t goals) (file_value t source) names source

  -- what the reader of tree files answers of a text for these goals, and the names that are known then
  abbrev pub ReadsTrees : Result (List Printed) TextFail → List (List ℕ) → Type 0
  ReadsTrees = ReadsText (file (table_after names source)) (tree_passes t goals) (file_value t source) names source

-- in a theory and for given goals a text has one list of blocks or one fault, and not both
pub record OneTreesText : Type 0 where
  pub one_value : (t : Laws) (goals : List Sym) (names : List (List ℕ)) (source : List ℕ) (ps qs : List Printed)
      → IsTreesText t goals names source ps → IsTreesText t goals names source qs → ps ≡ qs
  pub apart : (t : Laws) (goals : List Sym) (names : List (List ℕ)) (source : List ℕ) (ps : List Printed) (e : TextErr)
      → IsTreesText t goals names source ps → IsTreesFault t goals names source e → ⊥
  pub one_fault : (t : Laws) (goals : List Sym) (names : List (List ℕ)) (source : List ℕ) (e f : TextErr)
      → IsTreesFault t goals names source e → IsTreesFault t goals names source f → e ≡ f

-- in a theory and for given goals a text has a list of blocks or a fault
abbrev pub SomeTreesText : Type 0
SomeTreesText =
    (t : Laws) (goals : List Sym) (names : List (List ℕ)) (source : List ℕ)
    → ((ps : List Printed) × IsTreesText t goals names source ps) ⊎ ((e : TextErr) × IsTreesFault t goals names source e)

-- what is read can be checked in its theory, and there is a block for each goal
abbrev pub ReadTreesAreGood : Type 0
ReadTreesAreGood =
    (t : Laws) (goals : List Sym) (names later : List (List ℕ)) (source : List ℕ) (ps : List Printed)
    → IsTheory t → ReadsTrees t goals names source (Ok ps) later → EachGoodPrinted t ps × (length ps ≡ length goals)

-- a text that is read is the printed one of what is read
abbrev pub ReadTreesArePrinted : Type 0
ReadTreesArePrinted =
    (t : Laws) (goals : List Sym) (names later : List (List ℕ)) (source : List ℕ) (ps : List Printed)
    → ReadsTrees t goals names source (Ok ps) later → source ≡ trees_text later t goals ps

-- What is read of a tree file can be checked, and is what the file prints.
use Rattle.std.proofs.Common.{◌≡◌, ℕ, List, [], length, Option, None, Some, refl, ap, sym, subst, ◌∙◌}
use Rattle.std.proofs.lemmas.List.{length-map}
use Rattle.mp_logic.specs.declared.sym.Sym.{Sym}
use Rattle.mp_theory.specs.Tables.{IsTheory, Laws}
use Rattle.mp_words.specs.Texts.{table_after}
use Rattle.mp_treetext.specs.declared.printed.Printed.{Printed}
use Rattle.mp_treetext.specs.declared.raw.RawBlock.{RawBlock}
use Rattle.mp_treetext.specs.Differences.{difference, difference_faults, differing}
use Rattle.mp_treetext.specs.Printed.{EachGoodPrinted, trees_text}
use Rattle.mp_treetext.specs.Reading.{ReadTreesAreGood, ReadTreesArePrinted}
use Rattle.mp_treetext.specs.Statics.{file_faults}
use Rattle.mp_treetext.specs.Values.{block_value, file_value}
use Rattle.mp_treetext.proofs.Faultless.{file_keeps}
use Rattle.mp_treetext.proofs.GoodPrinted.{blocks_good}
use Rattle.mp_treetext.proofs.Passes.{no_pass}
use Rattle.mp_treetext.proofs.Pieces.{same_text}

module _ (t : Laws) (goals : List Sym) (source : List ℕ) (bs : List RawBlock) (ps : List Printed) (none : file_faults t goals source bs ≡ []) (has : ps ≡ file_value t source bs) where
  -- the blocks of a file without static faults can be checked
  pub file_good : IsTheory t → EachGoodPrinted t ps
  file_good is = subst (EachGoodPrinted t) (sym has) (blocks_good t source is bs (file_keeps t goals source bs none).blocks)

  -- they are as many as the goals
  pub file_many : length ps ≡ length goals
  file_many = ap length has ∙ length-map bs (block_value t source) ∙ (file_keeps t goals source bs none).many

-- a list of faults of texts that differ is none only if they don't differ
no_difference : (o : Option ℕ) → differing o ≡ [] → o ≡ None
no_difference None e = refl
no_difference (Some at) e = absurd cc

pub read_good : ReadTreesAreGood
read_good t goals names later source ps is h =
    let raw = h.0.raw in
    let wanted = trees_text (table_after names source) t goals (file_value t source raw) in
    let none = (no_pass (file_faults t goals source raw) (difference_faults source wanted) h.0.faultless).0 in
    (file_good t goals source raw ps none h.0.has is, file_many t goals source raw ps none h.0.has)

pub read_printed : ReadTreesArePrinted
read_printed t goals names later source ps h =
    let raw = h.0.raw in
    let text : List (List ℕ) → List Printed → List ℕ = λ n qs. trees_text n t goals qs in
    let wanted = text (table_after names source) (file_value t source raw) in
    let same = (no_pass (file_faults t goals source raw) (difference_faults source wanted) h.0.faultless).1 in
    same_text 0 source wanted (no_difference (difference 0 source wanted) same) ∙ (λ i. text (sym h.1 i) (sym h.0.has i))

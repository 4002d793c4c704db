-- What the reader of tree files answers, from the passes over a text.
use Rattle.std.proofs.Common.{◌≡◌, ℕ, List, [], ◌∷◌, Option, Some, None, Result, Ok, Err, refl, ap, sym, subst, ◌∙◌}
use Rattle.mp_logic.specs.declared.sym.Sym.{Sym}
use Rattle.mp_names.specs.Table.{Extends}
use Rattle.mp_theory.specs.Tables.{Laws}
use Rattle.mp_words.specs.declared.word.Word.{Word}
use Rattle.mp_words.specs.declared.fail.TextErr.{TextErr}
use Rattle.mp_words.specs.declared.fail.TextFail.{TextFail}
use Rattle.mp_words.specs.declared.fail.TextFail.TheVariants as fail
use Rattle.mp_words.specs.declared.fail.TextWhy.TheVariants as why
use Rattle.mp_words.specs.declared.parts.ReadFail.{ReadFail}
use Rattle.mp_words.specs.Faults.{fault_of_passes, least, or_else}
use Rattle.mp_words.specs.Grammars.{read, whole}
use Rattle.mp_words.specs.Reading.{Fails}
use Rattle.mp_words.specs.Texts.{LexesText, error, static_fault, stopped, table_after}
use Rattle.mp_words.proofs.Answering.{broken_text, lexical_text, none_least, stuck_text, text_is}
use Rattle.mp_treetext.specs.declared.printed.Printed.{Printed}
use Rattle.mp_treetext.specs.declared.raw.RawBlock.{RawBlock}
use Rattle.mp_treetext.specs.Differences.{difference, difference_faults, differing}
use Rattle.mp_treetext.specs.Grammar.{file}
use Rattle.mp_treetext.specs.Printed.{trees_text}
use Rattle.mp_treetext.specs.Reading.{ReadsTrees, tree_passes}
use Rattle.mp_treetext.specs.Statics.{file_faults}
use Rattle.mp_treetext.specs.Values.{file_value}

-- a fault of the first pass is that of both
first_pass : (fs gs : List TextErr) (e : TextErr) → least fs ≡ Some e → fault_of_passes (fs ∷ gs ∷ []) ≡ Some e
first_pass fs gs e h = ap (λ o. or_else o (or_else (least gs) None)) h

-- where the first pass finds none, the second one tells the fault
second_pass : (fs gs : List TextErr) (found : Option TextErr) → least fs ≡ None → least gs ≡ found → fault_of_passes (fs ∷ gs ∷ []) ≡ found
second_pass fs gs None h k = (λ i. or_else (h i) (or_else (k i) None))
second_pass fs gs (Some e) h k = (λ i. or_else (h i) (or_else (k i) None))

-- where both passes find none, each finds none
pub no_pass : (fs gs : List TextErr) → fault_of_passes (fs ∷ gs ∷ []) ≡ None → (fs ≡ []) × (gs ≡ [])
no_pass fs gs h = by (least fs) (least gs) refl refl h
  where
    by : (a b : Option TextErr) → least fs ≡ a → least gs ≡ b → or_else (least fs) (or_else (least gs) None) ≡ None → (fs ≡ []) × (gs ≡ [])
    by None None e f k = (none_least fs e, none_least gs f)
    by None (Some g) e f k = absurd (let q : Some g ≡ None = sym (λ i. or_else (e i) (or_else (f i) None)) ∙ k in cc)
    by (Some g) b e f k = absurd (let q : Some g ≡ None = sym (ap (λ o. or_else o (or_else (least gs) None)) e) ∙ k in cc)

-- the fault of texts that differ, or none
abbrev pub differing_fault : Option ℕ → Option TextErr
differing_fault None = None
differing_fault (Some at) = Some (error at why.NotCanonical)

least_differing : (o : Option ℕ) → least (differing o) ≡ differing_fault o
least_differing None = refl
least_differing (Some at) = refl

-- what the passes of the code find, over slices of these goals and blocks
module _ (t : Laws) (goals gs : List Sym) (source : List ℕ) (bs us : List RawBlock) (same_goals : gs ≡ goals) (same_blocks : us ≡ bs) where
  found_is : (found : Option TextErr) → found ≡ least (file_faults t gs source us) → found ≡ least (file_faults t goals source bs)
  found_is found e = e ∙ (λ i. least (file_faults t (same_goals i) source (same_blocks i)))

  pub none_found : (found : Option TextErr) → found ≡ least (file_faults t gs source us) → found ≡ None → file_faults t goals source bs ≡ []
  none_found found e n = none_least (file_faults t goals source bs) (sym (found_is found e) ∙ n)

  pub some_found : (found : Option TextErr) (e : TextErr) → found ≡ least (file_faults t gs source us) → found ≡ Some e → least (file_faults t goals source bs) ≡ Some e
  some_found found e f n = sym (found_is found f) ∙ n

pub difference_found : (t : Laws) (goals gs : List Sym) (source : List ℕ) (names : List (List ℕ)) (ps qs : List Printed) (bs : List RawBlock) → gs ≡ goals → qs ≡ ps → ps ≡ file_value t source bs
    → (found o : Option ℕ) → found ≡ difference 0 source (trees_text names t gs qs) → found ≡ o → difference 0 source (trees_text names t goals (file_value t source bs)) ≡ o
difference_found t goals gs source names ps qs bs eg eq ep found o e f =
    let same = eq ∙ ep in
    sym (λ i. difference 0 source (trees_text names t (eg i) (same i))) ∙ sym e ∙ f

module _ (t : Laws) (goals : List Sym) (names : List (List ℕ)) (source : List ℕ) where
  pub lexical_file : (new : List (List ℕ)) (f : TextFail) (r : Result (List Printed) TextFail) → r ≡ Err f → LexesText names source (Err f) new → Extends names new → ReadsTrees t goals names source r new
  lexical_file = lexical_text (file (table_after names source)) (tree_passes t goals) (file_value t source) names source

  module _ (words : List Word) (new : List (List ℕ)) (ws : List Word) (lexed : LexesText names source (Ok words) new) (same : ws ≡ words) where
    pub stuck_file : (f : ReadFail) (e : TextFail) → Extends names new → Fails (whole (file new) ws) f → e ≡ stopped source f → ReadsTrees t goals names source (Err e) new
    stuck_file f e x h is =
        stuck_text (file (table_after names source)) (tree_passes t goals) (file_value t source) names source words new ws f e lexed x same
        (subst (λ n. Fails (whole (file n) ws) f) lexed.3 h) is

    module _ (bs : List RawBlock) (reads : whole (file new) ws ≡ read bs []) where
      by_table : whole (file (table_after names source)) ws ≡ read bs []
      by_table = subst (λ n. whole (file n) ws ≡ read bs []) lexed.3 reads

      -- the printed text by the table after the text
      abbrev wanted : List (List ℕ) → List ℕ
      wanted n = trees_text n t goals (file_value t source bs)

      pub broken_file : (e : TextErr) → least (file_faults t goals source bs) ≡ Some e → ReadsTrees t goals names source (Err (fail.Bad e)) new
      broken_file e h =
          broken_text (file (table_after names source)) (tree_passes t goals) (file_value t source) names source words new ws bs e lexed same by_table
          (first_pass (file_faults t goals source bs) (difference_faults source (wanted (table_after names source))) e h)

      both_passes : (o : Option ℕ) → file_faults t goals source bs ≡ [] → difference 0 source (wanted new) ≡ o
          → static_fault (file (table_after names source)) (tree_passes t goals) (file_value t source) names source bs ≡ differing_fault o
      both_passes o none d =
          second_pass (file_faults t goals source bs) (difference_faults source (wanted (table_after names source))) (differing_fault o) (ap least none)
          (sym (ap (λ n. least (difference_faults source (wanted n))) lexed.3) ∙ ap (λ o. least (differing o)) d ∙ least_differing o)

      pub differing_file : (at : ℕ) → file_faults t goals source bs ≡ [] → difference 0 source (wanted new) ≡ Some at → ReadsTrees t goals names source (Err (fail.Bad (error at why.NotCanonical))) new
      differing_file at none d =
          broken_text (file (table_after names source)) (tree_passes t goals) (file_value t source) names source words new ws bs (error at why.NotCanonical) lexed same by_table (both_passes (Some at) none d)

      pub file_is : (ps : List Printed) → file_faults t goals source bs ≡ [] → difference 0 source (wanted new) ≡ None → ps ≡ file_value t source bs → ReadsTrees t goals names source (Ok ps) new
      file_is ps none d has =
          text_is (file (table_after names source)) (tree_passes t goals) (file_value t source) names source words new ws bs ps lexed same by_table (both_passes None none d) has

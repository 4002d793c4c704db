-- How the conditions of a rewrite are read.
use Rattle.std.proofs.Common.{◌≡◌, List, [], drop, true, false, Result, Ok, Err, ap, sym, ◌∙◌}
use Rattle.mp_words.specs.declared.word.Word.{Word}
use Rattle.mp_words.specs.declared.word.Mark.TheVariants as mark
use Rattle.mp_words.specs.declared.parts.ReadFail.{ReadFail}
use Rattle.mp_words.specs.Fronts.{is_mark}
use Rattle.mp_words.specs.Grammars.{Grammar, after, fronted, read, row, stuck, which}
use Rattle.mp_words.specs.Reading.{Reads}
use Rattle.mp_words.proofs.Steps.{fails_on}
use Rattle.mp_patterntext.specs.declared.raw.RawPattern.{RawPattern}
use Rattle.mp_patterntext.specs.Grammar.{pattern}
use Rattle.mp_theorytext.specs.Grammar.{other_conditions}

abbrev others : Grammar Word (List RawPattern)
others = row pattern (is_mark mark.And) (is_mark mark.Provided)

-- the other conditions, read after their &
pub reads_others : {X : Type 0} (view : X → List RawPattern × List Word) (ts us : List Word) → fronted (is_mark mark.Provided) ts ≡ false → fronted (is_mark mark.And) ts ≡ true → us ≡ drop 1 ts → (r : Result X ReadFail)
    → Reads view (row pattern (is_mark mark.And) (is_mark mark.Provided)) us r → Reads view other_conditions ts r
reads_others {X} view ts us a b d r h = by r h
  where
    same : other_conditions ts ≡ others us
    same = ap (λ t. which t (read [] (drop 1 ts)) (after (is_mark mark.And) others ts)) a ∙ ap (λ t. which t (others (drop 1 ts)) (stuck ts)) b ∙ ap others (sym d)

    by : (r : Result X ReadFail) → Reads view others us r → Reads view other_conditions ts r
    by (Ok x) k = same ∙ k
    by (Err f) k = fails_on (others us) (other_conditions ts) (λ rest l. same ∙ l) f k

-- The test of a loop over words.
use Rattle.std.proofs.Common.{◌≡◌, List, [], ◌∷◌, length, true, false, refl, sym, true≢false, arith}
use Rattle.std.specs.Prelude.{◌==◌}
use Rattle.std.proofs.lemmas.Bool.Decides.{nat_tests}
use Rattle.mp_words.specs.declared.word.Word.{Word}
use Rattle.mp_words.specs.Grammars.{some_words}

pub more_words : (ts : List Word) → false ≡ (length ts == 0) → some_words ts ≡ true
more_words [] e = absurd (true≢false (sym e))
more_words (t ∷ ts) e = refl

pub no_words : (ts : List Word) → true ≡ (length ts == 0) → ts ≡ []
no_words [] e = refl
no_words (t ∷ ts) e = absurd (grind (arith, nat_tests))

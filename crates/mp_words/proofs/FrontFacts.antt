-- What the grammars of one word, and of a place, leave.
use Rattle.std.proofs.Common.{◌<◌, ℕ, length, ap}
use Rattle.mp_words.specs.declared.word.Word.{Word}
use Rattle.mp_words.specs.declared.word.Keyword.{Keyword}
use Rattle.mp_words.specs.Grammars.{Agree, Grammar, Parse, Shrinks, leaves, then_read, pair, read, stuck}
use Rattle.mp_words.specs.Fronts.{a_name, front_at, is_word, name_at, name_behind, with_place}
use Rattle.mp_words.proofs.Grammars.{after_shrinks, keeps, token_shrinks}

pub name_behind_shrinks : (k : Keyword) → Shrinks (name_behind k)
name_behind_shrinks k = after_shrinks (is_word k) a_name (keeps a_name (token_shrinks name_at))

module _ {X : Type 0} where
  placed_leaves : (than : ℕ → ℕ → Type 0) (n at : ℕ) (o : Parse Word X) → leaves than n o → leaves than n (then_read o (λ x us. read (pair at x) us))
  placed_leaves than n at (read x us) h = h
  placed_leaves than n at (stuck us) h = tt

  pub with_place_shrinks : (g : Grammar Word X) → Shrinks g → Shrinks (with_place g)
  with_place_shrinks g a ts = placed_leaves (λ m n. m < n) (length ts) (front_at ts) (g ts) (a ts)

  pub with_place_agree : (n : ℕ) (g h : Grammar Word X) → Agree n g h → Agree n (with_place g) (with_place h)
  with_place_agree n g h a ts l = ap (λ o. then_read o (λ x us. read (pair (front_at ts) x) us)) (a ts l)

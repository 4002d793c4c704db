-- Where a line begins, from one byte to the one before.
use Rattle.std.proofs.Common.{◌≡◌, ◌<◌, ◌-◌, ℕ, zero, suc, List, true, false, get_or, ap, ◌∙◌, arith}
use Rattle.std.specs.Prelude.{nat_eq, ◌||◌, ◌&&◌}
use Rattle.std.proofs.lemmas.Bool.Decides.{nat_tests}
use Rattle.mp_lex.specs.Bytes.{is_blank}
use Rattle.mp_words.specs.Words.{leads_line, opens_line}

line_before : (source : List ℕ) (at : ℕ) → 0 < at → opens_line source at ≡ leads_line (get_or source (at - 1) 0) (opens_line source (at - 1))
line_before source zero lt = absurd (omega (arith, lt))
line_before source (suc n) lt = let e : n ≡ suc n - 1 = omega arith in ap (λ k. leads_line (get_or source k 0) (opens_line source k)) e

is_other : (b : ℕ) → (b ≡ 10 → ⊥) → nat_eq b 10 ≡ false
is_other b h = grind (arith, nat_tests, h)

module _ (source : List ℕ) (at here : ℕ) (some : 0 < here) (same : opens_line source at ≡ opens_line source here) where
  abbrev b : ℕ
  b = get_or source (here - 1) 0

  -- behind a newline a line begins
  pub behind_newline : b ≡ 10 → opens_line source at ≡ true
  behind_newline e = same ∙ line_before source here some ∙ ap (λ k. leads_line k (opens_line source (here - 1))) e

  -- behind another byte that is no separator none begins
  pub behind_token : (b ≡ 10 → ⊥) → is_blank b ≡ false → opens_line source at ≡ false
  behind_token h f = let e = is_other b h in same ∙ line_before source here some ∙ (λ i. e i || (f i && opens_line source (here - 1)))

  -- behind another separator it is as before it
  pub behind_blank : (b ≡ 10 → ⊥) → is_blank b ≡ true → opens_line source at ≡ opens_line source (here - 1)
  behind_blank h f = let e = is_other b h in same ∙ line_before source here some ∙ (λ i. e i || (f i && opens_line source (here - 1)))

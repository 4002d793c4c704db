-- A string, read on from a place.
use Rattle.std.proofs.Common.{◌≡◌, ℕ, suc, ◌+◌, ◌≤◌, List, [], ◌∷◌, Bool, true, false, length, take, drop, get_or, ◌<◌, length-take-le, drop-cons, ne_eqb, refl, ap, sym, ◌∙◌, arith}
use Rattle.std.proofs.lemmas.List.{drop_all}
use Rattle.std.proofs.lemmas.Bool.Decides.{nat_tests}
use Rattle.std.specs.Prelude.{nat_eq, nat_le, ◌||◌, ◌&&◌, if◌then◌else◌}
use Rattle.mp_lex.specs.declared.token.Kind.TheVariants.{Str}
use Rattle.mp_lex.specs.declared.token.LexWhy.TheVariants.{BadString}
use Rattle.mp_lex.specs.declared.front.Front.{Front}
use Rattle.mp_lex.specs.declared.front.Front.TheVariants as front
use Rattle.mp_lex.specs.Bytes.{is_printed}
use Rattle.mp_lex.specs.Forms.{closes, is_string}
use Rattle.mp_lex.specs.Lex.{checked, string_len}
use Rattle.mp_lex.proofs.Runs.{take_next}

-- what the string is, after so many bytes behind its opening quote
abbrev pub string_at : Bool → ℕ → List ℕ → Front
string_at escaped n [] = front.Bad 0 BadString
string_at true n (b ∷ bs) = if nat_eq b 34 || nat_eq b 92 then string_at false (n + 1) bs else front.Bad 0 BadString
string_at false n (b ∷ bs) =
    if nat_eq b 34 then (if nat_le n 256 then front.Token Str (n + 2) else front.Bad 0 BadString)
    else if is_printed b then string_at (nat_eq b 92) (n + 1) bs
    else front.Bad 0 BadString

-- a string of so many bytes where it is right
abbrev pub judged : Bool → ℕ → Front
judged right len = if right then front.Token Str len else front.Bad 0 BadString

-- one more byte that may stand in a string
step : (q c : Bool) (rest : Front) (n k : ℕ) → rest ≡ judged (c && nat_le (n + 1 + k) 257) (n + 1 + 1 + k) → (if q then rest else front.Bad 0 BadString) ≡ judged ((q && c) && nat_le (n + (1 + k)) 257) (n + 1 + (1 + k))
step true c rest n k h =
    let e : n + 1 + k ≡ n + (1 + k) = omega arith in
    let f : n + 1 + 1 + k ≡ n + 1 + (1 + k) = omega arith in
    h ∙ ap (λ m. judged (c && nat_le m 257) (n + 1 + 1 + k)) e ∙ ap (judged (c && nat_le (n + (1 + k)) 257)) f
step false c rest n k h = refl

one_below : (n : ℕ) → nat_le n 256 ≡ nat_le (n + 1) 257
one_below n = grind (arith, nat_tests)

closing_quote : (n : ℕ) → (if nat_le n 256 then front.Token Str (n + 2) else front.Bad 0 BadString) ≡ judged (nat_le (n + 1) 257) (n + 1 + 1)
closing_quote n =
    let e : n + 2 ≡ n + 1 + 1 = omega arith in
    ap (judged (nat_le n 256)) e ∙ ap (λ t. judged t (n + 1 + 1)) (one_below n)

-- the bytes up to the closing quote decide
abbrev Decided : Bool → ℕ → List ℕ → ℕ → Front
Decided escaped n bs k = judged (closes escaped (take k bs) && nat_le (n + k) 257) (n + 1 + k)

-- a byte that is no quote goes on, and `t` is whether it is one
unescaped : (b n : ℕ) (bs : List ℕ) (t : Bool) → nat_eq b 34 ≡ t
    → string_at (nat_eq b 92) (n + 1) bs ≡ Decided (nat_eq b 92) (n + 1) bs (string_len (nat_eq b 92) bs)
    → (if t then (if nat_le n 256 then front.Token Str (n + 2) else front.Bad 0 BadString) else (if is_printed b then string_at (nat_eq b 92) (n + 1) bs else front.Bad 0 BadString))
    ≡ Decided false n (b ∷ bs) (if t then 1 else 1 + string_len (nat_eq b 92) bs)
unescaped b n bs true e h =
    closing_quote n ∙ ap (λ s. judged ((if s then true else is_printed b && closes (nat_eq b 92) []) && nat_le (n + 1) 257) (n + 1 + 1)) (sym e)
unescaped b n bs false e h =
    let k = string_len (nat_eq b 92) bs in
    step (is_printed b) (closes (nat_eq b 92) (take k bs)) (string_at (nat_eq b 92) (n + 1) bs) n k h
    ∙ ap (λ s. judged ((if s then nat_eq (length (take k bs)) 0 else is_printed b && closes (nat_eq b 92) (take k bs)) && nat_le (n + (1 + k)) 257) (n + 1 + (1 + k))) (sym e)
    ∙ ap (λ xs. judged (closes false xs && nat_le (n + (1 + k)) 257) (n + 1 + (1 + k))) (sym (take_next k b bs))

string_is : (escaped : Bool) (n : ℕ) (bs : List ℕ) → string_at escaped n bs ≡ Decided escaped n bs (string_len escaped bs)
string_is true n [] = refl
string_is false n [] = refl
string_is true n (b ∷ bs) =
    let k = string_len false bs in
    step (nat_eq b 34 || nat_eq b 92) (closes false (take k bs)) (string_at false (n + 1) bs) n k (string_is false (n + 1) bs)
    ∙ ap (λ xs. judged (closes true xs && nat_le (n + (1 + k)) 257) (n + 1 + (1 + k))) (sym (take_next k b bs))
string_is false n (b ∷ bs) = unescaped b n bs (nat_eq b 34) refl (string_is (nat_eq b 92) (n + 1) bs)

-- it ends within the text
pub string_len-le : (escaped : Bool) (bs : List ℕ) → string_len escaped bs ≤ length bs
string_len-le true [] = omega arith
string_len-le false [] = omega arith
string_len-le true (b ∷ bs) = omega (arith, string_len-le false bs)
string_len-le false (b ∷ bs) = by_quote (nat_eq b 34) (string_len (nat_eq b 92) bs) (length bs) (string_len-le (nat_eq b 92) bs)
  where
    by_quote : (t : Bool) (k m : ℕ) → k ≤ m → (if t then 1 else 1 + k) ≤ suc m
    by_quote true k m h = omega arith
    by_quote false k m h = omega arith

-- the whole string, whose opening quote is before these bytes
pub string_checked : (bs : List ℕ) → string_at false 0 bs ≡ checked Str BadString (1 + string_len false bs) (34 ∷ bs)
string_checked bs =
    let k = string_len false bs in
    let whole : length (take k bs) ≡ k = length-take-le k bs (string_len-le false bs) in
    let e : 0 + k ≡ k = omega arith in
    let f : 0 + 1 + k ≡ 1 + k = omega arith in
    string_is false 0 bs
    ∙ ap (λ m. judged (closes false (take k bs) && nat_le m 257) (0 + 1 + k)) (e ∙ sym whole)
    ∙ ap (judged (closes false (take k bs) && nat_le (length (take k bs)) 257)) f
    ∙ ap (λ xs. judged (is_string xs) (1 + k)) (sym (take_next k 34 bs))

-- where the string ends or goes wrong
module _ (n : ℕ) (rest : List ℕ) (lt : n < length rest) where
  abbrev b : ℕ
  b = get_or rest n 0

  abbrev bs : List ℕ
  bs = drop (suc n) rest

  cut : (escaped : Bool) → string_at escaped n (drop n rest) ≡ string_at escaped n (b ∷ bs)
  cut escaped = ap (string_at escaped n) (drop-cons rest n 0 lt)

  pub bad_escape : (escaped : Bool) → escaped ≡ true → (b ≡ 34 → ⊥) → (b ≡ 92 → ⊥) → string_at escaped n (drop n rest) ≡ front.Bad 0 BadString
  bad_escape escaped e f g =
      cut escaped ∙ ap (λ t. string_at t n (b ∷ bs)) e
      ∙ ap (λ t. if t || nat_eq b 92 then string_at false (n + 1) bs else front.Bad 0 BadString) (ne_eqb b 34 f)
      ∙ ap (λ t. if t then string_at false (n + 1) bs else front.Bad 0 BadString) (ne_eqb b 92 g)

  pub ended : (escaped : Bool) → escaped ≡ false → b ≡ 34 → string_at escaped n (drop n rest) ≡ (if nat_le n 256 then front.Token Str (n + 2) else front.Bad 0 BadString)
  ended escaped e f = cut escaped ∙ ap (λ t. string_at t n (b ∷ bs)) e ∙ ap (λ c. string_at false n (c ∷ bs)) f

  pub bad_byte : (escaped : Bool) → escaped ≡ false → (b ≡ 34 → ⊥) → is_printed b ≡ false → string_at escaped n (drop n rest) ≡ front.Bad 0 BadString
  bad_byte escaped e f g =
      cut escaped ∙ ap (λ t. string_at t n (b ∷ bs)) e
      ∙ ap (λ t. if t then (if nat_le n 256 then front.Token Str (n + 2) else front.Bad 0 BadString) else (if is_printed b then string_at (nat_eq b 92) (n + 1) bs else front.Bad 0 BadString)) (ne_eqb b 34 f)
      ∙ ap (λ t. if t then string_at (nat_eq b 92) (n + 1) bs else front.Bad 0 BadString) g

pub unended : (escaped : Bool) (n : ℕ) (rest : List ℕ) → length rest ≤ n → string_at escaped n (drop n rest) ≡ front.Bad 0 BadString
unended escaped n rest most = ap (string_at escaped n) (drop_all n rest most) ∙ nothing escaped
  where
    nothing : (escaped : Bool) → string_at escaped n [] ≡ front.Bad 0 BadString
    nothing true = refl
    nothing false = refl

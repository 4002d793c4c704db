-- What is printed of a string is read as a string with its content.
use Rattle.std.proofs.Common.{◌≡◌, ◌++◌, ◌+◌, ℕ, List, [], ◌∷◌, length, Bool, true, false, nat_eq, ◌||◌, append_assoc, length-append, refl, ap, sym, ◌∙◌, true≢false, arith}
use Rattle.std.specs.Prelude.{if◌then◌else◌}
use Rattle.mp_lex.specs.Lex.{string_len}
use Rattle.mp_termtext.specs.Printing.{escaped, quoted}
use Rattle.mp_words.specs.Words.{content_of, unescaped}

neither : (a b : Bool) → a || b ≡ false → (a ≡ false) × (b ≡ false)
neither true b h = absurd (true≢false h)
neither false b h = (refl, h)

-- a byte in a string, as it is written
abbrev written : Bool → ℕ → List ℕ
written q b = if q then 92 ∷ b ∷ [] else b ∷ []

len_step : (q : Bool) (b : ℕ) (bs : List ℕ) (n : ℕ) → nat_eq b 34 || nat_eq b 92 ≡ q → string_len false bs ≡ n + 1 → string_len false (written q b ++ bs) ≡ length (written q b) + n + 1
len_step true b bs n e h = omega (arith, h)
len_step false b bs n e h =
    let both = neither (nat_eq b 34) (nat_eq b 92) e in
    let plain : string_len false (b ∷ bs) ≡ 1 + string_len false bs = ap (λ t. if t then 1 else 1 + string_len (nat_eq b 92) bs) both.0 ∙ ap (λ t. 1 + string_len t bs) both.1 in
    omega (arith, plain, h)

content_step : (q : Bool) (b : ℕ) (bs : List ℕ) (text : List ℕ) → nat_eq b 34 || nat_eq b 92 ≡ q → unescaped false bs ≡ text → unescaped false (written q b ++ bs) ≡ b ∷ text
content_step true b bs text e h = ap (λ xs. b ∷ xs) h
content_step false b bs text e h =
    let both = neither (nat_eq b 34) (nat_eq b 92) e in
    ap (λ t. if t then [] else if nat_eq b 92 then unescaped true bs else b ∷ unescaped false bs) both.0 ∙ ap (λ t. if t then unescaped true bs else b ∷ unescaped false bs) both.1 ∙ ap (λ xs. b ∷ xs) h

-- the string goes up to its closing quote
pub string_len-escaped : (text rest : List ℕ) → string_len false (escaped text ++ 34 ∷ rest) ≡ length (escaped text) + 1
string_len-escaped [] rest = omega arith
string_len-escaped (b ∷ bs) rest =
    let q = nat_eq b 34 || nat_eq b 92 in
    let n = length (escaped bs) in
    let len = length-append (written q b) (escaped bs) in
    ap (string_len false) (append_assoc (written q b) (escaped bs) (34 ∷ rest)) ∙ len_step q b (escaped bs ++ 34 ∷ rest) n refl (string_len-escaped bs rest) ∙ ap (λ k. k + 1) (sym len)

unescaped-escaped : (text rest : List ℕ) → unescaped false (escaped text ++ 34 ∷ rest) ≡ text
unescaped-escaped [] rest = refl
unescaped-escaped (b ∷ bs) rest =
    let q = nat_eq b 34 || nat_eq b 92 in
    ap (unescaped false) (append_assoc (written q b) (escaped bs) (34 ∷ rest)) ∙ content_step q b (escaped bs ++ 34 ∷ rest) bs refl (unescaped-escaped bs rest)

-- its content is what it was printed of
pub content_of-quoted : (text : List ℕ) → content_of (quoted text) ≡ text
content_of-quoted text = unescaped-escaped text []

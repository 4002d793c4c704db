-- What is printed of numbers: names of levels, and numbers in decimal.
use Rattle.std.proofs.Common.{◌≡◌, ℕ, zero, suc, ◌+◌, ◌-◌, ◌*◌, ◌^◌, ◌<◌, ◌≤◌, List, [], ◌∷◌, length, get_or, codes, drop, None, Some, Bool, true, false, nat_eq, nat_lt, nat_le, ◌&&◌, ◌||◌, refl, ap, ◌∙◌, arith}
use Rattle.std.specs.Prelude.{fold, not, ℤ, pos, negsuc, if◌then◌else◌}
use Rattle.std.specs.List.{list_all}
use Rattle.std.specs.Cmp.Lexicographic.{pointwise}
use Rattle.std.specs.Fmt.{decimal, signed_decimal}
use Rattle.std.specs.Int.{IsInRange}
use Rattle.std.proofs.lemmas.Bool.{and_from, and_parts}
use Rattle.std.proofs.lemmas.Bool.Decides.{nat_tests}
use Rattle.std.proofs.lemmas.Fmt.{decimal_digit, decimal_injective, decimal_is_IsNumeral, decimal_nonempty, digits_value-decimal, first_decimal, length-decimal-le}
use Rattle.std.proofs.lemmas.Str.Parse.{IsDigitsTest, IsNumeralModel, FoldsDigits, numerals_by_fold}
use Rattle.mp_lex.specs.Bytes.{is_digit, is_small, is_word_byte}
use Rattle.mp_lex.specs.Forms.{is_name, is_negative, is_number, is_positive, number_of_digits}
use Rattle.mp_termtext.specs.Printing.{name_text}
use Rattle.mp_termtext.specs.Round.{fits_i64}
use Rattle.mp_words.specs.Words.{integer_of, minus, numbered_of}

abbrev AreDigits : List ℕ → Type 0
AreDigits ds = list_all is_digit ds ≡ true

pub digit_in_range : (c : ℕ) → is_digit c ≡ true → IsInRange 48 57 c
digit_in_range c h = (grind (arith, nat_tests, h), grind (arith, nat_tests, h))

digit_from_range : (c : ℕ) → IsInRange 48 57 c → is_digit c ≡ true
digit_from_range c h = let low = h.0 in let high = h.1 in grind (arith, nat_tests, low, high)

digits_test : IsDigitsTest AreDigits
digits_test = record {
  empty = refl;
  parts = λ c cs h. (let both = and_parts (is_digit c) (list_all is_digit cs) h in (digit_in_range c both.0, both.1));
  more = λ c cs r h. and_from (is_digit c) (list_all is_digit cs) (digit_from_range c r) h;
}

abbrev value_after : ℕ → List ℕ → ℕ
value_after n ds = fold (λ m d. 10 * m + (d - 48)) n ds

value_folds : FoldsDigits value_after
value_folds = record {
  empty = λ n. refl;
  more = λ n c cs r. (let e : 10 * n + (c - 48) ≡ n * 10 + (c - 48) = omega arith in ap (λ m. value_after m cs) e);
}

numerals : IsNumeralModel AreDigits number_of_digits
numerals = numerals_by_fold AreDigits digits_test value_after value_folds

-- a number's digits write it
pub value_of-decimal : (n : ℕ) → n < 2 ^ 64 → number_of_digits (decimal n) ≡ n
value_of-decimal n h = digits_value-decimal numerals n h

pub digits_of-decimal : (n : ℕ) → n < 2 ^ 64 → list_all is_digit (decimal n) ≡ true
digits_of-decimal n h = numerals.from (decimal n) (decimal_is_IsNumeral n h).0.1

positive_from : (ds : List ℕ) → list_all is_digit ds ≡ true → 0 < length ds → 48 < get_or ds 0 0 → is_positive ds ≡ true
positive_from [] h some first = absurd (omega (arith, some))
positive_from (d ∷ ds) h some first =
    let e : not (nat_eq d 48) ≡ true = grind (arith, nat_tests, first) in
    and_from (not (nat_eq d 48)) (list_all is_digit (d ∷ ds)) e h

pub positive-decimal : (n : ℕ) → 0 < n → n < 2 ^ 64 → is_positive (decimal n) ≡ true
positive-decimal n some h = positive_from (decimal n) (digits_of-decimal n h) (decimal_nonempty n h) (first_decimal n some h)

digit_is_word : (c : ℕ) → is_digit c ≡ true → is_word_byte c ≡ true
digit_is_word c h = let r = digit_in_range c h in let low = r.0 in let high = r.1 in grind (arith, nat_tests, low, high)

digits_are_words : (ds : List ℕ) → list_all is_digit ds ≡ true → list_all is_word_byte ds ≡ true
digits_are_words [] h = refl
digits_are_words (d ∷ ds) h =
    let both = and_parts (is_digit d) (list_all is_digit ds) h in
    and_from (is_word_byte d) (list_all is_word_byte ds) (digit_is_word d both.0) (digits_are_words ds both.1)

-- the name of a level is a name
pub small-name_text : (l : ℕ) → l + 1 < 2 ^ 64 → is_name is_small (name_text l) ≡ true
small-name_text l h =
    let words = digits_are_words (decimal (l + 1)) (digits_of-decimal (l + 1) h) in
    let few : length (decimal (l + 1)) ≤ 20 = length-decimal-le 20 (l + 1) (omega arith) (omega (arith, h)) h in
    let short : nat_lt (length (decimal (l + 1))) 64 ≡ true = grind (arith, nat_tests, few) in
    and_from (is_small 120 && list_all is_word_byte (decimal (l + 1))) (nat_lt (length (decimal (l + 1))) 64) (and_from (is_small 120) (list_all is_word_byte (decimal (l + 1))) refl words) short

-- it tells the number of the level
pub numbered-name_text : (l : ℕ) → l + 1 < 2 ^ 32 → numbered_of (name_text l) ≡ Some (l + 1)
numbered-name_text l h =
    let ds = decimal (l + 1) in
    let wide : l + 1 < 2 ^ 64 = omega (arith, h) in
    let v = value_of-decimal (l + 1) wide in
    let small : nat_lt (number_of_digits ds) 4294967296 ≡ true = grind (arith, nat_tests, v, h) in
    let test = and_from (nat_eq 120 120 && is_positive ds) (nat_lt (number_of_digits ds) 4294967296) (and_from (nat_eq 120 120) (is_positive ds) refl (positive-decimal (l + 1) (omega arith) wide)) small in
    ap (λ t. if t then Some (number_of_digits ds) else None) test ∙ ap (λ (n : ℕ). Some n) v

-- levels have names of their own
pub name_text-injective : (i j : ℕ) → i + 1 < 2 ^ 64 → j + 1 < 2 ^ 64 → name_text i ≡ name_text j → i ≡ j
name_text-injective i j a b e =
    let d : decimal (i + 1) ≡ decimal (j + 1) = ap (drop 1) e in
    let f = decimal_injective (i + 1) (j + 1) a b d in
    omega (arith, f)

number_by : (ds : List ℕ) (n : ℕ) → is_positive ds ≡ true → number_of_digits ds ≡ n → nat_lt n 9223372036854775808 ≡ true → is_number ds ≡ true
number_by ds n p v h =
    let e : is_positive ds && nat_lt (number_of_digits ds) 9223372036854775808 ≡ true = and_from (is_positive ds) (nat_lt (number_of_digits ds) 9223372036854775808) p (ap (λ m. nat_lt m 9223372036854775808) v ∙ h) in
    ap (λ b. (pointwise nat_eq (codes "0") ds || b) || is_negative ds) e ∙ or_true (pointwise nat_eq (codes "0") ds) (is_negative ds)
  where
    or_true : (a c : Bool) → (a || true) || c ≡ true
    or_true true c = refl
    or_true false c = refl

not_minus : (b : ℕ) → is_digit b ≡ true → nat_eq b 45 ≡ false
not_minus b h = let r = digit_in_range b h in let low = r.0 in grind (arith, nat_tests, low)

integer_by : (ds : List ℕ) → list_all is_digit ds ≡ true → 0 < length ds → integer_of ds ≡ pos (number_of_digits ds)
integer_by [] h some = absurd (omega (arith, some))
integer_by (d ∷ ds) h some =
    let both = and_parts (is_digit d) (list_all is_digit ds) h in
    ap (λ t. if t then minus (number_of_digits ds) else pos (number_of_digits (d ∷ ds))) (not_minus d both.0)

-- a number in decimal is a number, and the one that it is printed of
pub is_number-signed_decimal : (z : ℤ) → fits_i64 z ≡ true → is_number (signed_decimal z) ≡ true
is_number-signed_decimal (pos zero) h = let e = decimal_digit 0 (omega arith) in rw e refl
is_number-signed_decimal (pos (suc n)) h =
    let wide : suc n < 2 ^ 64 = grind (arith, nat_tests, h) in
    number_by (decimal (suc n)) (suc n) (positive-decimal (suc n) (omega arith) wide) (value_of-decimal (suc n) wide) h
is_number-signed_decimal (negsuc n) h =
    let wide : suc n < 2 ^ 64 = grind (arith, nat_tests, h) in
    let ds = decimal (suc n) in
    let v = value_of-decimal (suc n) wide in
    let most : nat_le (number_of_digits ds) 9223372036854775808 ≡ true = grind (arith, nat_tests, v, h) in
    and_from (nat_eq 45 45 && is_positive ds) (nat_le (number_of_digits ds) 9223372036854775808) (and_from (nat_eq 45 45) (is_positive ds) refl (positive-decimal (suc n) (omega arith) wide)) most

pub integer_of-signed_decimal : (z : ℤ) → fits_i64 z ≡ true → integer_of (signed_decimal z) ≡ z
integer_of-signed_decimal (pos n) h =
    let wide : n < 2 ^ 64 = grind (arith, nat_tests, h) in
    integer_by (decimal n) (digits_of-decimal n wide) (decimal_nonempty n wide) ∙ ap (λ (m : ℕ). pos m) (value_of-decimal n wide)
integer_of-signed_decimal (negsuc n) h =
    let wide : suc n < 2 ^ 64 = grind (arith, nat_tests, h) in
    ap minus (value_of-decimal (suc n) wide)

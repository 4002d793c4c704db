-- No longer token begins where one is found.
use Rattle.std.proofs.Common.{◌≡◌, ℕ, zero, suc, ◌+◌, ◌<◌, ◌≤◌, ◌++◌, List, [], ◌∷◌, Bool, true, false, length, take, drop, refl, ap, sym, subst, ◌∙◌, take-append-drop, eqb-true, true≢false, arith}
use Rattle.std.specs.Prelude.{codes, nat_eq, nat_le, nat_lt, not, ◌&&◌, ◌||◌, if◌then◌else◌}
use Rattle.std.specs.List.{list_all, list_any, prefix_len, starts_with}
use Rattle.std.specs.Cmp.Lexicographic.{pointwise}
use Rattle.std.proofs.lemmas.Bool.{and_parts}
use Rattle.std.proofs.lemmas.Bool.Decides.{Decides-eqb, nat_tests}
use Rattle.std.proofs.lemmas.List.{length-take-le}
use Rattle.std.proofs.lemmas.Slice.Eq.{slice_eq-Decides}
use Rattle.mp_lex.specs.declared.token.Kind.{Kind}
use Rattle.mp_lex.specs.declared.token.Kind.TheVariants.{Small, Cap, SmallVar, CapVar, Num, Str, Mark}
use Rattle.mp_lex.specs.declared.token.LexWhy.{LexWhy}
use Rattle.mp_lex.specs.declared.token.LexWhy.TheVariants.{LongName, BadNumber, BadString}
use Rattle.mp_lex.specs.declared.front.Front.{Front}
use Rattle.mp_lex.specs.declared.front.Front.TheVariants as front
use Rattle.mp_lex.specs.Bytes.{is_small, is_cap, is_digit, is_word_byte, is_printed}
use Rattle.mp_lex.specs.Forms.{closes, is_mark_text, is_name, is_negative, is_number, is_positive, is_string, is_text, is_variable_text, mark_texts, number_of_digits}
use Rattle.mp_lex.specs.Lex.{checked, string_len, mark_front, variable_of, front_of}
use Rattle.mp_lex.proofs.Found.{branch, either}
use Rattle.mp_lex.proofs.Fronts.{cap_word, no, small_word, word_run, yes}

-- a token that is found has so many bytes at least
abbrev pub Covers : ℕ → Front → Type 0
Covers n (front.Passed len) = Unit {0}
Covers n (front.Token kind len) = n ≤ len
Covers n (front.Bad ahead why) = Unit {0}

checked_covers : (kind : Kind) (why : LexWhy) (n m : ℕ) (bytes : List ℕ) → n ≤ m → Covers n (checked kind why m bytes)
checked_covers kind why n m bytes h = branch (Covers n) (is_text kind (take m bytes)) (front.Token kind m) (front.Bad 0 why) (λ _. h) (λ _. tt)

-- what goes on with a test is in the longest front that passes it
run_covers : (p : ℕ → Bool) (n : ℕ) (xs : List ℕ) → n ≤ length xs → list_all p (take n xs) ≡ true → n ≤ prefix_len p xs
run_covers p zero xs h e = omega arith
run_covers p (suc n) [] h e = absurd (omega (arith, h))
run_covers p (suc n) (x ∷ xs) h e =
    let parts = and_parts (p x) (list_all p (take n xs)) e in
    let rest : n ≤ prefix_len p xs = run_covers p n xs (omega (arith, h)) parts.1 in
    let all : prefix_len p (x ∷ xs) ≡ 1 + prefix_len p xs = yes (p x) (1 + prefix_len p xs) 0 parts.0 in
    omega (arith, rest, all)

-- the bytes of a name, by its first and the rest
pub name_parts : (begins : ℕ → Bool) (b : ℕ) (bs : List ℕ) → is_name begins (b ∷ bs) ≡ true → (begins b ≡ true) × (list_all is_word_byte bs ≡ true)
name_parts begins b bs e =
    let parts = and_parts (begins b && list_all is_word_byte bs) (nat_lt (length bs) 64) e in
    and_parts (begins b) (list_all is_word_byte bs) parts.0

small_no_cap : (b : ℕ) → is_cap b ≡ true → is_small b ≡ false
small_no_cap b e = grind (arith, nat_tests)

digit_no_small : (b : ℕ) → is_digit b ≡ true → is_small b ≡ false
digit_no_small b e = grind (arith, nat_tests)

digit_no_cap : (b : ℕ) → is_digit b ≡ true → is_cap b ≡ false
digit_no_cap b e = grind (arith, nat_tests)

word_covers : (n b : ℕ) (bs : List ℕ) → n ≤ length bs → list_all is_word_byte (take n bs) ≡ true → is_word_byte b ≡ true → suc n ≤ prefix_len is_word_byte (b ∷ bs)
word_covers n b bs h e w =
    let rest : n ≤ prefix_len is_word_byte bs = run_covers is_word_byte n bs h e in
    let all : prefix_len is_word_byte (b ∷ bs) ≡ 1 + prefix_len is_word_byte bs = word_run b bs w in
    omega (arith, rest, all)

covers_small : (n : ℕ) (bytes : List ℕ) → n ≤ length bytes → is_name is_small (take n bytes) ≡ true → Covers n (front_of bytes)
covers_small zero bytes h e = absurd (true≢false (sym e))
covers_small (suc n) [] h e = absurd (omega (arith, h))
covers_small (suc n) (b ∷ bs) h e =
    let parts = name_parts is_small b (take n bs) e in
    let long = word_covers n b bs (omega (arith, h)) parts.1 (small_word b parts.0) in
    subst (Covers (suc n)) (sym (yes (is_small b) _ _ parts.0)) (checked_covers Small LongName (suc n) (prefix_len is_word_byte (b ∷ bs)) (b ∷ bs) long)

covers_cap : (n : ℕ) (bytes : List ℕ) → n ≤ length bytes → is_name is_cap (take n bytes) ≡ true → Covers n (front_of bytes)
covers_cap zero bytes h e = absurd (true≢false (sym e))
covers_cap (suc n) [] h e = absurd (omega (arith, h))
covers_cap (suc n) (b ∷ bs) h e =
    let parts = name_parts is_cap b (take n bs) e in
    let long = word_covers n b bs (omega (arith, h)) parts.1 (cap_word b parts.0) in
    subst (Covers (suc n)) (sym (no (is_small b) _ _ (small_no_cap b parts.0) ∙ yes (is_cap b) _ _ parts.0)) (checked_covers Cap LongName (suc n) (prefix_len is_word_byte (b ∷ bs)) (b ∷ bs) long)

covers_digits : (n : ℕ) (bytes : List ℕ) → n ≤ length bytes → 0 < n → list_all is_digit (take n bytes) ≡ true → Covers n (front_of bytes)
covers_digits zero bytes h pos e = absurd (omega (arith, pos))
covers_digits (suc n) [] h pos e = absurd (omega (arith, h))
covers_digits (suc n) (b ∷ bs) h pos e =
    let d : is_digit b ≡ true = (and_parts (is_digit b) (list_all is_digit (take n bs)) e).0 in
    let long = run_covers is_digit (suc n) (b ∷ bs) h e in
    subst (Covers (suc n)) (sym (no (is_small b) _ _ (digit_no_small b d) ∙ no (is_cap b) _ _ (digit_no_cap b d) ∙ yes (is_digit b) _ _ d))
    (checked_covers Num BadNumber (suc n) (prefix_len is_digit (b ∷ bs)) (b ∷ bs) long)

covers_small_variable : (n : ℕ) (bs : List ℕ) → n ≤ length bs → is_name is_small (take n bs) ≡ true → Covers (suc n) (variable_of (39 ∷ bs) bs)
covers_small_variable zero bs h e = absurd (true≢false (sym e))
covers_small_variable (suc n) [] h e = absurd (omega (arith, h))
covers_small_variable (suc n) (b ∷ bs) h e =
    let parts = name_parts is_small b (take n bs) e in
    let long = word_covers n b bs (omega (arith, h)) parts.1 (small_word b parts.0) in
    let m = 1 + prefix_len is_word_byte (b ∷ bs) in
    subst (Covers (suc (suc n))) (sym (yes (is_small b) _ _ parts.0)) (checked_covers SmallVar LongName (suc (suc n)) m (39 ∷ b ∷ bs) (omega (arith, long)))

covers_cap_variable : (n : ℕ) (bs : List ℕ) → n ≤ length bs → is_name is_cap (take n bs) ≡ true → Covers (suc n) (variable_of (39 ∷ bs) bs)
covers_cap_variable zero bs h e = absurd (true≢false (sym e))
covers_cap_variable (suc n) [] h e = absurd (omega (arith, h))
covers_cap_variable (suc n) (b ∷ bs) h e =
    let parts = name_parts is_cap b (take n bs) e in
    let long = word_covers n b bs (omega (arith, h)) parts.1 (cap_word b parts.0) in
    let m = 1 + prefix_len is_word_byte (b ∷ bs) in
    subst (Covers (suc (suc n))) (sym (no (is_small b) _ _ (small_no_cap b parts.0) ∙ yes (is_cap b) _ _ parts.0)) (checked_covers CapVar LongName (suc (suc n)) m (39 ∷ b ∷ bs) (omega (arith, long)))

-- where the first byte is this one
at_byte : (b c n : ℕ) (bs : List ℕ) → nat_eq b c ≡ true → Covers n (front_of (c ∷ bs)) → Covers n (front_of (b ∷ bs))
at_byte b c n bs e h = subst (λ x. Covers n (front_of (x ∷ bs))) (sym (eqb-true b c e)) h

covers_variable : (begins : ℕ → Bool) → ((n : ℕ) (bs : List ℕ) → n ≤ length bs → is_name begins (take n bs) ≡ true → Covers (suc n) (variable_of (39 ∷ bs) bs))
    → (n : ℕ) (bytes : List ℕ) → n ≤ length bytes → is_variable_text begins (take n bytes) ≡ true → Covers n (front_of bytes)
covers_variable begins name zero bytes h e = absurd (true≢false (sym e))
covers_variable begins name (suc n) [] h e = absurd (omega (arith, h))
covers_variable begins name (suc n) (b ∷ bs) h e =
    let parts = and_parts (nat_eq b 39) (is_name begins (take n bs)) e in
    at_byte b 39 (suc n) bs parts.0 (name n bs (omega (arith, h)) parts.1)

covers_negative : (n : ℕ) (bytes : List ℕ) → n ≤ length bytes → is_negative (take n bytes) ≡ true → Covers n (front_of bytes)
covers_negative zero bytes h e = absurd (true≢false (sym e))
covers_negative (suc n) [] h e = absurd (omega (arith, h))
covers_negative (suc n) (b ∷ bs) h e =
    let parts = and_parts (nat_eq b 45 && is_positive (take n bs)) (nat_le (number_of_digits (take n bs)) 9223372036854775808) e in
    let inner = and_parts (nat_eq b 45) (is_positive (take n bs)) parts.0 in
    at_byte b 45 (suc n) bs inner.0 (behind_minus n bs (omega (arith, h)) inner.1)
  where
    behind_minus : (n : ℕ) (bs : List ℕ) → n ≤ length bs → is_positive (take n bs) ≡ true → Covers (suc n) (front_of (45 ∷ bs))
    behind_minus zero bs h e = absurd (true≢false (sym e))
    behind_minus (suc n) [] h e = absurd (omega (arith, h))
    behind_minus (suc n) (d ∷ ds) h e =
        let digits = (and_parts (not (nat_eq d 48)) (list_all is_digit (d ∷ take n ds)) e).1 in
        let first : is_digit d ≡ true = (and_parts (is_digit d) (list_all is_digit (take n ds)) digits).0 in
        let long = run_covers is_digit (suc n) (d ∷ ds) h digits in
        subst (Covers (suc (suc n))) (sym (yes (is_digit d) _ _ first)) (checked_covers Num BadNumber (suc (suc n)) (1 + prefix_len is_digit (d ∷ ds)) (45 ∷ d ∷ ds) (omega (arith, long)))

covers_positive : (n : ℕ) (bytes : List ℕ) → n ≤ length bytes → is_positive (take n bytes) ≡ true → Covers n (front_of bytes)
covers_positive zero bytes h e = absurd (true≢false (sym e))
covers_positive (suc n) [] h e = absurd (omega (arith, h))
covers_positive (suc n) (d ∷ ds) h e = covers_digits (suc n) (d ∷ ds) h (omega arith) (and_parts (not (nat_eq d 48)) (list_all is_digit (d ∷ take n ds)) e).1

covers_zero : (n : ℕ) (bytes : List ℕ) → n ≤ length bytes → pointwise nat_eq (codes "0") (take n bytes) ≡ true → Covers n (front_of bytes)
covers_zero zero bytes h e = absurd (true≢false (sym e))
covers_zero (suc n) bytes h e =
    let same : codes "0" ≡ take (suc n) bytes = (slice_eq-Decides Decides-eqb (codes "0") (take (suc n) bytes) (pointwise nat_eq (codes "0") (take (suc n) bytes)) refl).0 e in
    covers_digits (suc n) bytes h (omega arith) (ap (list_all is_digit) (sym same))

covers_number : (n : ℕ) (bytes : List ℕ) → n ≤ length bytes → is_number (take n bytes) ≡ true → Covers n (front_of bytes)
covers_number n bytes h =
    let xs = take n bytes in
    either (pointwise nat_eq (codes "0") xs || (is_positive xs && nat_lt (number_of_digits xs) 9223372036854775808)) (is_negative xs)
    (either (pointwise nat_eq (codes "0") xs) (is_positive xs && nat_lt (number_of_digits xs) 9223372036854775808) (covers_zero n bytes h)
    (λ e. covers_positive n bytes h (and_parts (is_positive xs) (nat_lt (number_of_digits xs) 9223372036854775808) e).0))
    (covers_negative n bytes h)

covers_closed : (escaped : Bool) (n : ℕ) (bs : List ℕ) → n ≤ length bs → closes escaped (take n bs) ≡ true → n ≤ string_len escaped bs
covers_closed escaped zero bs h e = omega arith
covers_closed escaped (suc n) [] h e = absurd (omega (arith, h))
covers_closed true (suc n) (b ∷ bs) h e =
    let parts = and_parts (nat_eq b 34 || nat_eq b 92) (closes false (take n bs)) e in
    let rest = covers_closed false n bs (omega (arith, h)) parts.1 in
    omega (arith, rest)
covers_closed false (suc n) (b ∷ bs) h e = by_quote (nat_eq b 34) (is_printed b) n (string_len (nat_eq b 92) bs) (closes (nat_eq b 92) (take n bs)) (length (take n bs)) (length-take-le n bs (omega (arith, h))) (covers_closed (nat_eq b 92) n bs (omega (arith, h))) e
  where
    by_quote : (t p : Bool) (n k : ℕ) (c : Bool) (m : ℕ) → m ≡ n → (c ≡ true → n ≤ k) → (if t then nat_eq m 0 else p && c) ≡ true → suc n ≤ (if t then 1 else 1 + k)
    by_quote true p n k c m f g e = let z : m ≡ 0 = eqb-true m 0 e in omega (arith, f, z)
    by_quote false p n k c m f g e = let rest = g (and_parts p c e).1 in omega (arith, rest)

covers_string : (n : ℕ) (bytes : List ℕ) → n ≤ length bytes → is_string (take n bytes) ≡ true → Covers n (front_of bytes)
covers_string zero bytes h e = absurd (true≢false (sym e))
covers_string (suc n) [] h e = absurd (omega (arith, h))
covers_string (suc n) (b ∷ bs) h e =
    let parts = and_parts (nat_eq b 34 && closes false (take n bs)) (nat_le (length (take n bs)) 257) e in
    let inner = and_parts (nat_eq b 34) (closes false (take n bs)) parts.0 in
    let long = covers_closed false n bs (omega (arith, h)) inner.1 in
    at_byte b 34 (suc n) bs inner.0 (checked_covers Str BadString (suc n) (1 + string_len false bs) (34 ∷ bs) (omega (arith, long)))

-- each of these marks is found where it stands, or a longer one
abbrev EachFound : List (List ℕ) → Type 0
EachFound [] = Unit {0}
EachFound (m ∷ ms) = ((rest : List ℕ) → Covers (length m) (front_of (m ++ rest))) × EachFound ms

covers_any : (ms : List (List ℕ)) → EachFound ms → (n : ℕ) (bytes : List ℕ) → n ≤ length bytes → list_any (λ m. pointwise nat_eq m (take n bytes)) ms ≡ true → Covers n (front_of bytes)
covers_any [] each n bytes h e = absurd (true≢false (sym e))
covers_any (m ∷ ms) each n bytes h e =
    either (pointwise nat_eq m (take n bytes)) (list_any (λ m. pointwise nat_eq m (take n bytes)) ms)
    (λ f. let same : m ≡ take n bytes = (slice_eq-Decides Decides-eqb m (take n bytes) (pointwise nat_eq m (take n bytes)) refl).0 f in
    let size : length m ≡ n = ap length same ∙ length-take-le n bytes h in
    let whole : m ++ drop n bytes ≡ bytes = ap (λ xs. xs ++ drop n bytes) same ∙ take-append-drop n bytes in
    subst (λ k. Covers k (front_of bytes)) size (subst (λ xs. Covers (length m) (front_of xs)) whole (each.0 (drop n bytes))))
    (covers_any ms each.1 n bytes h) e

abbrev MarkCovers : ℕ → ℕ → Type 0
MarkCovers n k = Covers n (mark_front k)

-- a mark with which a longer one begins
short : (n : ℕ) (rest tail : List ℕ) → 0 < n → Covers 1 (mark_front (if starts_with nat_eq rest tail then n else 1))
short zero rest tail pos = absurd (omega (arith, pos))
short (suc n) rest tail pos = branch (λ k. Covers 1 (mark_front k)) (starts_with nat_eq rest tail) (suc n) 1 (λ _. omega arith) (λ _. omega arith)

each_mark : EachFound mark_texts
each_mark =
    let one : 1 ≤ 1 = omega arith in
    let two : 2 ≤ 2 = omega arith in
    let three : 3 ≤ 3 = omega arith in (
      λ r. one,
      (
        λ r. one,
        (
          λ r. one,
          (
            λ r. one,
            (
              λ r. one,
              (
                λ r. one,
                (
                  λ r. short 3 r (codes "->") (omega arith),
                  (
                    λ r. short 2 r (codes "-") (omega arith),
                    (
                      λ r. two,
                      (
                        λ r. three,
                        (λ r. three, (λ r. three, (λ r. one, (λ r. one, (λ r. one, (λ r. short 2 r (codes "=") (omega arith), (λ r. two, (λ r. one, (λ r. one, (λ r. one, tt)))))))))),
                      ),
                    ),
                  ),
                ),
              ),
            ),
          ),
        ),
      ),
    )

covers_mark : (n : ℕ) (bytes : List ℕ) → n ≤ length bytes → is_mark_text (take n bytes) ≡ true → Covers n (front_of bytes)
covers_mark = covers_any mark_texts each_mark

covers : (kind : Kind) (n : ℕ) (bytes : List ℕ) → n ≤ length bytes → is_text kind (take n bytes) ≡ true → Covers n (front_of bytes)
covers Small n bytes h e = covers_small n bytes h e
covers Cap n bytes h e = covers_cap n bytes h e
covers SmallVar n bytes h e = covers_variable is_small covers_small_variable n bytes h e
covers CapVar n bytes h e = covers_variable is_cap covers_cap_variable n bytes h e
covers Num n bytes h e = covers_number n bytes h e
covers Str n bytes h e = covers_string n bytes h e
covers Mark n bytes h e = covers_mark n bytes h e

-- where a token is found, no longer bytes are a token's text
pub longest : (bytes : List ℕ) (kind : Kind) (len : ℕ) → front_of bytes ≡ front.Token kind len → (other : Kind) (n : ℕ) → len < n → n ≤ length bytes → is_text other (take n bytes) ≡ false
longest bytes kind len e other n more most = decide (is_text other (take n bytes)) refl
  where
    decide : (t : Bool) → is_text other (take n bytes) ≡ t → t ≡ false
    decide true f = let all : n ≤ len = subst (Covers n) e (covers other n bytes most f) in absurd (omega (arith, more, all))
    decide false f = refl

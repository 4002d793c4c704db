-- A text of a kind is found as one token before what doesn't go on with it.
use Rattle.std.proofs.Common.{◌≡◌, ℕ, suc, ◌+◌, ◌-◌, ◌≤◌, ◌++◌, List, [], ◌∷◌, length, take, drop, Err, Bool, true, false, nat_lt, ◌&&◌, refl, ap, sym, ◌∙◌, true≢false, length-append, arith}
use Rattle.std.specs.Prelude.{nat_le, if◌then◌else◌}
use Rattle.std.specs.List.{list_all, prefix_len}
use Rattle.std.proofs.lemmas.Bool.{and_parts}
use Rattle.std.proofs.lemmas.Bool.Decides.{nat_tests}
use Rattle.mp_lex.specs.declared.token.Kind.{Kind}
use Rattle.mp_lex.specs.declared.token.Kind.TheVariants.{Small, Cap, SmallVar, Num, Str}
use Rattle.mp_lex.specs.declared.token.Token.{Token}
use Rattle.mp_lex.specs.declared.token.LexWhy.{LexWhy}
use Rattle.mp_lex.specs.declared.token.LexWhy.TheVariants.{BadNumber, BadString, LongName, TooNested}
use Rattle.mp_lex.specs.declared.front.Front.TheVariants as front
use Rattle.mp_lex.specs.Bytes.{is_cap, is_digit, is_opening, is_small, is_word_byte}
use Rattle.mp_lex.specs.Forms.{is_name, is_number, is_text}
use Rattle.mp_lex.specs.Lex.{begins_with, checked, depth_after, front_of, go_on, lex_from, string_len, with_front}
use Rattle.mp_lex.proofs.Fronts.{cap_word, no, small_word, yes}
use Rattle.mp_lex.proofs.Longest.{name_parts}
use Rattle.mp_lex.proofs.Passes.{skipped}

-- a token of this kind and length is found at the front
abbrev pub Begins : Kind → ℕ → List ℕ → Type 0
Begins k n bytes = front_of bytes ≡ front.Token k n

pub take_whole : (cs rest : List ℕ) → take (length cs) (cs ++ rest) ≡ cs
take_whole [] rest = refl
take_whole (c ∷ cs) rest = ap (λ xs. c ∷ xs) (take_whole cs rest)

pub drop_whole : (cs rest : List ℕ) → drop (length cs) (cs ++ rest) ≡ rest
drop_whole [] rest = refl
drop_whole (c ∷ cs) rest = drop_whole cs rest

-- the reading goes on behind a token that is found
pub read_whole : (k : Kind) (c : ℕ) (cs rest : List ℕ) (at depth : ℕ) → Begins k (suc (length cs)) (c ∷ (cs ++ rest)) → (is_opening c && nat_le 250 depth) ≡ false
    → (let t : Token = record { kind = k; from = at; to = at + suc (length cs) } in lex_from 0 depth at (c ∷ (cs ++ rest)) ≡ with_front (t ∷ []) (lex_from 0 (depth_after depth c) (at + suc (length cs)) rest))
read_whole k c cs rest at depth begins shallow =
    let n = suc (length cs) in
    let t : Token = record { kind = k; from = at; to = at + n } in
    let go = λ (j e : ℕ). lex_from j e (at + 1) (cs ++ rest) in
    let less : n - 1 ≡ length cs = omega arith in
    let few : length cs ≤ length (cs ++ rest) = omega (arith, length-append cs rest) in
    let to : at + 1 + length cs ≡ at + n = omega arith in
    ap (λ q. go_on q depth at c go) begins
    ∙ ap (λ b. if b then Err (at, TooNested) else with_front (t ∷ []) (go (n - 1) (depth_after depth c))) shallow
    ∙ ap (with_front (t ∷ [])) (ap (λ j. go j (depth_after depth c)) less ∙ skipped (length cs) (depth_after depth c) (at + 1) (cs ++ rest) few ∙ ap (λ j. lex_from 0 (depth_after depth c) j (drop (length cs) (cs ++ rest))) to ∙ ap (lex_from 0 (depth_after depth c) (at + n)) (drop_whole cs rest))

-- the bytes that go together are all of these
prefix_whole : (p : ℕ → Bool) (cs rest : List ℕ) → list_all p cs ≡ true → begins_with p rest ≡ false → prefix_len p (cs ++ rest) ≡ length cs
prefix_whole p [] [] h s = refl
prefix_whole p [] (b ∷ rest) h s = rw s refl
prefix_whole p (c ∷ cs) rest h s =
    let both = and_parts (p c) (list_all p cs) h in
    let here = both.0 in
    let ih = prefix_whole p cs rest both.1 s in
    rw here (omega (arith, ih))

checked_whole : (k : Kind) (why : LexWhy) (n : ℕ) (cs rest : List ℕ) → n ≡ length cs → is_text k cs ≡ true → checked k why n (cs ++ rest) ≡ front.Token k (length cs)
checked_whole k why n cs rest e h =
    ap (λ j. checked k why j (cs ++ rest)) e ∙ ap (λ xs. if is_text k xs then front.Token k (length cs) else front.Bad 0 why) (take_whole cs rest) ∙ ap (λ b. if b then front.Token k (length cs) else front.Bad 0 why) h

small_first : (c : ℕ) (cs : List ℕ) → is_name is_small (c ∷ cs) ≡ true → is_small c ≡ true
small_first c cs h = (name_parts is_small c cs h).0

-- all bytes of a name are, where the first one is
all_words : (begins : ℕ → Bool) (c : ℕ) (cs : List ℕ) → is_word_byte c ≡ true → is_name begins (c ∷ cs) ≡ true → list_all is_word_byte (c ∷ cs) ≡ true
all_words begins c cs word h = rw word (name_parts begins c cs h).1

pub small_begins : (c : ℕ) (cs rest : List ℕ) → is_name is_small (c ∷ cs) ≡ true → begins_with is_word_byte rest ≡ false → Begins Small (suc (length cs)) (c ∷ (cs ++ rest))
small_begins c cs rest h d =
    let small = small_first c cs h in
    yes (is_small c) _ _ small ∙ (checked_whole Small LongName (prefix_len is_word_byte (c ∷ (cs ++ rest))) (c ∷ cs) rest (prefix_whole is_word_byte (c ∷ cs) rest (all_words is_small c cs (small_word c small) h) d) h)

pub capital_begins : (c : ℕ) (cs rest : List ℕ) → is_name is_cap (c ∷ cs) ≡ true → begins_with is_word_byte rest ≡ false → Begins Cap (suc (length cs)) (c ∷ (cs ++ rest))
capital_begins c cs rest h d =
    let cap = (name_parts is_cap c cs h).0 in
    let small : is_small c ≡ false = grind (arith, nat_tests, cap) in
    let found = checked_whole Cap LongName (prefix_len is_word_byte (c ∷ (cs ++ rest))) (c ∷ cs) rest (prefix_whole is_word_byte (c ∷ cs) rest (all_words is_cap c cs (cap_word c cap) h) d) h in
    no (is_small c) _ _ small ∙ yes (is_cap c) _ _ cap ∙ found

pub variable_begins : (cs rest : List ℕ) → is_name is_small cs ≡ true → begins_with is_word_byte rest ≡ false → Begins SmallVar (suc (length cs)) (39 ∷ (cs ++ rest))
variable_begins [] rest h d = absurd (true≢false (sym h))
variable_begins (c ∷ cs) rest h d =
    let small = small_first c cs h in
    let run = prefix_whole is_word_byte (c ∷ cs) rest (all_words is_small c cs (small_word c small) h) d in
    let n : 1 + prefix_len is_word_byte (c ∷ (cs ++ rest)) ≡ length (39 ∷ c ∷ cs) = omega (arith, run) in
    yes (is_small c) _ _ small ∙ (checked_whole SmallVar LongName (1 + prefix_len is_word_byte (c ∷ (cs ++ rest))) (39 ∷ c ∷ cs) rest n h)

digit_first : (c : ℕ) → is_digit c ≡ true → (is_small c ≡ false) × (is_cap c ≡ false)
digit_first c h = (grind (arith, nat_tests, h), grind (arith, nat_tests, h))

no_digit : (rest : List ℕ) → begins_with is_word_byte rest ≡ false → begins_with is_digit rest ≡ false
no_digit [] d = refl
no_digit (b ∷ rest) d = grind (arith, nat_tests, d)

pub digits_begin : (c : ℕ) (cs rest : List ℕ) → list_all is_digit (c ∷ cs) ≡ true → is_number (c ∷ cs) ≡ true → begins_with is_word_byte rest ≡ false → Begins Num (suc (length cs)) (c ∷ (cs ++ rest))
digits_begin c cs rest h n d =
    let digit = (and_parts (is_digit c) (list_all is_digit cs) h).0 in
    let others = digit_first c digit in
    let small = others.0 in
    let cap = others.1 in
    let found = checked_whole Num BadNumber (prefix_len is_digit (c ∷ (cs ++ rest))) (c ∷ cs) rest (prefix_whole is_digit (c ∷ cs) rest h (no_digit rest d)) n in
    no (is_small c) _ _ small ∙ no (is_cap c) _ _ cap ∙ yes (is_digit c) _ _ digit ∙ found

pub negative_begins : (c : ℕ) (cs rest : List ℕ) → list_all is_digit (c ∷ cs) ≡ true → is_number (45 ∷ c ∷ cs) ≡ true → begins_with is_word_byte rest ≡ false → Begins Num (suc (length (c ∷ cs))) (45 ∷ c ∷ (cs ++ rest))
negative_begins c cs rest h n d =
    let digit = (and_parts (is_digit c) (list_all is_digit cs) h).0 in
    let run = prefix_whole is_digit (c ∷ cs) rest h (no_digit rest d) in
    let len : 1 + prefix_len is_digit (c ∷ (cs ++ rest)) ≡ length (45 ∷ c ∷ cs) = omega (arith, run) in
    yes (is_digit c) _ _ digit ∙ (checked_whole Num BadNumber (1 + prefix_len is_digit (c ∷ (cs ++ rest))) (45 ∷ c ∷ cs) rest len n)

pub string_begins : (cs rest : List ℕ) → is_text Str (34 ∷ cs) ≡ true → string_len false (cs ++ rest) ≡ length cs → Begins Str (suc (length cs)) (34 ∷ (cs ++ rest))
string_begins cs rest h e =
    let n : 1 + string_len false (cs ++ rest) ≡ length (34 ∷ cs) = omega (arith, e) in
    checked_whole Str BadString (1 + string_len false (cs ++ rest)) (34 ∷ cs) rest n h

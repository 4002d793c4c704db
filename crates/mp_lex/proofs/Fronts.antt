-- What stands at the front of a text, by its first byte.
use Rattle.std.proofs.Common.{◌≡◌, ℕ, suc, ◌+◌, List, ◌∷◌, Bool, true, false, length, take, refl, ap, sym, ◌∙◌, arith}
use Rattle.std.specs.Prelude.{nat_eq, nat_le, nat_lt, ◌||◌, ◌&&◌, if◌then◌else◌}
use Rattle.std.specs.List.{list_all, prefix_len}
use Rattle.std.proofs.lemmas.List.Folds.{length-prefix_len}
use Rattle.mp_lex.specs.declared.token.Kind.{Kind}
use Rattle.mp_lex.specs.declared.token.Kind.TheVariants.{Small, Cap, SmallVar, CapVar, Num}
use Rattle.mp_lex.specs.declared.token.LexWhy.TheVariants.{LongName, BadNumber}
use Rattle.mp_lex.specs.declared.front.Front.{Front}
use Rattle.mp_lex.specs.declared.front.Front.TheVariants as front
use Rattle.mp_lex.specs.Bytes.{is_small, is_cap, is_digit, is_word_byte}
use Rattle.mp_lex.specs.Forms.{is_name, is_number, is_text}
use Rattle.mp_lex.specs.Lex.{checked, variable_of, front_of}
use Rattle.mp_lex.proofs.Runs.{take_next, run_passes}

pub yes : {A : Type 0} (t : Bool) (x y : A) → t ≡ true → (if t then x else y) ≡ x
yes t x y e = ap (λ s. if s then x else y) e

pub no : {A : Type 0} (t : Bool) (x y : A) → t ≡ false → (if t then x else y) ≡ y
no t x y e = ap (λ s. if s then x else y) e

or_true : (t : Bool) → (t || true) ≡ true
or_true true = refl
or_true false = refl

pub small_word : (b : ℕ) → is_small b ≡ true → is_word_byte b ≡ true
small_word b e = ap (λ t. ((t || is_cap b) || is_digit b) || nat_eq b 95) e

pub cap_word : (b : ℕ) → is_cap b ≡ true → is_word_byte b ≡ true
cap_word b e = ap (λ t. ((is_small b || t) || is_digit b) || nat_eq b 95) e ∙ ap (λ t. (t || is_digit b) || nat_eq b 95) (or_true (is_small b))

-- letters, digits and `_` behind a letter are a name where they are few enough
pub name_run : (begins : ℕ → Bool) (b : ℕ) (bs : List ℕ) → begins b ≡ true → is_name begins (take (1 + prefix_len is_word_byte bs) (b ∷ bs)) ≡ nat_le (1 + prefix_len is_word_byte bs) 64
name_run begins b bs e =
    let p = prefix_len is_word_byte bs in
    let f : 1 + p ≡ suc p = omega arith in
    ap (is_name begins) (take_next p b bs)
    ∙ ap (λ t. (t && list_all is_word_byte (take p bs)) && nat_lt (length (take p bs)) 64) e
    ∙ ap (λ t. t && nat_lt (length (take p bs)) 64) (run_passes is_word_byte bs)
    ∙ ap (λ m. nat_lt m 64) (length-prefix_len is_word_byte bs)
    ∙ ap (λ m. nat_le m 64) (sym f)

-- a name's kind and length where its bytes are few enough
abbrev pub named : Kind → ℕ → ℕ → Front
named kind quote len = if nat_le len 64 then front.Token kind (quote + len) else front.Bad 0 LongName

checked_name : (kind : Kind) (bytes : List ℕ) (n quote len : ℕ) → is_text kind (take n bytes) ≡ nat_le len 64 → quote + len ≡ n → named kind quote len ≡ checked kind LongName n bytes
checked_name kind bytes n quote len e f = ap (λ k. if nat_le len 64 then front.Token kind k else front.Bad 0 LongName) f ∙ ap (λ t. if t then front.Token kind n else front.Bad 0 LongName) (sym e)

pub word_run : (b : ℕ) (bs : List ℕ) → is_word_byte b ≡ true → prefix_len is_word_byte (b ∷ bs) ≡ 1 + prefix_len is_word_byte bs
word_run b bs e = yes (is_word_byte b) (1 + prefix_len is_word_byte bs) 0 e

pub small_checked : (b : ℕ) (bs : List ℕ) → is_small b ≡ true → named Small 0 (1 + prefix_len is_word_byte bs) ≡ checked Small LongName (prefix_len is_word_byte (b ∷ bs)) (b ∷ bs)
small_checked b bs e =
    let p = prefix_len is_word_byte bs in
    checked_name Small (b ∷ bs) (1 + p) 0 (1 + p) (name_run is_small b bs e) (omega arith)
    ∙ ap (λ n. checked Small LongName n (b ∷ bs)) (sym (word_run b bs (small_word b e)))

pub cap_checked : (b : ℕ) (bs : List ℕ) → is_cap b ≡ true → named Cap 0 (1 + prefix_len is_word_byte bs) ≡ checked Cap LongName (prefix_len is_word_byte (b ∷ bs)) (b ∷ bs)
cap_checked b bs e =
    let p = prefix_len is_word_byte bs in
    checked_name Cap (b ∷ bs) (1 + p) 0 (1 + p) (name_run is_cap b bs e) (omega arith)
    ∙ ap (λ n. checked Cap LongName n (b ∷ bs)) (sym (word_run b bs (cap_word b e)))

variable_run : (kind : Kind) (begins : ℕ → Bool) (b : ℕ) (bs : List ℕ) → ((cs : List ℕ) → is_text kind (39 ∷ cs) ≡ is_name begins cs) → begins b ≡ true → is_word_byte b ≡ true
    → named kind 1 (1 + prefix_len is_word_byte bs) ≡ checked kind LongName (1 + prefix_len is_word_byte (b ∷ bs)) (39 ∷ b ∷ bs)
variable_run kind begins b bs form e w =
    let p = prefix_len is_word_byte bs in
    checked_name kind (39 ∷ b ∷ bs) (1 + (1 + p)) 1 (1 + p)
    (ap (is_text kind) (take_next (1 + p) 39 (b ∷ bs)) ∙ form (take (1 + p) (b ∷ bs)) ∙ name_run begins b bs e) refl
    ∙ ap (λ n. checked kind LongName (1 + n) (39 ∷ b ∷ bs)) (sym (word_run b bs w))

pub small_variable : (b : ℕ) (bs : List ℕ) → is_small b ≡ true → named SmallVar 1 (1 + prefix_len is_word_byte bs) ≡ variable_of (39 ∷ b ∷ bs) (b ∷ bs)
small_variable b bs e = variable_run SmallVar is_small b bs (λ cs. refl) e (small_word b e) ∙ sym (yes (is_small b) _ _ e)

pub cap_variable : (b : ℕ) (bs : List ℕ) → is_small b ≡ false → is_cap b ≡ true → named CapVar 1 (1 + prefix_len is_word_byte bs) ≡ variable_of (39 ∷ b ∷ bs) (b ∷ bs)
cap_variable b bs n e = variable_run CapVar is_cap b bs (λ cs. refl) e (cap_word b e) ∙ sym (no (is_small b) _ _ n ∙ yes (is_cap b) _ _ e)

-- digits behind a `-`
pub negative_checked : (n : ℕ) (bs : List ℕ) (t : Bool) → is_number (45 ∷ take n bs) ≡ t → (if t then front.Token Num (1 + n) else front.Bad 0 BadNumber) ≡ checked Num BadNumber (1 + n) (45 ∷ bs)
negative_checked n bs t e = ap (λ s. if s then front.Token Num (1 + n) else front.Bad 0 BadNumber) (sym e ∙ sym (ap is_number (take_next n 45 bs)))

pub small_front : (b : ℕ) (bs : List ℕ) → is_small b ≡ true → named Small 0 (1 + prefix_len is_word_byte bs) ≡ front_of (b ∷ bs)
small_front b bs e = small_checked b bs e ∙ sym (yes (is_small b) _ _ e)

pub cap_front : (b : ℕ) (bs : List ℕ) → is_small b ≡ false → is_cap b ≡ true → named Cap 0 (1 + prefix_len is_word_byte bs) ≡ front_of (b ∷ bs)
cap_front b bs n e = cap_checked b bs e ∙ sym (no (is_small b) _ _ n ∙ yes (is_cap b) _ _ e)

-- What is found at a place is right: a token's text is of its kind, and what is passed over is separators and comments.
use Rattle.std.proofs.Common.{◌≡◌, ℕ, zero, suc, ◌+◌, ◌<◌, ◌≤◌, ◌++◌, List, [], ◌∷◌, Bool, true, false, length, length-append, take, drop, refl, ap, sym, subst, ◌∙◌, take-append-drop, append-nil, eqb-true, arith}
use Rattle.std.specs.Prelude.{codes, nat_eq, ◌&&◌, ◌||◌, if◌then◌else◌}
use Rattle.std.specs.List.{prefix_len, starts_with}
use Rattle.std.proofs.lemmas.Bool.Decides.{Decides-eqb, nat_tests}
use Rattle.std.proofs.lemmas.List.Folds.{length-prefix_len}
use Rattle.std.proofs.lemmas.List.Sums.{prefix_len-le-length}
use Rattle.std.proofs.lemmas.Slice.Eq.{starts_is}
use Rattle.std.proofs.Math.Seq.{take-add, drop-drop}
use Rattle.mp_lex.specs.declared.token.Kind.{Kind}
use Rattle.mp_lex.specs.declared.token.Kind.TheVariants.{Small, Cap, SmallVar, CapVar, Num, Str}
use Rattle.mp_lex.specs.declared.token.LexWhy.{LexWhy}
use Rattle.mp_lex.specs.declared.token.LexWhy.TheVariants.{BadByte, LongName, BadNumber, BadString}
use Rattle.mp_lex.specs.declared.front.Front.{Front}
use Rattle.mp_lex.specs.declared.front.Front.TheVariants as front
use Rattle.mp_lex.specs.Bytes.{is_small, is_cap, is_digit, is_word_byte, is_blank, is_comment, is_opening, is_closing, is_single_mark}
use Rattle.mp_lex.specs.Forms.{is_mark_text, is_text}
use Rattle.mp_lex.specs.Lex.{checked, string_len, mark_len, mark_front, ended_comment, comment_of, variable_of, begins_with, front_of}
use Rattle.mp_lex.specs.Spans.{only_separators}
use Rattle.mp_lex.proofs.Runs.{take_next}
use Rattle.mp_lex.proofs.Fronts.{word_run, small_word, cap_word, yes, no}
use Rattle.mp_lex.proofs.Strings.{string_len-le}

-- a choice is right where each side is
pub branch : {A : Type 0} (P : A → Type 0) (t : Bool) (x y : A) → (t ≡ true → P x) → (t ≡ false → P y) → P (if t then x else y)
branch P true x y f g = f refl
branch P false x y f g = g refl

-- so many bytes at the front are separators and whole comments, whatever is behind them
pub record ArePassed (bytes : List ℕ) (len : ℕ) : Type 0 where
  pub some : 0 < len
  pub within : len ≤ length bytes
  pub last : only_separators true false (drop len bytes) ≡ true → only_separators true false bytes ≡ true
  pub more : (m : ℕ) → len < length bytes → only_separators false false (take m (drop len bytes)) ≡ true → only_separators false false (take (len + m) bytes) ≡ true

pub record IsToken (bytes : List ℕ) (kind : Kind) (len : ℕ) : Type 0 where
  pub some : 0 < len
  pub within : len ≤ length bytes
  pub form : is_text kind (take len bytes) ≡ true

abbrev pub IsRight : List ℕ → Front → Type 0
IsRight bytes (front.Passed len) = ArePassed bytes len
IsRight bytes (front.Token kind len) = IsToken bytes kind len
IsRight bytes (front.Bad ahead why) = Unit {0}

checked_right : (kind : Kind) (why : LexWhy) (n : ℕ) (bytes : List ℕ) → 0 < n → n ≤ length bytes → IsRight bytes (checked kind why n bytes)
checked_right kind why n bytes pos most = branch (IsRight bytes) (is_text kind (take n bytes)) (front.Token kind n) (front.Bad 0 why) (λ e. record { some = pos; within = most; form = e }) (λ _. tt)

blank_right : (b : ℕ) (bs : List ℕ) → is_blank b ≡ true → ArePassed (b ∷ bs) 1
blank_right b bs e = record {
  some = omega arith;
  within = omega arith;
  last = λ h. step true bs ∙ h;
  more = λ m _ h. ap (only_separators false false) (take_next m b bs) ∙ step false (take m bs) ∙ h;
}
  where
    other : nat_eq b 35 ≡ false
    other = grind (arith, nat_tests)

    step : (last : Bool) (xs : List ℕ) → only_separators last false (b ∷ xs) ≡ only_separators last false xs
    step last xs = no (nat_eq b 35) (only_separators last true xs) (is_blank b && only_separators last false xs) other ∙ ap (λ t. t && only_separators last false xs) e

-- a comment's bytes
in_comment : (last : Bool) (bs xs : List ℕ) → only_separators last true (take (prefix_len is_comment bs) bs ++ xs) ≡ only_separators last true xs
in_comment last [] xs = refl
in_comment last (b ∷ bs) xs =
    let p = prefix_len is_comment bs in
    branch (λ (n : ℕ). only_separators last true (take n (b ∷ bs) ++ xs) ≡ only_separators last true xs) (is_comment b) (1 + p) 0
    (λ e. let other : nat_eq b 10 ≡ false = grind (arith, nat_tests) in
    ap (λ ys. only_separators last true (ys ++ xs)) (take_next p b bs)
    ∙ no (nat_eq b 10) (only_separators last false (take p bs ++ xs)) (is_comment b && only_separators last true (take p bs ++ xs)) other
    ∙ ap (λ t. t && only_separators last true (take p bs ++ xs)) e ∙ in_comment last bs xs)
    (λ _. refl)

ended_right : (bs behind : List ℕ) → drop (prefix_len is_comment bs) bs ≡ behind → IsRight (35 ∷ bs) (ended_comment (1 + prefix_len is_comment bs) behind)
ended_right bs [] e =
    let p = prefix_len is_comment bs in
    let whole : take p bs ++ [] ≡ bs = ap (λ ys. take p bs ++ ys) (sym e) ∙ take-append-drop p bs in
    let all : p ≡ length bs = sym (length-prefix_len is_comment bs) ∙ ap length (sym (append-nil (take p bs)) ∙ whole) in
    record {
      some = omega arith;
      within = omega arith;
      last = λ _. ap (only_separators true true) (sym whole) ∙ in_comment true bs [];
      more = λ m lt _. absurd (omega (arith, lt, all));
    }
ended_right bs (c ∷ rest) e =
    let p = prefix_len is_comment bs in
    branch (IsRight (35 ∷ bs)) (nat_eq c 10) (front.Passed (1 + p + 1)) (front.Bad (1 + p) BadByte)
    (λ f. line bs rest (e ∙ ap (λ x. x ∷ rest) (eqb-true c 10 f))) (λ _. tt)
  where
    line : (bs rest : List ℕ) → drop (prefix_len is_comment bs) bs ≡ 10 ∷ rest → ArePassed (35 ∷ bs) (1 + prefix_len is_comment bs + 1)
    line bs rest e =
        let p = prefix_len is_comment bs in
        let whole : take p bs ++ 10 ∷ rest ≡ bs = ap (λ ys. take p bs ++ ys) (sym e) ∙ take-append-drop p bs in
        let run : length (take p bs) ≡ p = length-prefix_len is_comment bs in
        let size : length (take p bs) + suc (length rest) ≡ length bs = sym (length-append (take p bs) (10 ∷ rest)) ∙ ap length whole in
        let later : 1 + p + 1 ≡ suc (p + 1) = omega arith in
        let suffix : drop (1 + p + 1) (35 ∷ bs) ≡ rest = ap (λ k. drop k (35 ∷ bs)) later ∙ sym (drop-drop 1 p bs ∙ ap (λ k. drop k bs) (omega arith)) ∙ ap (drop 1) e in
        record {
          some = omega arith;
          within = omega (arith, run, size);
          last = λ h. ap (only_separators true true) (sym whole) ∙ in_comment true bs (10 ∷ rest) ∙ ap (only_separators true false) (sym suffix) ∙ h;
          more = λ m _ h.
              let longer : 1 + p + 1 + m ≡ suc (p + (1 + m)) = omega arith in
              let cut : take (p + (1 + m)) bs ≡ take p bs ++ 10 ∷ take m rest = take-add p (1 + m) bs ∙ ap (λ ys. take p bs ++ take (1 + m) ys) e ∙ ap (λ ys. take p bs ++ ys) (take_next m 10 rest) in
              ap (λ k. only_separators false false (take k (35 ∷ bs))) longer ∙ ap (only_separators false true) cut ∙ in_comment false bs (10 ∷ take m rest)
              ∙ ap (λ ys. only_separators false false (take m ys)) (sym suffix) ∙ h;
        }

-- what is passed over after `#`
comment_right : (bs : List ℕ) → IsRight (35 ∷ bs) (comment_of bs)
comment_right bs = ended_right bs (drop (prefix_len is_comment bs) bs) refl

variable_right : (bs : List ℕ) → IsRight (39 ∷ bs) (variable_of (39 ∷ bs) bs)
variable_right bs =
    let n = 1 + prefix_len is_word_byte bs in
    let most : n ≤ length (39 ∷ bs) = omega (arith, prefix_len-le-length is_word_byte bs) in
    branch (IsRight (39 ∷ bs)) (begins_with is_small bs) (checked SmallVar LongName n (39 ∷ bs)) _ (λ _. checked_right SmallVar LongName n (39 ∷ bs) (omega arith) most)
    (λ _. branch (IsRight (39 ∷ bs)) (begins_with is_cap bs) (checked CapVar LongName n (39 ∷ bs)) (front.Bad 0 BadByte) (λ _. checked_right CapVar LongName n (39 ∷ bs) (omega arith) most) (λ _. tt))

-- a length of a mark at the front, or 0
abbrev IsMarkLen : List ℕ → ℕ → Type 0
IsMarkLen bytes zero = Unit {0}
IsMarkLen bytes (suc n) = (suc n ≤ length bytes) × (is_mark_text (take (suc n) bytes) ≡ true)

mark_right : (bytes : List ℕ) (n : ℕ) → IsMarkLen bytes n → IsRight bytes (mark_front n)
mark_right bytes zero h = tt
mark_right bytes (suc n) h = record { some = omega arith; within = h.0; form = h.1 }

pub begins : (m bs : List ℕ) → starts_with nat_eq bs m ≡ true → bs ≡ m ++ drop (length m) bs
begins m bs e = (starts_is Decides-eqb bs m (starts_with nat_eq bs m) refl).0 e

two_marks : (b : ℕ) (bs tail : List ℕ) (n k : ℕ) → IsMarkLen (b ∷ bs) k → ((xs : List ℕ) → IsMarkLen (b ∷ (tail ++ xs)) n) → IsMarkLen (b ∷ bs) (if starts_with nat_eq bs tail then n else k)
two_marks b bs tail n k short long =
    branch (IsMarkLen (b ∷ bs)) (starts_with nat_eq bs tail) n k
    (λ e. subst (λ ys. IsMarkLen (b ∷ ys) n) (sym (begins tail bs e)) (long (drop (length tail) bs))) (λ _. short)

-- where the byte is this one
at_byte : (b c : ℕ) (bs : List ℕ) (n : ℕ) → nat_eq b c ≡ true → IsMarkLen (c ∷ bs) n → IsMarkLen (b ∷ bs) n
at_byte b c bs n e h = subst (λ x. IsMarkLen (x ∷ bs) n) (sym (eqb-true b c e)) h

pub either : {P : Type 0} (s t : Bool) → (s ≡ true → P) → (t ≡ true → P) → (s || t) ≡ true → P
either true t f g e = f refl
either false t f g e = g e

single : (b : ℕ) → is_single_mark b ≡ true → is_mark_text (b ∷ []) ≡ true
single b =
    let this : (c : ℕ) → is_mark_text (c ∷ []) ≡ true → nat_eq b c ≡ true → is_mark_text (b ∷ []) ≡ true = λ c h e. subst (λ x. is_mark_text (x ∷ []) ≡ true) (sym (eqb-true b c e)) h in
    either _ _ (either _ _ (either _ _ (either _ _ (either _ _ (either _ _
    (either (is_opening b) (is_closing b) (either _ _ (either _ _ (this 40 refl) (this 91 refl)) (this 123 refl)) (either _ _ (either _ _ (this 41 refl) (this 93 refl)) (this 125 refl)))
    (this 38 refl)) (this 44 refl)) (this 59 refl)) (this 46 refl)) (this 64 refl)) (this 124 refl)

mark_len_right : (b : ℕ) (bs : List ℕ) → IsMarkLen (b ∷ bs) (mark_len (b ∷ bs))
mark_len_right b bs =
    let P = IsMarkLen (b ∷ bs) in
    branch P (nat_eq b 62) (if starts_with nat_eq bs (codes "-") then 2 else 1) _ (λ e. at_byte b 62 bs _ e (two_marks 62 bs (codes "-") 2 1 (omega arith, refl) (λ xs. (omega arith, refl))))
    (λ _. branch P (nat_eq b 58) (if starts_with nat_eq bs (codes "=") then 2 else 1) _ (λ e. at_byte b 58 bs _ e (two_marks 58 bs (codes "=") 2 1 (omega arith, refl) (λ xs. (omega arith, refl))))
    (λ _. branch P (nat_eq b 60) (if starts_with nat_eq bs (codes "->") then 3 else 1) _ (λ e. at_byte b 60 bs _ e (two_marks 60 bs (codes "->") 3 1 (omega arith, refl) (λ xs. (omega arith, refl))))
    (λ _. branch P (nat_eq b 61) (if starts_with nat_eq bs (codes "=>") then 3 else 0) _ (λ e. at_byte b 61 bs _ e (two_marks 61 bs (codes "=>") 3 0 tt (λ xs. (omega arith, refl))))
    (λ _. branch P (nat_eq b 45) (if starts_with nat_eq bs (codes "->") then 3 else 0) _ (λ e. at_byte b 45 bs _ e (two_marks 45 bs (codes "->") 3 0 tt (λ xs. (omega arith, refl))))
    (λ _. branch P (is_single_mark b) 1 0 (λ e. (omega arith, single b e)) (λ _. tt))))))

-- what is found at a byte is right
pub found_right : (b : ℕ) (bs : List ℕ) → IsRight (b ∷ bs) (front_of (b ∷ bs))
found_right b bs =
    let P = IsRight (b ∷ bs) in
    let words = prefix_len is_word_byte (b ∷ bs) in
    let digits = prefix_len is_digit (b ∷ bs) in
    let all : words ≤ length (b ∷ bs) = prefix_len-le-length is_word_byte (b ∷ bs) in
    branch P (is_small b) (checked Small LongName words (b ∷ bs)) _ (λ e. let n : words ≡ 1 + prefix_len is_word_byte bs = word_run b bs (small_word b e) in checked_right Small LongName words (b ∷ bs) (omega (arith, n)) all)
    (λ _. branch P (is_cap b) (checked Cap LongName words (b ∷ bs)) _ (λ e. let n : words ≡ 1 + prefix_len is_word_byte bs = word_run b bs (cap_word b e) in checked_right Cap LongName words (b ∷ bs) (omega (arith, n)) all)
    (λ _. branch P (is_digit b) (checked Num BadNumber digits (b ∷ bs)) _
    (λ e. let n : digits ≡ 1 + prefix_len is_digit bs = yes (is_digit b) (1 + prefix_len is_digit bs) 0 e in checked_right Num BadNumber digits (b ∷ bs) (omega (arith, n)) (prefix_len-le-length is_digit (b ∷ bs)))
    (λ _. branch P (is_blank b) (front.Passed 1) _ (λ e. blank_right b bs e)
    (λ _. branch P (nat_eq b 35) (comment_of bs) _ (λ e. subst (λ x. IsRight (x ∷ bs) (comment_of bs)) (sym (eqb-true b 35 e)) (comment_right bs))
    (λ _. branch P (nat_eq b 39) (variable_of (b ∷ bs) bs) _ (λ e. subst (λ x. IsRight (x ∷ bs) (variable_of (x ∷ bs) bs)) (sym (eqb-true b 39 e)) (variable_right bs))
    (λ _. branch P (nat_eq b 34) (checked Str BadString (1 + string_len false bs) (b ∷ bs)) _ (λ _. checked_right Str BadString (1 + string_len false bs) (b ∷ bs) (omega arith) (omega (arith, string_len-le false bs)))
    (λ _. branch P (nat_eq b 45 && begins_with is_digit bs) (checked Num BadNumber (1 + prefix_len is_digit bs) (b ∷ bs)) (mark_front (mark_len (b ∷ bs)))
    (λ _. checked_right Num BadNumber (1 + prefix_len is_digit bs) (b ∷ bs) (omega arith) (omega (arith, prefix_len-le-length is_digit bs)))
    (λ _. mark_right (b ∷ bs) (mark_len (b ∷ bs)) (mark_len_right b bs)))))))))

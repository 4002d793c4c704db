-- What is found in a text is found in what is left of it where it is cut behind.
use Rattle.std.proofs.Common.{◌≡◌, ℕ, zero, suc, ◌+◌, ◌-◌, ◌≤◌, ◌++◌, List, [], ◌∷◌, Bool, true, false, length, take, drop, refl, ap, sym, subst, ◌∙◌, take-append-drop, take_all, append_assoc, append-nil, eqb-true, true≢false, arith}
use Rattle.std.specs.Prelude.{codes, nat_eq, ◌&&◌, if◌then◌else◌}
use Rattle.std.specs.List.{prefix_len, starts_with}
use Rattle.std.specs.Cmp.Lexicographic.{pointwise}
use Rattle.std.proofs.lemmas.Bool.{and_parts}
use Rattle.std.proofs.lemmas.Bool.Decides.{Decides-eqb}
use Rattle.std.proofs.lemmas.List.{drop-take}
use Rattle.std.proofs.lemmas.List.Folds.{length-prefix_len}
use Rattle.std.proofs.lemmas.Slice.Eq.{starts_is}
use Rattle.mp_lex.specs.declared.token.Kind.{Kind}
use Rattle.mp_lex.specs.declared.token.Kind.TheVariants.{Small, Cap, SmallVar, CapVar, Num, Str}
use Rattle.mp_lex.specs.declared.token.LexWhy.{LexWhy}
use Rattle.mp_lex.specs.declared.token.LexWhy.TheVariants.{BadByte, LongName, BadNumber, BadString}
use Rattle.mp_lex.specs.declared.front.Front.{Front}
use Rattle.mp_lex.specs.declared.front.Front.TheVariants as front
use Rattle.mp_lex.specs.Bytes.{is_small, is_cap, is_digit, is_word_byte, is_blank, is_comment}
use Rattle.mp_lex.specs.Forms.{is_text}
use Rattle.mp_lex.specs.Lex.{checked, string_len, mark_len, mark_front, ended_comment, comment_of, variable_of, begins_with, front_of}
use Rattle.mp_lex.proofs.Found.{begins, branch}
use Rattle.mp_lex.proofs.Fronts.{cap_word, no, small_word, word_run, yes}

take_front : (n j : ℕ) (xs : List ℕ) → n ≤ j → take n (take j xs) ≡ take n xs
take_front zero j xs h = refl
take_front (suc n) zero xs h = absurd (omega (arith, h))
take_front (suc n) (suc j) [] h = refl
take_front (suc n) (suc j) (x ∷ xs) h = ap (λ (ys : List ℕ). x ∷ ys) (take_front n j xs (omega (arith, h)))

pub prefix_take : (p : ℕ → Bool) (j : ℕ) (xs : List ℕ) → prefix_len p xs ≤ j → prefix_len p (take j xs) ≡ prefix_len p xs
prefix_take p zero xs h = omega (arith, h)
prefix_take p (suc j) [] h = refl
prefix_take p (suc j) (x ∷ xs) h = by_test (p x) (prefix_len p (take j xs)) (prefix_len p xs) j (prefix_take p j xs) h
  where
    by_test : (t : Bool) (a b j : ℕ) → (b ≤ j → a ≡ b) → (if t then 1 + b else 0) ≤ suc j → (if t then 1 + a else 0) ≡ (if t then 1 + b else 0)
    by_test true a b j f h = ap (λ k. 1 + k) (f (omega (arith, h)))
    by_test false a b j f h = refl

string_take : (escaped : Bool) (j : ℕ) (bs : List ℕ) → string_len escaped bs ≤ j → string_len escaped (take j bs) ≡ string_len escaped bs
string_take true zero bs h = omega (arith, h)
string_take false zero bs h = omega (arith, h)
string_take true (suc j) [] h = refl
string_take false (suc j) [] h = refl
string_take true (suc j) (b ∷ bs) h = ap (λ k. 1 + k) (string_take false j bs (omega (arith, h)))
string_take false (suc j) (b ∷ bs) h = by_test (nat_eq b 34) (string_len (nat_eq b 92) (take j bs)) (string_len (nat_eq b 92) bs) j (string_take (nat_eq b 92) j bs) h
  where
    by_test : (t : Bool) (a b j : ℕ) → (b ≤ j → a ≡ b) → (if t then 1 else 1 + b) ≤ suc j → (if t then 1 else 1 + a) ≡ (if t then 1 else 1 + b)
    by_test true a b j f h = refl
    by_test false a b j f h = ap (λ k. 1 + k) (f (omega (arith, h)))

-- what is found is found again, where it lies within so many bytes
abbrev pub Keeps : ℕ → Front → Front → Type 0
Keeps j again (front.Passed len) = len ≤ j → again ≡ front.Passed len
Keeps j again (front.Token kind len) = len ≤ j → again ≡ front.Token kind len
Keeps j again (front.Bad ahead why) = Unit {0}

checked_kept : (kind : Kind) (why : LexWhy) (n : ℕ) (bytes : List ℕ) (j : ℕ) (again : Front) → (n ≤ j → again ≡ checked kind why n (take j bytes)) → Keeps j again (checked kind why n bytes)
checked_kept kind why n bytes j again h =
    branch (Keeps j again) (is_text kind (take n bytes)) (front.Token kind n) (front.Bad 0 why)
    (λ e le. h le ∙ ap (λ xs. if is_text kind xs then front.Token kind n else front.Bad 0 why) (take_front n j bytes le) ∙ yes _ _ _ e) (λ _. tt)

comment_kept : (j : ℕ) (bs behind : List ℕ) → drop (prefix_len is_comment bs) bs ≡ behind → Keeps (suc j) (comment_of (take j bs)) (ended_comment (1 + prefix_len is_comment bs) behind)
comment_kept j bs [] e = λ le.
    let p = prefix_len is_comment bs in
    let whole : take p bs ++ [] ≡ bs = ap (λ ys. take p bs ++ ys) (sym e) ∙ take-append-drop p bs in
    let all : p ≡ length bs = sym (length-prefix_len is_comment bs) ∙ ap length (sym (append-nil (take p bs)) ∙ whole) in
    ap comment_of (take_all j bs (omega (arith, le, all))) ∙ ap (ended_comment (1 + p)) e
comment_kept j bs (c ∷ rest) e =
    let p = prefix_len is_comment bs in
    branch (Keeps (suc j) (comment_of (take j bs))) (nat_eq c 10) (front.Passed (1 + p + 1)) (front.Bad (1 + p) BadByte)
    (λ f le. line f (omega (arith, le))) (λ _. tt)
  where
    line : nat_eq c 10 ≡ true → prefix_len is_comment bs + 1 ≤ j → comment_of (take j bs) ≡ front.Passed (1 + prefix_len is_comment bs + 1)
    line f le =
        let p = prefix_len is_comment bs in
        let m = j - (p + 1) in
        let size : j ≡ p + suc m = omega (arith, le) in
        let same : prefix_len is_comment (take j bs) ≡ p = prefix_take is_comment j bs (omega (arith, le)) in
        let rest_of : drop p (take j bs) ≡ c ∷ take m rest = ap (λ k. drop p (take k bs)) size ∙ drop-take p (suc m) bs ∙ ap (take (suc m)) e in
        ap (λ k. ended_comment (1 + k) (drop k (take j bs))) same ∙ ap (ended_comment (1 + p)) rest_of ∙ yes (nat_eq c 10) (front.Passed (1 + p + 1)) (front.Bad (1 + p) BadByte) f

variable_kept : (j : ℕ) (bs : List ℕ) → Keeps (suc j) (variable_of (39 ∷ take j bs) (take j bs)) (variable_of (39 ∷ bs) bs)
variable_kept j [] = tt
variable_kept zero (b ∷ bs) =
    let P = Keeps 1 (front.Bad 0 BadByte) in
    let m = 1 + prefix_len is_word_byte (b ∷ bs) in
    branch P (is_small b) (checked SmallVar LongName m (39 ∷ b ∷ bs)) _
    (λ e. checked_kept SmallVar LongName m (39 ∷ b ∷ bs) 1 (front.Bad 0 BadByte) (λ le. let n = word_run b bs (small_word b e) in absurd (omega (arith, le, n))))
    (λ _. branch P (is_cap b) (checked CapVar LongName m (39 ∷ b ∷ bs)) (front.Bad 0 BadByte)
    (λ e. checked_kept CapVar LongName m (39 ∷ b ∷ bs) 1 (front.Bad 0 BadByte) (λ le. let n = word_run b bs (cap_word b e) in absurd (omega (arith, le, n)))) (λ _. tt))
variable_kept (suc j) (b ∷ bs) =
    let again = variable_of (39 ∷ b ∷ take j bs) (b ∷ take j bs) in
    let P = Keeps (suc (suc j)) again in
    let m = 1 + prefix_len is_word_byte (b ∷ bs) in
    branch P (is_small b) (checked SmallVar LongName m (39 ∷ b ∷ bs)) _
    (λ e. checked_kept SmallVar LongName m (39 ∷ b ∷ bs) (suc (suc j)) again
    (λ le. yes (is_small b) _ _ e ∙ ap (λ n. checked SmallVar LongName (1 + n) (39 ∷ b ∷ take j bs)) (prefix_take is_word_byte (suc j) (b ∷ bs) (omega (arith, le)))))
    (λ n. branch P (is_cap b) (checked CapVar LongName m (39 ∷ b ∷ bs)) (front.Bad 0 BadByte)
    (λ e. checked_kept CapVar LongName m (39 ∷ b ∷ bs) (suc (suc j)) again
    (λ le. no (is_small b) _ _ n ∙ yes (is_cap b) _ _ e ∙ ap (λ k. checked CapVar LongName (1 + k) (39 ∷ b ∷ take j bs)) (prefix_take is_word_byte (suc j) (b ∷ bs) (omega (arith, le))))) (λ _. tt))

negative_kept : (j : ℕ) (bs : List ℕ) → begins_with is_digit bs ≡ true → Keeps (suc j) (front_of (45 ∷ take j bs)) (checked Num BadNumber (1 + prefix_len is_digit bs) (45 ∷ bs))
negative_kept j [] e = absurd (true≢false (sym e))
negative_kept zero (d ∷ ds) e =
    checked_kept Num BadNumber (1 + prefix_len is_digit (d ∷ ds)) (45 ∷ d ∷ ds) 1 (front_of (45 ∷ []))
    (λ le. let n : prefix_len is_digit (d ∷ ds) ≡ 1 + prefix_len is_digit ds = yes (is_digit d) (1 + prefix_len is_digit ds) 0 e in absurd (omega (arith, le, n)))
negative_kept (suc j) (d ∷ ds) e =
    checked_kept Num BadNumber (1 + prefix_len is_digit (d ∷ ds)) (45 ∷ d ∷ ds) (suc (suc j)) (front_of (45 ∷ d ∷ take j ds))
    (λ le. yes (is_digit d) _ _ e ∙ ap (λ k. checked Num BadNumber (1 + k) (45 ∷ d ∷ take j ds)) (prefix_take is_digit (suc j) (d ∷ ds) (omega (arith, le))))

starts_take : (j : ℕ) (bs tail : List ℕ) → length tail ≤ j → starts_with nat_eq (take j bs) tail ≡ starts_with nat_eq bs tail
starts_take j bs tail h = ap (pointwise nat_eq tail) (take_front (length tail) j bs h)

-- what begins so behind a cut begins so
uncut : (j : ℕ) (bs tail : List ℕ) → starts_with nat_eq (take j bs) tail ≡ true → starts_with nat_eq bs tail ≡ true
uncut j bs tail e =
    let front : take j bs ≡ tail ++ drop (length tail) (take j bs) = begins tail (take j bs) e in
    let rest = drop (length tail) (take j bs) ++ drop j bs in
    let whole : bs ≡ tail ++ rest = sym (take-append-drop j bs) ∙ ap (λ xs. xs ++ drop j bs) front ∙ append_assoc tail (drop (length tail) (take j bs)) (drop j bs) in
    (starts_is Decides-eqb bs tail (starts_with nat_eq bs tail) refl).1 rest whole

tail_kept : (j : ℕ) (bs tail : List ℕ) (n k : ℕ) → n ≡ suc (length tail) → (if starts_with nat_eq bs tail then n else k) ≤ suc j
    → (if starts_with nat_eq (take j bs) tail then n else k) ≡ (if starts_with nat_eq bs tail then n else k)
tail_kept j bs tail n k size le = decide (starts_with nat_eq bs tail) (starts_with nat_eq (take j bs) tail) (starts_take j bs tail) (uncut j bs tail) le
  where
    decide : (s t : Bool) → (length tail ≤ j → t ≡ s) → (t ≡ true → s ≡ true) → (if s then n else k) ≤ suc j → (if t then n else k) ≡ (if s then n else k)
    decide true t f g le = ap (λ r. if r then n else k) (f (omega (arith, le, size)))
    decide false true f g le = absurd (true≢false (sym (g refl)))
    decide false false f g le = refl

pick : (t : Bool) (x' x y' y j : ℕ) → (x ≤ j → x' ≡ x) → (y ≤ j → y' ≡ y) → (if t then x else y) ≤ j → (if t then x' else y') ≡ (if t then x else y)
pick true x' x y' y j f g le = f le
pick false x' x y' y j f g le = g le

mark_take : (b : ℕ) (bs : List ℕ) (j : ℕ) → mark_len (b ∷ bs) ≤ suc j → mark_len (b ∷ take j bs) ≡ mark_len (b ∷ bs)
mark_take b bs j =
    pick (nat_eq b 62) _ _ _ _ (suc j) (tail_kept j bs (codes "-") 2 1 refl)
    (pick (nat_eq b 58) _ _ _ _ (suc j) (tail_kept j bs (codes "=") 2 1 refl)
    (pick (nat_eq b 60) _ _ _ _ (suc j) (tail_kept j bs (codes "->") 3 1 refl)
    (pick (nat_eq b 61) _ _ _ _ (suc j) (tail_kept j bs (codes "=>") 3 0 refl)
    (pick (nat_eq b 45) _ _ _ _ (suc j) (tail_kept j bs (codes "->") 3 0 refl) (λ _. refl)))))

mark_kept : (n m j : ℕ) (again : Front) → again ≡ mark_front m → (n ≤ j → m ≡ n) → Keeps j again (mark_front n)
mark_kept zero m j again e f = tt
mark_kept (suc n) m j again e f = λ le. e ∙ ap mark_front (f le)

-- a `-` before no digit is before none where the text is cut
no_digit : (b j : ℕ) (bs : List ℕ) → (nat_eq b 45 && begins_with is_digit bs) ≡ false → (nat_eq b 45 && begins_with is_digit (take j bs)) ≡ false
no_digit b zero bs e = nothing (nat_eq b 45)
  where
    nothing : (t : Bool) → (t && false) ≡ false
    nothing true = refl
    nothing false = refl
no_digit b (suc j) [] e = e
no_digit b (suc j) (d ∷ ds) e = e

-- what is found at a byte is found again in the text cut behind it
pub kept : (b : ℕ) (bs : List ℕ) (j : ℕ) → Keeps (suc j) (front_of (b ∷ take j bs)) (front_of (b ∷ bs))
kept b bs j =
    let again = front_of (b ∷ take j bs) in
    let P = Keeps (suc j) again in
    let words = prefix_len is_word_byte (b ∷ bs) in
    let digits = prefix_len is_digit (b ∷ bs) in
    branch P (is_small b) (checked Small LongName words (b ∷ bs)) _
    (λ e. checked_kept Small LongName words (b ∷ bs) (suc j) again
    (λ le. yes (is_small b) _ _ e ∙ ap (λ n. checked Small LongName n (b ∷ take j bs)) (prefix_take is_word_byte (suc j) (b ∷ bs) le)))
    (λ n1. branch P (is_cap b) (checked Cap LongName words (b ∷ bs)) _
    (λ e. checked_kept Cap LongName words (b ∷ bs) (suc j) again
    (λ le. no (is_small b) _ _ n1 ∙ yes (is_cap b) _ _ e ∙ ap (λ n. checked Cap LongName n (b ∷ take j bs)) (prefix_take is_word_byte (suc j) (b ∷ bs) le)))
    (λ n2. branch P (is_digit b) (checked Num BadNumber digits (b ∷ bs)) _
    (λ e. checked_kept Num BadNumber digits (b ∷ bs) (suc j) again
    (λ le. no (is_small b) _ _ n1 ∙ no (is_cap b) _ _ n2 ∙ yes (is_digit b) _ _ e ∙ ap (λ n. checked Num BadNumber n (b ∷ take j bs)) (prefix_take is_digit (suc j) (b ∷ bs) le)))
    (λ n3. branch P (is_blank b) (front.Passed 1) _
    (λ e le. no (is_small b) _ _ n1 ∙ no (is_cap b) _ _ n2 ∙ no (is_digit b) _ _ n3 ∙ yes (is_blank b) _ _ e)
    (λ n4. branch P (nat_eq b 35) (comment_of bs) _
    (λ e. subst (λ x. Keeps (suc j) (front_of (x ∷ take j bs)) (comment_of bs)) (sym (eqb-true b 35 e)) (comment_kept j bs (drop (prefix_len is_comment bs) bs) refl))
    (λ n5. branch P (nat_eq b 39) (variable_of (b ∷ bs) bs) _
    (λ e. subst (λ x. Keeps (suc j) (front_of (x ∷ take j bs)) (variable_of (x ∷ bs) bs)) (sym (eqb-true b 39 e)) (variable_kept j bs))
    (λ n6. branch P (nat_eq b 34) (checked Str BadString (1 + string_len false bs) (b ∷ bs)) _
    (λ e. subst (λ x. Keeps (suc j) (front_of (x ∷ take j bs)) (checked Str BadString (1 + string_len false bs) (x ∷ bs))) (sym (eqb-true b 34 e))
    (checked_kept Str BadString (1 + string_len false bs) (34 ∷ bs) (suc j) (front_of (34 ∷ take j bs))
    (λ le. ap (λ n. checked Str BadString (1 + n) (34 ∷ take j bs)) (string_take false j bs (omega (arith, le))))))
    (λ n7. branch P (nat_eq b 45 && begins_with is_digit bs) (checked Num BadNumber (1 + prefix_len is_digit bs) (b ∷ bs)) (mark_front (mark_len (b ∷ bs)))
    (λ e. let parts = and_parts (nat_eq b 45) (begins_with is_digit bs) e in
    subst (λ x. Keeps (suc j) (front_of (x ∷ take j bs)) (checked Num BadNumber (1 + prefix_len is_digit bs) (x ∷ bs))) (sym (eqb-true b 45 parts.0)) (negative_kept j bs parts.1))
    (λ n8. mark_kept (mark_len (b ∷ bs)) (mark_len (b ∷ take j bs)) (suc j) again
    (no (is_small b) _ _ n1 ∙ no (is_cap b) _ _ n2 ∙ no (is_digit b) _ _ n3 ∙ no (is_blank b) _ _ n4 ∙ no (nat_eq b 35) _ _ n5 ∙ no (nat_eq b 39) _ _ n6 ∙ no (nat_eq b 34) _ _ n7
    ∙ no (nat_eq b 45 && begins_with is_digit (take j bs)) _ _ (no_digit b j bs n8))
    (mark_take b bs j)))))))))

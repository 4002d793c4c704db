-- What is printed is lexed as its pieces.
use Rattle.std.proofs.Common.{◌≡◌, ℕ, zero, suc, ◌+◌, ◌-◌, ◌^◌, ◌<◌, ◌≤◌, ◌++◌, List, [], ◌∷◌, map, length, take, drop, codes, Ok, Err, true, false, nat_eq, nat_le, nat_lt, ◌&&◌, refl, ap, sym, subst, ◌∙◌, true≢false, append_assoc, append-nil, length-append, arith}
use Rattle.std.specs.Prelude.{if◌then◌else◌, ℤ, pos, negsuc}
use Rattle.std.specs.List.{list_all, starts_with}
use Rattle.std.specs.Fmt.{decimal, signed_decimal}
use Rattle.std.proofs.lemmas.Bool.{and_parts}
use Rattle.std.proofs.lemmas.Bool.Decides.{nat_tests}
use Rattle.std.proofs.lemmas.Fmt.{decimal_nonempty}
use Rattle.std.proofs.lemmas.List.{map-append}
use Rattle.mp_logic.specs.declared.sym.Sym.{Sym}
use Rattle.mp_names.specs.Table.{text_of}
use Rattle.mp_lex.specs.declared.token.Kind.{Kind}
use Rattle.mp_lex.specs.declared.token.Kind.TheVariants as kind
use Rattle.mp_lex.specs.declared.token.Token.{Token}
use Rattle.mp_lex.specs.Bytes.{is_closing, is_digit, is_opening, is_small, is_word_byte}
use Rattle.mp_lex.specs.Forms.{is_name, is_number, is_text}
use Rattle.mp_lex.specs.Lex.{Lexing, begins_with, depth_after, lex, lex_from, string_len, token_text as bytes_of, with_front}
use Rattle.mp_lex.proofs.Longest.{name_parts}
use Rattle.mp_lex.proofs.Whole.{Begins, digits_begin, drop_whole, negative_begins, read_whole, small_begins, string_begins, take_whole, variable_begins}
use Rattle.mp_term.specs.declared.term.Param.{Param}
use Rattle.mp_term.specs.declared.term.Param.TheVariants.{Num, Str}
use Rattle.mp_term.specs.declared.term.Term.{Term, Var, Op}
use Rattle.mp_term.specs.declared.term.Bound.{Bound}
use Rattle.mp_term.specs.declared.sequent.Sequent.{Sequent}
use Rattle.mp_term.specs.Induction.{OfEachBody, each_term}
use Rattle.mp_termtext.specs.Printing.{text_at_scope, binders_text, bound_text, escaped, further_binders_text, further_hyps_text, further_text, hyp_text, hyps_text, list_text, name_text, param_text, quoted, sequent_text, term_text}
use Rattle.mp_termtext.specs.Round.{fits_i64, is_written_param}
use Rattle.mp_words.specs.Words.{Piece, piece_of, pieces_of}
use Rattle.mp_termtext.proofs.NumberTexts.{digits_of-decimal, is_number-signed_decimal, small-name_text}
use Rattle.mp_termtext.proofs.StringTexts.{string_len-escaped}
use Rattle.mp_termtext.proofs.PrintedPieces.{binder_pieces, bound_pieces, bound_pieces-is, bound_text-is, each_param, further_binder_pieces, further_hyp_pieces, further_pieces, hyp_pieces, hyps_pieces, list_pieces, mark_piece, name_piece, param_piece, piece, pieces_at, pieces-Op, pieces-Var, sequent_pieces, term_pieces, text-Op, text-Var}
use Rattle.mp_termtext.proofs.Printable.{FitBound, FitBounds, FitHyps, Fits, first_sub, further_subs, most_levels, op_named, op_params, op_subs, some_depth, var_fits}

-- the next byte goes on with no name and no number
abbrev pub Stops : List ℕ → Type 0
Stops rest = begins_with is_word_byte rest ≡ false

abbrev pub Always : List ℕ → Type 0
Always rest = Unit {0}

-- the bytes are lexed as these pieces wherever they stand, before each rest that C allows, where at most 250 - most brackets are open before them,
-- and i of these and o of those behind are counted above the ones that stay open
abbrev pub Lexes : (List ℕ → Type 0) → ℕ → ℕ → ℕ → List ℕ → List Piece → Type 0
Lexes C i o most bytes ps = (before rest : List ℕ) (base : ℕ) → C rest → base + most ≤ 250
    → (ts : List Token) × (lex_from 0 (base + i) (length before) (bytes ++ rest) ≡ with_front ts (lex_from 0 (base + o) (length (before ++ bytes)) rest)) × (map (piece_of (before ++ (bytes ++ rest))) ts ≡ ps)

fronts : (ts us : List Token) (r : Lexing) → with_front ts (with_front us r) ≡ with_front (ts ++ us) r
fronts ts us (Ok vs) = ap (λ (xs : List Token). Ok xs) (sym (append_assoc ts us vs))
fronts ts us (Err e) = refl

no_front : (r : Lexing) → r ≡ with_front [] r
no_front (Ok ts) = refl
no_front (Err e) = refl

-- one text behind the other
pub joined : (C D : List ℕ → Type 0) (i j o m : ℕ) (a b : List ℕ) (ps qs : List Piece) → Lexes C i j m a ps → Lexes D j o m b qs → ((rest : List ℕ) → D rest → C (b ++ rest)) → Lexes D i o m (a ++ b) (ps ++ qs)
joined C D i j o m a b ps qs f g h before rest base d lim =
    let one = f before (b ++ rest) base (h rest d) lim in
    let two = g (before ++ a) rest base d lim in
    let source = before ++ ((a ++ b) ++ rest) in
    let s1 : source ≡ before ++ (a ++ (b ++ rest)) = ap (λ xs. before ++ xs) (append_assoc a b rest) in
    let s2 : source ≡ (before ++ a) ++ (b ++ rest) = s1 ∙ sym (append_assoc before a (b ++ rest)) in
    let to : (before ++ a) ++ b ≡ before ++ (a ++ b) = append_assoc before a b in (
      one.0 ++ two.0,
      ap (lex_from 0 (base + i) (length before)) (append_assoc a b rest) ∙ one.1 ∙ ap (with_front one.0) two.1 ∙ fronts one.0 two.0 (lex_from 0 (base + o) (length ((before ++ a) ++ b)) rest) ∙ ap (λ xs. with_front (one.0 ++ two.0) (lex_from 0 (base + o) (length xs) rest)) to,
      map-append (piece_of source) one.0 two.0 ∙ (λ k. (ap (λ xs. map (piece_of xs) one.0) s1 ∙ one.2) k ++ (ap (λ xs. map (piece_of xs) two.0) s2 ∙ two.2) k),
    )

-- what needs less room fits more
pub roomier : (C : List ℕ → Type 0) (i o m n : ℕ) (a : List ℕ) (ps : List Piece) → m ≤ n → Lexes C i o m a ps → Lexes C i o n a ps
roomier C i o m n a ps le f before rest base d lim = f before rest base d (omega (arith, le, lim))

-- what is lexed by itself is so inside of brackets
pub inside : (C : List ℕ → Type 0) (m : ℕ) (a : List ℕ) (ps : List Piece) → Lexes C 0 0 m a ps → Lexes C 1 1 (m + 1) a ps
inside C m a ps f before rest base d lim =
    let g = f before rest (base + 1) d (omega (arith, lim)) in
    let same : base + 1 + 0 ≡ base + 1 = omega arith in
    (g.0, ap (λ k. lex_from 0 k (length before) (a ++ rest)) (sym same) ∙ g.1 ∙ ap (λ k. with_front g.0 (lex_from 0 k (length (before ++ a)) rest)) same, g.2)

-- a part may be followed by less
pub before_less : (C D : List ℕ → Type 0) (i o m : ℕ) (a : List ℕ) (ps : List Piece) → ((rest : List ℕ) → D rest → C rest) → Lexes C i o m a ps → Lexes D i o m a ps
before_less C D i o m a ps h f before rest base d lim = f before rest base (h rest d) lim

-- a token
pub token_lexes : (k : Kind) (c : ℕ) (cs : List ℕ) (C : List ℕ → Type 0) (i o m : ℕ) → ((rest : List ℕ) → C rest → Begins k (suc (length cs)) (c ∷ (cs ++ rest)))
    → ((base : ℕ) → base + m ≤ 250 → ((is_opening c && nat_le 250 (base + i)) ≡ false) × (depth_after (base + i) c ≡ base + o)) → Lexes C i o m (c ∷ cs) (piece k (c ∷ cs) ∷ [])
token_lexes k c cs C i o m f g before rest base d lim =
    let at = length before in
    let n = suc (length cs) in
    let t : Token = record { kind = k; from = at; to = at + n } in
    let nested = g base lim in
    let len = length-append before (c ∷ cs) in
    let to : at + n ≡ length (before ++ c ∷ cs) = omega (arith, len) in
    let size : at + n - at ≡ n = omega arith in
    let source = before ++ ((c ∷ cs) ++ rest) in
    let text : bytes_of source t ≡ c ∷ cs = ap (λ j. take j (drop at source)) size ∙ ap (take n) (drop_whole before ((c ∷ cs) ++ rest)) ∙ take_whole (c ∷ cs) rest in (
      t ∷ [],
      read_whole k c cs rest at (base + i) (f rest d) nested.0 ∙ ap (λ e. with_front (t ∷ []) (lex_from 0 e (at + n) rest)) nested.1 ∙ ap (λ j. with_front (t ∷ []) (lex_from 0 (base + o) j rest)) to,
      ap (λ xs. piece k xs ∷ []) text,
    )

-- a byte that is no bracket
pub plain : (c i m : ℕ) → is_opening c ≡ false → is_closing c ≡ false → (base : ℕ) → base + m ≤ 250 → ((is_opening c && nat_le 250 (base + i)) ≡ false) × (depth_after (base + i) c ≡ base + i)
plain c i m e f base lim =
    (ap (λ b. b && nat_le 250 (base + i)) e, ap (λ b. if b then base + i + 1 else if is_closing c then base + i - 1 else base + i) e ∙ ap (λ b. if b then base + i - 1 else base + i) f)

-- a space
pub blank : (i m : ℕ) → Lexes Always i i m (codes " ") []
blank i m before rest base d lim =
    let len = length-append before (codes " ") in
    let to : length before + 1 ≡ length (before ++ codes " ") = omega (arith, len) in
    ([], ap (λ j. lex_from 0 (base + i) j rest) to ∙ no_front (lex_from 0 (base + i) (length (before ++ codes " ")) rest), refl)

semicolon : (i m : ℕ) → Lexes Always i i m (codes "; ") (mark_piece (codes ";") ∷ [])
semicolon i m = joined Always Always i i i m (codes ";") (codes " ") (mark_piece (codes ";") ∷ []) [] (token_lexes kind.Mark 59 [] Always i i m (λ rest d. refl) (plain 59 i m refl refl)) (blank i m) (λ rest d. tt)

comma : (i m : ℕ) → Lexes Always i i m (codes ", ") (mark_piece (codes ",") ∷ [])
comma i m = joined Always Always i i i m (codes ",") (codes " ") (mark_piece (codes ",") ∷ []) [] (token_lexes kind.Mark 44 [] Always i i m (λ rest d. refl) (plain 44 i m refl refl)) (blank i m) (λ rest d. tt)

dot : (i m : ℕ) → Lexes Always i i m (codes ". ") (mark_piece (codes ".") ∷ [])
dot i m = joined Always Always i i i m (codes ".") (codes " ") (mark_piece (codes ".") ∷ []) [] (token_lexes kind.Mark 46 [] Always i i m (λ rest d. refl) (plain 46 i m refl refl)) (blank i m) (λ rest d. tt)

abbrev NoEquals : List ℕ → Type 0
NoEquals rest = starts_with nat_eq rest (codes "=") ≡ false

colon_front : (rest : List ℕ) → NoEquals rest → Begins kind.Mark 1 (58 ∷ rest)
colon_front rest d = rw d refl

pub colon : (i m : ℕ) → Lexes Always i i m (codes ": ") (mark_piece (codes ":") ∷ [])
colon i m = joined NoEquals Always i i i m (codes ":") (codes " ") (mark_piece (codes ":") ∷ []) [] (token_lexes kind.Mark 58 [] NoEquals i i m colon_front (plain 58 i m refl refl)) (blank i m) (λ rest d. refl)

pub turnstile : (i m : ℕ) → Lexes Always i i m (codes ">- ") (mark_piece (codes ">-") ∷ [])
turnstile i m = joined Always Always i i i m (codes ">-") (codes " ") (mark_piece (codes ">-") ∷ []) [] (token_lexes kind.Mark 62 (45 ∷ []) Always i i m (λ rest d. refl) (plain 62 i m refl refl)) (blank i m) (λ rest d. tt)

-- an opening bracket, where there is room for one more
opened : (c m : ℕ) → 1 ≤ m → is_opening c ≡ true → (base : ℕ) → base + m ≤ 250 → ((is_opening c && nat_le 250 (base + 0)) ≡ false) × (depth_after (base + 0) c ≡ base + 1)
opened c m some e base lim =
    let shallow : nat_le 250 (base + 0) ≡ false = grind (arith, nat_tests, some, lim) in
    let one : base + 0 + 1 ≡ base + 1 = omega arith in
    (ap (λ b. b && nat_le 250 (base + 0)) e ∙ shallow, ap (λ b. if b then base + 0 + 1 else if is_closing c then base + 0 - 1 else base + 0) e ∙ one)

closed : (c m : ℕ) → is_opening c ≡ false → is_closing c ≡ true → (base : ℕ) → base + m ≤ 250 → ((is_opening c && nat_le 250 (base + 1)) ≡ false) × (depth_after (base + 1) c ≡ base + 0)
closed c m e f base lim =
    let less : base + 1 - 1 ≡ base + 0 = omega arith in
    (ap (λ b. b && nat_le 250 (base + 1)) e, ap (λ b. if b then base + 1 + 1 else if is_closing c then base + 1 - 1 else base + 1) e ∙ ap (λ b. if b then base + 1 - 1 else base + 1) f ∙ less)

pub open_bracket : (m : ℕ) → 1 ≤ m → Lexes Always 0 1 m (codes "[") (mark_piece (codes "[") ∷ [])
open_bracket m some = token_lexes kind.Mark 91 [] Always 0 1 m (λ rest d. refl) (opened 91 m some refl)

pub close_bracket : (m : ℕ) → Lexes Always 1 0 m (codes "]") (mark_piece (codes "]") ∷ [])
close_bracket m = token_lexes kind.Mark 93 [] Always 1 0 m (λ rest d. refl) (closed 93 m refl refl)

open_brace : (m : ℕ) → 1 ≤ m → Lexes Always 0 1 m (codes "{") (mark_piece (codes "{") ∷ [])
open_brace m some = token_lexes kind.Mark 123 [] Always 0 1 m (λ rest d. refl) (opened 123 m some refl)

close_brace : (m : ℕ) → Lexes Always 1 0 m (codes "}") (mark_piece (codes "}") ∷ [])
close_brace m = token_lexes kind.Mark 125 [] Always 1 0 m (λ rest d. refl) (closed 125 m refl refl)

small_opens : (c : ℕ) → is_small c ≡ true → is_opening c ≡ false
small_opens c h = grind (arith, nat_tests, h)

small_closes : (c : ℕ) → is_small c ≡ true → is_closing c ≡ false
small_closes c h = grind (arith, nat_tests, h)

-- a name
pub small_lexes : (i m : ℕ) (cs : List ℕ) → is_name is_small cs ≡ true → Lexes Stops i i m cs (piece kind.Small cs ∷ [])
small_lexes i m [] h = absurd (true≢false (sym h))
small_lexes i m (c ∷ cs) h =
    let small = (name_parts is_small c cs h).0 in
    token_lexes kind.Small c cs Stops i i m (λ rest d. small_begins c cs rest h d) (plain c i m (small_opens c small) (small_closes c small))

pub name_lexes : (i m l : ℕ) → l < most_levels → Lexes Stops i i m (name_text l) (name_piece l ∷ [])
name_lexes i m l lt = small_lexes i m (name_text l) (small-name_text l (omega (arith, lt)))

-- a variable
pub variable_lexes : (i m l : ℕ) → l < most_levels → Lexes Stops i i m (codes "'" ++ name_text l) (piece kind.SmallVar (39 ∷ name_text l) ∷ [])
variable_lexes i m l lt = token_lexes kind.SmallVar 39 (name_text l) Stops i i m (λ rest d. variable_begins (name_text l) rest (small-name_text l (omega (arith, lt))) d) (plain 39 i m refl refl)

digit_opens : (c : ℕ) → is_digit c ≡ true → is_opening c ≡ false
digit_opens c h = grind (arith, nat_tests, h)

digit_closes : (c : ℕ) → is_digit c ≡ true → is_closing c ≡ false
digit_closes c h = grind (arith, nat_tests, h)

digits_lex : (i m : ℕ) (cs : List ℕ) → list_all is_digit cs ≡ true → 0 < length cs → is_number cs ≡ true → Lexes Stops i i m cs (piece kind.Num cs ∷ [])
digits_lex i m [] h some n = absurd (omega (arith, some))
digits_lex i m (c ∷ cs) h some n =
    let digit = (and_parts (is_digit c) (list_all is_digit cs) h).0 in
    token_lexes kind.Num c cs Stops i i m (λ rest d. digits_begin c cs rest h n d) (plain c i m (digit_opens c digit) (digit_closes c digit))

minus_lexes : (i m : ℕ) (cs : List ℕ) → list_all is_digit cs ≡ true → 0 < length cs → is_number (45 ∷ cs) ≡ true → Lexes Stops i i m (45 ∷ cs) (piece kind.Num (45 ∷ cs) ∷ [])
minus_lexes i m [] h some n = absurd (omega (arith, some))
minus_lexes i m (c ∷ cs) h some n = token_lexes kind.Num 45 (c ∷ cs) Stops i i m (λ rest d. negative_begins c cs rest h n d) (plain 45 i m refl refl)

-- a number
pub number_lexes : (i m : ℕ) (z : ℤ) → fits_i64 z ≡ true → Lexes Stops i i m (signed_decimal z) (piece kind.Num (signed_decimal z) ∷ [])
number_lexes i m (pos n) h =
    let wide : n < 2 ^ 64 = grind (arith, nat_tests, h) in
    digits_lex i m (decimal n) (digits_of-decimal n wide) (decimal_nonempty n wide) (is_number-signed_decimal (pos n) h)
number_lexes i m (negsuc n) h =
    let wide : suc n < 2 ^ 64 = grind (arith, nat_tests, h) in
    minus_lexes i m (decimal (suc n)) (digits_of-decimal (suc n) wide) (decimal_nonempty (suc n) wide) (is_number-signed_decimal (negsuc n) h)

-- a string
pub string_lexes : (i m : ℕ) (text : List ℕ) → is_text kind.Str (quoted text) ≡ true → Lexes Always i i m (quoted text) (piece kind.Str (quoted text) ∷ [])
string_lexes i m text h =
    let cs = escaped text ++ 34 ∷ [] in
    let len = length-append (escaped text) (34 ∷ []) in
    token_lexes kind.Str 34 cs Always i i m
    (λ rest d. string_begins cs rest h (ap (string_len false) (append_assoc (escaped text) (34 ∷ []) rest) ∙ string_len-escaped text rest ∙ sym len))
    (plain 34 i m refl refl)

-- each text of a list is lexed as its pieces inside of a bracket
abbrev pub AllLex : ℕ → List (List ℕ) → List (List Piece) → Type 0
AllLex m [] [] = Unit {0}
AllLex m [] (q ∷ qs) = ⊥
AllLex m (t ∷ ts) [] = ⊥
AllLex m (t ∷ ts) (q ∷ qs) = Lexes Stops 1 1 m t q × AllLex m ts qs

pub nothing : (m : ℕ) → Lexes Stops 0 0 m [] []
nothing m before rest base d lim =
    let same : length before ≡ length (before ++ []) = ap length (sym (append-nil before)) in
    ([], ap (λ j. lex_from 0 (base + 0) j rest) same ∙ no_front (lex_from 0 (base + 0) (length (before ++ [])) rest), refl)

module _ (m : ℕ) (begin close : List ℕ) (opening closing : Piece) (opens : Lexes Always 0 1 m begin (opening ∷ [])) (closes : Lexes Always 1 0 m close (closing ∷ [])) (begins : (rest : List ℕ) → Stops (begin ++ rest)) (ends : (rest : List ℕ) → Stops (close ++ rest)) where
  stops_further : (ts : List (List ℕ)) (rest : List ℕ) → Stops (further_text close ts ++ rest)
  stops_further [] rest = ends rest
  stops_further (t ∷ ts) rest = refl

  further_lexes : (ts : List (List ℕ)) (qs : List (List Piece)) → AllLex m ts qs → Lexes Always 1 0 m (further_text close ts) (further_pieces closing qs)
  further_lexes [] [] h = closes
  further_lexes [] (q ∷ qs) h = absurd h
  further_lexes (t ∷ ts) [] h = absurd h
  further_lexes (t ∷ ts) (q ∷ qs) h =
      joined Stops Always 1 1 0 m (codes "; " ++ t) (further_text close ts) (mark_piece (codes ";") ∷ q) (further_pieces closing qs)
      (joined Always Stops 1 1 1 m (codes "; ") t (mark_piece (codes ";") ∷ []) q (semicolon 1 m) h.0 (λ rest d. tt))
      (further_lexes ts qs h.1) (λ rest d. stops_further ts rest)

  pub list_lexes : (ts : List (List ℕ)) (qs : List (List Piece)) → AllLex m ts qs → Lexes Stops 0 0 m (list_text begin close ts) (list_pieces opening closing qs)
  list_lexes [] [] h = nothing m
  list_lexes [] (q ∷ qs) h = absurd h
  list_lexes (t ∷ ts) [] h = absurd h
  list_lexes (t ∷ ts) (q ∷ qs) h =
      before_less Always Stops 0 0 m (begin ++ t ++ further_text close ts) (opening ∷ (q ++ further_pieces closing qs)) (λ rest d. tt)
      (joined Stops Always 0 1 0 m (begin ++ t) (further_text close ts) (opening ∷ q) (further_pieces closing qs)
      (joined Always Stops 0 1 1 m begin t (opening ∷ []) q opens h.0 (λ rest d. tt))
      (further_lexes ts qs h.1) (λ rest d. stops_further ts rest))

  stops_list : (ts : List (List ℕ)) (rest : List ℕ) → Stops rest → Stops (list_text begin close ts ++ rest)
  stops_list [] rest d = d
  stops_list (t ∷ ts) rest d =
      subst Stops (sym (append_assoc (begin ++ t) (further_text close ts) rest ∙ append_assoc begin t (further_text close ts ++ rest))) (begins (t ++ (further_text close ts ++ rest)))

stops_binders : (n l : ℕ) (rest : List ℕ) → Stops (further_binders_text l n ++ rest)
stops_binders zero l rest = refl
stops_binders (suc n) l rest = refl

further_binders_lex : (i m n l : ℕ) → l + n ≤ most_levels → Lexes Always i i m (further_binders_text l n) (further_binder_pieces l n)
further_binders_lex i m zero l w = dot i m
further_binders_lex i m (suc n) l w =
    joined Stops Always i i i m (codes ", " ++ name_text l) (further_binders_text (l + 1) n) (mark_piece (codes ",") ∷ name_piece l ∷ []) (further_binder_pieces (l + 1) n)
    (joined Always Stops i i i m (codes ", ") (name_text l) (mark_piece (codes ",") ∷ []) (name_piece l ∷ []) (comma i m) (name_lexes i m l (omega (arith, w))) (λ rest d. tt))
    (further_binders_lex i m n (l + 1) (omega (arith, w))) (λ rest d. stops_binders n (l + 1) rest)

-- binders before what they bind
pub bound_by : (m n s : ℕ) (body : List ℕ) (ps : List Piece) → s + n ≤ most_levels → Lexes Stops 0 0 m body ps → Lexes Stops 0 0 m (binders_text s n ++ body) (binder_pieces s n ++ ps)
bound_by m zero s body ps w f = f
bound_by m (suc n) s body ps w f =
    joined Always Stops 0 0 0 m (name_text s ++ further_binders_text (s + 1) n) body (name_piece s ∷ further_binder_pieces (s + 1) n) ps
    (joined Stops Always 0 0 0 m (name_text s) (further_binders_text (s + 1) n) (name_piece s ∷ []) (further_binder_pieces (s + 1) n) (name_lexes 0 m s (omega (arith, w))) (further_binders_lex 0 m n (s + 1) (omega (arith, w))) (λ rest d. stops_binders n (s + 1) rest))
    f (λ rest d. tt)

module _ (names : List (List ℕ)) where
  param_lexes : (i m : ℕ) (p : Param) → is_written_param names p ≡ true → Lexes Stops i i m (param_text names p) (param_piece names p ∷ [])
  param_lexes i m (Num z) h = number_lexes i m z h
  param_lexes i m (Str sym) h =
      let text = text_of names sym.0 in
      before_less Always Stops i i m (quoted text) (piece kind.Str (quoted text) ∷ []) (λ rest d. tt) (string_lexes i m text (and_parts (nat_lt sym.0 (length names)) (is_text kind.Str (quoted text)) h).1)

  all_params : (m : ℕ) (ps : List Param) → list_all (is_written_param names) ps ≡ true → AllLex m (map (param_text names) ps) (each_param names ps)
  all_params m [] h = tt
  all_params m (p ∷ ps) h =
      let both = and_parts (is_written_param names p) (list_all (is_written_param names) ps) h in
      (param_lexes 1 m p both.0, all_params m ps both.1)

  abbrev Lexed : Term → Type 0
  Lexed t = (s m : ℕ) → Fits names s m t → Lexes Stops 0 0 m (term_text names t s) (term_pieces names t s)

  abbrev LexesPair : ℕ → List ℕ × List Piece → Type 0
  LexesPair m p = Lexes Stops 0 0 m p.0 p.1

  lexed_var : (l : ℕ) → Lexed (Var l)
  lexed_var l s m h =
      let lt = var_fits names l s m h in
      let n = h.narrow in
      subst (LexesPair m) (λ i. (sym (text-Var names l s) i, sym (pieces-Var names l s) i)) (variable_lexes 0 m l (omega (arith, lt, n)))

  a_bound : (k : Bound) → Lexed k.body → (s m : ℕ) → FitBound names s m k → Lexes Stops 0 0 m (bound_text names k s) (bound_pieces names k s)
  a_bound k f s m h =
      let n = h.body.narrow in
      subst (LexesPair m) (λ i. (sym (bound_text-is names k s) i, sym (bound_pieces-is names k s) i))
      (bound_by m k.binders s (term_text names k.body (s + k.binders)) (term_pieces names k.body (s + k.binders)) (omega (arith, n)) (f (s + k.binders) m h.body))

  all_subs : (ks : List Bound) → OfEachBody Lexed ks → (s m n : ℕ) → m + 1 ≤ n → FitBounds names s m ks → AllLex n (map (text_at_scope s) (map (bound_text names) ks)) (map (pieces_at s) (map (bound_pieces names) ks))
  all_subs [] f s m n le h = tt
  all_subs (k ∷ ks) f s m n le h = (
    roomier Stops 1 1 (m + 1) n (bound_text names k s) (bound_pieces names k s) le (inside Stops m (bound_text names k s) (bound_pieces names k s) (a_bound k f.0 s m (first_sub names k ks s m h))),
    all_subs ks f.1 s m n le (further_subs names k ks s m h),
  )

  lexed_op : (o : Sym) (ps : List Param) (ks : List Bound) → OfEachBody Lexed ks → Lexed (Op o ps ks)
  lexed_op o ps ks f s m h =
      let some = some_depth names o ps ks s m h in
      let params = map (param_text names) ps in
      let subs = map (text_at_scope s) (map (bound_text names) ks) in
      let sub_pieces = map (pieces_at s) (map (bound_pieces names) ks) in
      let b = mark_piece (codes "[") in let c = mark_piece (codes "]") in let d = mark_piece (codes "{") in let e = mark_piece (codes "}") in
      let name = text_of names o.0 in
      let head = piece kind.Small name in
      let all = joined Stops Stops 0 0 0 m (name ++ list_text (codes "[") (codes "]") params) (list_text (codes "{") (codes "}") subs) (head ∷ list_pieces b c (each_param names ps)) (list_pieces d e sub_pieces)
      (joined Stops Stops 0 0 0 m name (list_text (codes "[") (codes "]") params) (head ∷ []) (list_pieces b c (each_param names ps)) (small_lexes 0 m name (op_named names o ps ks s m h))
      (list_lexes m (codes "[") (codes "]") b c (open_bracket m some) (close_bracket m) (λ rest. refl) (λ rest. refl) params (each_param names ps) (all_params m ps (op_params names o ps ks s m h).1))
      (λ rest st. stops_list m (codes "[") (codes "]") b c (open_bracket m some) (close_bracket m) (λ rest. refl) (λ rest. refl) params rest st))
      (list_lexes m (codes "{") (codes "}") d e (open_brace m some) (close_brace m) (λ rest. refl) (λ rest. refl) subs sub_pieces (all_subs ks f s (m - 1) m (omega (arith, some)) (op_subs names o ps ks s m h)))
      (λ rest st. stops_list m (codes "{") (codes "}") d e (open_brace m some) (close_brace m) (λ rest. refl) (λ rest. refl) subs rest st) in
      subst (LexesPair m) (λ i. (sym (text-Op names o ps ks s) i, sym (pieces-Op names o ps ks s) i)) all

  -- a printed term is lexed as its pieces
  pub term_lexes : (t : Term) → Lexed t
  term_lexes = each_term Lexed lexed_var lexed_op

  a_hyp : (l : ℕ) (t : Term) → Fits names l 200 t → Lexes Stops 0 0 200 (hyp_text names l t) (hyp_pieces names l t)
  a_hyp l t h =
      let n = h.narrow in
      joined Always Stops 0 0 0 200 (name_text l ++ codes ": ") (term_text names t l) (name_piece l ∷ mark_piece (codes ":") ∷ []) (term_pieces names t l)
      (joined Stops Always 0 0 0 200 (name_text l) (codes ": ") (name_piece l ∷ []) (mark_piece (codes ":") ∷ []) (name_lexes 0 200 l (omega (arith, n))) (colon 0 200) (λ rest d. refl))
      (term_lexes t l 200 h) (λ rest d. tt)

  stops_hyps : (ts : List Term) (l : ℕ) (rest : List ℕ) → Stops ((further_hyps_text names l ts ++ codes ">- ") ++ rest)
  stops_hyps [] l rest = refl
  stops_hyps (t ∷ ts) l rest = refl

  further_hyps_lex : (ts : List Term) (l : ℕ) → FitHyps names l ts → Lexes Always 0 0 200 (further_hyps_text names l ts ++ codes ">- ") (further_hyp_pieces names l ts)
  further_hyps_lex [] l h = joined Always Always 0 0 0 200 (codes " ") (codes ">- ") [] (mark_piece (codes ">-") ∷ []) (blank 0 200) (turnstile 0 200) (λ rest d. tt)
  further_hyps_lex (t ∷ ts) l h =
      subst (λ xs. Lexes Always 0 0 200 xs (further_hyp_pieces names l (t ∷ ts))) (sym (append_assoc (codes "; " ++ hyp_text names l t) (further_hyps_text names (l + 1) ts) (codes ">- ")))
      (joined Stops Always 0 0 0 200 (codes "; " ++ hyp_text names l t) (further_hyps_text names (l + 1) ts ++ codes ">- ") (mark_piece (codes ";") ∷ hyp_pieces names l t) (further_hyp_pieces names (l + 1) ts)
      (joined Always Stops 0 0 0 200 (codes "; ") (hyp_text names l t) (mark_piece (codes ";") ∷ []) (hyp_pieces names l t) (semicolon 0 200) (a_hyp l t h.0) (λ rest d. tt))
      (further_hyps_lex ts (l + 1) h.1) (λ rest d. stops_hyps ts (l + 1) rest))

  hyps_lex : (ts : List Term) → FitHyps names 0 ts → Lexes Always 0 0 200 (hyps_text names ts ++ codes ">- ") (hyps_pieces names ts)
  hyps_lex [] h = turnstile 0 200
  hyps_lex (t ∷ ts) h =
      subst (λ xs. Lexes Always 0 0 200 xs (hyps_pieces names (t ∷ ts))) (sym (append_assoc (hyp_text names 0 t) (further_hyps_text names 1 ts) (codes ">- ")))
      (joined Stops Always 0 0 0 200 (hyp_text names 0 t) (further_hyps_text names 1 ts ++ codes ">- ") (hyp_pieces names 0 t) (further_hyp_pieces names 1 ts)
      (a_hyp 0 t h.0) (further_hyps_lex ts 1 h.1) (λ rest d. stops_hyps ts 1 rest))

  -- a printed sequent is lexed as its pieces
  pub sequent_lexes : (s : Sequent) → FitHyps names 0 s.hyps → Fits names (length s.hyps) 200 s.concl → Lexes Stops 0 0 200 (sequent_text names s) (sequent_pieces names s)
  sequent_lexes s h k =
      joined Always Stops 0 0 0 200 (hyps_text names s.hyps ++ codes ">- ") (term_text names s.concl (length s.hyps)) (hyps_pieces names s.hyps) (term_pieces names s.concl (length s.hyps))
      (hyps_lex s.hyps h) (term_lexes s.concl (length s.hyps) 200 k) (λ rest d. tt)

-- what is lexed before each rest is so by itself
pub whole_lexes : (m : ℕ) (text : List ℕ) (ps : List Piece) → m ≤ 250 → Lexes Stops 0 0 m text ps → (ts : List Token) × (lex text ≡ Ok ts) × (pieces_of text ts ≡ ps)
whole_lexes m text ps le f =
    let g = f [] [] 0 refl (omega (arith, le)) in
    let whole = append-nil text in
    (g.0, ap (lex_from 0 0 0) (sym whole) ∙ g.1 ∙ ap (λ (us : List Token). Ok us) (append-nil g.0), ap (λ xs. map (piece_of xs) g.0) (sym whole) ∙ g.2)

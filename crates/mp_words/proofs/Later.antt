-- Words by the table of names that is left at the end.
use Rattle.std.proofs.Common.{◌≡◌, ℕ, List, [], ◌∷◌, ◌++◌, map, drop, Bool, true, false, ◌||◌, Option, Some, None, if◌then◌else◌, refl, sym, ap, ◌∙◌, append-nil, ◌+◌}
use Rattle.mp_logic.specs.declared.sym.Sym.{Sym}
use Rattle.mp_names.specs.Table.{is_same, is_held, entered, number_of, Extends}
use Rattle.mp_names.proofs.Tables.{same_self, held_from_number, number_entered, entered_extends, extends_on}
use Rattle.mp_lex.specs.declared.token.Kind.{Kind}
use Rattle.mp_lex.specs.declared.token.Kind.TheVariants as kind
use Rattle.mp_words.specs.declared.word.What.TheVariants as what
use Rattle.mp_lex.specs.declared.token.Token.{Token}
use Rattle.mp_words.specs.Words.{Piece, content_of, entered_if, keyword_of, name_of, names_after, names_with, numbered_of, piece_of, pieces_of, sym_of, what_in, what_of, whats_of, word_of, words_in}

-- a name that is held keeps its number where further names are entered
pub number_of_more : (names more : List (List ℕ)) (name : List ℕ) → is_held names name ≡ true → number_of (names ++ more) name ≡ number_of names name
number_of_more [] more name h = absurd cc
number_of_more (n ∷ names) more name h = by (is_same name n) (number_of_more names more name) h
  where
    by : (b : Bool) → (is_held names name ≡ true → number_of (names ++ more) name ≡ number_of names name) → (b || is_held names name) ≡ true
        → (if b then 0 else 1 + number_of (names ++ more) name) ≡ (if b then 0 else 1 + number_of names name)
    by true r g = refl
    by false r g = ap (λ k. 1 + k) (r g)

-- a name at the end of a table changes the number of no name that it is
number_of_last : (names : List (List ℕ)) (name : List ℕ) → number_of (names ++ name ∷ []) name ≡ number_of names name
number_of_last [] name = let e = same_self name in rw e refl
number_of_last (n ∷ names) name = by (is_same name n) (number_of_last names name)
  where
    by : (b : Bool) → number_of (names ++ name ∷ []) name ≡ number_of names name → (if b then 0 else 1 + number_of (names ++ name ∷ []) name) ≡ (if b then 0 else 1 + number_of names name)
    by true r = refl
    by false r = ap (λ k. 1 + k) r

-- the number that a name will have is the one that it has once it is entered
pub number_of_entered : (names : List (List ℕ)) (name : List ℕ) → number_of (entered names name) name ≡ number_of names name
number_of_entered names name = by (is_held names name)
  where
    by : (b : Bool) → number_of (if b then names else names ++ name ∷ []) name ≡ number_of names name
    by true = refl
    by false = number_of_last names name

-- an entered name is held
held_entered : (names : List (List ℕ)) (name : List ℕ) → is_held (entered names name) name ≡ true
held_entered names name = held_from_number (entered names name) (number_of names name) name (number_entered names name)

-- a name keeps its number from the table that it is entered into to one that extends that table
number_later : (names more : List (List ℕ)) (name : List ℕ) → number_of (entered names name ++ more) name ≡ number_of names name
number_later names more name = number_of_more (entered names name) more name (held_entered names name) ∙ number_of_entered names name

abbrev sym_later : (names more : List (List ℕ)) (name : List ℕ) → sym_of (entered names name ++ more) name ≡ sym_of names name
sym_later names more name = ap (λ k. let s : Sym = record { 0 = k } in s) (number_later names more name)

-- what a token is is the same by each table that extends the one behind it
what_later : (names more : List (List ℕ)) (k : Kind) (text : List ℕ) → what_in (entered_if names (name_of k text) ++ more) k text ≡ what_in names k text
what_later names more kind.Small text = ap (λ s. what.Small s (keyword_of text)) (sym_later names more text)
what_later names more kind.Cap text = ap (λ s. what.Cap s) (sym_later names more text)
what_later names more kind.SmallVar text = ap (λ s. what.SmallVar s (numbered_of (drop 1 text))) (sym_later names more (drop 1 text))
what_later names more kind.CapVar text = ap (λ s. what.CapVar s) (sym_later names more (drop 1 text))
what_later names more kind.Num text = refl
what_later names more kind.Str text = ap (λ s. what.Str s) (sym_later names more (content_of text))
what_later names more kind.Mark text = refl

names_with_extends : (names : List (List ℕ)) (name : Option (List ℕ)) → Extends names (entered_if names name)
names_with_extends names None = ([], sym (append-nil names))
names_with_extends names (Some name) = entered_extends names name

-- pieces extend the table of names
pub names_after_extends : (names : List (List ℕ)) (ps : List Piece) → Extends names (names_after names ps)
names_after_extends names [] = ([], sym (append-nil names))
names_after_extends names (p ∷ ps) = extends_on names (names_with names p) (names_after (names_with names p) ps) (names_with_extends names (name_of p.kind p.text)) (names_after_extends (names_with names p) ps)

-- what pieces are is so by the table that they leave
pub whats_by_last : (names : List (List ℕ)) (ps : List Piece) → whats_of names ps ≡ map (what_of (names_after names ps)) ps
whats_by_last names [] = refl
whats_by_last names (p ∷ ps) =
    let (more, e) = names_after_extends (names_with names p) ps in
    let here : what_of (names_after names (p ∷ ps)) p ≡ what_of names p = ap (λ ns. what_of ns p) e ∙ what_later names more p.kind p.text in
    let rest = whats_by_last (names_with names p) ps in
    ap (λ w. w ∷ whats_of (names_with names p) ps) (sym here) ∙ ap (λ ws. what_of (names_after names (p ∷ ps)) p ∷ ws) rest

-- what the words of a text are is what its pieces are
pub whats_in : (names : List (List ℕ)) (source : List ℕ) (ts : List Token) → map (λ w. w.what) (words_in names source ts) ≡ whats_of names (pieces_of source ts)
whats_in names source [] = refl
whats_in names source (t ∷ ts) = ap (λ ws. what_of names (piece_of source t) ∷ ws) (whats_in (names_with names (piece_of source t)) source ts)

-- one token more
pub words_last : (names : List (List ℕ)) (source : List ℕ) (ts : List Token) (t : Token) → words_in names source (ts ++ t ∷ []) ≡ words_in names source ts ++ word_of (names_after names (pieces_of source ts)) source t ∷ []
words_last names source [] t = refl
words_last names source (u ∷ ts) t = ap (λ ws. word_of names source u ∷ ws) (words_last (names_with names (piece_of source u)) source ts t)

pub names_last : (names : List (List ℕ)) (source : List ℕ) (ts : List Token) (t : Token) → names_after names (pieces_of source (ts ++ t ∷ [])) ≡ names_with (names_after names (pieces_of source ts)) (piece_of source t)
names_last names source [] t = refl
names_last names source (u ∷ ts) t = names_last (names_with names (piece_of source u)) source ts t

-- Names that a table holds, and the words of pieces by it.
use Rattle.std.proofs.Common.{◌≡◌, ◌++◌, ◌<◌, ℕ, List, [], ◌∷◌, Option, None, Some, true, slice_get, length, ap, sym, subst, ◌∙◌, inl, inr, arith}
use Rattle.std.proofs.lemmas.Option.{slice_get_cases}
use Rattle.mp_logic.specs.declared.sym.Sym.{Sym}
use Rattle.mp_names.specs.Table.{AreDistinct, Extends, HasNumber, entered, is_held, number_of, or_empty, text_of}
use Rattle.mp_names.proofs.Tables.{entered_distinct, held_from_number, number_entered, number_held, number_kept}
use Rattle.mp_words.specs.Words.{Piece, entered_if, name_of, names_after, names_with, sym_of}
use Rattle.mp_words.proofs.Later.{names_after_extends}

abbrev HeldName : List (List ℕ) → Option (List ℕ) → Type 0
HeldName table None = Unit {0}
HeldName table (Some name) = is_held table name ≡ true

-- the table holds the names of these pieces
abbrev pub AllHeld : List (List ℕ) → List Piece → Type 0
AllHeld table [] = Unit {0}
AllHeld table (p ∷ ps) = HeldName table (name_of p.kind p.text) × AllHeld table ps

pub held_front : (table : List (List ℕ)) (ps qs : List Piece) → AllHeld table (ps ++ qs) → AllHeld table ps
held_front table [] qs h = tt
held_front table (p ∷ ps) qs h = (h.0, held_front table ps qs h.1)

pub held_back : (table : List (List ℕ)) (ps qs : List Piece) → AllHeld table (ps ++ qs) → AllHeld table qs
held_back table [] qs h = h
held_back table (p ∷ ps) qs h = held_back table ps qs h.1

is_held_more : (table more : List (List ℕ)) (name : List ℕ) → is_held table name ≡ true → is_held (table ++ more) name ≡ true
is_held_more table more name h = held_from_number (table ++ more) (number_of table name) name (number_kept table more (number_of table name) name (number_held table name h))

held_later : (table later : List (List ℕ)) (name : Option (List ℕ)) → Extends table later → HeldName table name → HeldName later name
held_later table later None e h = tt
held_later table later (Some name) e h = subst (λ t. is_held t name ≡ true) (sym e.1) (is_held_more table e.0 name h)

held_with : (table : List (List ℕ)) (name : Option (List ℕ)) → HeldName (entered_if table name) name
held_with table None = tt
held_with table (Some name) = held_from_number (entered table name) (number_of table name) name (number_entered table name)

-- pieces leave a table that holds their names
pub all_held : (table : List (List ℕ)) (ps : List Piece) → AllHeld (names_after table ps) ps
all_held table [] = tt
all_held table (p ∷ ps) =
    let next = names_with table p in
    (held_later next (names_after next ps) (name_of p.kind p.text) (names_after_extends next ps) (held_with table (name_of p.kind p.text)), all_held next ps)

distinct_with : (table : List (List ℕ)) (name : Option (List ℕ)) → AreDistinct table → AreDistinct (entered_if table name)
distinct_with table None h = h
distinct_with table (Some name) h = entered_distinct table name h

-- and no name twice
pub distinct_after : (table : List (List ℕ)) (ps : List Piece) → AreDistinct table → AreDistinct (names_after table ps)
distinct_after table [] h = h
distinct_after table (p ∷ ps) h = distinct_after (names_with table p) ps (distinct_with table (name_of p.kind p.text) h)

-- a number of the table has its text
pub has_text : (names : List (List ℕ)) (at : ℕ) → at < length names → HasNumber names at (text_of names at)
has_text names at lt = elim (slice_get_cases names at).1 as (λ c. HasNumber names at (text_of names at)) [ inl e ↦ e.2 ∙ ap (λ o. Some (or_empty o)) (sym e.2) | inr e ↦ absurd (let far = e.0 in omega (arith, lt, far)) ]

-- where a number has a text, the text has that number in each later table without repetition
pub sym_again : (names table : List (List ℕ)) (s : Sym) (text : List ℕ) → Extends names table → AreDistinct table → HasNumber names s.0 text → sym_of table text ≡ s
sym_again names table s text e distinct h =
    let later : HasNumber table s.0 text = subst (λ t. HasNumber t s.0 text) (sym e.1) (number_kept names e.0 s.0 text h) in
    let same : number_of table text ≡ s.0 = distinct (number_of table text) s.0 text (number_held table text (held_from_number table s.0 text later)) later in
    (λ i. record { 0 = same i })

some_text : (o : Option (List ℕ)) (b : ℕ) (bs : List ℕ) → or_empty o ≡ b ∷ bs → o ≡ Some (b ∷ bs)
some_text None b bs h = absurd cc
some_text (Some name) b bs h = ap (λ (n : List ℕ). Some n) h

-- a text that isn't empty is in the table
pub has_name : (names : List (List ℕ)) (at b : ℕ) (bs : List ℕ) → text_of names at ≡ b ∷ bs → HasNumber names at (text_of names at)
has_name names at b bs h = some_text (slice_get names at) b bs h ∙ ap (λ (n : List ℕ). Some n) (sym h)

-- A printed step is lexed as its pieces.
use Rattle.std.proofs.Common.{◌≡◌, ℕ, ◌+◌, ◌≤◌, ◌++◌, List, [], ◌∷◌, map, length, codes, Option, None, Some, true, false, nat_le, nat_lt, ◌&&◌, refl, sym, subst, true≢false, append_assoc, arith}
use Rattle.std.specs.Prelude.{pos}
use Rattle.std.specs.List.{list_all}
use Rattle.std.specs.Fmt.{decimal}
use Rattle.std.proofs.lemmas.Bool.{and_parts}
use Rattle.std.proofs.lemmas.Bool.Decides.{nat_tests}
use Rattle.mp_names.specs.Table.{text_of}
use Rattle.mp_lex.specs.declared.token.Kind.TheVariants as kind
use Rattle.mp_lex.specs.Bytes.{is_cap, is_closing, is_opening, is_small}
use Rattle.mp_lex.specs.Forms.{is_name, is_text}
use Rattle.mp_lex.proofs.Longest.{name_parts}
use Rattle.mp_lex.proofs.Whole.{capital_begins}
use Rattle.mp_term.specs.Terms.{size_of}
use Rattle.mp_theory.specs.declared.just.Given.{Given}
use Rattle.mp_theory.specs.declared.just.Just.{Just}
use Rattle.mp_theory.specs.declared.just.Just.TheVariants as just
use Rattle.mp_theory.specs.declared.place.Place.{Place}
use Rattle.mp_theory.specs.declared.place.Place.TheVariants as place
use Rattle.mp_theory.specs.Tables.{Laws, rewrite_at, rule_at}
use Rattle.mp_words.specs.Words.{Piece}
use Rattle.mp_termtext.specs.Printing.{binders_text, list_text, term_text}
use Rattle.mp_termtext.proofs.LexedAgain.{AllLex, Always, Lexes, Stops, before_less, blank, bound_by, close_bracket, inside, joined, list_lexes, nothing, number_lexes, open_bracket, plain, small_lexes, term_lexes, token_lexes}
use Rattle.mp_termtext.proofs.PrintedPieces.{binder_pieces, mark_piece, piece, term_pieces}
use Rattle.mp_termtext.proofs.Printable.{Fits}
use Rattle.mp_steptext.specs.Printing.{address_text, all_given_text, first_text, given_text, just_text, place_text, rewrite_text, rule_text, subterm_text}
use Rattle.mp_steptext.specs.Round.{is_written_address, is_written_first, is_written_given, is_written_just, is_written_place}
use Rattle.mp_steptext.proofs.StepPieces.{address_pieces, all_given_pieces, bracketed, first_pieces, given_pieces, just_pieces, number_piece, place_pieces, subterm_pieces}

-- so many brackets are open in a step at most: one around what is given, and those of a term
abbrev deepest : ℕ
deepest = 201

abbrev Plain : List ℕ → List Piece → Type 0
Plain = Lexes Stops 0 0 deepest

-- a word and a space
spaced : (text : List ℕ) → is_name is_small text ≡ true → Lexes Always 0 0 deepest (text ++ codes " ") (piece kind.Small text ∷ [])
spaced text h = joined Stops Always 0 0 0 deepest text (codes " ") (piece kind.Small text ∷ []) [] (small_lexes 0 deepest text h) (blank 0 deepest) (λ rest d. refl)

-- a number that is counted from 1
counted : (i n : ℕ) → n ≤ 20000 → Lexes Stops i i deepest (decimal (n + 1)) (number_piece (n + 1) ∷ [])
counted i n h = let fits : nat_lt (n + 1) 9223372036854775808 ≡ true = grind (arith, nat_tests, h) in number_lexes i deepest (pos (n + 1)) fits

-- ## Lists between brackets

opens_list : Lexes Always 0 1 deepest (codes "[") (mark_piece (codes "[") ∷ [])
opens_list = open_bracket deepest (omega arith)

in_brackets : (ts : List (List ℕ)) (qs : List (List Piece)) → AllLex deepest ts qs → Plain (list_text (codes "[") (codes "]") ts) (bracketed qs)
in_brackets ts qs h = list_lexes deepest (codes "[") (codes "]") (mark_piece (codes "[")) (mark_piece (codes "]")) opens_list (close_bracket deepest) (λ rest. refl) (λ rest. refl) ts qs h

-- ## What is given

cap_opens : (c : ℕ) → is_cap c ≡ true → is_opening c ≡ false
cap_opens c h = grind (arith, nat_tests, h)

cap_closes : (c : ℕ) → is_cap c ≡ true → is_closing c ≡ false
cap_closes c h = grind (arith, nat_tests, h)

capital_lexes : (m : ℕ) (cs : List ℕ) → is_name is_cap cs ≡ true → Lexes Stops 0 0 m cs (piece kind.Cap cs ∷ [])
capital_lexes m [] h = absurd (true≢false (sym h))
capital_lexes m (c ∷ cs) h =
    let cap = (name_parts is_cap c cs h).0 in
    token_lexes kind.Cap c cs Stops 0 0 m (λ rest d. capital_begins c cs rest h d) (plain c 0 m (cap_opens c cap) (cap_closes c cap))

becomes : (m : ℕ) → Lexes Always 0 0 m (codes " := ") (mark_piece (codes ":=") ∷ [])
becomes m =
    joined Always Always 0 0 0 m (codes " :=") (codes " ") (mark_piece (codes ":=") ∷ []) []
    (joined Always Always 0 0 0 m (codes " ") (codes ":=") [] (mark_piece (codes ":=") ∷ []) (blank 0 m) (token_lexes kind.Mark 58 (61 ∷ []) Always 0 0 m (λ rest d. refl) (plain 58 0 m refl refl)) (λ rest d. tt))
    (blank 0 m) (λ rest d. tt)

module _ (names : List (List ℕ)) where
  -- a given term that is read again: its need's name is a name, and it fits below its binders
  pub record FitsGiven (g : Given) : Type 0 where
    pub named : is_text kind.Cap (text_of names g.name.0) ≡ true
    pub few : g.arity ≤ 8
    pub body : Fits names (200 + g.arity) 200 g.body
    pub small : size_of g.body ≤ 20000

  abbrev pub AllFit : List Given → Type 0
  AllFit [] = Unit {0}
  AllFit (g ∷ gs) = FitsGiven g × AllFit gs

  given_lexes : (g : Given) → FitsGiven g → Lexes Stops 0 0 200 (given_text names g) (given_pieces names g)
  given_lexes g h =
      let name = text_of names g.name.0 in
      let binders = binders_text 200 g.arity in
      let body = term_text names g.body (200 + g.arity) in
      let few = h.few in
      subst (λ xs. Lexes Stops 0 0 200 xs (given_pieces names g)) (sym (append_assoc (name ++ codes " := ") binders body))
      (joined Always Stops 0 0 0 200 (name ++ codes " := ") (binders ++ body) (piece kind.Cap name ∷ mark_piece (codes ":=") ∷ []) (binder_pieces 200 g.arity ++ term_pieces names g.body (200 + g.arity))
      (joined Stops Always 0 0 0 200 name (codes " := ") (piece kind.Cap name ∷ []) (mark_piece (codes ":=") ∷ []) (capital_lexes 200 name h.named) (becomes 200) (λ rest d. refl))
      (bound_by 200 g.arity 200 body (term_pieces names g.body (200 + g.arity)) (omega (arith, few)) (term_lexes names g.body (200 + g.arity) 200 h.body)) (λ rest d. tt))

  each_given_lexes : (gs : List Given) → AllFit gs → AllLex deepest (map (given_text names) gs) (map (given_pieces names) gs)
  each_given_lexes [] h = tt
  each_given_lexes (g ∷ gs) h = (inside Stops 200 (given_text names g) (given_pieces names g) (given_lexes g h.0), each_given_lexes gs h.1)

  all_given_lex : (gs : List Given) → AllFit gs → Plain (all_given_text (given_text names) gs) (all_given_pieces names gs)
  all_given_lex [] h = nothing deepest
  all_given_lex (g ∷ gs) h =
      let list = list_text (codes "[") (codes "]") (map (given_text names) (g ∷ gs)) in
      let pieces = bracketed (map (given_pieces names) (g ∷ gs)) in
      joined Always Stops 0 0 0 deepest (codes " with ") list (piece kind.Small (codes "with") ∷ []) pieces
      (joined Always Always 0 0 0 deepest (codes " ") (codes "with ") [] (piece kind.Small (codes "with") ∷ []) (blank 0 deepest) (spaced (codes "with") refl) (λ rest d. tt))
      (in_brackets (map (given_text names) (g ∷ gs)) (map (given_pieces names) (g ∷ gs)) (each_given_lexes (g ∷ gs) h)) (λ rest d. tt)

  stops_given : (gs : List Given) (rest : List ℕ) → Stops rest → Stops (all_given_text (given_text names) gs ++ rest)
  stops_given [] rest d = d
  stops_given (g ∷ gs) rest d = refl

-- ## Numbers

first_lexes : (first : Option ℕ) → is_written_first first ≡ true → Lexes Stops 0 0 deepest (first_text first) (first_pieces first)
first_lexes None h = nothing deepest
first_lexes (Some n) h =
    let few : n ≤ 20000 = grind (arith, nat_tests, h) in
    joined Always Stops 0 0 0 deepest (codes " at ") (decimal (n + 1)) (piece kind.Small (codes "at") ∷ []) (number_piece (n + 1) ∷ [])
    (joined Always Always 0 0 0 deepest (codes " ") (codes "at ") [] (piece kind.Small (codes "at") ∷ []) (blank 0 deepest) (spaced (codes "at") refl) (λ rest d. tt))
    (counted 0 n few) (λ rest d. tt)

stops_first : (first : Option ℕ) (rest : List ℕ) → Stops rest → Stops (first_text first ++ rest)
stops_first None rest d = d
stops_first (Some n) rest d = refl

place_lexes : (at : Place) → is_written_place at ≡ true → Plain (place_text at) (place_pieces at)
place_lexes place.Concl h = small_lexes 0 deepest (codes "concl") refl
place_lexes (place.Hyp i) h =
    let few : i ≤ 20000 = grind (arith, nat_tests, h) in
    joined Always Stops 0 0 0 deepest (codes "hyp ") (decimal (i + 1)) (piece kind.Small (codes "hyp") ∷ []) (number_piece (i + 1) ∷ []) (spaced (codes "hyp") refl) (counted 0 i few) (λ rest d. tt)

each_subterm_lexes : (is : List ℕ) → list_all (λ i. nat_lt i 20000) is ≡ true → AllLex deepest (map subterm_text is) (map subterm_pieces is)
each_subterm_lexes [] h = tt
each_subterm_lexes (i ∷ is) h =
    let both = and_parts (nat_lt i 20000) (list_all (λ j. nat_lt j 20000) is) h in
    let below = both.0 in
    (counted 1 i (grind (arith, nat_tests, below)), each_subterm_lexes is both.1)

address_lexes : (is : List ℕ) → list_all (λ i. nat_lt i 20000) is ≡ true → Plain (address_text is) (address_pieces is)
address_lexes [] h =
    before_less Always Stops 0 0 deepest (codes " []") (mark_piece (codes "[") ∷ mark_piece (codes "]") ∷ []) (λ rest d. tt)
    (joined Always Always 0 1 0 deepest (codes " [") (codes "]") (mark_piece (codes "[") ∷ []) (mark_piece (codes "]") ∷ [])
    (joined Always Always 0 0 1 deepest (codes " ") (codes "[") [] (mark_piece (codes "[") ∷ []) (blank 0 deepest) opens_list (λ rest d. tt)) (close_bracket deepest) (λ rest d. tt))
address_lexes (i ∷ is) h =
    let list = list_text (codes "[") (codes "]") (map subterm_text (i ∷ is)) in
    joined Always Stops 0 0 0 deepest (codes " ") list [] (bracketed (map subterm_pieces (i ∷ is))) (blank 0 deepest) (in_brackets (map subterm_text (i ∷ is)) (map subterm_pieces (i ∷ is)) (each_subterm_lexes (i ∷ is) h)) (λ rest d. tt)

stops_address : (is : List ℕ) (rest : List ℕ) → Stops (address_text is ++ rest)
stops_address [] rest = refl
stops_address (i ∷ is) rest = refl

-- ## Steps

module _ (names : List (List ℕ)) (t : Laws) where
  -- what is asked of a step's justification to be lexed
  abbrev pub AreFit : Just → Type 0
  AreFit (just.Rule rule first given) = AllFit names given
  AreFit (just.Rewrite rewrite at address) = Unit {0}

  -- a printed step is lexed as its pieces
  pub step_lexes : (j : Just) → is_written_just names t j ≡ true → AreFit j → Plain (just_text names t j) (just_pieces names t j)
  step_lexes (just.Rule rule first given) h fit =
      let name = rule_text names (rule_at t rule) in
      let both = and_parts (is_name is_small name) (is_written_first first && list_all (is_written_given names) given) h in
      let written = and_parts (is_written_first first) (list_all (is_written_given names) given) both.1 in
      let named = joined Always Stops 0 0 0 deepest (codes "rule ") name (piece kind.Small (codes "rule") ∷ []) (piece kind.Small name ∷ []) (spaced (codes "rule") refl) (small_lexes 0 deepest name both.0) (λ rest d. tt) in
      let placed = joined Stops Stops 0 0 0 deepest (codes "rule " ++ name) (first_text first) (piece kind.Small (codes "rule") ∷ piece kind.Small name ∷ []) (first_pieces first) named (first_lexes first written.0) (stops_first first) in
      joined Stops Stops 0 0 0 deepest (codes "rule " ++ name ++ first_text first) (all_given_text (given_text names) given) (piece kind.Small (codes "rule") ∷ piece kind.Small name ∷ first_pieces first) (all_given_pieces names given)
      placed (all_given_lex names given fit) (stops_given names given)
  step_lexes (just.Rewrite rewrite at address) h fit =
      let name = rewrite_text names (rewrite_at t rewrite) in
      let both = and_parts (is_name is_small name) (is_written_place at && is_written_address address) h in
      let written = and_parts (is_written_place at) (is_written_address address) both.1 in
      let below = (and_parts (nat_le (length address) 200) (list_all (λ i. nat_lt i 20000) address) written.1).1 in
      let named = joined Always Stops 0 0 0 deepest (codes "rw ") name (piece kind.Small (codes "rw") ∷ []) (piece kind.Small name ∷ []) (spaced (codes "rw") refl) (small_lexes 0 deepest name both.0) (λ rest d. tt) in
      let spaced_name = joined Stops Always 0 0 0 deepest (codes "rw " ++ name) (codes " ") (piece kind.Small (codes "rw") ∷ piece kind.Small name ∷ []) [] named (blank 0 deepest) (λ rest d. refl) in
      let placed = joined Always Stops 0 0 0 deepest (codes "rw " ++ name ++ codes " ") (place_text at) (piece kind.Small (codes "rw") ∷ piece kind.Small name ∷ []) (place_pieces at) spaced_name (place_lexes at written.0) (λ rest d. tt) in
      joined Stops Stops 0 0 0 deepest (codes "rw " ++ name ++ codes " " ++ place_text at) (address_text address) (piece kind.Small (codes "rw") ∷ piece kind.Small name ∷ place_pieces at) (address_pieces address)
      placed (address_lexes address below) (λ rest d. stops_address address rest)

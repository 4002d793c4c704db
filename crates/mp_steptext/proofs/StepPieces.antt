-- The pieces of a printed step.
use Rattle.std.proofs.Common.{ℕ, ◌+◌, ◌++◌, List, [], ◌∷◌, map, codes, Option, None, Some}
use Rattle.std.specs.Fmt.{decimal}
use Rattle.mp_names.specs.Table.{text_of}
use Rattle.mp_lex.specs.declared.token.Kind.TheVariants as kind
use Rattle.mp_theory.specs.declared.just.Given.{Given}
use Rattle.mp_theory.specs.declared.just.Just.{Just}
use Rattle.mp_theory.specs.declared.just.Just.TheVariants as just
use Rattle.mp_theory.specs.declared.place.Place.{Place}
use Rattle.mp_theory.specs.declared.place.Place.TheVariants as place
use Rattle.mp_theory.specs.Tables.{Laws, rewrite_at, rule_at}
use Rattle.mp_words.specs.Words.{Piece}
use Rattle.mp_termtext.proofs.PrintedPieces.{binder_pieces, list_pieces, mark_piece, piece, term_pieces}
use Rattle.mp_steptext.specs.Printing.{rewrite_text, rule_text}

abbrev pub number_piece : ℕ → Piece
number_piece n = piece kind.Num (decimal n)

abbrev pub bracketed : List (List Piece) → List Piece
bracketed = list_pieces (mark_piece (codes "[")) (mark_piece (codes "]"))

abbrev pub first_pieces : Option ℕ → List Piece
first_pieces None = []
first_pieces (Some first) = piece kind.Small (codes "at") ∷ number_piece (first + 1) ∷ []

abbrev pub given_pieces : List (List ℕ) → Given → List Piece
given_pieces names g = piece kind.Cap (text_of names g.name.0) ∷ mark_piece (codes ":=") ∷ (binder_pieces 200 g.arity ++ term_pieces names g.body (200 + g.arity))

abbrev pub all_given_pieces : List (List ℕ) → List Given → List Piece
all_given_pieces names [] = []
all_given_pieces names (g ∷ gs) = piece kind.Small (codes "with") ∷ bracketed (map (given_pieces names) (g ∷ gs))

abbrev pub place_pieces : Place → List Piece
place_pieces place.Concl = piece kind.Small (codes "concl") ∷ []
place_pieces (place.Hyp i) = piece kind.Small (codes "hyp") ∷ number_piece (i + 1) ∷ []

abbrev pub subterm_pieces : ℕ → List Piece
subterm_pieces i = number_piece (i + 1) ∷ []

abbrev pub address_pieces : List ℕ → List Piece
address_pieces [] = mark_piece (codes "[") ∷ mark_piece (codes "]") ∷ []
address_pieces (i ∷ is) = bracketed (map subterm_pieces (i ∷ is))

abbrev pub just_pieces : List (List ℕ) → Laws → Just → List Piece
just_pieces names t (just.Rule rule first given) = piece kind.Small (codes "rule") ∷ piece kind.Small (rule_text names (rule_at t rule)) ∷ (first_pieces first ++ all_given_pieces names given)
just_pieces names t (just.Rewrite rewrite at address) = piece kind.Small (codes "rw") ∷ piece kind.Small (rewrite_text names (rewrite_at t rewrite)) ∷ (place_pieces at ++ address_pieces address)

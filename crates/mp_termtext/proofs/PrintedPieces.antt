-- The pieces of a printed text, and one layer of each definition over printed terms.
use Rattle.std.proofs.Common.{◌≡◌, ℕ, zero, suc, ◌+◌, ◌++◌, List, [], ◌∷◌, map, length, codes, rules}
use Rattle.std.specs.Prelude.{Bool, nat_le, ◌&&◌}
use Rattle.std.specs.List.{list_all}
use Rattle.std.specs.Fmt.{signed_decimal}
use Rattle.mp_logic.specs.declared.sym.Sym.{Sym}
use Rattle.mp_names.specs.Table.{text_of}
use Rattle.mp_lex.specs.declared.token.Kind.{Kind}
use Rattle.mp_lex.specs.declared.token.Kind.TheVariants as kind
use Rattle.mp_lex.specs.Forms.{is_text}
use Rattle.mp_term.specs.declared.term.Param.{Param}
use Rattle.mp_term.specs.declared.term.Param.TheVariants.{Num, Str}
use Rattle.mp_term.specs.declared.term.Term.{Term, Var, Op, Term-F, the_lemmas}
use Rattle.mp_term.specs.declared.term.Term.TheOpen as layer
use Rattle.mp_term.specs.declared.term.Term.TheFolds.{fold-Term}
use Rattle.mp_term.specs.declared.term.Bound.{Bound, Bound-F, fold-Bound}
use Rattle.mp_term.specs.declared.sequent.Sequent.{Sequent}
use Rattle.mp_term.specs.Terms.{all_true, body_step}
use Rattle.mp_termtext.specs.Printing.{text_at_scope, binders_text, bound_text, list_text, name_text, param_text, quoted, term_text}
use Rattle.mp_termtext.specs.Round.{is_written, is_written_param, written_step}
use Rattle.mp_words.specs.Words.{Piece}

abbrev pub piece : Kind → List ℕ → Piece
piece k text = record { kind = k; text = text }

abbrev pub mark_piece : List ℕ → Piece
mark_piece text = piece kind.Mark text

abbrev pub name_piece : ℕ → Piece
name_piece l = piece kind.Small (name_text l)

abbrev pub param_piece : List (List ℕ) → Param → Piece
param_piece names (Num n) = piece kind.Num (signed_decimal n)
param_piece names (Str sym) = piece kind.Str (quoted (text_of names sym.0))

-- the rest of a list, and what stands behind it
abbrev pub further_pieces : Piece → List (List Piece) → List Piece
further_pieces behind [] = behind ∷ []
further_pieces behind (p ∷ ps) = mark_piece (codes ";") ∷ (p ++ further_pieces behind ps)

-- a list between what stands before and behind it; nothing where it has no items
abbrev pub list_pieces : Piece → Piece → List (List Piece) → List Piece
list_pieces before behind [] = []
list_pieces before behind (p ∷ ps) = before ∷ (p ++ further_pieces behind ps)

abbrev pub further_binder_pieces : ℕ → ℕ → List Piece
further_binder_pieces level zero = mark_piece (codes ".") ∷ []
further_binder_pieces level (suc n) = mark_piece (codes ",") ∷ name_piece level ∷ further_binder_pieces (level + 1) n

abbrev pub binder_pieces : ℕ → ℕ → List Piece
binder_pieces level zero = []
binder_pieces level (suc n) = name_piece level ∷ further_binder_pieces (level + 1) n

-- the pieces of what is printed where so many variables are in scope
abbrev pub Pieces : Type 0
Pieces = ℕ → List Piece

abbrev pub pieces_at : ℕ → Pieces → List Piece
pieces_at scope p = p scope

abbrev pub each_param : List (List ℕ) → List Param → List (List Piece)
each_param names ps = map (λ p. param_piece names p ∷ []) ps

abbrev pub pieces_step : List (List ℕ) → Term-F Pieces Pieces → Pieces
pieces_step names (layer.Var level) scope = piece kind.SmallVar (39 ∷ name_text level) ∷ []
pieces_step names (layer.Op op params subs) scope =
    piece kind.Small (text_of names op.0)
    ∷ (list_pieces (mark_piece (codes "[")) (mark_piece (codes "]")) (each_param names params) ++ list_pieces (mark_piece (codes "{")) (mark_piece (codes "}")) (map (pieces_at scope) subs))

abbrev pub bound_pieces_step : Bound-F Pieces Pieces → Pieces
bound_pieces_step b scope = binder_pieces scope b.binders ++ b.body (scope + b.binders)

abbrev pub term_pieces : List (List ℕ) → Term → Pieces
term_pieces names = fold-Term Pieces Pieces (pieces_step names) bound_pieces_step

abbrev pub bound_pieces : List (List ℕ) → Bound → Pieces
bound_pieces names = fold-Bound Pieces Pieces (pieces_step names) bound_pieces_step

abbrev pub hyp_pieces : List (List ℕ) → ℕ → Term → List Piece
hyp_pieces names level t = name_piece level ∷ mark_piece (codes ":") ∷ term_pieces names t level

abbrev pub further_hyp_pieces : List (List ℕ) → ℕ → List Term → List Piece
further_hyp_pieces names level [] = mark_piece (codes ">-") ∷ []
further_hyp_pieces names level (t ∷ ts) = mark_piece (codes ";") ∷ (hyp_pieces names level t ++ further_hyp_pieces names (level + 1) ts)

-- the hypotheses and the mark behind them
abbrev pub hyps_pieces : List (List ℕ) → List Term → List Piece
hyps_pieces names [] = mark_piece (codes ">-") ∷ []
hyps_pieces names (t ∷ ts) = hyp_pieces names 0 t ++ further_hyp_pieces names 1 ts

abbrev pub sequent_pieces : List (List ℕ) → Sequent → List Piece
sequent_pieces names s = hyps_pieces names s.hyps ++ term_pieces names s.concl (length s.hyps)

abbrev pub written_bound : List (List ℕ) → Bound → Bool
written_bound names = fold-Bound Bool Bool (written_step names) body_step

module _ (names : List (List ℕ)) where
  pub text-Var : (l s : ℕ) → term_text names (Var l) s ≡ codes "'" ++ name_text l
  text-Var l s = search (rules, the_lemmas)

  pub text-Op : (o : Sym) (ps : List Param) (ks : List Bound) (s : ℕ) → term_text names (Op o ps ks) s ≡ text_of names o.0 ++ list_text (codes "[") (codes "]") (map (param_text names) ps) ++ list_text (codes "{") (codes "}") (map (text_at_scope s) (map (bound_text names) ks))
  text-Op o ps ks s = search (rules, the_lemmas)

  pub bound_text-is : (b : Bound) (s : ℕ) → bound_text names b s ≡ binders_text s b.binders ++ term_text names b.body (s + b.binders)
  bound_text-is b s = search (rules, the_lemmas)

  pub pieces-Var : (l s : ℕ) → term_pieces names (Var l) s ≡ piece kind.SmallVar (39 ∷ name_text l) ∷ []
  pieces-Var l s = search (rules, the_lemmas)

  pub pieces-Op : (o : Sym) (ps : List Param) (ks : List Bound) (s : ℕ) → term_pieces names (Op o ps ks) s
      ≡ piece kind.Small (text_of names o.0) ∷ (list_pieces (mark_piece (codes "[")) (mark_piece (codes "]")) (each_param names ps) ++ list_pieces (mark_piece (codes "{")) (mark_piece (codes "}")) (map (pieces_at s) (map (bound_pieces names) ks)))
  pieces-Op o ps ks s = search (rules, the_lemmas)

  pub bound_pieces-is : (b : Bound) (s : ℕ) → bound_pieces names b s ≡ binder_pieces s b.binders ++ term_pieces names b.body (s + b.binders)
  bound_pieces-is b s = search (rules, the_lemmas)

  pub written-Op : (o : Sym) (ps : List Param) (ks : List Bound) → is_written names (Op o ps ks) ≡ is_text kind.Small (text_of names o.0) && (nat_le (length ps) 16 && (list_all (is_written_param names) ps && all_true (map (written_bound names) ks)))
  written-Op o ps ks = search (rules, the_lemmas)

  pub written_bound-is : (b : Bound) → written_bound names b ≡ is_written names b.body
  written_bound-is b = search (rules, the_lemmas)

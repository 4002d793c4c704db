-- Induction over terms, with a fact for each body of an operator.
use Rattle.std.specs.Prelude.{ℕ, List, [], ◌∷◌, map}
use Rattle.std.proofs.Common.{sym, subst}
use Rattle.mp_logic.specs.declared.sym.Sym.{Sym}
use Rattle.mp_term.specs.declared.term.Param.{Param}
use Rattle.mp_term.specs.declared.term.Term.{Term, Var, Op, Term-F, ind-Term, roll-Term, map-Term}
use Rattle.mp_term.specs.declared.term.Term.TheVariants.{rolls-Var, rolls-Op}
use Rattle.mp_term.specs.declared.term.Bound.{Bound, Bound-F}
use Rattle.mp_term.specs.declared.term.Term.TheOpen as layer

module _ (P : Term → Type 0) where
  -- the fact holds of each body
  abbrev pub OfEachBody : List Bound → Type 0
  OfEachBody [] = Unit {0}
  OfEachBody (b ∷ bs) = P b.body × OfEachBody bs

  -- a term with the fact of it
  abbrev Known : Type 0
  Known = (t : Term) × P t

  -- a bound subterm with the fact of its body
  abbrev KnownBound : Type 0
  KnownBound = (b : Bound) × P b.body

  gathered : (bs : List KnownBound) → OfEachBody (map (λ e. e.0) bs)
  gathered [] = tt
  gathered (b ∷ bs) = (b.1, gathered bs)

  module _ (var : (level : ℕ) → P (Var level)) (op : (o : Sym) (ps : List Param) (subs : List Bound) → OfEachBody subs → P (Op o ps subs)) where
    by_layer : (y : Term-F Known KnownBound) → P (roll-Term (map-Term Known KnownBound Term Bound (λ e. e.0) (λ e. e.0) y))
    by_layer (layer.Var level) = subst P (sym (rolls-Var level)) (var level)
    by_layer (layer.Op o ps subs) = subst P (sym (rolls-Op o ps (map (λ e. e.0) subs))) (op o ps (map (λ e. e.0) subs) (gathered subs))

    pub each_term : (t : Term) → P t
    each_term =
        ind-Term P (λ b. P b.body) (λ x y is. subst (λ z. P (roll-Term z)) is (by_layer y))
        (λ x y is. subst (λ (z : Bound-F Term Bound). P z.body) is y.body.1)

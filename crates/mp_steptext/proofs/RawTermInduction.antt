-- Induction over terms as they are written, with a fact for each body of an operator.
use Rattle.std.proofs.Common.{ℕ, List, [], ◌∷◌, Option, map, sym, subst}
use Rattle.mp_logic.specs.declared.sym.Sym.{Sym}
use Rattle.mp_termtext.specs.declared.raw.RawParam.{RawParam}
use Rattle.mp_termtext.specs.declared.raw.RawBound.{RawBound, RawBound-F}
use Rattle.mp_termtext.specs.declared.raw.RawTerm.{RawTerm, RawTerm-F, Var, Op, ind-RawTerm, roll-RawTerm, map-RawTerm}
use Rattle.mp_termtext.specs.declared.raw.RawTerm.TheVariants.{rolls-Var, rolls-Op}
use Rattle.mp_termtext.specs.declared.raw.RawTerm.TheOpen as layer

module _ (P : RawTerm → Type 0) where
  -- the fact of each body
  abbrev pub OfEachBody : List RawBound → Type 0
  OfEachBody [] = Unit {0}
  OfEachBody (b ∷ bs) = P b.body × OfEachBody bs

  abbrev Known : Type 0
  Known = (t : RawTerm) × P t

  abbrev KnownBound : Type 0
  KnownBound = (b : RawBound) × P b.body

  gathered : (bs : List KnownBound) → OfEachBody (map (λ e. e.0) bs)
  gathered [] = tt
  gathered (b ∷ bs) = (b.1, gathered bs)

  module _ (var : (name : Sym) (numbered : Option ℕ) (left : ℕ) → P (Var name numbered left)) (op : (name : Sym) (ps : List RawParam) (subs : List RawBound) (left : ℕ) → OfEachBody subs → P (Op name ps subs left)) where
    by_layer : (y : RawTerm-F Known KnownBound) → P (roll-RawTerm (map-RawTerm Known KnownBound RawTerm RawBound (λ e. e.0) (λ e. e.0) y))
    by_layer (layer.Var n k l) = subst P (sym (rolls-Var n k l)) (var n k l)
    by_layer (layer.Op n ps subs l) = subst P (sym (rolls-Op n ps (map (λ e. e.0) subs) l)) (op n ps (map (λ e. e.0) subs) l (gathered subs))

    pub each_raw_term : (t : RawTerm) → P t
    each_raw_term =
        ind-RawTerm P (λ b. P b.body) (λ x y is. subst (λ z. P (roll-RawTerm z)) is (by_layer y))
        (λ x y is. subst (λ (z : RawBound-F RawTerm RawBound). P z.body) is y.body.1)

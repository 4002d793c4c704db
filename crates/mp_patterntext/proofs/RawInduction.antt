-- Induction over patterns as they are written, with a fact for each body of an operator and each argument.
use Rattle.std.proofs.Common.{ℕ, List, [], ◌∷◌, map, sym, subst}
use Rattle.mp_logic.specs.declared.sym.Sym.{Sym}
use Rattle.mp_words.specs.declared.raw.RawName.{RawName}
use Rattle.mp_patterntext.specs.declared.raw.RawParamPat.{RawParamPat}
use Rattle.mp_patterntext.specs.declared.raw.RawPatternBound.{RawPatternBound, RawPatternBound-F}
use Rattle.mp_patterntext.specs.declared.raw.RawPattern.{RawPattern, RawPattern-F, ind-RawPattern, roll-RawPattern, map-RawPattern}
use Rattle.mp_patterntext.specs.declared.raw.RawPattern.TheVariants.{rolls-Var, rolls-Op, rolls-Meta}
use Rattle.mp_patterntext.specs.declared.raw.RawPattern as raw
use Rattle.mp_patterntext.specs.declared.raw.RawPattern.TheOpen as layer

module _ (P : RawPattern → Type 0) where
  -- the fact of each body
  abbrev pub OfEachBody : List RawPatternBound → Type 0
  OfEachBody [] = Unit {0}
  OfEachBody (b ∷ bs) = P b.body × OfEachBody bs

  abbrev pub OfEachArg : List RawPattern → Type 0
  OfEachArg [] = Unit {0}
  OfEachArg (a ∷ rest) = P a × OfEachArg rest

  abbrev Known : Type 0
  Known = (t : RawPattern) × P t

  abbrev KnownBound : Type 0
  KnownBound = (b : RawPatternBound) × P b.body

  gathered : (bs : List KnownBound) → OfEachBody (map (λ e. e.0) bs)
  gathered [] = tt
  gathered (b ∷ bs) = (b.1, gathered bs)

  gathered_args : (bs : List Known) → OfEachArg (map (λ e. e.0) bs)
  gathered_args [] = tt
  gathered_args (b ∷ bs) = (b.1, gathered_args bs)

  module _ (var : (name : Sym) (at : ℕ) → P (raw.Var name at)) (op : (o : Sym) (ps : List RawParamPat) (subs : List RawPatternBound) (at : ℕ) → OfEachBody subs → P (raw.Op o ps subs at))
      (meta : (name : Sym) (ctxs : List RawName) (args : List RawPattern) (at : ℕ) → OfEachArg args → P (raw.Meta name ctxs args at)) where
    by_layer : (y : RawPattern-F Known KnownBound) → P (roll-RawPattern (map-RawPattern Known KnownBound RawPattern RawPatternBound (λ e. e.0) (λ e. e.0) y))
    by_layer (layer.Var n l) = subst P (sym (rolls-Var n l)) (var n l)
    by_layer (layer.Op o ps subs l) = subst P (sym (rolls-Op o ps (map (λ e. e.0) subs) l)) (op o ps (map (λ e. e.0) subs) l (gathered subs))
    by_layer (layer.Meta n cs args l) = subst P (sym (rolls-Meta n cs (map (λ e. e.0) args) l)) (meta n cs (map (λ e. e.0) args) l (gathered_args args))

    pub each_raw : (t : RawPattern) → P t
    each_raw =
        ind-RawPattern P (λ b. P b.body) (λ x y is. subst (λ z. P (roll-RawPattern z)) is (by_layer y))
        (λ x y is. subst (λ (z : RawPatternBound-F RawPattern RawPatternBound). P z.body) is y.body.1)

    pub each_args : (ts : List RawPattern) → OfEachArg ts
    each_args [] = tt
    each_args (t ∷ ts) = (each_raw t, each_args ts)

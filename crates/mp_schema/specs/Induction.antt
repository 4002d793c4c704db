-- Induction over patterns, with a fact for each body of an operator and each argument of a second-order variable.
use Rattle.std.specs.Prelude.{ℕ, List, [], ◌∷◌, map}
use Rattle.std.proofs.Common.{sym, subst}
use Rattle.mp_logic.specs.declared.sym.Sym.{Sym}
use Rattle.mp_schema.specs.declared.pattern.ParamPat.{ParamPat}
use Rattle.mp_schema.specs.declared.pattern.Pattern.{Pattern, Pattern-F, ind-Pattern, roll-Pattern, map-Pattern}
use Rattle.mp_schema.specs.declared.pattern.Pattern as pat
use Rattle.mp_schema.specs.declared.pattern.Pattern.TheVariants.{rolls-Var, rolls-Op, rolls-Meta}
use Rattle.mp_schema.specs.declared.pattern.PBound.{PBound, PBound-F}
use Rattle.mp_schema.specs.declared.pattern.Pattern.TheOpen as layer

module _ (P : Pattern → Type 0) where
  -- the fact of each body
  abbrev pub OfEachBody : List PBound → Type 0
  OfEachBody [] = Unit {0}
  OfEachBody (b ∷ bs) = P b.body × OfEachBody bs

  -- the fact holds of each argument
  abbrev pub OfEachArg : List Pattern → Type 0
  OfEachArg [] = Unit {0}
  OfEachArg (a ∷ rest) = P a × OfEachArg rest

  -- what holds of each pattern holds of each argument
  pub of_each_arg : ((p : Pattern) → P p) → (args : List Pattern) → OfEachArg args
  of_each_arg all [] = tt
  of_each_arg all (a ∷ rest) = (all a, of_each_arg all rest)

  abbrev Known : Type 0
  Known = (t : Pattern) × P t

  abbrev KnownBound : Type 0
  KnownBound = (b : PBound) × P b.body

  gathered : (bs : List KnownBound) → OfEachBody (map (λ e. e.0) bs)
  gathered [] = tt
  gathered (b ∷ bs) = (b.1, gathered bs)

  gathered_args : (bs : List Known) → OfEachArg (map (λ e. e.0) bs)
  gathered_args [] = tt
  gathered_args (b ∷ bs) = (b.1, gathered_args bs)

  module _ (var : (level : ℕ) → P (pat.Var level)) (op : (o : Sym) (ps : List ParamPat) (subs : List PBound) → OfEachBody subs → P (pat.Op o ps subs))
      (meta : (name : Sym) (ctxs : List Sym) (args : List Pattern) → OfEachArg args → P (pat.Meta name ctxs args)) where
    by_layer : (y : Pattern-F Known KnownBound) → P (roll-Pattern (map-Pattern Known KnownBound Pattern PBound (λ e. e.0) (λ e. e.0) y))
    by_layer (layer.Var level) = subst P (sym (rolls-Var level)) (var level)
    by_layer (layer.Op o ps subs) = subst P (sym (rolls-Op o ps (map (λ e. e.0) subs))) (op o ps (map (λ e. e.0) subs) (gathered subs))
    by_layer (layer.Meta n cs args) = subst P (sym (rolls-Meta n cs (map (λ e. e.0) args))) (meta n cs (map (λ e. e.0) args) (gathered_args args))

    pub each_pattern : (t : Pattern) → P t
    each_pattern =
        ind-Pattern P (λ b. P b.body) (λ x y is. subst (λ z. P (roll-Pattern z)) is (by_layer y))
        (λ x y is. subst (λ (z : PBound-F Pattern PBound). P z.body) is y.body.1)

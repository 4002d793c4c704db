-- The equality of terms as a test.
use Rattle.std.specs.Prelude.{ℕ, List, [], ◌∷◌, Bool, true, false, ◌&&◌, nat_eq}
use Rattle.std.specs.Ordering.{int_eq}
use Rattle.mp_logic.specs.declared.sym.Sym.{Sym}
use Rattle.mp_term.specs.declared.term.Param.{Param}
use Rattle.mp_term.specs.declared.term.Param.TheVariants.{Num, Str}
use Rattle.mp_term.specs.declared.term.Term.{Term, Term-F, out-Term}
use Rattle.mp_term.specs.declared.term.Bound.{Bound, Bound-F}
use Rattle.mp_term.specs.declared.term.Term.TheOpen as layer
use Rattle.mp_term.specs.declared.term.Term.TheFolds.{fold-Term, fold-Bound}

-- whether the parameters are equal
abbrev pub same_param : Param → Param → Bool
same_param (Num a) (Num b) = int_eq a b
same_param (Num a) (Str b) = false
same_param (Str a) (Num b) = false
same_param (Str a) (Str b) = nat_eq a.0 b.0

-- whether the lists of parameters are equal
abbrev pub same_params : List Param → List Param → Bool
same_params [] [] = true
same_params [] (b ∷ bs) = false
same_params (a ∷ rest) [] = false
same_params (a ∷ rest) (b ∷ bs) = same_param a b && same_params rest bs

-- a test of a second term or body
abbrev pub Test : Type 0 → Type 0
Test X = X → Bool

-- each body passes its test, and there are as many of both
abbrev pub each_passes : List (Test Bound) → List Bound → Bool
each_passes [] [] = true
each_passes [] (b ∷ bs) = false
each_passes (f ∷ fs) [] = false
each_passes (f ∷ fs) (b ∷ bs) = f b && each_passes fs bs

-- whether it is this variable
abbrev pub is_level : ℕ → Term-F Term Bound → Bool
is_level level (layer.Var other) = nat_eq level other
is_level level (layer.Op op params subs) = false

-- whether it is this operator with these parameters, and its bodies pass these tests
abbrev pub is_operator : Sym → List Param → List (Test Bound) → Term-F Term Bound → Bool
is_operator op params tests (layer.Var other) = false
is_operator op params tests (layer.Op other values bodies) = nat_eq op.0 other.0 && same_params params values && each_passes tests bodies

-- whether a term has this layer, with parts that pass its tests
abbrev pub same_step : Term-F (Test Term) (Test Bound) → Test Term
same_step (layer.Var level) t = is_level level (out-Term t)
same_step (layer.Op op params subs) t = is_operator op params subs (out-Term t)

-- whether a body has as many binders, and a term that passes the test
abbrev pub same_bound_step : Bound-F (Test Term) (Test Bound) → Test Bound
same_bound_step b x = nat_eq b.binders x.binders && b.body x.body

-- whether the terms are equal
abbrev pub same_term : Term → Test Term
same_term = fold-Term (Test Term) (Test Bound) same_step same_bound_step

-- whether the bodies are equal
abbrev pub same_bound : Bound → Test Bound
same_bound = fold-Bound (Test Term) (Test Bound) same_step same_bound_step

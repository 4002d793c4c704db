-- A pattern that is written has the size and the holes of what it stands for.
use Rattle.std.proofs.Common.{◌≡◌, ℕ, ◌+◌, ◌++◌, List, [], ◌∷◌, map, sum, refl, ap, sym, ◌∙◌, arith}
use Rattle.std.proofs.lemmas.Grind.{common_steps}
use Rattle.std.specs.List.{flat_map}
use Rattle.mp_logic.specs.declared.sym.Sym.{Sym}
use Rattle.mp_patterntext.specs.declared.raw.RawParamPat.TheVariants.{Lit, Hole}
use Rattle.mp_schema.specs.Limits.{pattern_size_of, pattern_size_of_bound}
use Rattle.mp_schema.specs.Occurrences.{hole_in_param, holes_in, holes_in_bound}
use Rattle.mp_schema.proofs.Layers.{pattern_size_of-Var, pattern_size_of-Op, pattern_size_of-Meta, pattern_size_of_bound-is, holes_in-Var, holes_in-Op, holes_in-Meta, holes_in_bound-is}
use Rattle.mp_words.specs.declared.raw.RawName.{RawName}
use Rattle.mp_patterntext.specs.declared.raw.RawParamPat.{RawParamPat}
use Rattle.mp_patterntext.specs.declared.raw.RawPatternBound.{RawPatternBound}
use Rattle.mp_patterntext.specs.declared.raw.RawPattern.{RawPattern}
use Rattle.mp_patterntext.specs.Scopes.{syms_of}
use Rattle.mp_patterntext.specs.Values.{each_pattern_value, param_value, pattern_of, bound_of}
use Rattle.mp_patterntext.specs.Uses.{holes_in_param, raw_holes, raw_bound_holes}
use Rattle.mp_patterntext.specs.Sizes.{raw_pattern_size_of, raw_bound_size_of}
use Rattle.mp_patterntext.proofs.RawInduction.{OfEachBody, OfEachArg, each_raw}
use Rattle.mp_patterntext.proofs.RawLayers.{pattern_of-Var, pattern_of-Op, pattern_of-Meta, bound_of-is, raw_size_of-Var, raw_size_of-Op, raw_size_of-Meta, raw_bound_size_of-is, raw_holes-Var, raw_holes-Op, raw_holes-Meta, raw_bound_holes-is}
use Rattle.mp_patterntext.specs.declared.raw.RawPattern as raw

-- ## Sizes

sum_cons : (x : ℕ) (xs : List ℕ) → sum (x ∷ xs) ≡ x + sum xs
sum_cons x xs = grind (arith, common_steps)

pub both_sums : (x y : ℕ) (xs ys : List ℕ) → x ≡ y → sum xs ≡ sum ys → sum (x ∷ xs) ≡ sum (y ∷ ys)
both_sums x y xs ys e f = sum_cons x xs ∙ (λ i. e i + f i) ∙ sym (sum_cons y ys)

abbrev SameSize : RawPattern → Type 0
SameSize p = (env : List Sym) → pattern_size_of (pattern_of p env) ≡ raw_pattern_size_of p

body_sizes : (ks : List RawPatternBound) → OfEachBody SameSize ks → (env : List Sym) → sum (map pattern_size_of_bound (each_pattern_value (map bound_of ks) env)) ≡ sum (map raw_bound_size_of ks)
body_sizes [] h env = refl
body_sizes (k ∷ ks) h env =
    let one : pattern_size_of_bound (bound_of k env) ≡ raw_bound_size_of k =
    ap pattern_size_of_bound (bound_of-is k env) ∙ pattern_size_of_bound-is _ ∙ h.0 _ ∙ sym (raw_bound_size_of-is k) in
    both_sums _ _ (map pattern_size_of_bound (each_pattern_value (map bound_of ks) env)) (map raw_bound_size_of ks) one (body_sizes ks h.1 env)

argument_sizes : (xs : List RawPattern) → OfEachArg SameSize xs → (env : List Sym) → sum (map pattern_size_of (each_pattern_value (map pattern_of xs) env)) ≡ sum (map raw_pattern_size_of xs)
argument_sizes [] h env = refl
argument_sizes (x ∷ xs) h env = both_sums _ _ (map pattern_size_of (each_pattern_value (map pattern_of xs) env)) (map raw_pattern_size_of xs) (h.0 env) (argument_sizes xs h.1 env)

pub same_size : (p : RawPattern) → SameSize p
same_size =
    each_raw SameSize
    (λ n l env. ap pattern_size_of (pattern_of-Var n l env) ∙ pattern_size_of-Var _ ∙ sym (raw_size_of-Var n l))
    (λ n ps ks l h env. ap pattern_size_of (pattern_of-Op n ps ks l env) ∙ pattern_size_of-Op n _ _ ∙ ap (λ k. 1 + k) (body_sizes ks h env) ∙ sym (raw_size_of-Op n ps ks l))
    (λ n cs xs l h env. ap pattern_size_of (pattern_of-Meta n cs xs l env) ∙ pattern_size_of-Meta n _ _ ∙ ap (λ k. 1 + k) (argument_sizes xs h env) ∙ sym (raw_size_of-Meta n cs xs l))

pub each_same_size : (xs : List RawPattern) (env : List Sym) → sum (map pattern_size_of (each_pattern_value (map pattern_of xs) env)) ≡ sum (map raw_pattern_size_of xs)
each_same_size [] env = refl
each_same_size (x ∷ xs) env = both_sums _ _ (map pattern_size_of (each_pattern_value (map pattern_of xs) env)) (map raw_pattern_size_of xs) (same_size x env) (each_same_size xs env)

-- ## Holes

pub syms_both : (xs ys : List RawName) → syms_of (xs ++ ys) ≡ syms_of xs ++ syms_of ys
syms_both [] ys = refl
syms_both (x ∷ xs) ys = ap (λ ns. x.name ∷ ns) (syms_both xs ys)

abbrev SameHoles : RawPattern → Type 0
SameHoles p = (env : List Sym) → holes_in (pattern_of p env) ≡ syms_of (raw_holes p)

hole_names : (p : RawParamPat) → hole_in_param (param_value p) ≡ syms_of (holes_in_param p)
hole_names (Lit p) = refl
hole_names (Hole n at) = refl

param_holes : (ps : List RawParamPat) → flat_map hole_in_param (map param_value ps) ≡ syms_of (flat_map holes_in_param ps)
param_holes [] = refl
param_holes (p ∷ ps) = (λ i. hole_names p i ++ param_holes ps i) ∙ sym (syms_both (holes_in_param p) (flat_map holes_in_param ps))

body_holes : (ks : List RawPatternBound) → OfEachBody SameHoles ks → (env : List Sym) → flat_map holes_in_bound (each_pattern_value (map bound_of ks) env) ≡ syms_of (flat_map raw_bound_holes ks)
body_holes [] h env = refl
body_holes (k ∷ ks) h env =
    let one : holes_in_bound (bound_of k env) ≡ syms_of (raw_bound_holes k) =
    ap holes_in_bound (bound_of-is k env) ∙ holes_in_bound-is _ ∙ h.0 _ ∙ ap syms_of (sym (raw_bound_holes-is k)) in
    (λ i. one i ++ body_holes ks h.1 env i) ∙ sym (syms_both (raw_bound_holes k) (flat_map raw_bound_holes ks))

argument_holes : (xs : List RawPattern) → OfEachArg SameHoles xs → (env : List Sym) → flat_map holes_in (each_pattern_value (map pattern_of xs) env) ≡ syms_of (flat_map raw_holes xs)
argument_holes [] h env = refl
argument_holes (x ∷ xs) h env = (λ i. h.0 env i ++ argument_holes xs h.1 env i) ∙ sym (syms_both (raw_holes x) (flat_map raw_holes xs))

op_holes_same : (n : Sym) (ps : List RawParamPat) (ks : List RawPatternBound) (l : ℕ) → OfEachBody SameHoles ks → SameHoles (raw.Op n ps ks l)
op_holes_same n ps ks l h env =
    ap holes_in (pattern_of-Op n ps ks l env) ∙ holes_in-Op n _ _ ∙ (λ i. param_holes ps i ++ body_holes ks h env i) ∙ sym (syms_both (flat_map holes_in_param ps) (flat_map raw_bound_holes ks))
    ∙ ap syms_of (sym (raw_holes-Op n ps ks l))

pub same_holes : (p : RawPattern) → SameHoles p
same_holes =
    each_raw SameHoles
    (λ n l env. ap holes_in (pattern_of-Var n l env) ∙ holes_in-Var _ ∙ ap syms_of (sym (raw_holes-Var n l)))
    op_holes_same
    (λ n cs xs l h env. ap holes_in (pattern_of-Meta n cs xs l env) ∙ holes_in-Meta n _ _ ∙ argument_holes xs h env ∙ ap syms_of (sym (raw_holes-Meta n cs xs l)))

pub each_same_holes : (xs : List RawPattern) (env : List Sym) → flat_map holes_in (each_pattern_value (map pattern_of xs) env) ≡ syms_of (flat_map raw_holes xs)
each_same_holes [] env = refl
each_same_holes (x ∷ xs) env = (λ i. same_holes x env i ++ each_same_holes xs env i) ∙ sym (syms_both (raw_holes x) (flat_map raw_holes xs))

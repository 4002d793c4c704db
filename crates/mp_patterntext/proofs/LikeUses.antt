-- The uses in a pattern that is written are the occurrences in what it stands for, and are told where those aren't alike.
use Rattle.std.proofs.Common.{◌≡◌, ℕ, ◌++◌, List, [], ◌∷◌, map, length, Bool, true, false, ◌&&◌, ◌||◌, nat_eq, Option, None, Some, refl, ap, sym, ◌∙◌, arith}
use Rattle.std.specs.Prelude.{if◌then◌else◌, is_some}
use Rattle.std.specs.List.{list_all, flat_map, find}
use Rattle.std.specs.Option.{option_map}
use Rattle.std.proofs.lemmas.List.{length-map, map-append}
use Rattle.std.proofs.lemmas.List.Folds.{list_all-map}
use Rattle.mp_logic.specs.declared.sym.Sym.{Sym}
use Rattle.mp_logic.specs.Lists.{same_bool}
use Rattle.mp_schema.specs.Conditions.{has, has_all}
use Rattle.mp_schema.specs.Faults.{all_named_in, is_consistent, is_like_first, same_names}
use Rattle.mp_schema.specs.Occurrences.{Occurrence, first_named, variable_level, occurrences_in, occurrences_in_bound}
use Rattle.mp_schema.proofs.Layers.{occurrences_in-Var, occurrences_in-Op, occurrences_in-Meta, occurrences_in_bound-is}
use Rattle.mp_words.specs.declared.raw.RawName.{RawName}
use Rattle.mp_termtext.specs.Statics.{names_of}
use Rattle.mp_patterntext.specs.declared.raw.RawPatternBound.{RawPatternBound}
use Rattle.mp_patterntext.specs.declared.raw.RawPattern.{RawPattern}
use Rattle.mp_patterntext.proofs.RawInduction.{OfEachBody, OfEachArg, each_raw}
use Rattle.mp_patterntext.specs.Scopes.{syms_of, unknown_faults}
use Rattle.mp_words.specs.declared.fail.TextWhy.{TextWhy}
use Rattle.mp_patterntext.proofs.Twice.{tells_unknown}
use Rattle.mp_patterntext.specs.Uses.{use_name, uses_faults, Use, first_use, is_like_first_use, like_faults, uses_in, uses_in_bound}
use Rattle.mp_patterntext.specs.Values.{each_pattern_value, pattern_of, bound_of}
use Rattle.mp_patterntext.proofs.RawLayers.{pattern_of-Var, pattern_of-Op, pattern_of-Meta, bound_of-is, uses_in-Var, uses_in-Op, uses_in-Meta, uses_in_bound-is}
use Rattle.mp_patterntext.proofs.Fitting.{length-each}
use Rattle.mp_patterntext.proofs.Telling.{Tells, tells_by, tells_each, tells_unless}
use Rattle.mp_words.specs.declared.fail.TextWhy.TheVariants as why
use Rattle.mp_patterntext.specs.declared.raw.RawPattern as raw

-- what a use says of its name, without its place, and an occurrence, without its levels
pub record Kind : Type 0 where
  pub is_context : Bool
  pub name : Sym
  pub ctxs : List Sym
  pub arity : ℕ

abbrev of_use : Use → Kind
of_use u = record { is_context = u.is_context; name = u.name; ctxs = u.ctxs; arity = u.arity }

abbrev of_occurrence : Occurrence → Kind
of_occurrence o = record { is_context = o.is_context; name = o.name; ctxs = o.ctxs; arity = length o.levels }

-- ## The same uses

abbrev pub Same : List Use → List Occurrence → Type 0
Same us os = map of_use us ≡ map of_occurrence os

pub same_both : (us vs : List Use) (os ps : List Occurrence) → Same us os → Same vs ps → Same (us ++ vs) (os ++ ps)
same_both us vs os ps a b = map-append of_use us vs ∙ (λ i. a i ++ b i) ∙ sym (map-append of_occurrence os ps)

carried : (us vs : List Use) (os ps : List Occurrence) → us ≡ vs → os ≡ ps → Same vs ps → Same us os
carried us vs os ps e f h = ap (map of_use) e ∙ h ∙ ap (map of_occurrence) (sym f)

-- a use with these arguments is the occurrence that stands for it
pub here : (is_context : Bool) (n : Sym) (at : ℕ) (cs : List RawName) (xs : List RawPattern) (env : List Sym)
    → of_use (record { is_context = is_context; name = n; at = at; ctxs = syms_of cs; arity = length xs })
    ≡ of_occurrence (record { is_context = is_context; name = n; ctxs = syms_of cs; levels = map variable_level (each_pattern_value (map pattern_of xs) env) })
here is_context n at cs xs env =
    let a = length-map xs pattern_of in let b = length-each (map pattern_of xs) env in let c = length-map (each_pattern_value (map pattern_of xs) env) variable_level in
    let many : length xs ≡ length (map variable_level (each_pattern_value (map pattern_of xs) env)) = omega (arith, a, b, c) in
    (λ i. record { is_context = is_context; name = n; ctxs = syms_of cs; arity = many i })

abbrev SameUses : RawPattern → Type 0
SameUses p = (env : List Sym) → Same (uses_in p) (occurrences_in (pattern_of p env))

body_uses : (ks : List RawPatternBound) → OfEachBody SameUses ks → (env : List Sym) → Same (flat_map uses_in_bound ks) (flat_map occurrences_in_bound (each_pattern_value (map bound_of ks) env))
body_uses [] ih env = refl
body_uses (k ∷ ks) ih env =
    same_both (uses_in_bound k) (flat_map uses_in_bound ks) (occurrences_in_bound (bound_of k env)) (flat_map occurrences_in_bound (each_pattern_value (map bound_of ks) env))
    (carried (uses_in_bound k) (uses_in k.body) (occurrences_in_bound (bound_of k env)) (occurrences_in (pattern_of k.body (env ++ names_of k.binders))) (uses_in_bound-is k) (ap occurrences_in_bound (bound_of-is k env) ∙ occurrences_in_bound-is _)
    (ih.0 (env ++ names_of k.binders))) (body_uses ks ih.1 env)

argument_uses : (xs : List RawPattern) → OfEachArg SameUses xs → (env : List Sym) → Same (flat_map uses_in xs) (flat_map occurrences_in (each_pattern_value (map pattern_of xs) env))
argument_uses [] ih env = refl
argument_uses (x ∷ xs) ih env = same_both (uses_in x) (flat_map uses_in xs) (occurrences_in (pattern_of x env)) (flat_map occurrences_in (each_pattern_value (map pattern_of xs) env)) (ih.0 env) (argument_uses xs ih.1 env)

pub same_uses : (p : RawPattern) → SameUses p
same_uses =
    each_raw SameUses
    (λ n l env. carried (uses_in (raw.Var n l)) [] (occurrences_in (pattern_of (raw.Var n l) env)) [] (uses_in-Var n l) (ap occurrences_in (pattern_of-Var n l env) ∙ occurrences_in-Var _) refl)
    (λ n ps ks l ih env. carried (uses_in (raw.Op n ps ks l)) (flat_map uses_in_bound ks) (occurrences_in (pattern_of (raw.Op n ps ks l) env)) (flat_map occurrences_in_bound (each_pattern_value (map bound_of ks) env))
    (uses_in-Op n ps ks l) (ap occurrences_in (pattern_of-Op n ps ks l env) ∙ occurrences_in-Op n _ _) (body_uses ks ih env))
    (λ n cs xs l ih env. ap (map of_use) (uses_in-Meta n cs xs l) ∙ (λ i. here false n l cs xs env i ∷ argument_uses xs ih env i) ∙ ap (map of_occurrence) (sym (ap occurrences_in (pattern_of-Meta n cs xs l env) ∙ occurrences_in-Meta n _ _)))

pub each_uses : (xs : List RawPattern) (env : List Sym) → Same (flat_map uses_in xs) (flat_map occurrences_in (each_pattern_value (map pattern_of xs) env))
each_uses [] env = refl
each_uses (x ∷ xs) env = same_both (uses_in x) (flat_map uses_in xs) (occurrences_in (pattern_of x env)) (flat_map occurrences_in (each_pattern_value (map pattern_of xs) env)) (same_uses x env) (each_uses xs env)

-- ## Alike

abbrev first_kind : List Kind → Sym → Option Kind
first_kind ks name = find (λ k. nat_eq k.name.0 name.0) ks

abbrev like_first : Option Kind → Kind → Bool
like_first None k = false
like_first (Some f) k = same_bool f.is_context k.is_context && same_names f.ctxs k.ctxs && nat_eq f.arity k.arity

abbrev is_alike : List Kind → Kind → Bool
is_alike ks k = like_first (first_kind ks k.name) k

found : {X : Type 0} (f : X → Kind) (xs : List X) (name : Sym) → first_kind (map f xs) name ≡ option_map f (find (λ x. nat_eq (f x).name.0 name.0) xs)
found f [] name = refl
found f (x ∷ xs) name = by (nat_eq (f x).name.0 name.0) (found f xs name)
  where
    by : (b : Bool) → first_kind (map f xs) name ≡ option_map f (find (λ y. nat_eq (f y).name.0 name.0) xs)
        → (if b then Some (f x) else first_kind (map f xs) name) ≡ option_map f (if b then Some x else find (λ y. nat_eq (f y).name.0 name.0) xs)
    by true ih = refl
    by false ih = ih

use_first : (o : Option Use) (u : Use) → is_like_first_use o u ≡ like_first (option_map of_use o) (of_use u)
use_first None u = refl
use_first (Some f) u = refl

occurrence_first : (o : Option Occurrence) (p : Occurrence) → is_like_first o p ≡ like_first (option_map of_occurrence o) (of_occurrence p)
occurrence_first None p = refl
occurrence_first (Some f) p = refl

all_same : {X : Type 0} (p q : X → Bool) → ((x : X) → p x ≡ q x) → (xs : List X) → list_all p xs ≡ list_all q xs
all_same p q h [] = refl
all_same p q h (x ∷ xs) = (λ i. h x i && all_same p q h xs i)

-- uses are told exactly where the occurrences that they are aren't alike
pub tells_uses : (us : List Use) (os : List Occurrence) → Same us os → Tells (uses_faults us) (is_consistent os ≡ true)
tells_uses us os same =
    let of_uses = all_same (λ u. is_like_first_use (first_use us u.name) u) (λ u. is_alike (map of_use us) (of_use u)) (λ u. use_first (first_use us u.name) u ∙ ap (λ o. like_first o (of_use u)) (sym (found of_use us u.name))) us ∙ sym (list_all-map (is_alike (map of_use us)) of_use us) in
    let of_all = all_same (λ o. is_like_first (first_named os o.name) o) (λ o. is_alike (map of_occurrence os) (of_occurrence o)) (λ o. occurrence_first (first_named os o.name) o ∙ ap (λ f. like_first f (of_occurrence o)) (sym (found of_occurrence os o.name))) os
    ∙ sym (list_all-map (is_alike (map of_occurrence os)) of_occurrence os) in
    let e : list_all (λ u. is_like_first_use (first_use us u.name) u) us ≡ is_consistent os = of_uses ∙ ap (λ ks. list_all (is_alike ks) ks) same ∙ sym of_all in
    tells_by (uses_faults us) (tells_each (like_faults us) (λ u. is_like_first_use (first_use us u.name) u) (λ u. tells_unless (is_like_first_use (first_use us u.name) u) u.at why.BadUse) us) (λ h. sym e ∙ h) (λ h. e ∙ h)

-- ## Names

use_names : (us : List Use) → syms_of (map use_name us) ≡ map (λ (k : Kind). k.name) (map of_use us)
use_names [] = refl
use_names (u ∷ us) = ap (λ ns. u.name ∷ ns) (use_names us)

occurrence_names : (os : List Occurrence) → map (λ (k : Kind). k.name) (map of_occurrence os) ≡ map (λ (o : Occurrence). o.name) os
occurrence_names [] = refl
occurrence_names (o ∷ os) = ap (λ ns. o.name ∷ ns) (occurrence_names os)

same_names_of : (us : List Use) (os : List Occurrence) → Same us os → map (λ (o : Occurrence). o.name) os ≡ syms_of (map use_name us)
same_names_of us os same = sym (use_names us ∙ ap (map (λ (k : Kind). k.name)) same ∙ occurrence_names os)

is_named : (os : List Occurrence) (name : Sym) → is_some (first_named os name) ≡ has (map (λ (o : Occurrence). o.name) os) name
is_named [] name = refl
is_named (o ∷ os) name = by (nat_eq o.name.0 name.0) (is_named os name)
  where
    by : (b : Bool) → is_some (first_named os name) ≡ has (map (λ (p : Occurrence). p.name) os) name → is_some (if b then Some o else first_named os name) ≡ (b || has (map (λ (p : Occurrence). p.name) os) name)
    by true e = refl
    by false e = e

all_named : (known os : List Occurrence) → all_named_in known os ≡ has_all (map (λ (o : Occurrence). o.name) known) (map (λ (o : Occurrence). o.name) os)
all_named known [] = refl
all_named known (o ∷ os) = (λ i. is_named known o.name i && all_named known os i)

-- uses of other names than some have are told exactly where the occurrences that they are have other ones
pub tells_named : (w : TextWhy) (us vs : List Use) (known os : List Occurrence) → Same us known → Same vs os → Tells (unknown_faults w (syms_of (map use_name us)) (map use_name vs)) (all_named_in known os ≡ true)
tells_named w us vs known os a b =
    let e : all_named_in known os ≡ has_all (syms_of (map use_name us)) (syms_of (map use_name vs)) = all_named known os ∙ (λ i. has_all (same_names_of us known a i) (same_names_of vs os b i)) in
    tells_by (unknown_faults w (syms_of (map use_name us)) (map use_name vs)) (tells_unknown w (syms_of (map use_name us)) (map use_name vs)) (λ h. e ∙ h) (λ h. sym e ∙ h)

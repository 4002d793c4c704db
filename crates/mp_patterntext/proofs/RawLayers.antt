-- One level of each definition on patterns as they are written.
use Rattle.std.proofs.Common.{◌≡◌, ℕ, suc, ◌+◌, ◌++◌, List, [], ◌∷◌, map, length, sum, None, Some, Bool, false, refl, ap, ◌∙◌, rules}
use Rattle.std.specs.Prelude.{unwrap_or}
use Rattle.std.specs.List.{flat_map}
use Rattle.std.proofs.lemmas.Simd.{map-map}
use Rattle.std.proofs.lemmas.List.Folds.{flat_map-map}
use Rattle.mp_logic.specs.declared.sym.Sym.{Sym}
use Rattle.mp_words.specs.Faults.{too_many}
use Rattle.mp_words.specs.declared.raw.RawName.{RawName}
use Rattle.mp_termtext.specs.Statics.{deep, each_faults, names_of, unless_bound}
use Rattle.mp_patterntext.specs.declared.raw.RawParamPat.{RawParamPat}
use Rattle.mp_patterntext.specs.declared.raw.RawPatternBound.{RawPatternBound}
use Rattle.mp_patterntext.specs.declared.raw.RawPattern.{RawPattern, the_lemmas}
use Rattle.mp_patterntext.proofs.RawInduction.{each_raw}
use Rattle.mp_patterntext.specs.Scopes.{level_in, syms_of}
use Rattle.mp_patterntext.specs.Values.{each_pattern_value, param_value, pattern_of, bound_of}
use Rattle.mp_patterntext.specs.Nodes.{Viewed, param_place, argument_of, use_faults, viewed, node_faults, bound_node_faults}
use Rattle.mp_patterntext.specs.Uses.{Use, holes_in_param, raw_bound_holes, raw_holes, uses_in, uses_in_bound}
use Rattle.mp_patterntext.specs.Sizes.{raw_pattern_size_of, raw_bound_size_of}
use Rattle.mp_schema.specs.declared.pattern.Pattern as pat
use Rattle.mp_patterntext.specs.declared.raw.RawPattern as raw

-- ## Values

pub pattern_of-Var : (n : Sym) (l : ℕ) (env : List Sym) → pattern_of (raw.Var n l) env ≡ pat.Var (unwrap_or (level_in env n) 0)
pattern_of-Var n l env = search (rules, the_lemmas)

pub pattern_of-Op : (n : Sym) (ps : List RawParamPat) (ks : List RawPatternBound) (l : ℕ) (env : List Sym) → pattern_of (raw.Op n ps ks l) env ≡ pat.Op n (map param_value ps) (each_pattern_value (map bound_of ks) env)
pattern_of-Op n ps ks l env = search (rules, the_lemmas)

pub pattern_of-Meta : (n : Sym) (cs : List RawName) (xs : List RawPattern) (l : ℕ) (env : List Sym) → pattern_of (raw.Meta n cs xs l) env ≡ pat.Meta n (syms_of cs) (each_pattern_value (map pattern_of xs) env)
pattern_of-Meta n cs xs l env = search (rules, the_lemmas)

pub bound_of-is : (b : RawPatternBound) (env : List Sym) → bound_of b env ≡ record { binders = length b.binders; body = pattern_of b.body (env ++ names_of b.binders) }
bound_of-is b env = search (rules, the_lemmas)

-- ## Arguments and nodes

pub argument_of-Var : (n : Sym) (l : ℕ) → argument_of (raw.Var n l) ≡ record { variable = Some n; at = l }
argument_of-Var n l = search (rules, the_lemmas)

pub argument_of-Op : (n : Sym) (ps : List RawParamPat) (ks : List RawPatternBound) (l : ℕ) → argument_of (raw.Op n ps ks l) ≡ record { variable = None; at = l }
argument_of-Op n ps ks l = search (rules, the_lemmas)

pub argument_of-Meta : (n : Sym) (cs : List RawName) (xs : List RawPattern) (l : ℕ) → argument_of (raw.Meta n cs xs l) ≡ record { variable = None; at = l }
argument_of-Meta n cs xs l = search (rules, the_lemmas)

module _ (known : List Sym) (final : Bool) where
  view_argument : (p : RawPattern) → (viewed known final p).argument ≡ argument_of p
  view_argument =
      each_raw (λ p. (viewed known final p).argument ≡ argument_of p) (λ n l. search (rules, the_lemmas)) (λ n ps ks l h. search (rules, the_lemmas)) (λ n cs xs l h. search (rules, the_lemmas))

  view_arguments : (xs : List RawPattern) → map (λ (a : Viewed). a.argument) (map (viewed known final) xs) ≡ map argument_of xs
  view_arguments [] = refl
  view_arguments (x ∷ xs) = (λ i. view_argument x i ∷ view_arguments xs i)

  pub node_faults-Var : (n : Sym) (l : ℕ) (env : List Sym) (d : ℕ) → node_faults known final (raw.Var n l) env d ≡ deep d l ++ unless_bound l (level_in env n)
  node_faults-Var n l env d = search (rules, the_lemmas)

  pub node_faults-Op : (n : Sym) (ps : List RawParamPat) (ks : List RawPatternBound) (l : ℕ) (env : List Sym) (d : ℕ)
      → node_faults known final (raw.Op n ps ks l) env d ≡ deep d l ++ too_many param_place 16 ps ++ each_faults (map (bound_node_faults known final) ks) env (d + 1)
  node_faults-Op n ps ks l env d = search (rules, the_lemmas)

  pub node_faults-Meta : (n : Sym) (cs : List RawName) (xs : List RawPattern) (l : ℕ) (env : List Sym) (d : ℕ)
      → node_faults known final (raw.Meta n cs xs l) env d ≡ deep d l ++ use_faults known final cs (map argument_of xs) ++ each_faults (map (node_faults known final) xs) env (d + 1)
  node_faults-Meta n cs xs l env d =
      let e : node_faults known final (raw.Meta n cs xs l) env d
      ≡ deep d l ++ use_faults known final cs (map (λ (a : Viewed). a.argument) (map (viewed known final) xs)) ++ each_faults (map (λ (a : Viewed). a.faults) (map (viewed known final) xs)) env (d + 1)
      = search (rules, the_lemmas) in
      e ∙ (λ i. deep d l ++ use_faults known final cs (view_arguments xs i) ++ each_faults (map-map (λ (a : Viewed). a.faults) (viewed known final) xs i) env (d + 1))

  pub bound_node_faults-is : (b : RawPatternBound) (env : List Sym) (d : ℕ) → bound_node_faults known final b env d ≡ too_many (λ c. c.at) 8 b.binders ++ node_faults known final b.body (env ++ names_of b.binders) d
  bound_node_faults-is b env d = search (rules, the_lemmas)

-- ## Sizes

pub raw_size_of-Var : (n : Sym) (l : ℕ) → raw_pattern_size_of (raw.Var n l) ≡ 1
raw_size_of-Var n l = search (rules, the_lemmas)

pub raw_size_of-Op : (n : Sym) (ps : List RawParamPat) (ks : List RawPatternBound) (l : ℕ) → raw_pattern_size_of (raw.Op n ps ks l) ≡ 1 + sum (map raw_bound_size_of ks)
raw_size_of-Op n ps ks l = search (rules, the_lemmas)

pub raw_size_of-Meta : (n : Sym) (cs : List RawName) (xs : List RawPattern) (l : ℕ) → raw_pattern_size_of (raw.Meta n cs xs l) ≡ 1 + sum (map raw_pattern_size_of xs)
raw_size_of-Meta n cs xs l = search (rules, the_lemmas)

pub raw_bound_size_of-is : (b : RawPatternBound) → raw_bound_size_of b ≡ raw_pattern_size_of b.body
raw_bound_size_of-is b = search (rules, the_lemmas)

-- ## Uses

pub uses_in-Var : (n : Sym) (l : ℕ) → uses_in (raw.Var n l) ≡ []
uses_in-Var n l = search (rules, the_lemmas)

pub uses_in-Op : (n : Sym) (ps : List RawParamPat) (ks : List RawPatternBound) (l : ℕ) → uses_in (raw.Op n ps ks l) ≡ flat_map uses_in_bound ks
uses_in-Op n ps ks l =
    let e : uses_in (raw.Op n ps ks l) ≡ flat_map (λ us. us) (map uses_in_bound ks) = search (rules, the_lemmas) in e ∙ flat_map-map (λ us. us) uses_in_bound ks

pub uses_in-Meta : (n : Sym) (cs : List RawName) (xs : List RawPattern) (l : ℕ)
    → uses_in (raw.Meta n cs xs l) ≡ record { is_context = false; name = n; at = l; ctxs = syms_of cs; arity = length xs } ∷ flat_map uses_in xs
uses_in-Meta n cs xs l =
    let made : ℕ → Use = λ many. record { is_context = false; name = n; at = l; ctxs = syms_of cs; arity = many } in
    let e : uses_in (raw.Meta n cs xs l) ≡ made (length (map uses_in xs)) ∷ flat_map (λ us. us) (map uses_in xs) = search (rules, the_lemmas) in
    e ∙ (λ i. made (as_many xs i) ∷ flat_map-map (λ us. us) uses_in xs i)
  where
    as_many : (ys : List RawPattern) → length (map uses_in ys) ≡ length ys
    as_many [] = refl
    as_many (y ∷ ys) = ap (λ n. suc n) (as_many ys)

pub uses_in_bound-is : (b : RawPatternBound) → uses_in_bound b ≡ uses_in b.body
uses_in_bound-is b = search (rules, the_lemmas)

-- ## Holes

pub raw_holes-Var : (n : Sym) (l : ℕ) → raw_holes (raw.Var n l) ≡ []
raw_holes-Var n l = search (rules, the_lemmas)

pub raw_holes-Op : (n : Sym) (ps : List RawParamPat) (ks : List RawPatternBound) (l : ℕ) → raw_holes (raw.Op n ps ks l) ≡ flat_map holes_in_param ps ++ flat_map raw_bound_holes ks
raw_holes-Op n ps ks l =
    let e : raw_holes (raw.Op n ps ks l) ≡ flat_map holes_in_param ps ++ flat_map (λ hs. hs) (map raw_bound_holes ks) = search (rules, the_lemmas) in
    rw (flat_map-map (λ hs. hs) raw_bound_holes ks) at e

pub raw_holes-Meta : (n : Sym) (cs : List RawName) (xs : List RawPattern) (l : ℕ) → raw_holes (raw.Meta n cs xs l) ≡ flat_map raw_holes xs
raw_holes-Meta n cs xs l =
    let e : raw_holes (raw.Meta n cs xs l) ≡ flat_map (λ hs. hs) (map raw_holes xs) = search (rules, the_lemmas) in
    rw (flat_map-map (λ hs. hs) raw_holes xs) at e

pub raw_bound_holes-is : (b : RawPatternBound) → raw_bound_holes b ≡ raw_holes b.body
raw_bound_holes-is b = search (rules, the_lemmas)

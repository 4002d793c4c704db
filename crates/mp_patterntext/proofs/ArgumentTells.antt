-- Arguments that aren't distinct variables are told, where the variables among them are bound.
use Rattle.std.proofs.Common.{true≢false, ◌≡◌, ℕ, suc, ◌+◌, ◌++◌, List, [], ◌∷◌, map, slice_get, Bool, true, false, ◌&&◌, ◌||◌, not, nat_eq, Option, Some, None, is_none, refl, ap, sym, subst, ◌∙◌, arith}
use Rattle.std.specs.Prelude.{unwrap_or}
use Rattle.std.specs.Option.{option_map}
use Rattle.std.specs.List.{list_all, flat_map}
use Rattle.std.proofs.lemmas.Bool.{and_parts, and_from}
use Rattle.std.proofs.lemmas.Bool.Decides.{nat_tests}
use Rattle.mp_logic.specs.declared.sym.Sym.{Sym}
use Rattle.mp_schema.specs.Conditions.{has, is_apart}
use Rattle.mp_schema.specs.Faults.{are_distinct, has_level}
use Rattle.mp_schema.specs.Occurrences.{variable_level}
use Rattle.mp_schema.proofs.Layers.{level_of-Var, level_of-Op, level_of-Meta}
use Rattle.mp_words.specs.declared.raw.RawName.{RawName}
use Rattle.mp_words.specs.Faults.{fault_if}
use Rattle.mp_words.proofs.NoFaults.{nil_parts}
use Rattle.mp_termtext.specs.Statics.{deep, each_faults, level_by, or_here, place_in, unless_bound}
use Rattle.mp_patterntext.specs.declared.raw.RawPattern.{RawPattern}
use Rattle.mp_patterntext.proofs.RawInduction.{each_raw}
use Rattle.mp_patterntext.specs.Scopes.{level_in, syms_of}
use Rattle.mp_words.specs.Seconds.{second_faults}
use Rattle.mp_patterntext.specs.Values.{each_pattern_value, pattern_of}
use Rattle.mp_patterntext.specs.Nodes.{Argument, argument_faults, argument_of, name_if, node_faults, variables_in}
use Rattle.mp_patterntext.proofs.RawLayers.{argument_of-Var, argument_of-Op, argument_of-Meta, node_faults-Var, pattern_of-Var, pattern_of-Op, pattern_of-Meta}
use Rattle.mp_patterntext.proofs.Telling.{OnlyUnbound, Tells, only_both, tells_by, tells_each, tells_if}
use Rattle.mp_patterntext.proofs.Twice.{eq_itself, same_name, tells_second}
use Rattle.mp_words.specs.declared.fail.TextWhy.TheVariants as why

-- ## Levels and names

none_here : (b : Bool) (l : ℕ) → or_here None b ≡ Some l → (b ≡ true) × (0 ≡ l)
none_here true l e = (refl, cc)
none_here false l e = absurd cc

-- the name at its place
named_at : (ns : List Sym) (a : Sym) (l : ℕ) → place_in ns a ≡ Some l → option_map (λ (n : Sym). n.0) (slice_get ns l) ≡ Some a.0
named_at [] a l e = absurd cc
named_at (n ∷ ns) a l e = by (named_at ns a) (place_in ns a) refl
  where
    by : ((i : ℕ) → place_in ns a ≡ Some i → option_map (λ (m : Sym). m.0) (slice_get ns i) ≡ Some a.0) → (o : Option ℕ) → place_in ns a ≡ o → option_map (λ (m : Sym). m.0) (slice_get (n ∷ ns) l) ≡ Some a.0
    by rest (Some i) f =
        let here : or_here (Some i) (nat_eq n.0 a.0) ≡ Some l = ap (λ o. or_here o (nat_eq n.0 a.0)) (sym f) ∙ e in
        let one : 1 + i ≡ l = cc in
        let next : suc i ≡ l = omega (arith, one) in
        subst (λ k. option_map (λ (m : Sym). m.0) (slice_get (n ∷ ns) k) ≡ Some a.0) next (rest i f)
    by rest None f =
        let here = none_here (nat_eq n.0 a.0) l (ap (λ o. or_here o (nat_eq n.0 a.0)) (sym f) ∙ e) in
        let same : n.0 ≡ a.0 = (let t = here.0 in grind (arith, nat_tests, t)) in
        subst (λ k. option_map (λ (m : Sym). m.0) (slice_get (n ∷ ns) k) ≡ Some a.0) here.1 (ap (λ (k : ℕ). Some k) same)

placed : (o : Option ℕ) (l : ℕ) → level_by 0 o None ≡ Some l → o ≡ Some l
placed None l e = absurd cc
placed (Some i) l e = let q : 0 + i ≡ l = cc in ap (λ (k : ℕ). Some k) (omega (arith, q))

-- one level is that of one name
one_level : (env : List Sym) (a b : Sym) (l : ℕ) → level_in env a ≡ Some l → level_in env b ≡ Some l → a.0 ≡ b.0
one_level env a b l e f =
    let both : Some a.0 ≡ Some b.0 = sym (named_at env a l (placed (place_in env a) l e)) ∙ named_at env b l (placed (place_in env b) l f) in
    cc

-- ## Distinct levels and names that are apart

module _ (env : List Sym) where
  abbrev IsBound : Sym → Type 0
  IsBound n = (l : ℕ) × (level_in env n ≡ Some l)

  abbrev AllBound : List Sym → Type 0
  AllBound [] = Unit {0}
  AllBound (n ∷ ns) = IsBound n × AllBound ns

  abbrev level : Sym → ℕ
  level n = unwrap_or (level_in env n) 0

  abbrev levels : List Sym → List (Option ℕ)
  levels ns = map (λ n. Some (level n)) ns

  or_right : (a b : Bool) → b ≡ true → (a || b) ≡ true
  or_right true b e = refl
  or_right false b e = e

  has_its_level : (ns : List Sym) (x : Sym) → has ns x ≡ true → has_level (levels ns) (level x) ≡ true
  has_its_level [] x h = absurd (true≢false (sym h))
  has_its_level (n ∷ ns) x h = by (nat_eq n.0 x.0) refl h (has_its_level ns x)
    where
      by : (b : Bool) → nat_eq n.0 x.0 ≡ b → (b || has ns x) ≡ true → (has ns x ≡ true → has_level (levels ns) (level x) ≡ true) → (nat_eq (level n) (level x) || has_level (levels ns) (level x)) ≡ true
      by true same k rest = ap (λ b. b || has_level (levels ns) (level x)) (ap (λ m. nat_eq (level m) (level x)) (same_name n x same) ∙ eq_itself (level x))
      by false same k rest = or_right (nat_eq (level n) (level x)) _ (rest k)

  same_level : (n x : Sym) → IsBound n → IsBound x → nat_eq (level n) (level x) ≡ true → n.0 ≡ x.0
  same_level n x a b e =
      let m : level n ≡ a.0 = ap (λ o. unwrap_or o 0) a.1 in
      let k : level x ≡ b.0 = ap (λ o. unwrap_or o 0) b.1 in
      let one : a.0 ≡ b.0 = grind (arith, nat_tests, m, k, e) in
      one_level env n x b.0 (a.1 ∙ ap (λ (i : ℕ). Some i) one) b.1

  is_its_level : (ns : List Sym) (x : Sym) → AllBound ns → IsBound x → has_level (levels ns) (level x) ≡ true → has ns x ≡ true
  is_its_level [] x a b h = absurd (true≢false (sym h))
  is_its_level (n ∷ ns) x a b h = by (nat_eq (level n) (level x)) refl h (is_its_level ns x a.1 b)
    where
      by : (c : Bool) → nat_eq (level n) (level x) ≡ c → (c || has_level (levels ns) (level x)) ≡ true → (has_level (levels ns) (level x) ≡ true → has ns x ≡ true) → (nat_eq n.0 x.0 || has ns x) ≡ true
      by true same k rest =
          let one = same_level n x a.0 b same in
          let test : nat_eq n.0 x.0 ≡ true = grind (arith, nat_tests, one) in
          ap (λ c. c || has ns x) test
      by false same k rest = or_right (nat_eq n.0 x.0) (has ns x) (rest k)

  distinct_levels : (ns : List Sym) → AllBound ns → is_apart ns ≡ true → are_distinct (levels ns) ≡ true
  distinct_levels [] a h = refl
  distinct_levels (n ∷ ns) a h =
      let parts = and_parts (not (has ns n)) (is_apart ns) h in
      and_from _ _ (by parts.0 (has_level (levels ns) (level n)) refl) (distinct_levels ns a.1 parts.1)
    where
      by : not (has ns n) ≡ true → (b : Bool) → has_level (levels ns) (level n) ≡ b → not b ≡ true
      by new false e = refl
      by new true e = absurd (true≢false (sym new ∙ ap not (is_its_level ns n a.1 a.0 e)))

  names_apart : (ns : List Sym) → are_distinct (levels ns) ≡ true → is_apart ns ≡ true
  names_apart [] h = refl
  names_apart (n ∷ ns) h =
      let parts = and_parts (not (has_level (levels ns) (level n))) (are_distinct (levels ns)) h in
      and_from _ _ (by parts.0 (has ns n) refl) (names_apart ns parts.1)
    where
      by : not (has_level (levels ns) (level n)) ≡ true → (b : Bool) → has ns n ≡ b → not b ≡ true
      by new false e = refl
      by new true e = absurd (true≢false (sym new ∙ ap not (has_its_level ns n e)))

  -- ## Arguments

  abbrev level_as : Argument → Option ℕ
  level_as a = option_map level a.variable

  abbrev all_variables : List Argument → Bool
  all_variables args = list_all (λ (a : Argument). not (is_none a.variable)) args

  levels_named : (args : List Argument) → all_variables args ≡ true → map level_as args ≡ levels (syms_of (variables_in args))
  levels_named [] h = refl
  levels_named (a ∷ args) h = by a.variable a.at h (levels_named args)
    where
      by : (v : Option Sym) (l : ℕ) → (not (is_none v) && all_variables args) ≡ true → (all_variables args ≡ true → map level_as args ≡ levels (syms_of (variables_in args)))
          → option_map level v ∷ map level_as args ≡ levels (syms_of (name_if v l ++ variables_in args))
      by None l k rest = absurd (true≢false (sym k))
      by (Some n) l k rest = ap (λ ls. Some (level n) ∷ ls) (rest k)

  variables_from : (args : List Argument) → are_distinct (map level_as args) ≡ true → all_variables args ≡ true
  variables_from [] h = refl
  variables_from (a ∷ args) h = by a.variable h (variables_from args)
    where
      by : (v : Option Sym) → are_distinct (option_map level v ∷ map level_as args) ≡ true → (are_distinct (map level_as args) ≡ true → all_variables args ≡ true) → (not (is_none v) && all_variables args) ≡ true
      by None k rest = absurd (true≢false (sym k))
      by (Some n) k rest = rest (and_parts (not (has_level (map level_as args) (level n))) (are_distinct (map level_as args)) k).1

  not_true : (b : Bool) → not b ≡ true → b ≡ false
  not_true true e = absurd (true≢false (sym e))
  not_true false e = refl

  tells_variables : (args : List Argument) → Tells (flat_map (λ (a : Argument). fault_if (is_none a.variable) a.at why.NotAPattern) args) (all_variables args ≡ true)
  tells_variables args =
      tells_each (λ (a : Argument). fault_if (is_none a.variable) a.at why.NotAPattern) (λ a. not (is_none a.variable))
      (λ a. tells_by (fault_if (is_none a.variable) a.at why.NotAPattern) (tells_if (is_none a.variable) a.at why.NotAPattern) (ap not) (not_true (is_none a.variable))) args

  arguments_kept : (args : List Argument) → AllBound (syms_of (variables_in args)) → argument_faults args ≡ [] → are_distinct (map level_as args) ≡ true
  arguments_kept args bound h =
      let parts = nil_parts (flat_map (λ (a : Argument). fault_if (is_none a.variable) a.at why.NotAPattern) args) (second_faults (λ (n : RawName). n) why.NotAPattern (variables_in args)) h in
      ap are_distinct (levels_named args ((tells_variables args).kept parts.0)) ∙ distinct_levels (syms_of (variables_in args)) bound ((tells_second (λ (n : RawName). n) why.NotAPattern (variables_in args)).kept parts.1)

  arguments_told : (args : List Argument) → are_distinct (map level_as args) ≡ true → OnlyUnbound (argument_faults args)
  arguments_told args h =
      let all = variables_from args h in
      let apart = names_apart (syms_of (variables_in args)) (ap are_distinct (sym (levels_named args all)) ∙ h) in
      only_both (flat_map (λ (a : Argument). fault_if (is_none a.variable) a.at why.NotAPattern) args) (second_faults (λ (n : RawName). n) why.NotAPattern (variables_in args)) ((tells_variables args).told all)
      ((tells_second (λ (n : RawName). n) why.NotAPattern (variables_in args)).told apart)

  argument_level : (p : RawPattern) → variable_level (pattern_of p env) ≡ level_as (argument_of p)
  argument_level =
      each_raw (λ p. variable_level (pattern_of p env) ≡ level_as (argument_of p)) (λ n l. ap variable_level (pattern_of-Var n l env) ∙ level_of-Var _ ∙ ap level_as (sym (argument_of-Var n l)))
      (λ n ps ks l h. ap variable_level (pattern_of-Op n ps ks l env) ∙ level_of-Op _ _ _ ∙ ap level_as (sym (argument_of-Op n ps ks l)))
      (λ n cs xs l h. ap variable_level (pattern_of-Meta n cs xs l env) ∙ level_of-Meta _ _ _ ∙ ap level_as (sym (argument_of-Meta n cs xs l)))

  abbrev levels_of : List RawPattern → List (Option ℕ)
  levels_of xs = map variable_level (each_pattern_value (map pattern_of xs) env)

  levels_are : (xs : List RawPattern) → levels_of xs ≡ map level_as (map argument_of xs)
  levels_are [] = refl
  levels_are (x ∷ xs) = (λ i. argument_level x i ∷ levels_are xs i)

  -- ## What nodes without faults say of arguments

  abbrev BoundAs : Option Sym → Type 0
  BoundAs None = Unit {0}
  BoundAs (Some n) = IsBound n

  is_bound : (o : Option ℕ) (l : ℕ) → unless_bound l o ≡ [] → (i : ℕ) × (o ≡ Some i)
  is_bound None l h = absurd cc
  is_bound (Some i) l h = (i, refl)

  module _ (known : List Sym) (final : Bool) where
    abbrev Faultless : RawPattern → Type 0
    Faultless p = (d : ℕ) → node_faults known final p env d ≡ [] → BoundAs (argument_of p).variable

    argument_bound : (p : RawPattern) → Faultless p
    argument_bound =
        each_raw Faultless
        (λ n l d h. subst (λ (a : Argument). BoundAs a.variable) (sym (argument_of-Var n l)) (is_bound (level_in env n) l (nil_parts (deep d l) (unless_bound l (level_in env n)) (sym (node_faults-Var known final n l env d) ∙ h)).1))
        (λ n ps ks l i d h. subst (λ (a : Argument). BoundAs a.variable) (sym (argument_of-Op n ps ks l)) tt)
        (λ n cs xs l i d h. subst (λ (a : Argument). BoundAs a.variable) (sym (argument_of-Meta n cs xs l)) tt)

    arguments_bound : (xs : List RawPattern) (d : ℕ) → each_faults (map (node_faults known final) xs) env d ≡ [] → AllBound (syms_of (variables_in (map argument_of xs)))
    arguments_bound [] d h = tt
    arguments_bound (x ∷ xs) d h =
        let parts = nil_parts (node_faults known final x env d) (each_faults (map (node_faults known final) xs) env d) h in
        by (argument_of x).variable (argument_of x).at (argument_bound x d parts.0) (arguments_bound xs d parts.1)
      where
        by : (v : Option Sym) (l : ℕ) → BoundAs v → AllBound (syms_of (variables_in (map argument_of xs))) → AllBound (syms_of (name_if v l ++ variables_in (map argument_of xs)))
        by None l b rest = rest
        by (Some n) l b rest = (b, rest)

    -- arguments of which no node has a fault
    pub distinct_kept : (xs : List RawPattern) (d : ℕ) → each_faults (map (node_faults known final) xs) env d ≡ [] → argument_faults (map argument_of xs) ≡ [] → are_distinct (map variable_level (each_pattern_value (map pattern_of xs) env)) ≡ true
    distinct_kept xs d h k = ap are_distinct (levels_are xs) ∙ arguments_kept (map argument_of xs) (arguments_bound xs d h) k

  pub distinct_told : (xs : List RawPattern) → are_distinct (map variable_level (each_pattern_value (map pattern_of xs) env)) ≡ true → OnlyUnbound (argument_faults (map argument_of xs))
  distinct_told xs h = arguments_told (map argument_of xs) (ap are_distinct (sym (levels_are xs)) ∙ h)

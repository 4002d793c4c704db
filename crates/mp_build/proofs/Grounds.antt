-- The variables that a value has before its arguments: how many they are, and in which scope.
use Rattle.std.proofs.Common.{◌≡◌, ℕ, ◌+◌, ◌-◌, ◌<◌, ◌≤◌, List, [], ◌∷◌, ◌++◌, length, map, get_or, zero, suc, max, IsTrue, refl, ap, ◌∙◌, inl, inr, arith}
use Rattle.std.specs.Prelude.{All}
use Rattle.std.proofs.lemmas.Bool.{cases_lt}
use Rattle.std.proofs.lemmas.Bool.Decides.{nat_tests}
use Rattle.std.proofs.lemmas.Grind.{common_steps}
use Rattle.std.proofs.lemmas.List.{length-map, map-append, append_assoc, get_or-map, get_or_append_left, get_or-append_right}
use Rattle.std.proofs.lemmas.List.Elements.{All-append}
use Rattle.mp_logic.specs.declared.sym.Sym.{Sym}
use Rattle.mp_term.specs.declared.term.Term.{Term, Var}
use Rattle.mp_term.specs.Terms.{in_scope_of}
use Rattle.mp_term.proofs.Layers.{in_scope-Var, widest-Var}
use Rattle.mp_term.specs.Subst.{variables, AreInScope, widest_of, widest_in, upto}
use Rattle.mp_term.proofs.SubLaws.{get_or-variables, variables-append}
use Rattle.mp_schema.specs.Sequents.{Instance, Spot, ground_at}
use Rattle.mp_logic.specs.Lists.{joined}
use Rattle.mp_schema.specs.Conditions.{has, has_all}
use Rattle.mp_build.specs.Sites.{IsSpot, env_at}
use Rattle.mp_term.proofs.Ranges.{upto-next}

pub AreInScope-none : (m : ℕ) → AreInScope m []
unfolding AreInScope
AreInScope-none m = λ i d h. absurd (omega arith)

pub AreInScope-join : (m : ℕ) (xs ys : List Term) → AreInScope m xs → AreInScope m ys → AreInScope m (xs ++ ys)
unfolding AreInScope
AreInScope-join m xs ys h h' = All-append (λ t. IsTrue (in_scope_of t m)) xs ys h h'

pub AreInScope-cons : (m : ℕ) (t : Term) (ts : List Term) → IsTrue (in_scope_of t m) → AreInScope m ts → AreInScope m (t ∷ ts)
unfolding AreInScope
AreInScope-cons m t ts h hs = All-append (λ x. IsTrue (in_scope_of x m)) (t ∷ []) ts first hs where
  first : All (λ x. IsTrue (in_scope_of x m)) (t ∷ [])
  first zero d lt = h
  first (suc i) d lt = absurd (omega arith)

pub widest_in-none : (m : ℕ) → widest_in m [] ≡ m
unfolding widest_in
widest_in-none m = refl

pub widest_in-cons : (m : ℕ) (t : Term) (ts : List Term) → widest_in m (t ∷ ts) ≡ max (widest_of t m) (widest_in m ts)
unfolding widest_in
widest_in-cons m t ts = refl

pub variables-are : (m k : ℕ) → variables m k ≡ map Var (upto m k)
variables-are m zero = refl
variables-are m (suc k) = ap (λ vs. Var m ∷ vs) (variables-are (suc m) k)

pub upto-in : (m i k : ℕ) → i + k ≤ m → AreInScope m (map Var (upto i k))
upto-in m i zero h = AreInScope-none m
upto-in m i (suc k) h = AreInScope-cons m (Var i) _ (rw in_scope-Var (grind (arith, nat_tests))) (upto-in m (suc i) k (omega arith))

-- variables widen nothing
pub widest_in-levels : (m : ℕ) (levels : List ℕ) (ys : List Term) (r : ℕ) → m ≤ r → widest_in m ys ≤ r → widest_in m (map Var levels ++ ys) ≤ r
widest_in-levels m [] ys r h h' = h'
widest_in-levels m (i ∷ levels) ys r h h' =
    let w = widest-Var i m in
    let rest = widest_in-levels m levels ys r h h' in
    let e = widest_in-cons m (Var i) (map Var levels ++ ys) in omega (arith, w, rest, e)

module _ (v : Instance) (pos : Sym → ℕ) where
  -- the variables of a context
  abbrev range : Sym → List ℕ
  range c = upto (pos c) (length (v.kept c))

  module _ (known : List Sym) (m : ℕ) (made : (c : Sym) → IsTrue (has known c) → pos c + length (v.kept c) ≤ m) where
    joined-in : (cs : List Sym) → IsTrue (has_all known cs) → AreInScope m (map Var (joined (map range cs)))
    joined-in [] h = AreInScope-none m
    joined-in (c ∷ cs) h =
        let first : IsTrue (has known c) = grind (arith, common_steps) in
        let rest : IsTrue (has_all known cs) = grind (arith, common_steps) in
        let both = map-append Var (range c) (joined (map range cs)) in
        rw both (AreInScope-join m _ _ (upto-in m (pos c) (length (v.kept c)) (made c first)) (joined-in cs rest))

    pub before-in : (cs : List Sym) → v.ambient ≤ m → IsTrue (has_all known cs) → AreInScope m (map Var (ground_at v pos cs))
    before-in cs h listed =
        let both = map-append Var (upto 0 v.ambient) (joined (map range cs)) in
        rw both (AreInScope-join m _ _ (upto-in m 0 v.ambient (omega arith)) (joined-in cs listed))

-- the environment of a body below k binders
pub env-under : (l : Spot) (base m k : ℕ) → base ≤ m → env_at l base m ++ variables m k ≡ env_at l base (m + k)
env-under l base m k h =
    let e : base + (m - base) ≡ m = omega arith in
    let e' : (m - base) + k ≡ m + k - base = omega arith in
    let own = rw (e, e') at (variables-append base (m - base) k) in
    append_assoc (map Var l.env) (variables base (m - base)) (variables m k) ∙ ap (λ vs. map Var l.env ++ vs) own

-- what stands for a level
pub env-named : (l : Spot) (base m i : ℕ) (d : Term) (e : ℕ) → i < length l.env → get_or (env_at l base m) i d ≡ Var (get_or l.env i e)
env-named l base m i d e h =
    let many = length-map l.env Var in
    get_or_append_left (map Var l.env) (variables base (m - base)) d i (omega arith) ∙ get_or-map Var l.env i e d h

pub env-bound : (l : Spot) (base m i : ℕ) (d : Term) → length l.env ≤ i → i < length l.env + (m - base) →
    get_or (env_at l base m) i d ≡ Var (base + (i - length l.env))
env-bound l base m i d low high =
    let many = length-map l.env Var in
    get_or-append_right (map Var l.env) (variables base (m - base)) (length l.env) i d many low ∙ get_or-variables base (m - base) (i - length l.env) d (omega arith)

pub env-at : (v : Instance) (l : Spot) (known : List Sym) (base m i : ℕ) → IsSpot v l known → l.next ≤ base → base ≤ m → i < length l.env + (m - base) →
    (level : ℕ) × (level < m) × ((d : Term) → get_or (env_at l base m) i d ≡ Var level)
env-at v l known base m i spot outer inner h = elim (cases_lt i (length l.env)) [
  | inl low ↦
      let small : get_or l.env i 0 < l.next = spot.named i 0 low in
      (get_or l.env i 0, omega arith, λ d. env-named l base m i d 0 low)
  | inr high ↦ (base + (i - length l.env), omega arith, λ d. env-bound l base m i d high h)
]

-- one variable more
pub pushed_variable : (terms made more : List Term) (first level : ℕ) → first ≤ level → made ≡ terms ++ map Var (upto first (level - first)) →
    more ≡ made ++ Var level ∷ [] → more ≡ terms ++ map Var (upto first (level + 1 - first))
pushed_variable terms made more first level h is pushed =
    let e : level + 1 - first ≡ (level - first) + 1 = omega arith in
    let e' : first + (level - first) ≡ level = omega arith in
    rw (pushed, is, e, upto-next, map-append, e', append_assoc) refl

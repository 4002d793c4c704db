-- What the loop of substitution over bound subterms keeps, and what a variable asks.
use Rattle.std.proofs.Common.{◌≡◌, ℕ, ◌+◌, ◌-◌, ◌<◌, ◌≤◌, ◌^◌, List, [], ◌∷◌, ◌++◌, length, map, get_or, max, IsTrue, refl, ◌∙◌, append_assoc, drop, rules, arith}
use Rattle.std.proofs.lemmas.Grind.{common_steps}
use Rattle.mp_term.specs.declared.term.Term.{Term, the_lemmas}
use Rattle.mp_term.specs.declared.term.Bound.{Bound}
use Rattle.mp_term.specs.Terms.{all_at_scope}
use Rattle.mp_term.specs.Subst.{weak, under, sub_of, sub_bound_of, sub_each, widest_of, widest_at, width_bound}
use Rattle.mp_term.proofs.Layers.{scoped_bound, width_bound-is, widest-Var}
use Rattle.mp_term.proofs.ScopeLaws.{widest-weak}
use Rattle.mp_term.proofs.SubLaws.{drop-at, under-under, under-low, under-high}

pub sub_bound_within : (b : Bound) (s : List Term) (m n scope : ℕ) → n ≤ scope →
    sub_bound_of b (under s m (scope - n)) (m + (scope - n))
    ≡ record { binders = b.binders; body = sub_of b.body (under s m (scope + b.binders - n)) (m + (scope + b.binders - n)) }
sub_bound_within b s m n scope h =
    let e1 : (scope - n) + b.binders ≡ scope + b.binders - n = omega arith in
    let e2 : m + (scope - n) + b.binders ≡ m + (scope + b.binders - n) = omega arith in
    let e3 = under-under s m (scope - n) b.binders in
    let e4 : sub_bound_of b (under s m (scope - n)) (m + (scope - n))
    ≡ record { binders = b.binders; body = sub_of b.body (under (under s m (scope - n)) (m + (scope - n)) b.binders) (m + (scope - n) + b.binders) }
    = search (rules, the_lemmas) in
    e4 ∙ rw (e3, e1, e2) refl

-- the widest scope in a body that was replaced is the widest one in what the loop asks
pub made_width_within : (b : Bound) (s : List Term) (m n scope : ℕ) → n ≤ scope →
    width_bound (sub_bound_of b (under s m (scope - n)) (m + (scope - n))) (m + (scope - n))
    ≡ max (m + (scope + b.binders - n)) (widest_of (sub_of b.body (under s m (scope + b.binders - n)) (m + (scope + b.binders - n))) (m + (scope + b.binders - n)))
made_width_within b s m n scope h =
    let e : m + (scope - n) + b.binders ≡ m + (scope + b.binders - n) = omega arith in
    rw (sub_bound_within b s m n scope h, width_bound-is, e) refl

-- what the loop over the bound subterms keeps
pub record Replaced (items made : List Bound) (i scope : ℕ) (terms : List Term) (inner : ℕ) : Type 0 where
  pub scoped : IsTrue (all_at_scope scope (map scoped_bound (drop i items)))
  pub narrow : widest_at scope (map width_bound (drop i items)) < 2 ^ 31
  pub made_narrow : widest_at inner (map width_bound (sub_each (map sub_bound_of (drop i items)) terms inner)) < 2 ^ 31
  pub done : made ++ sub_each (map sub_bound_of (drop i items)) terms inner ≡ sub_each (map sub_bound_of items) terms inner

module _ (items made : List Bound) (i scope : ℕ) (terms : List Term) (inner : ℕ) where
  pub Replaced-next : (b new : Bound) (more : List Bound) → i < length items → b ≡ get_or items i b → new ≡ sub_bound_of b terms inner →
      more ≡ made ++ new ∷ [] → Replaced items made i scope terms inner → Replaced items more (i + 1) scope terms inner
  Replaced-next b new more h is e pushed r =
      let next = drop-at items i b h is in
      let scoped = rw next at r.scoped in
      let narrow = rw next at r.narrow in
      let made_narrow = rw next at r.made_narrow in
      let done = rw next at r.done in
      record {
        scoped = grind (arith, common_steps, scoped);
        narrow = omega (arith, narrow);
        made_narrow = omega (arith, made_narrow);
        done = rw (pushed, e, append_assoc) done;
      }

  -- the subterm that comes next is in scope and narrow, before and after
  pub Replaced-here : (b : Bound) → i < length items → b ≡ get_or items i b → Replaced items made i scope terms inner →
      IsTrue (scoped_bound b scope) × (width_bound b scope < 2 ^ 31) × (width_bound (sub_bound_of b terms inner) inner < 2 ^ 31)
  Replaced-here b h is r =
      let next = drop-at items i b h is in
      let scoped = rw next at r.scoped in
      let narrow = rw next at r.narrow in
      let made_narrow = rw next at r.made_narrow in
      (grind (arith, common_steps, scoped), omega (arith, narrow), omega (arith, made_narrow))

-- what a variable's term asks of its weakening
pub low_narrow : (s : List Term) (m k i most : ℕ) (d u : Term) → i < length s → u ≡ get_or s i u →
    widest_of (get_or (under s m k) i d) (m + k) < most → widest_of u m + k < most
low_narrow s m k i most d u low is h =
    let item : get_or (under s m k) i d ≡ weak m k u = rw (under-low s m k i d u low, ← is) refl in
    let z : m + 0 ≡ m = omega arith in
    let z' : m + k + 0 ≡ m + k = omega arith in
    let wide = rw (z, z') at (widest-weak m k u 0) in
    rw (item, wide) at h

-- and a bound variable of its scope
pub high_narrow : (s : List Term) (m k i most : ℕ) (d : Term) → length s ≤ i → i < length s + k →
    widest_of (get_or (under s m k) i d) (m + k) < most → m + k < most
high_narrow s m k i most d high inside h = rw (under-high s m k i d high inside, widest-Var) at h

-- Each step of the code is the function's.
use Rattle.std.proofs.Common.{◌≡◌, ◌≢◌, ℕ, ◌+◌, ◌<◌, List, [], ◌∷◌, length, map, Bool, IsTrue, Option, Some, None, nat_eq, if◌then◌else◌, option_and_then, ◌↔◌, All, refl, arith}
use Rattle.std.specs.List.{IsDistinct}
use Rattle.mp_logic.specs.declared.sym.Sym.{Sym}
use Rattle.mp_term.specs.declared.term.Param.{Param}
use Rattle.mp_term.specs.declared.term.Term.{Term, Var}
use Rattle.mp_term.specs.declared.term.Bound.{Bound}
use Rattle.mp_term.specs.Terms.{in_scope_of}
use Rattle.mp_term.specs.Subst.{sub_of, unrenamed, IsRenaming}
use Rattle.mp_term.proofs.SubLaws.{under-none}
use Rattle.mp_term.proofs.Renaming.{unrenamed-sub, sub-unrenamed}
use Rattle.mp_schema.specs.declared.pattern.ParamPat.{ParamPat}
use Rattle.mp_schema.specs.declared.instance.MetaVal.{MetaVal}
use Rattle.mp_schema.specs.Values.{find_meta}
use Rattle.mp_match.specs.declared.place.Found.{Found}
use Rattle.mp_match.specs.Matching.{param_found, params_found, BoundMatcher, all_found, value_found, meta_found}
use Rattle.mp_term.proofs.EqualTerms.{same-tested}

params_none : (qs : List ParamPat) (ps : List Param) → ((f : Found) → params_found qs ps f ≡ None) → (o : Option Found) → option_and_then (params_found qs ps) o ≡ None
params_none qs ps h None = refl
params_none qs ps h (Some f) = h f

pub params-length : (qs : List ParamPat) (ps : List Param) (f : Found) → length qs ≢ length ps → params_found qs ps f ≡ None
params-length [] [] f h = absurd (h refl)
params-length [] (p ∷ ps) f h = refl
params-length (q ∷ qs) [] f h = refl
params-length (q ∷ qs) (p ∷ ps) f h = params_none qs ps (λ g. params-length qs ps g (λ e. h (omega (arith, e)))) (param_found q p f)

pub all_none : (bs : List BoundMatcher) (levels : List ℕ) (m : ℕ) (xs : List Bound) → ((f : Found) → all_found bs levels m xs f ≡ None) → (o : Option Found) →
    option_and_then (all_found bs levels m xs) o ≡ None
all_none bs levels m xs h None = refl
all_none bs levels m xs h (Some f) = h f

pub all-length : (bs : List BoundMatcher) (levels : List ℕ) (m : ℕ) (xs : List Bound) (f : Found) → length bs ≢ length xs → all_found bs levels m xs f ≡ None
all-length [] levels m [] f h = absurd (h refl)
all-length [] levels m (x ∷ xs) f h = refl
all-length (b ∷ bs) levels m [] f h = refl
all-length (b ∷ bs) levels m (x ∷ xs) f h =
    all_none bs levels m xs (λ g. all-length bs levels m xs g (λ e. h (omega (arith, e)))) (b.finds levels m x f)

-- a renaming that is none other is the one that the function gives
module _ (levels : List ℕ) (n : ℕ) (t : Term) (distinct : IsDistinct nat_eq levels) (below : All (λ l. l < n) levels) (scoped : IsTrue (in_scope_of t n)) where
  pub undone : (u : Term) → IsTrue (in_scope_of u (length levels)) → sub_of u (map Var levels) n ≡ t → unrenamed levels n t ≡ Some u
  undone u inner e =
      let p : length levels + 0 ≡ length levels = omega arith in
      let q : n + 0 ≡ n = omega arith in
      rw (under-none, q, e) at (unrenamed-sub levels n distinct (λ i h. below i 0 h) u 0 (rw p inner))

  pub restored : (u : Term) → unrenamed levels n t ≡ Some u → (sub_of u (map Var levels) n ≡ t) × IsTrue (in_scope_of u (length levels))
  restored u e =
      let p : length levels + 0 ≡ length levels = omega arith in
      let q : n + 0 ≡ n = omega arith in
      rw (under-none, q, p) at (sub-unrenamed levels n distinct (λ i h. below i 0 h) t 0 u (rw q scoped) e)

  not_found : (r : Option Term) → IsRenaming levels n t None → unrenamed levels n t ≡ r → r ≡ None
  not_found None h e = refl
  not_found (Some u) h e = let k = restored u e in absurd (h u k.1 k.0)

  pub renaming-is : (r : Option Term) → IsRenaming levels n t r → unrenamed levels n t ≡ r
  renaming-is None h = not_found (unrenamed levels n t) h refl
  renaming-is (Some u) h = undone u h.0 h.1

  module _ (name : Sym) (f : Found) where
    pub meta_none : IsRenaming levels n t None → None ≡ meta_found name levels n t f
    meta_none h = let e = renaming-is None h in rw e refl

    pub meta_known : (u : Term) (x : MetaVal) (r : Bool) → IsRenaming levels n t (Some u) → find_meta f.metas name ≡ Some x → (IsTrue r ↔ (x.body ≡ u)) →
        (if r then Some f else None) ≡ meta_found name levels n t f
    meta_known u x r h there tested = let e = renaming-is (Some u) h in rw (e, there, same-tested r x.body u tested) refl

    pub meta_new : (u : Term) → IsRenaming levels n t (Some u) → find_meta f.metas name ≡ None → value_found name (length levels) f None u ≡ meta_found name levels n t f
    meta_new u h none = let e = renaming-is (Some u) h in rw (e, none) refl

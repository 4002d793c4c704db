-- What a term's instance passes, the term passed before its variables were replaced.
use Rattle.std.proofs.Common.{◌≡◌, ℕ, ◌+◌, ◌≤◌, List, [], ◌∷◌, map, Bool, true, refl, arith}
use Rattle.std.specs.Prelude.{nat_le}
use Rattle.std.specs.List.{AllByRecursion}
use Rattle.std.proofs.lemmas.Bool.Decides.{nat_tests}
use Rattle.std.proofs.lemmas.Grind.{common_steps}
use Rattle.mp_logic.specs.declared.sym.Sym.{Sym}
use Rattle.mp_term.specs.declared.term.Param.{Param}
use Rattle.mp_term.specs.declared.term.Term.{Term, Var, Op}
use Rattle.mp_term.specs.declared.term.Bound.{Bound}
use Rattle.mp_term.specs.Induction.{OfEachBody, each_term}
use Rattle.mp_term.specs.Terms.{all_true, depth_of}
use Rattle.mp_logic.specs.Lists.{greatest}
use Rattle.mp_term.specs.Limits.{few_binders_of, is_shallow}
use Rattle.mp_term.proofs.Layers.{few_bound, few-Var, few-Op, few_bound-is, depth_bound, depth-Var, depth-Op, depth_bound-is, sub-Op, sub_bound-is}
use Rattle.mp_term.specs.Subst.{under, sub_of, sub_bound_of, sub_each}

-- a test that each body of an operator passes where the operator does, and each term where it does after a substitution
pub record IsInherited (test : Term → Bool) : Type 0 where
  pub bodies : (o : Sym) (ps : List Param) (bs : List Bound) → test (Op o ps bs) ≡ true → AllByRecursion (λ (b : Bound). test b.body ≡ true) bs
  pub before : (t : Term) (s : List Term) (m : ℕ) → test (sub_of t s m) ≡ true → test t ≡ true

-- ## Few binders

abbrev WasFew : Term → Type 0
WasFew t = (s : List Term) (m : ℕ) → few_binders_of (sub_of t s m) ≡ true → few_binders_of t ≡ true

was_few_bounds : (bs : List Bound) → OfEachBody WasFew bs → (s : List Term) (m : ℕ) → all_true (map few_bound (sub_each (map sub_bound_of bs) s m)) ≡ true → all_true (map few_bound bs) ≡ true
was_few_bounds [] h s m e = refl
was_few_bounds (b ∷ bs) h s m e =
    let first : few_bound (sub_bound_of b s m) ≡ true = grind (arith, common_steps) in
    let others : all_true (map few_bound (sub_each (map sub_bound_of bs) s m)) ≡ true = grind (arith, common_steps) in
    let apart = rw (sub_bound-is, few_bound-is) at first in
    let binders : nat_le b.binders 8 ≡ true = grind (arith, common_steps, apart) in
    let body : few_binders_of (sub_of b.body (under s m b.binders) (m + b.binders)) ≡ true = grind (arith, common_steps, apart) in
    let here = h.0 (under s m b.binders) (m + b.binders) body in
    let rest = was_few_bounds bs h.1 s m others in
    let now : few_bound b ≡ true = rw few_bound-is (rw (binders, here) refl) in
    rw (now, rest) refl

was_few_op : (o : Sym) (ps : List Param) (bs : List Bound) → OfEachBody WasFew bs → WasFew (Op o ps bs)
was_few_op o ps bs h s m e = rw few-Op (was_few_bounds bs h s m (rw (sub-Op (Op o ps bs) o ps bs s m refl, few-Op) at e))

was_few : (t : Term) → WasFew t
was_few = each_term WasFew (λ i s m e. few-Var i) was_few_op

few_bodies_each : (bs : List Bound) → all_true (map few_bound bs) ≡ true → AllByRecursion (λ (b : Bound). few_binders_of b.body ≡ true) bs
few_bodies_each [] e = tt
few_bodies_each (b ∷ bs) e =
    let first : few_bound b ≡ true = grind (arith, common_steps) in
    let others : all_true (map few_bound bs) ≡ true = grind (arith, common_steps) in
    let apart = rw few_bound-is at first in
    (grind (arith, common_steps, apart), few_bodies_each bs others)

few_bodies : (o : Sym) (ps : List Param) (bs : List Bound) → few_binders_of (Op o ps bs) ≡ true → AllByRecursion (λ (b : Bound). few_binders_of b.body ≡ true) bs
few_bodies o ps bs e = few_bodies_each bs (rw few-Op at e)

pub few_inherited : IsInherited few_binders_of
few_inherited = record { bodies = few_bodies; before = was_few }

-- ## Depth

depth-some : (t : Term) → 1 ≤ depth_of t
depth-some = each_term (λ t. 1 ≤ depth_of t) (λ i. rw depth-Var (omega arith)) (λ o ps bs h. rw depth-Op (omega arith))

abbrev Grows : Term → Type 0
Grows t = (s : List Term) (m : ℕ) → depth_of t ≤ depth_of (sub_of t s m)

grows_bounds : (bs : List Bound) → OfEachBody Grows bs → (s : List Term) (m : ℕ) → greatest (map depth_bound bs) ≤ greatest (map depth_bound (sub_each (map sub_bound_of bs) s m))
grows_bounds [] h s m = omega arith
grows_bounds (b ∷ bs) h s m =
    let here = h.0 (under s m b.binders) (m + b.binders) in
    let first : depth_bound b ≤ depth_bound (sub_bound_of b s m) = rw (sub_bound-is, depth_bound-is, depth_bound-is) here in
    let rest = grows_bounds bs h.1 s m in
    omega arith

grows_op : (o : Sym) (ps : List Param) (bs : List Bound) → OfEachBody Grows bs → Grows (Op o ps bs)
grows_op o ps bs h s m = let r = grows_bounds bs h s m in rw (sub-Op (Op o ps bs) o ps bs s m refl, depth-Op, depth-Op) (omega arith)

grows : (t : Term) → Grows t
grows = each_term Grows (λ i s m. let h = depth-some (sub_of (Var i) s m) in rw depth-Var h) grows_op

shallow_before : (t : Term) (s : List Term) (m : ℕ) → is_shallow (sub_of t s m) ≡ true → is_shallow t ≡ true
shallow_before t s m e = let g = grows t s m in grind (arith, nat_tests, e, g)

shallow_each : (bs : List Bound) → greatest (map depth_bound bs) ≤ 199 → AllByRecursion (λ (b : Bound). is_shallow b.body ≡ true) bs
shallow_each [] e = tt
shallow_each (b ∷ bs) e =
    let d = depth_bound-is b in
    let here : depth_of b.body ≤ 200 = omega arith in
    let test : is_shallow b.body ≡ true = grind (arith, nat_tests, here) in
    (test, shallow_each bs (omega arith))

shallow_bodies : (o : Sym) (ps : List Param) (bs : List Bound) → is_shallow (Op o ps bs) ≡ true → AllByRecursion (λ (b : Bound). is_shallow b.body ≡ true) bs
shallow_bodies o ps bs e =
    let d = depth-Op o ps bs in
    let low : depth_of (Op o ps bs) ≤ 200 = grind (arith, nat_tests, e) in
    shallow_each bs (omega arith)

pub shallow_inherited : IsInherited is_shallow
shallow_inherited = record { bodies = shallow_bodies; before = shallow_before }

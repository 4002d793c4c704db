-- What the terms that are substituted and the levels that are renamed keep.
use Rattle.std.proofs.Common.{ℕ, ◌<◌, ◌≤◌, List, [], ◌∷◌, length, get_or, suc, IsTrue, arith}
use Rattle.std.specs.Prelude.{◌≡◌, nat_eq, false}
use Rattle.std.specs.List.{IsDistinct}
use Rattle.mp_term.specs.declared.term.Term.{Term}
use Rattle.mp_term.specs.Terms.{in_scope_of}
use Rattle.mp_term.specs.Subst.{sub_of, widest_of, widest_in, AreInScope}
use Rattle.mp_term.proofs.Laws.{width_after_substitution}

pub each_in_scope : (m : ℕ) (by : List Term) → ((k : ℕ) (d : Term) → k < length by → IsTrue (in_scope_of (get_or by k d) m)) → AreInScope m by
unfolding AreInScope
each_in_scope m by each = λ k d h. each k d h

pub each_narrow : (m : ℕ) (by : List Term) (most : ℕ) → m ≤ most → ((k : ℕ) (d : Term) → k < length by → widest_of (get_or by k d) m < most) → widest_in m by ≤ most
unfolding widest_in
each_narrow m [] most h each = h
each_narrow m (t ∷ by) most h each =
    let first : widest_of t m < most = each 0 t (omega arith) in
    let rest = each_narrow m by most h (λ k d below. each (suc k) d (omega arith)) in
    omega (arith, first, rest)

pub made_narrow : (m n : ℕ) (by : List Term) (t : Term) → length by ≡ n → IsTrue (in_scope_of t n) → widest_of t n < 5000 → widest_in m by ≤ 5000 →
    widest_of (sub_of t by m) m < 2147483648
made_narrow m n by t count scoped narrow wide =
    let w = rw count at (width_after_substitution by m t (rw count scoped)) in omega (arith, w)

pub distinct_one : (a : ℕ) → IsDistinct nat_eq (a ∷ [])
unfolding IsDistinct
distinct_one a = (tt, tt)

pub distinct_two : (a b : ℕ) → nat_eq a b ≡ false → IsDistinct nat_eq (a ∷ b ∷ [])
unfolding IsDistinct
distinct_two a b apart = ((apart, tt), (tt, tt))

-- Laws of weakening.
use Rattle.std.proofs.Common.{◌≡◌, ℕ, ◌+◌, List, [], ◌∷◌, map, refl, ap, arith}
use Rattle.std.proofs.lemmas.Bool.Decides.{nat_tests}
use Rattle.mp_logic.specs.declared.sym.Sym.{Sym}
use Rattle.mp_term.specs.declared.term.Param.{Param}
use Rattle.mp_term.specs.declared.term.Term.{Term, Var, Op}
use Rattle.mp_term.specs.declared.term.Bound.{Bound}
use Rattle.mp_term.specs.Induction.{OfEachBody, each_term}
use Rattle.mp_term.specs.Subst.{weak, weak_bound}
use Rattle.mp_term.proofs.Layers.{weak-Var, weak-Op, weak_bound-is}

-- to weaken twice at one place is to weaken once by the sum
module _ (m k j : ℕ) where
  abbrev IsJoined : Term → Type 0
  IsJoined t = weak (m + k) j (weak m k t) ≡ weak m (k + j) t

  joined_bounds : (bs : List Bound) → OfEachBody IsJoined bs → map (weak_bound (m + k) j) (map (weak_bound m k) bs) ≡ map (weak_bound m (k + j)) bs
  joined_bounds [] h = refl
  joined_bounds (b ∷ bs) h = simp weak_bound-is (grind (arith, h.0, joined_bounds bs h.1))

  joined_var : (level : ℕ) → IsJoined (Var level)
  joined_var level = simp weak-Var (grind (arith, nat_tests))

  joined_op : (o : Sym) (ps : List Param) (subs : List Bound) → OfEachBody IsJoined subs → IsJoined (Op o ps subs)
  joined_op o ps subs h = simp weak-Op (ap (Op o ps) (joined_bounds subs h))

  pub weak-weak : (t : Term) → weak (m + k) j (weak m k t) ≡ weak m (k + j) t
  weak-weak = each_term IsJoined joined_var joined_op

-- the two places need not differ: what was moved stays at or above the first
module _ (m j k : ℕ) where
  abbrev IsStacked : Term → Type 0
  IsStacked t = weak m k (weak m j t) ≡ weak m (j + k) t

  stacked_bounds : (bs : List Bound) → OfEachBody IsStacked bs → map (weak_bound m k) (map (weak_bound m j) bs) ≡ map (weak_bound m (j + k)) bs
  stacked_bounds [] h = refl
  stacked_bounds (b ∷ bs) h = simp weak_bound-is (grind (arith, h.0, stacked_bounds bs h.1))

  stacked_var : (level : ℕ) → IsStacked (Var level)
  stacked_var level = simp weak-Var (grind (arith, nat_tests))

  stacked_op : (o : Sym) (ps : List Param) (subs : List Bound) → OfEachBody IsStacked subs → IsStacked (Op o ps subs)
  stacked_op o ps subs h = simp weak-Op (ap (Op o ps) (stacked_bounds subs h))

  pub weak-stacked : (t : Term) → weak m k (weak m j t) ≡ weak m (j + k) t
  weak-stacked = each_term IsStacked stacked_var stacked_op

-- to weaken by nothing changes nothing
module _ (m : ℕ) where
  abbrev IsUnchanged : Term → Type 0
  IsUnchanged t = weak m 0 t ≡ t

  unchanged_bounds : (bs : List Bound) → OfEachBody IsUnchanged bs → map (weak_bound m 0) bs ≡ bs
  unchanged_bounds [] h = refl
  unchanged_bounds (b ∷ bs) h = simp weak_bound-is (grind (arith, h.0, unchanged_bounds bs h.1))

  unchanged_var : (level : ℕ) → IsUnchanged (Var level)
  unchanged_var level = simp weak-Var (grind (arith, nat_tests))

  unchanged_op : (o : Sym) (ps : List Param) (subs : List Bound) → OfEachBody IsUnchanged subs → IsUnchanged (Op o ps subs)
  unchanged_op o ps subs h = simp weak-Op (ap (Op o ps) (unchanged_bounds subs h))

  pub weak-none : (t : Term) → weak m 0 t ≡ t
  weak-none = each_term IsUnchanged unchanged_var unchanged_op

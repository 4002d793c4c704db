-- Laws of moved terms.
use Rattle.std.proofs.Common.{◌≡◌, ℕ, ◌+◌, List, [], ◌∷◌, length, map, refl, ap, sym, ◌∙◌, IsTrue, arith}
use Rattle.std.proofs.lemmas.Grind.{common_steps}
use Rattle.std.specs.Prelude.{nat_lt, if◌then◌else◌}
use Rattle.std.proofs.lemmas.Bool.Decides.{nat_tests}
use Rattle.mp_logic.specs.declared.sym.Sym.{Sym}
use Rattle.mp_term.specs.declared.term.Param.{Param}
use Rattle.mp_term.specs.declared.term.Term.{Term, Var, Op}
use Rattle.mp_term.specs.declared.term.Bound.{Bound}
use Rattle.mp_term.specs.Induction.{OfEachBody, each_term}
use Rattle.mp_term.specs.Subst.{weak, weak_bound, occurs_in, any_true}
use Rattle.mp_term.proofs.Layers.{weak-Var, weak-Op, weak_bound-is, occurs_bound, occurs-Var, occurs-Op, occurs_bound-is}
use Rattle.mp_delay.specs.declared.moves.Move.{Move}
use Rattle.mp_delay.specs.Moves.{relevel_by, relevel_bound, moved, moved_term, moved_terms}
use Rattle.mp_delay.proofs.Layers.{relevel-Var, relevel-Op, relevel_bound-is}

-- to move twice is to move once, by both
module _ (f g : ℕ → ℕ) where
  abbrev both : ℕ → ℕ
  both i = g (f i)

  abbrev IsJoined : Term → Type 0
  IsJoined t = relevel_by g (relevel_by f t) ≡ relevel_by both t

  joined_bounds : (bs : List Bound) → OfEachBody IsJoined bs → map (relevel_bound g) (map (relevel_bound f) bs) ≡ map (relevel_bound both) bs
  joined_bounds [] h = refl
  joined_bounds (b ∷ bs) h = simp relevel_bound-is (grind (arith, h.0, joined_bounds bs h.1))

  joined_var : (level : ℕ) → IsJoined (Var level)
  joined_var level = simp relevel-Var refl

  joined_op : (o : Sym) (ps : List Param) (subs : List Bound) → OfEachBody IsJoined subs → IsJoined (Op o ps subs)
  joined_op o ps subs h = simp relevel-Op (ap (Op o ps) (joined_bounds subs h))

  pub relevel-relevel : (t : Term) → relevel_by g (relevel_by f t) ≡ relevel_by (λ i. g (f i)) t
  relevel-relevel = each_term IsJoined joined_var joined_op

-- moves that agree on each level make the same term
module _ (f g : ℕ → ℕ) (same : (i : ℕ) → f i ≡ g i) where
  abbrev IsAlike : Term → Type 0
  IsAlike t = relevel_by f t ≡ relevel_by g t

  alike_bounds : (bs : List Bound) → OfEachBody IsAlike bs → map (relevel_bound f) bs ≡ map (relevel_bound g) bs
  alike_bounds [] h = refl
  alike_bounds (b ∷ bs) h = simp relevel_bound-is (grind (arith, h.0, alike_bounds bs h.1))

  alike_var : (level : ℕ) → IsAlike (Var level)
  alike_var level = simp relevel-Var (ap Var (same level))

  alike_op : (o : Sym) (ps : List Param) (subs : List Bound) → OfEachBody IsAlike subs → IsAlike (Op o ps subs)
  alike_op o ps subs h = simp relevel-Op (ap (Op o ps) (alike_bounds subs h))

  pub relevel-alike : (t : Term) → relevel_by f t ≡ relevel_by g t
  relevel-alike = each_term IsAlike alike_var alike_op

-- to weaken is to move
module _ (n k : ℕ) where
  abbrev up : ℕ → ℕ
  up i = if nat_lt i n then i else i + k

  abbrev IsMove : Term → Type 0
  IsMove t = weak n k t ≡ relevel_by up t

  move_bounds : (bs : List Bound) → OfEachBody IsMove bs → map (weak_bound n k) bs ≡ map (relevel_bound up) bs
  move_bounds [] h = refl
  move_bounds (b ∷ bs) h = simp (weak_bound-is, relevel_bound-is) (grind (arith, h.0, move_bounds bs h.1))

  move_var : (level : ℕ) → IsMove (Var level)
  move_var level = simp (weak-Var, relevel-Var) refl

  move_op : (o : Sym) (ps : List Param) (subs : List Bound) → OfEachBody IsMove subs → IsMove (Op o ps subs)
  move_op o ps subs h = simp (weak-Op, relevel-Op) (ap (Op o ps) (move_bounds subs h))

  pub weak-is_move : (t : Term) → weak n k t ≡ relevel_by (λ i. if nat_lt i n then i else i + k) t
  weak-is_move = each_term IsMove move_var move_op

-- to move nothing changes nothing
module _ (f : ℕ → ℕ) (still : (i : ℕ) → f i ≡ i) where
  abbrev IsStill : Term → Type 0
  IsStill t = relevel_by f t ≡ t

  still_bounds : (bs : List Bound) → OfEachBody IsStill bs → map (relevel_bound f) bs ≡ bs
  still_bounds [] h = refl
  still_bounds (b ∷ bs) h = simp relevel_bound-is (grind (arith, h.0, still_bounds bs h.1))

  still_var : (level : ℕ) → IsStill (Var level)
  still_var level = simp relevel-Var (ap Var (still level))

  still_op : (o : Sym) (ps : List Param) (subs : List Bound) → OfEachBody IsStill subs → IsStill (Op o ps subs)
  still_op o ps subs h = simp relevel-Op (ap (Op o ps) (still_bounds subs h))

  pub relevel-still : (t : Term) → relevel_by f t ≡ t
  relevel-still = each_term IsStill still_var still_op

-- without a move each level stays
pub moved-none : (i : ℕ) → moved [] i ≡ i
moved-none i = omega arith

pub relevel-none : (t : Term) → moved_term [] t ≡ t
relevel-none t = relevel-still (moved []) moved-none t

pub row-none : (ts : List Term) → moved_terms [] ts ≡ ts
row-none [] = refl
row-none (t ∷ ts) = rw (relevel-none t, row-none ts) refl

pub relevel_empty : (ms : List Move) (t : Term) → length ms ≡ 0 → moved_term ms t ≡ t
relevel_empty [] t none = relevel-none t
relevel_empty (m ∷ ms) t none = absurd (omega arith)

-- to weaken is one move
pub weak-moves : (n k : ℕ) (t : Term) → weak n k t ≡ moved_term (record { from = n; to = n + k } ∷ []) t
weak-moves n k t = weak-is_move n k t ∙ relevel-alike (λ i. if nat_lt i n then i else i + k) (moved (record { from = n; to = n + k } ∷ [])) as_moved t where
  as_moved : (i : ℕ) → (if nat_lt i n then i else i + k) ≡ moved (record { from = n; to = n + k } ∷ []) i
  as_moved i = grind (arith, nat_tests)

-- moves that can be undone give one term from one term alone
pub relevel-undone : (f g : ℕ → ℕ) → ((i : ℕ) → g (f i) ≡ i) → (t : Term) → relevel_by g (relevel_by f t) ≡ t
relevel-undone f g undone t = relevel-relevel f g t ∙ relevel-still (λ i. g (f i)) undone t

pub relevel-injective : (f g : ℕ → ℕ) → ((i : ℕ) → g (f i) ≡ i) → (t u : Term) → relevel_by f t ≡ relevel_by f u → t ≡ u
relevel-injective f g undone t u e = sym (relevel-undone f g undone t) ∙ ap (relevel_by g) e ∙ relevel-undone f g undone u

-- moves that agree on the variables that stand in the term make the same term
module _ (f g : ℕ → ℕ) where
  abbrev Agree : Term → Type 0
  Agree t = (i : ℕ) → IsTrue (occurs_in i t) → f i ≡ g i

  abbrev IsSettled : Term → Type 0
  IsSettled t = Agree t → relevel_by f t ≡ relevel_by g t

  settled_bounds : (bs : List Bound) → OfEachBody IsSettled bs → ((i : ℕ) → IsTrue (any_true (map (occurs_bound i) bs)) → f i ≡ g i) →
      map (relevel_bound f) bs ≡ map (relevel_bound g) bs
  settled_bounds [] h all = refl
  settled_bounds (b ∷ bs) h all =
      let here = h.0 (λ i stands. all i (rw occurs_bound-is (grind (arith, common_steps, stands)))) in
      let rest = settled_bounds bs h.1 (λ i stands. all i (grind (arith, common_steps, stands))) in
      simp relevel_bound-is (grind (arith, here, rest))

  settled_var : (level : ℕ) → IsSettled (Var level)
  settled_var level all = simp relevel-Var (ap Var (all level (rw occurs-Var (grind (arith, nat_tests)))))

  settled_op : (o : Sym) (ps : List Param) (subs : List Bound) → OfEachBody IsSettled subs → IsSettled (Op o ps subs)
  settled_op o ps subs h all = simp relevel-Op (ap (Op o ps) (settled_bounds subs h (λ i stands. all i (rw occurs-Op stands))))

  pub relevel-settled : (t : Term) → ((i : ℕ) → IsTrue (occurs_in i t) → f i ≡ g i) → relevel_by f t ≡ relevel_by g t
  relevel-settled = each_term IsSettled settled_var settled_op

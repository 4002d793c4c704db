-- Weakening, simultaneous substitution, and its inverse on renamings, on terms whose variables are levels.
use Rattle.std.specs.Prelude.{◌≡◌, ◌≢◌, ℕ, ◌+◌, ◌<◌, zero, suc, max, List, [], ◌∷◌, ◌++◌, map, nat_lt, nat_eq, if◌then◌else◌, Bool, IsTrue, IsFalse, All, Option, Some, None, position, length, ◌-◌}
use Rattle.std.specs.Option.{option_map}
use Rattle.std.specs.List.{slice_index_or, list_any}
use Rattle.mp_term.specs.declared.term.Term.{Term, Term-F, Var, Op}
use Rattle.mp_term.specs.declared.term.Bound.{Bound, Bound-F}
use Rattle.mp_term.specs.declared.term.Term.TheOpen as layer
use Rattle.mp_term.specs.Terms.{in_scope_of, body_step}
use Rattle.mp_term.specs.declared.term.Term.TheFolds.{fold-Term, fold-Bound}
use Rattle.mp_term.specs.declared.sequent.Sequent.{Sequent}

-- a number that depends on a scope
abbrev pub Widths : Type 0
Widths = ℕ → ℕ

-- the greatest of some widths in scope n, or n itself
abbrev pub widest_at : ℕ → List Widths → ℕ
widest_at n [] = n
widest_at n (s ∷ ss) = max (s n) (widest_at n ss)

-- the widest scope in one layer of a term, from those of its bodies
abbrev pub widest_step : Term-F Widths Widths → Widths
widest_step (layer.Var level) n = n
widest_step (layer.Op op params subs) n = widest_at n subs

-- the widest scope in a bound subterm: its body's own, or one in the body
abbrev pub widest_bound_step : Bound-F Widths Widths → Widths
widest_bound_step b n = max (n + b.binders) (b.body (n + b.binders))

-- the widest scope in a term of scope n: its own, or that of a body in it
abbrev pub widest_of : Term → Widths
widest_of = fold-Term Widths Widths widest_step widest_bound_step

-- the widest scope in a bound subterm that stands in scope n
abbrev pub width_bound : Bound → Widths
width_bound = fold-Bound Widths Widths widest_step widest_bound_step

-- the widest scope in some terms of scope m, or m itself
unfoldable pub widest_in : ℕ → List Term → ℕ
widest_in m [] = m
widest_in m (t ∷ ts) = max (widest_of t m) (widest_in m ts)

-- the widest scope in terms of which the first is in scope m, the next in scope m + 1, and so on; or the scope after them
abbrev pub widest_from : ℕ → List Term → ℕ
widest_from m [] = m
widest_from m (t ∷ ts) = max (widest_of t m) (widest_from (m + 1) ts)

-- the widest scope in a sequent
abbrev pub widest_in_sequent : Sequent → ℕ
widest_in_sequent s = max (widest_from 0 s.hyps) (widest_of s.concl (length s.hyps))

-- each of some terms is in this scope
unfoldable pub AreInScope : ℕ → List Term → Type 0
AreInScope m ts = All (λ t. IsTrue (in_scope_of t m)) ts

-- weakening of one layer of a term: a variable below n stays, and one from n on goes up by k
abbrev pub weak_step : ℕ → ℕ → Term-F Term Bound → Term
weak_step n k (layer.Var level) = Var (if nat_lt level n then level else level + k)
weak_step n k (layer.Op op params subs) = Op op params subs

-- weakening keeps the binders of a bound subterm
abbrev pub weak_bound_step : Bound-F Term Bound → Bound
weak_bound_step b = record { binders = b.binders; body = b.body }

-- a term of scope n, weakened by k: the term that it is in scope n + k
abbrev pub weak : ℕ → ℕ → Term → Term
weak n k = fold-Term Term Bound (weak_step n k) weak_bound_step

-- a bound subterm of a term of scope n, weakened by k
abbrev pub weak_bound : ℕ → ℕ → Bound → Bound
weak_bound n k = fold-Bound Term Bound (weak_step n k) weak_bound_step

-- the numbers from m to m + k - 1
abbrev pub upto : ℕ → ℕ → List ℕ
upto m zero = []
upto m (suc k) = m ∷ upto (suc m) k

-- the variables m to m + k - 1
abbrev pub variables : ℕ → ℕ → List Term
variables m zero = []
variables m (suc k) = Var m ∷ variables (suc m) k

-- what something becomes under a list of terms of some scope
abbrev pub Replacing : Type 0 → Type 0
Replacing X = List Term → ℕ → X

-- what each bound subterm of a row becomes
abbrev pub sub_each : List (Replacing Bound) → Replacing (List Bound)
sub_each [] s m = []
sub_each (b ∷ bs) s m = b s m ∷ sub_each bs s m

-- substitution in one layer of a term: variable i becomes item i of the list
abbrev pub sub_step : Term-F (Replacing Term) (Replacing Bound) → Replacing Term
sub_step (layer.Var level) s m = slice_index_or s level (Var level)
sub_step (layer.Op op params subs) s m = Op op params (sub_each subs s m)

-- the list of terms under k binders: each term weakened by k, and then the bound variables
unfoldable pub under : List Term → ℕ → ℕ → List Term
under s m k = map (weak m k) s ++ variables m k

-- substitution in a bound subterm: its body under the list for its binders
abbrev pub sub_bound_step : Bound-F (Replacing Term) (Replacing Bound) → Replacing Bound
sub_bound_step b s m = record { binders = b.binders; body = b.body (under s m b.binders) (m + b.binders) }

-- a term with the terms of a list, of some scope m, for its variables
abbrev pub sub_of : Term → Replacing Term
sub_of = fold-Term (Replacing Term) (Replacing Bound) sub_step sub_bound_step

-- a bound subterm with the terms of a list, of some scope m, for the variables of its scope
abbrev pub sub_bound_of : Bound → Replacing Bound
sub_bound_of = fold-Bound (Replacing Term) (Replacing Bound) sub_step sub_bound_step

-- the list of some items, if each is there
abbrev pub all_some : {X : Type 0} → List (Option X) → Option (List X)
all_some [] = Some []
all_some (None ∷ xs) = None
all_some (Some x ∷ xs) = option_map (λ rest. x ∷ rest) (all_some xs)

module _ (levels : List ℕ) (n : ℕ) where
  -- unrenaming of one layer of a term: a free variable becomes its place in the list, and a bound one follows the places
  abbrev pub unrename_step : Term-F (Option Term) (Option Bound) → Option Term
  unrename_step (layer.Var level) =
      if nat_lt level n then option_map Var (position (λ x. nat_eq x level) levels) else Some (Var (level - n + length levels))
  unrename_step (layer.Op op params subs) = option_map (Op op params) (all_some subs)

  -- unrenaming keeps the binders of a bound subterm
  abbrev pub unrename_bound_step : Bound-F (Option Term) (Option Bound) → Option Bound
  unrename_bound_step b = option_map (λ (body : Term). record { binders = b.binders; body = body }) b.body

  -- a term of scope n whose free variables became their places in the list, or none if one of them isn't listed
  abbrev pub unrenamed : Term → Option Term
  unrenamed = fold-Term (Option Term) (Option Bound) unrename_step unrename_bound_step

  -- a bound subterm of a term of scope n, unrenamed
  abbrev pub unrenamed_bound : Bound → Option Bound
  unrenamed_bound = fold-Bound (Option Term) (Option Bound) unrename_step unrename_bound_step

-- some of the tests passes
abbrev pub any_true : List Bool → Bool
any_true bs = list_any (λ b. b) bs

-- whether the variable i stands in one layer of a term, from the tests of its bodies
abbrev pub occurs_step : ℕ → Term-F Bool Bool → Bool
occurs_step i (layer.Var level) = nat_eq level i
occurs_step i (layer.Op op params subs) = any_true subs

-- whether the variable i stands in a term; in a term of scope n it is free if i is below n
abbrev pub occurs_in : ℕ → Term → Bool
occurs_in i = fold-Term Bool Bool (occurs_step i) body_step

-- whether a number is in a list
abbrev pub is_listed : ℕ → List ℕ → Bool
is_listed i levels = list_any (λ x. nat_eq x i) levels

-- what unrenaming answers: the one term that gives t when the variables `levels` are substituted for its own, or none if there is no such term
abbrev pub IsRenaming : List ℕ → ℕ → Term → Option Term → Type 0
IsRenaming levels n t None = (u : Term) → IsTrue (in_scope_of u (length levels)) → sub_of u (map Var levels) n ≢ t
IsRenaming levels n t (Some u) =
    IsTrue (in_scope_of u (length levels)) × (sub_of u (map Var levels) n ≡ t) ×
    ((v : Term) → IsTrue (in_scope_of v (length levels)) → sub_of v (map Var levels) n ≡ t → v ≡ u)

-- unrenaming answers none if some free variable of t isn't listed, and a term if each is listed
abbrev pub IsFoundWhereListed : List ℕ → ℕ → Term → Option Term → Type 0
IsFoundWhereListed levels n t None = (i : ℕ) × ((i < n) × IsTrue (occurs_in i t) × IsFalse (is_listed i levels))
IsFoundWhereListed levels n t (Some u) = (i : ℕ) → i < n → IsTrue (occurs_in i t) → IsTrue (is_listed i levels)

-- What is put into a term: variables for its first variables, and terms for those behind them.
use Rattle.std.specs.Prelude.{ℕ, ◌+◌, ◌<◌, ◌^◌, List, [], ◌∷◌, ◌++◌, map, length, IsTrue}
use Rattle.mp_term.specs.declared.term.Term.{Term, Var}
use Rattle.mp_term.specs.declared.term.Bound.{Bound}
use Rattle.mp_term.specs.Terms.{in_scope_of}
use Rattle.mp_term.specs.Subst.{upto, under, sub_of, widest_of}
use Rattle.mp_delay.specs.declared.moves.Move.{Move}
use Rattle.mp_delay.specs.Moves.{moved, relevel_by}

-- the levels that the moves make of the first n levels
abbrev pub levels_made : List Move → ℕ → List ℕ
levels_made ms n = map (moved ms) (upto 0 n)

-- the variables that the moves make of the first n variables, and then these terms
abbrev pub variables_and : List Move → ℕ → List Term → List Term
variables_and ms n args = map Var (levels_made ms n) ++ args

module _ (f : ℕ → ℕ) (s : List Term) (m : ℕ) where
  -- a term with its levels changed by f, then with the terms of the list, of scope m, for its first variables; it stands below k binders
  abbrev pub put_into : ℕ → Term → Term
  put_into k t = sub_of (relevel_by f t) (under s m k) (m + k)

  -- so of a bound subterm
  abbrev pub put_into_bound : ℕ → Bound → Bound
  put_into_bound k b = record { binders = b.binders; body = put_into (k + b.binders) b.body }

-- the term and what is made of it are in their scopes, and no scope in them reaches 2^31
pub record CanPutInto (f : ℕ → ℕ) (s : List Term) (m k : ℕ) (t : Term) : Type 0 where
  pub scoped : IsTrue (in_scope_of (relevel_by f t) (length s + k))
  pub narrow : widest_of (relevel_by f t) (length s + k) < 2 ^ 31
  pub made_narrow : widest_of (put_into f s m k t) (m + k) < 2 ^ 31

-- so of each bound subterm
abbrev pub CanPutIntoEach : (ℕ → ℕ) → List Term → ℕ → ℕ → List Bound → Type 0
CanPutIntoEach f s m k [] = Unit {0}
CanPutIntoEach f s m k (b ∷ bs) = CanPutInto f s m (k + b.binders) b.body × CanPutIntoEach f s m k bs

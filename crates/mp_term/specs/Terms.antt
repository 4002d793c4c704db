-- The measures of a term.
use Rattle.std.specs.Prelude.{ℕ, ◌+◌, sum, List, [], ◌∷◌, Bool, true, nat_lt, ◌&&◌}
use Rattle.mp_term.specs.declared.term.Term.{Term, Term-F}
use Rattle.mp_term.specs.declared.term.Bound.{Bound-F}
use Rattle.mp_term.specs.declared.term.Term.TheOpen as layer
use Rattle.mp_term.specs.declared.term.Term.TheFolds.{fold-Term}
use Rattle.mp_logic.specs.Lists.{greatest}

-- a bound subterm has what its body has
abbrev pub body_step : {A : Type 0} → Bound-F A A → A
body_step b = b.body

-- the size of one layer of a term, from those of its bodies
abbrev pub size_step : Term-F ℕ ℕ → ℕ
size_step (layer.Var level) = 1
size_step (layer.Op op params subs) = 1 + sum subs

-- the number of variables and operators of a term
abbrev pub size_of : Term → ℕ
size_of = fold-Term ℕ ℕ size_step body_step

-- the depth of one layer of a term, from those of its bodies
abbrev pub depth_step : Term-F ℕ ℕ → ℕ
depth_step (layer.Var level) = 1
depth_step (layer.Op op params subs) = 1 + greatest subs

-- the depth of a term: a variable's is 1, and an operator's is 1 more than that of its deepest body
abbrev pub depth_of : Term → ℕ
depth_of = fold-Term ℕ ℕ depth_step body_step

-- each of some tests passes
abbrev pub all_true : List Bool → Bool
all_true [] = true
all_true (b ∷ bs) = b && all_true bs

-- a test that depends on a scope
abbrev pub ScopeTest : Type 0
ScopeTest = ℕ → Bool

-- each of some tests passes in this scope
abbrev pub all_at_scope : ℕ → List ScopeTest → Bool
all_at_scope n [] = true
all_at_scope n (s ∷ ss) = s n && all_at_scope n ss

-- one layer of a term is in this scope, from the tests of its bodies
abbrev pub scope_step : Term-F ScopeTest ScopeTest → ScopeTest
scope_step (layer.Var level) n = nat_lt level n
scope_step (layer.Op op params subs) n = all_at_scope n subs

-- a bound subterm is in this scope if its body is in the scope with the bound variables too
abbrev pub scope_bound_step : Bound-F ScopeTest ScopeTest → ScopeTest
scope_bound_step b n = b.body (n + b.binders)

-- whether a term is in this scope: each free variable is below it, and each bound variable is bound by a binder around it
abbrev pub in_scope_of : Term → ℕ → Bool
in_scope_of = fold-Term ScopeTest ScopeTest scope_step scope_bound_step

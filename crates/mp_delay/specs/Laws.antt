-- The laws of moves, each as one statement.
use Rattle.std.specs.Prelude.{◌≡◌, ℕ, ◌+◌, ◌<◌, List, [], ◌∷◌, map, length, IsTrue, All, nat_eq}
use Rattle.std.specs.List.{IsDistinct}
use Rattle.mp_term.specs.declared.term.Term.{Term, Var}
use Rattle.mp_term.specs.Terms.{in_scope_of, size_of, depth_of}
use Rattle.mp_term.specs.Subst.{weak, sub_of, occurs_in, is_listed}
use Rattle.mp_delay.specs.declared.moves.Move.{Move}
use Rattle.mp_delay.specs.Moves.{relevel_by, moved_term, AreInOrder}
use Rattle.mp_delay.specs.Composing.{composed, tidied}
use Rattle.mp_delay.specs.Renamings.{listed, placed}

-- moves and then moves are one list of moves
abbrev pub MovesCompose : Type 0
MovesCompose = (ms ns : List Move) (t : Term) → AreInOrder ns → moved_term (composed ms ns) t ≡ moved_term ns (moved_term ms t)

-- without the moves that go on like the one before them, the moves do the same
abbrev pub TidyMovesDoTheSame : Type 0
TidyMovesDoTheSame = (ms : List Move) (t : Term) → moved_term (tidied ms) t ≡ moved_term ms t

-- to weaken is one move
abbrev pub WeakeningIsAMove : Type 0
WeakeningIsAMove = (n k : ℕ) (t : Term) → weak n k t ≡ moved_term (record { from = n; to = n + k } ∷ []) t

-- two changes that agree on the variables of a term make the same term of it
abbrev pub MovesOfOccurrences : Type 0
MovesOfOccurrences = (f g : ℕ → ℕ) (t : Term) → ((i : ℕ) → IsTrue (occurs_in i t) → f i ≡ g i) → relevel_by f t ≡ relevel_by g t

-- to substitute variables is to move levels
abbrev pub VariablesAreMoves : Type 0
VariablesAreMoves =
    (levels : List ℕ) (m : ℕ) (t : Term) → All (λ level. level < m) levels → IsTrue (in_scope_of t (length levels)) →
    sub_of t (map Var levels) m ≡ relevel_by (listed levels m) t

-- a renaming is undone by moves: the only term that can give t is t, moved back
abbrev pub RenamingsAreUndone : Type 0
RenamingsAreUndone =
    (levels : List ℕ) (n : ℕ) (u t : Term) → IsDistinct nat_eq levels → All (λ level. level < n) levels →
    IsTrue (in_scope_of u (length levels)) → sub_of u (map Var levels) n ≡ t → u ≡ relevel_by (placed levels n) t

-- where each free variable of t is listed, t moved back is a term that gives t
abbrev pub RenamingsExist : Type 0
RenamingsExist =
    (levels : List ℕ) (n : ℕ) (t : Term) → IsDistinct nat_eq levels → All (λ level. level < n) levels → IsTrue (in_scope_of t n) →
    ((i : ℕ) → i < n → IsTrue (occurs_in i t) → IsTrue (is_listed i levels)) →
    IsTrue (in_scope_of (relevel_by (placed levels n) t) (length levels)) × (sub_of (relevel_by (placed levels n) t) (map Var levels) n ≡ t)

-- a substitution of distinct variables gives one term from one term alone
abbrev pub RenamingsAreInjective : Type 0
RenamingsAreInjective =
    (levels : List ℕ) (n : ℕ) (u v : Term) → IsDistinct nat_eq levels → All (λ level. level < n) levels →
    IsTrue (in_scope_of u (length levels)) → IsTrue (in_scope_of v (length levels)) → sub_of u (map Var levels) n ≡ sub_of v (map Var levels) n → u ≡ v

-- moves after a substitution go into the terms that were put in, if they take scope m to scope n and what is bound above it along
abbrev pub MovesAfterSubstitution : Type 0
MovesAfterSubstitution =
    (g : ℕ → ℕ) (m n : ℕ) (s : List Term) (t : Term) → ((i : ℕ) → i < m → g i < n) → ((i : ℕ) → g (m + i) ≡ n + i) →
    IsTrue (in_scope_of t (length s)) → relevel_by g (sub_of t s m) ≡ sub_of t (map (relevel_by g) s) n

-- moves keep the size and the depth
abbrev pub SizeAfterMoves : Type 0
SizeAfterMoves = (f : ℕ → ℕ) (t : Term) → (size_of (relevel_by f t) ≡ size_of t) × (depth_of (relevel_by f t) ≡ depth_of t)

-- a moved term is in the scope to which the moves take its scope, if they take what is bound above it along
abbrev pub ScopeAfterMoves : Type 0
ScopeAfterMoves =
    (f : ℕ → ℕ) (n m : ℕ) (t : Term) → ((i k : ℕ) → i < n + k → f i < m + k) → IsTrue (in_scope_of t n) → IsTrue (in_scope_of (relevel_by f t) m)

-- The laws of weakening and of substitution, each as one statement.
use Rattle.std.specs.Prelude.{◌≡◌, ℕ, ◌+◌, ◌*◌, ◌≤◌, max, List, ◌++◌, map, length, IsTrue, All}
use Rattle.mp_term.specs.declared.term.Term.{Term}
use Rattle.mp_term.specs.Terms.{size_of, depth_of, in_scope_of}
use Rattle.mp_logic.specs.Lists.{greatest}
use Rattle.mp_term.specs.declared.sequent.Sequent.{Sequent}
use Rattle.mp_term.specs.Limits.{few_binders_of, within_limits_of, sequent_few_binders_of}
use Rattle.mp_term.specs.Subst.{weak, variables, sub_of, AreInScope, widest_of, widest_in, widest_in_sequent}
use Rattle.mp_term.specs.Sizes.{sub_size, sub_depth}

-- to weaken by 0 changes nothing
abbrev pub WeakeningByNothing : Type 0
WeakeningByNothing = (n : ℕ) (t : Term) → weak n 0 t ≡ t

-- to weaken by j and then by k is to weaken by j + k, also where the second goes over the variables that the first brought
-- (the lifting laws of N. G. de Bruijn, Lambda calculus notation with nameless dummies, 1972, for levels)
abbrev pub WeakeningsCompose : Type 0
WeakeningsCompose = (n j k : ℕ) (t : Term) → (weak (n + j) k (weak n j t) ≡ weak n (j + k) t) × (weak n k (weak n j t) ≡ weak n (j + k) t)

-- substitution after weakening: terms put for the variables that the weakening brought change nothing
-- (the rule of shift in M. Abadi, L. Cardelli, P.-L. Curien, J.-J. Lévy, Explicit substitutions, 1991)
abbrev pub SubstitutionAfterWeakening : Type 0
SubstitutionAfterWeakening =
    (s extra : List Term) (m : ℕ) (t : Term) → IsTrue (in_scope_of t (length s)) → sub_of (weak (length s) (length extra) t) (s ++ extra) m ≡ sub_of t s m

-- weakening after substitution: only the terms put for the variables are weakened
abbrev pub WeakeningAfterSubstitution : Type 0
WeakeningAfterSubstitution =
    (s : List Term) (m k : ℕ) (t : Term) → IsTrue (in_scope_of t (length s)) → weak m k (sub_of t s m) ≡ sub_of t (map (weak m k) s) (m + k)

-- the substitution lemma: to substitute s and then r is to substitute s with r substituted in each of its terms
-- (H. P. Barendregt, The Lambda Calculus, 1984, 2.1.16, for all variables at once)
abbrev pub SubstitutionLemma : Type 0
SubstitutionLemma =
    (s r : List Term) (p : ℕ) (t : Term) → AreInScope (length r) s → IsTrue (in_scope_of t (length s)) →
    sub_of (sub_of t s (length r)) r p ≡ sub_of t (map (λ u. sub_of u r p) s) p

-- the identity substitution: to substitute the variables themselves changes nothing
abbrev pub SubstitutionOfVariables : Type 0
SubstitutionOfVariables = (t : Term) (n : ℕ) → IsTrue (in_scope_of t n) → sub_of t (variables 0 n) n ≡ t

-- to weaken is to substitute the variables themselves in the wider scope
abbrev pub WeakeningIsSubstitution : Type 0
WeakeningIsSubstitution = (t : Term) (n k : ℕ) → IsTrue (in_scope_of t n) → weak n k t ≡ sub_of t (variables 0 n) (n + k)

-- a weakened term is in the wider scope
abbrev pub ScopeAfterWeakening : Type 0
ScopeAfterWeakening = (n k : ℕ) (t : Term) → IsTrue (in_scope_of t n) → IsTrue (in_scope_of (weak n k t) (n + k))

-- after substitution a term is in the scope of the terms that were put for its variables
abbrev pub ScopeAfterSubstitution : Type 0
ScopeAfterSubstitution = (s : List Term) (m : ℕ) (t : Term) → AreInScope m s → IsTrue (in_scope_of t (length s)) → IsTrue (in_scope_of (sub_of t s m) m)

-- weakening moves each scope in the term up by as much
abbrev pub WidthAfterWeakening : Type 0
WidthAfterWeakening = (n k : ℕ) (t : Term) → widest_of (weak n k t) (n + k) ≡ widest_of t n + k

-- no scope in a term after substitution is wider than the widest one that was put in, and the binders above it
abbrev pub WidthAfterSubstitution : Type 0
WidthAfterSubstitution =
    (s : List Term) (m : ℕ) (t : Term) → IsTrue (in_scope_of t (length s)) →
    widest_of (sub_of t s m) m + length s ≤ widest_of t (length s) + widest_in m s

-- if no subterm has more than 8 binders, each level of depth widens the scope by 8 at most
abbrev pub WidthOfFewBinders : Type 0
WidthOfFewBinders = (t : Term) (n : ℕ) → IsTrue (few_binders_of t) → widest_of t n ≤ n + 8 * depth_of t

-- weakening keeps the size and the depth
abbrev pub SizeAfterWeakening : Type 0
SizeAfterWeakening = (n k : ℕ) (t : Term) → (size_of (weak n k t) ≡ size_of t) × (depth_of (weak n k t) ≡ depth_of t)

-- the size after substitution: each occurrence of a variable counts as its term, and the term gets no smaller
abbrev pub SizeAfterSubstitution : Type 0
SizeAfterSubstitution = (s : List Term) (m : ℕ) (t : Term) → (size_of (sub_of t s m) ≡ sub_size (map size_of s) t) × (size_of t ≤ size_of (sub_of t s m))

-- the depth after substitution: each occurrence of a variable is as deep as its term, and the depth grows by less than that of the deepest term
abbrev pub DepthAfterSubstitution : Type 0
DepthAfterSubstitution =
    (s : List Term) (m : ℕ) (t : Term) →
    (depth_of (sub_of t s m) ≡ sub_depth (map depth_of s) t) × (depth_of (sub_of t s m) + 1 ≤ depth_of t + max 1 (greatest (map depth_of s)))

-- weakening keeps the numbers of binders
abbrev pub BindersAfterWeakening : Type 0
BindersAfterWeakening = (n k : ℕ) (t : Term) → few_binders_of (weak n k t) ≡ few_binders_of t

-- if each subterm of a term and of what is put into it has at most 8 binders, so has each subterm of the result
abbrev pub BindersAfterSubstitution : Type 0
BindersAfterSubstitution =
    (s : List Term) (m : ℕ) (t : Term) → All (λ u. IsTrue (few_binders_of u)) s → IsTrue (few_binders_of t) → IsTrue (few_binders_of (sub_of t s m))

-- if no subterm of a goal within the limits has more than 8 binders, no scope in it is wide
abbrev pub GoalsAreNarrow : Type 0
GoalsAreNarrow = (s : Sequent) → IsTrue (within_limits_of s) → IsTrue (sequent_few_binders_of s) → widest_in_sequent s ≤ 1800

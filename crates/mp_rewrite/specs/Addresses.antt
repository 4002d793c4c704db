-- The terms of a goal, and their subterms at addresses.
use Rattle.std.specs.Prelude.{ℕ, ◌+◌, zero, suc, List, [], ◌∷◌, length, take, slice_get, Option, Some, None, option_and_then}
use Rattle.mp_term.specs.declared.term.Term.{Term, Var, Op, Term-F, out-Term}
use Rattle.mp_term.specs.declared.term.Term.TheOpen as layer
use Rattle.mp_term.specs.declared.term.Bound.{Bound}
use Rattle.mp_term.specs.declared.sequent.Sequent.{Sequent}
use Rattle.mp_theory.specs.declared.place.Place.{Place}
use Rattle.mp_theory.specs.declared.place.Place.TheVariants.{Concl, Hyp}

-- ## In a term

-- a subterm, and the scope in which it stands
pub record Subterm : Type 0 where
  pub term : Term
  pub scope : ℕ

-- the bound subterm with this number, counted from 0, in one layer of a term; a variable has none
abbrev pub bound_in : ℕ → Term-F Term Bound → Option Bound
bound_in number (layer.Var level) = None
bound_in number (layer.Op op params subs) = slice_get subs number

-- the subterm at this address of a term in this scope, if there is one; each binder that is passed makes the scope one wider
abbrev pub subterm_at : List ℕ → ℕ → Term → Option Subterm
subterm_at [] scope t = Some (record { term = t; scope = scope })
subterm_at (number ∷ address) scope t = option_and_then (λ (b : Bound). subterm_at address (scope + b.binders) b.body) (bound_in number (out-Term t))

-- the list with a change of the item with this number, counted from 0, if there is one
abbrev pub changed_at : {X : Type 0} → ℕ → (X → X) → List X → List X
changed_at number change [] = []
changed_at zero change (x ∷ xs) = change x ∷ xs
changed_at (suc number) change (x ∷ xs) = x ∷ changed_at number change xs

-- a bound subterm with a change of its body
abbrev pub with_body : (Term → Term) → Bound → Bound
with_body change b = record { binders = b.binders; body = change b.body }

-- one layer of a term with a change of the subterm with this number, if there is one
abbrev pub layer_with : ℕ → (Term → Term) → Term-F Term Bound → Term
layer_with number change (layer.Var level) = Var level
layer_with number change (layer.Op op params subs) = Op op params (changed_at number (with_body change) subs)

-- the term with another subterm at this address
abbrev pub put_at : List ℕ → Term → Term → Term
put_at [] new t = new
put_at (number ∷ address) new t = layer_with number (put_at address new) (out-Term t)

-- ## In a goal

-- the hypotheses before a place; before the conclusion these are all
abbrev pub hyps_before : Place → Sequent → List Term
hyps_before Concl goal = goal.hyps
hyps_before (Hyp number) goal = take number goal.hyps

-- the term at a place, if there is one
abbrev pub term_at : Place → Sequent → Option Term
term_at Concl goal = Some goal.concl
term_at (Hyp number) goal = slice_get goal.hyps number

-- the subterm at this address of the term at a place, if there is one
abbrev pub subterm_of : Place → List ℕ → Sequent → Option Subterm
subterm_of place address goal = option_and_then (subterm_at address (length (hyps_before place goal))) (term_at place goal)

-- the goal with another subterm at this address of the term at a place
abbrev pub put_in : Place → List ℕ → Term → Sequent → Sequent
put_in Concl address new goal = record { hyps = goal.hyps; concl = put_at address new goal.concl }
put_in (Hyp number) address new goal = record { hyps = changed_at number (put_at address new) goal.hyps; concl = goal.concl }

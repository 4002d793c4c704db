-- A walk down an address, step by step.
use Rattle.std.proofs.Common.{◌≡◌, ◌<◌, ◌^◌, ℕ, ◌+◌, List, length, drop, get_or, Some, None, ap, ◌∙◌, arith}
use Rattle.std.specs.Prelude.{slice_get, option_and_then}
use Rattle.std.proofs.lemmas.List.{get_or_default}
use Rattle.mp_logic.specs.declared.sym.Sym.{Sym}
use Rattle.mp_term.specs.declared.term.Param.{Param}
use Rattle.mp_term.specs.declared.term.Term.{Term, Var, Op, out-Term}
use Rattle.mp_term.specs.declared.term.Bound.{Bound}
use Rattle.mp_term.specs.Subst.{widest_of}
use Rattle.mp_term.proofs.Layers.{widest-Op, width_bound-is, out-Var, out-Op}
use Rattle.mp_term.proofs.SubLaws.{drop-at}
use Rattle.mp_rewrite.specs.Addresses.{bound_in, subterm_at}
use Rattle.mp_rewrite.proofs.Walks.{next_in, width-item}

module _ (address : List ℕ) (i : ℕ) (lt : i < length address) (scope : ℕ) (t : Term) where
  abbrev number : ℕ
  number = get_or address i 0

  first : subterm_at (drop i address) scope t ≡ option_and_then (next_in (drop (i + 1) address) scope) (bound_in number (out-Term t))
  first = ap (λ a. subterm_at a scope t) (drop-at address i number lt (get_or_default address i 0 number lt))

  -- a variable has no subterm
  pub at-variable : (l : ℕ) → t ≡ Var l → subterm_at (drop i address) scope t ≡ None
  at-variable l e = first ∙ ap (λ x. option_and_then (next_in (drop (i + 1) address) scope) (bound_in number x)) (ap out-Term e ∙ out-Var l)

  module _ (o : Sym) (ps : List Param) (bs : List Bound) (e : t ≡ Op o ps bs) where
    at-operator : subterm_at (drop i address) scope t ≡ option_and_then (next_in (drop (i + 1) address) scope) (slice_get bs number)
    at-operator = first ∙ ap (λ x. option_and_then (next_in (drop (i + 1) address) scope) (bound_in number x)) (ap out-Term e ∙ out-Op o ps bs)

    pub at-none : slice_get bs number ≡ None → subterm_at (drop i address) scope t ≡ None
    at-none k = at-operator ∙ ap (option_and_then (next_in (drop (i + 1) address) scope)) k

    pub at-some : (b : Bound) → slice_get bs number ≡ Some b → subterm_at (drop i address) scope t ≡ subterm_at (drop (i + 1) address) (scope + b.binders) b.body
    at-some b k = at-operator ∙ ap (option_and_then (next_in (drop (i + 1) address) scope)) k

    -- no scope on the way is wider than the term's widest
    pub step-narrow : (b : Bound) → slice_get bs number ≡ Some b → widest_of t scope < 2 ^ 31 → (scope + b.binders < 2 ^ 31) × (widest_of b.body (scope + b.binders) < 2 ^ 31)
    step-narrow b k narrow =
        let w = width-item scope bs number b k in
        let x = width_bound-is b scope in
        let y = widest-Op o ps bs scope in
        let z = ap (λ u. widest_of u scope) e in
        (omega (arith, w, x, y, z, narrow), omega (arith, w, x, y, z, narrow))

-- One layer of each definition on terms, as equations.
use Rattle.std.proofs.Common.{◌≡◌, ℕ, ◌^◌, List, map, nat_lt, rules}
use Rattle.std.specs.Prelude.{Bool}
use Rattle.mp_logic.specs.declared.sym.Sym.{Sym}
use Rattle.mp_term.specs.declared.term.Param.{Param}
use Rattle.mp_term.specs.declared.term.Term.{Var, Op, the_lemmas}
use Rattle.mp_term.specs.declared.term.Bound.{Bound}
use Rattle.mp_term.specs.Terms.{all_true}
use Rattle.mp_delay.specs.Moves.{relevel_by, relevel_bound, levels_fit_by, bound_fits}

module _ (f : ℕ → ℕ) where
  pub relevel-Var : (level : ℕ) → relevel_by f (Var level) ≡ Var (f level)
  relevel-Var level = search (rules, the_lemmas)

  pub relevel-Op : (o : Sym) (ps : List Param) (subs : List Bound) → relevel_by f (Op o ps subs) ≡ Op o ps (map (relevel_bound f) subs)
  relevel-Op o ps subs = search (rules, the_lemmas)

  pub relevel_bound-is : (b : Bound) → relevel_bound f b ≡ record { binders = b.binders; body = relevel_by f b.body }
  relevel_bound-is b = search (rules, the_lemmas)

  pub fit-Var : (level : ℕ) → levels_fit_by f (Var level) ≡ nat_lt (f level) (2 ^ 32)
  fit-Var level = search (rules, the_lemmas)

  pub fit-Op : (o : Sym) (ps : List Param) (bs : List Bound) → levels_fit_by f (Op o ps bs) ≡ all_true (map (bound_fits f) bs)
  fit-Op o ps bs = search (rules, the_lemmas)

  pub bound_fits-is : (b : Bound) → bound_fits f b ≡ levels_fit_by f b.body
  bound_fits-is b = search (rules, the_lemmas)

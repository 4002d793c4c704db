-- What delayed terms keep.
use Rattle.std.proofs.Common.{◌≡◌, ℕ, ◌+◌, ◌<◌, ◌≤◌, ◌^◌, [], ◌∷◌, IsTrue, List, map, Option, Some, None, IfSome, sym, ap, ◌∙◌, arith}
use Rattle.mp_term.specs.declared.term.Term.{Term}
use Rattle.mp_term.specs.declared.measure.Weight.{Weight}
use Rattle.mp_term.specs.Terms.{size_of, in_scope_of}
use Rattle.mp_term.specs.Subst.{weak, widest_of, widest_at, width_bound, Widths}
use Rattle.mp_term.specs.Induction.{each_term}
use Rattle.mp_term.proofs.Layers.{widest-Var, widest-Op}
use Rattle.mp_term.proofs.ScopeLaws.{scope_weakened, width_weakened}
use Rattle.mp_delay.specs.declared.moves.Move.{Move}
use Rattle.mp_delay.specs.Moves.{moved, relevel_by, moved_term, levels_fit, levels_fit_by}
use Rattle.mp_delay.specs.Rows.{IsWeightOf}
use Rattle.mp_delay.proofs.MoveLaws.{relevel-relevel, relevel-alike, weak-moves, moved-none}
use Rattle.mp_delay.proofs.FitLaws.{fit-relevel, fit-alike, fit-moved, fit-scoped}
use Rattle.mp_delay.proofs.Measures.{relevel-measures}

-- no scope in a term is below its own
pub widest-ge : (t : Term) (n : ℕ) → n ≤ widest_of t n
widest-ge = each_term (λ t. (n : ℕ) → n ≤ widest_of t n) (λ i n. rw widest-Var (omega arith)) (λ o ps bs h n. rw widest-Op (at_least n (map width_bound bs))) where
  at_least : (n : ℕ) (ss : List Widths) → n ≤ widest_at n ss
  at_least n [] = omega arith
  at_least n (s ∷ ss) = omega (arith, at_least n ss)

-- one list of moves that does what two do, one after the other
module _ (ms ns both : List Move) (same : (i : ℕ) → moved both i ≡ moved ns (moved ms i)) where
  pub composed_is : (t : Term) → moved_term both t ≡ moved_term ns (moved_term ms t)
  composed_is t = relevel-alike (moved both) (λ i. moved ns (moved ms i)) same t ∙ sym (relevel-relevel (moved ms) (moved ns) t)

  pub composed_fits : (t : Term) → IsTrue (levels_fit (moved_term ns (moved_term ms t))) → IsTrue (levels_fit_by (moved both) t)
  composed_fits t fits =
      let e = fit-alike (moved both) (λ i. moved ns (moved ms i)) same t ∙ sym (fit-relevel (moved ms) (moved ns) t) ∙ fit-moved ns (moved_term ms t) in
      rw e fits

pub none_fits : (t : Term) → levels_fit_by (moved []) t ≡ levels_fit t
none_fits t = fit-alike (moved []) (λ i. i) moved-none t

pub weight_moved : (f : ℕ → ℕ) (w : Weight) (t : Term) → IsWeightOf w t → IsWeightOf w (relevel_by f t)
weight_moved f w t is =
    let kept = relevel-measures f t in
    record { size = rw kept.0 is.size; depth = rw kept.1 is.depth }

-- terms that moves make the same are as large
pub as_large : (f g : ℕ → ℕ) (a b : Term) → relevel_by f a ≡ relevel_by g b → size_of a ≡ size_of b
as_large f g a b e = sym (relevel-measures f a).0 ∙ ap size_of e ∙ (relevel-measures g b).0

-- a weight that is kept stays
pub kept_moved : (f : ℕ → ℕ) (w : Option Weight) (t : Term) → IfSome w (λ known. IsWeightOf known t) → IfSome w (λ known. IsWeightOf known (relevel_by f t))
kept_moved f None t is = is
kept_moved f (Some w) t is = weight_moved f w t is

-- a weakened term meets the conditions too
pub weak_fits : (n k : ℕ) (t : Term) → IsTrue (in_scope_of t n) → widest_of t n + k < 2 ^ 31 → IsTrue (levels_fit (moved_term (record { from = n; to = n + k } ∷ []) t))
weak_fits n k t scoped narrow =
    let wide = width_weakened n k t in
    let e = sym (weak-moves n k t) in
    rw e (fit-scoped (weak n k t) (n + k) (scope_weakened n k t scoped) (omega (arith, wide, narrow)))

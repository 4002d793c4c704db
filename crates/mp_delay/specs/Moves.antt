-- Moves of levels, and what they make of a term.
use Rattle.std.specs.Prelude.{ℕ, ◌+◌, ◌-◌, ◌<◌, ◌^◌, List, [], ◌∷◌, map, nat_lt, if◌then◌else◌, Bool}
use Rattle.mp_term.specs.declared.term.Term.{Term, Term-F, Var, Op}
use Rattle.mp_term.specs.declared.term.Bound.{Bound}
use Rattle.mp_term.specs.declared.term.Term.TheOpen as layer
use Rattle.mp_term.specs.declared.term.Term.TheFolds.{fold-Term, fold-Bound}
use Rattle.mp_term.specs.Terms.{body_step, all_true}
use Rattle.mp_term.specs.Subst.{weak_bound_step}
use Rattle.mp_delay.specs.declared.moves.Move.{Move}

-- what becomes of level i where the move before the list takes `from` to `to`: the last move that begins at i or before it decides
abbrev pub moved_after : ℕ → ℕ → List Move → ℕ → ℕ
moved_after from to [] i = to + (i - from)
moved_after from to (m ∷ ms) i = if nat_lt i m.from then to + (i - from) else moved_after m.from m.to ms i

-- what the moves make of level i; a level before the first move stays
abbrev pub moved : List Move → ℕ → ℕ
moved ms i = moved_after 0 0 ms i

module _ (f : ℕ → ℕ) where
  -- one layer of a term with its level changed
  abbrev pub relevel_step : Term-F Term Bound → Term
  relevel_step (layer.Var level) = Var (f level)
  relevel_step (layer.Op op params subs) = Op op params subs

  -- a term with each level, free or bound, changed by f
  abbrev pub relevel_by : Term → Term
  relevel_by = fold-Term Term Bound relevel_step weak_bound_step

  -- a bound subterm with each level changed by f
  abbrev pub relevel_bound : Bound → Bound
  relevel_bound = fold-Bound Term Bound relevel_step weak_bound_step

  -- in one layer of a term f makes a number of 32 bits of the level, from the tests of its bodies
  abbrev pub fit_step : Term-F Bool Bool → Bool
  fit_step (layer.Var level) = nat_lt (f level) (2 ^ 32)
  fit_step (layer.Op op params subs) = all_true subs

  -- whether f makes a number of 32 bits of each level of a term
  abbrev pub levels_fit_by : Term → Bool
  levels_fit_by = fold-Term Bool Bool fit_step body_step

  -- whether f makes a number of 32 bits of each level of a bound subterm
  abbrev pub bound_fits : Bound → Bool
  bound_fits = fold-Bound Bool Bool fit_step body_step

-- the term that a term stands for while these moves are still to be made
abbrev pub moved_term : List Move → Term → Term
moved_term ms = relevel_by (moved ms)

-- the terms that terms stand for while these moves are still to be made
abbrev pub moved_terms : List Move → List Term → List Term
moved_terms ms ts = map (moved_term ms) ts

-- whether each level of a term is a number of 32 bits
abbrev pub levels_fit : Term → Bool
levels_fit = levels_fit_by (λ i. i)

-- the moves are in order of their first levels, all of them after `from`
abbrev pub AreAfter : ℕ → List Move → Type 0
AreAfter from [] = Unit {0}
AreAfter from (m ∷ ms) = (from < m.from) × AreAfter m.from ms

-- the moves are in order of their first levels
abbrev pub AreInOrder : List Move → Type 0
AreInOrder [] = Unit {0}
AreInOrder (m ∷ ms) = AreAfter m.from ms

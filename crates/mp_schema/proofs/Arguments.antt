-- The variables of a second-order variable's arguments are distinct.
use Rattle.std.proofs.Common.{◌≡◌, ℕ, ◌+◌, ◌-◌, ◌<◌, ◌≤◌, List, [], ◌∷◌, ◌++◌, length, map, zero, suc, nat_eq, true, All, Option, Some, None, refl, ap, ◌∙◌, arith}
use Rattle.std.specs.List.{IsDistinct}
use Rattle.std.proofs.lemmas.Bool.Decides.{nat_tests}
use Rattle.std.proofs.lemmas.List.{length-append}
use Rattle.mp_term.specs.Subst.{upto}
use Rattle.mp_schema.specs.Conditions.{Seen, is_level_below, all_variables, all_apart, args_fine, or_zero}
use Rattle.mp_schema.specs.Conditions.{argument}
use Rattle.mp_schema.proofs.Agreeing.{and_both}
use Rattle.mp_term.proofs.Ranges.{length-upto}
use Rattle.mp_schema.proofs.Apart.{Apart, Below, Apart-from, Apart-to, Below-from, Below-to, Apart-append, Apart-left, Apart-right, Apart-differ, Below-append, Below-left, Below-right, Below-more, Apart-upto, Below-upto, Below-Differ-upto, Differ-append, chosen, Apart-chosen, Differ-chosen, Below-chosen, Apart-tested}

abbrev pub levels_of_args : List Seen → List ℕ
levels_of_args args = map (λ (a : Seen). or_zero a.level) args

variable-below : (d : ℕ) (o : Option ℕ) → is_level_below d o ≡ true → or_zero o < d
variable-below d None h = absurd (cc)
variable-below d (Some l) h = grind (arith, nat_tests, h)

args-below : (d : ℕ) (args : List Seen) → all_variables d args ≡ true → Below d (levels_of_args args)
args-below d [] h i lt = absurd (omega arith)
args-below d (a ∷ rest) h zero lt = let k = and_both (is_level_below d a.level) (all_variables d rest) h in variable-below d a.level k.0
args-below d (a ∷ rest) h (suc i) lt = let k = and_both (is_level_below d a.level) (all_variables d rest) h in args-below d rest k.1 i (omega arith)

pub fine-variables : (d : ℕ) (args : List Seen) → args_fine d args ≡ true → all_variables d args ≡ true
fine-variables d args h = (and_both (all_variables d args) (all_apart (levels_of_args args)) h).0

fine-apart : (d : ℕ) (args : List Seen) → args_fine d args ≡ true → all_apart (levels_of_args args) ≡ true
fine-apart d args h = (and_both (all_variables d args) (all_apart (levels_of_args args)) h).1

-- the arguments are chosen from the pattern's levels
pub arguments-chosen : (levels : List ℕ) (args : List Seen) → map (λ (a : Seen). argument levels a.level) args ≡ chosen levels (levels_of_args args)
arguments-chosen levels [] = refl
arguments-chosen levels (a ∷ rest) = ap (λ xs. argument levels a.level ∷ xs) (arguments-chosen levels rest)

module _ (ground named : List ℕ) (next scope : ℕ) (args : List Seen) (outer : next ≤ scope)
    (distinct : IsDistinct nat_eq (ground ++ named)) (below : All (λ l. l < next) (ground ++ named)) (fine : args_fine (length named + (scope - next)) args ≡ true) where
  abbrev levels : List ℕ
  levels = named ++ upto next (scope - next)

  abbrev indices : List ℕ
  indices = levels_of_args args

  both : Apart (ground ++ named)
  both = Apart-from (ground ++ named) distinct

  low : Below next (ground ++ named)
  low = Below-from next (ground ++ named) below

  all_levels : Apart levels
  all_levels = Apart-append named (upto next (scope - next)) (Apart-right ground named both) (Apart-upto next (scope - next))
      (Below-Differ-upto next (scope - next) named (Below-right ground named next low))

  long : length levels ≡ length named + (scope - next)
  long = length-append named (upto next (scope - next)) ∙ ap (λ k. length named + k) (length-upto next (scope - next))

  inside : Below (length levels) indices
  inside = rw long (args-below (length named + (scope - next)) args (fine-variables (length named + (scope - next)) args fine))

  levels-low : Below scope levels
  levels-low =
      let e : next + (scope - next) ≡ scope = omega arith in
      Below-append named (upto next (scope - next)) scope (Below-more next scope named outer (Below-right ground named next low)) (rw e at (Below-upto next (scope - next)))

  pub arguments-distinct : IsDistinct nat_eq (ground ++ map (λ (a : Seen). argument levels a.level) args)
  arguments-distinct = rw (arguments-chosen levels args) (Apart-to (ground ++ chosen levels indices) (Apart-append ground (chosen levels indices)
      (Apart-left ground named both) (Apart-chosen levels indices all_levels (Apart-tested indices (fine-apart (length named + (scope - next)) args fine)) inside)
      (Differ-chosen levels indices ground
      (Differ-append named (upto next (scope - next)) ground (Apart-differ ground named both)
      (Below-Differ-upto next (scope - next) ground (Below-left ground named next low))) inside)))

  pub arguments-below : All (λ l. l < scope) (ground ++ map (λ (a : Seen). argument levels a.level) args)
  arguments-below = rw (arguments-chosen levels args) (Below-to scope (ground ++ chosen levels indices) (Below-append ground (chosen levels indices) scope
      (Below-more next scope ground outer (Below-left ground named next low)) (Below-chosen levels scope indices levels-low inside)))

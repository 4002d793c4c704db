-- One kid of a node that takes the place of the whole.
use Rattle.std.proofs.Common.{ℕ, ◌+◌, ◌≤◌, List, ◌∷◌, map, arith}
use Rattle.mp_logic.specs.Meaning.{Meaning}
use Rattle.mp_strategy.specs.declared.problem.ProblemState.{ProblemState}
use Rattle.mp_strategy.specs.Strategies.{Given}
use Rattle.mp_jobs.specs.declared.node.Node.{Node}
use Rattle.mp_jobs.specs.Costs.{Size, width_sum, weight_each, weight_sum, widest}
use Rattle.mp_jobs.specs.Epochs.{claims_under, total}
use Rattle.mp_jobs.specs.Shapes.{Shape}
use Rattle.mp_jobs.specs.Sizes.{size_of}
use Rattle.mp_jobs.specs.Yields.{Yields}

module _ {L G J : Type 0} (meaning : L → Meaning G J) (p : ProblemState L J) where
  abbrev Y : Node G → Given G
  Y = Yields meaning p

  abbrev S : Node G → Size
  S = size_of meaning p

  abbrev H : Node G → Type 0
  H = Shape meaning p

  abbrev C : ℕ → Node G → ℕ
  C e = claims_under e

  -- one of the kids
  pub record Chosen (m : Node G) (ks : List (Node G)) : Type 0 where
    pub shape : H m
    pub wide_each : (S m).wide ≤ width_sum (map S ks)
    pub wide_most : (S m).wide ≤ widest (map S ks)
    pub weight_each : (S m).heavy + 1 ≤ weight_each (map S ks)
    pub weight_sum : (S m).heavy ≤ weight_sum (map S ks)
    pub counts : (e : ℕ) → C e m ≤ total (map (C e) ks)

  pub chosen_here : (k : Node G) (ks : List (Node G)) → H k → Chosen k (k ∷ ks)
  chosen_here k ks h = record { shape = h; wide_each = omega arith; wide_most = omega arith; weight_each = omega arith; weight_sum = omega arith; counts = λ e. omega arith }

  pub chosen_later : (m k : Node G) (ks : List (Node G)) → Chosen m ks → Chosen m (k ∷ ks)
  chosen_later m k ks c =
      let a : (S m).wide ≤ width_sum (map S ks) = c.wide_each in
      let b : (S m).wide ≤ widest (map S ks) = c.wide_most in
      let d : (S m).heavy + 1 ≤ weight_each (map S ks) = c.weight_each in
      let f : (S m).heavy ≤ weight_sum (map S ks) = c.weight_sum in
      record { shape = c.shape; wide_each = omega (arith, a); wide_most = omega (arith, b); weight_each = omega (arith, d); weight_sum = omega (arith, f); counts = λ e. (let g : C e m ≤ total (map (C e) ks) = c.counts e in omega (arith, g)) }

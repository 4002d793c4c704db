-- What a walk over nodes finds.
use Rattle.std.specs.Prelude.{◌≡◌, ℕ, ◌+◌, List, length, Some, None}
use Rattle.std.specs.declared.option.Option.{Option}
use Rattle.std.specs.List.{AllByRecursion}
use Rattle.mp_logic.specs.Steps.{Outcome}
use Rattle.mp_logic.specs.Trees.{counted}
use Rattle.mp_logic.specs.Valid.{StepHolds}
use Rattle.mp_replay.specs.Nodes.{Node}
use Rattle.mp_replay.specs.Verdicts.{IsFirstBad}
use Rattle.mp_replay.specs.declared.verdict.BadCause.{BadCause}

module _ {G J : Type 0} (step : J → G → Outcome G) (justs : List J) where
  -- a walk over nodes finds what is wrong with the first bad one, if one is bad, and counts on from a number: all of the nodes, or those up to
  -- the bad one
  abbrev pub Finds : List (Node G) → ℕ → Option (BadCause G) → ℕ → Type 0
  Finds nodes seen None now = AllByRecursion (StepHolds step justs) nodes × (now ≡ counted (seen + length nodes))
  Finds nodes seen (Some c) now = (place : ℕ) × IsFirstBad step justs nodes place c × (now ≡ counted (seen + place + 1))

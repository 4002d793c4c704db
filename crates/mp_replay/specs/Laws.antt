-- What holds of all verdicts.
use Rattle.std.specs.Prelude.{◌≡◌, ◌≢◌, ◌↔◌, ℕ, List}
use Rattle.mp_logic.specs.declared.tree.Tree.{Tree}
use Rattle.mp_logic.specs.Meaning.{Meaning}
use Rattle.mp_logic.specs.Trees.{leaf_count_of, counted}
use Rattle.mp_logic.specs.Valid.{IsValid}
use Rattle.mp_replay.specs.Conditions.{CanReplay}
use Rattle.mp_replay.specs.Verdicts.{IsVerdict}
use Rattle.mp_replay.specs.declared.verdict.BadCause.{BadCause}
use Rattle.mp_replay.specs.declared.verdict.Verdict.{Verdict}
use Rattle.mp_replay.specs.declared.verdict.Verdict.TheVariants as verdict

module _ {G J : Type 0} (m : Meaning G J) where
  -- of a tree and a goal there is at most one verdict
  abbrev pub OneVerdict : Type 0
  OneVerdict = (justs : List J) (t : Tree G) (goal : G) (v w : Verdict G) → IsVerdict m.step justs t goal v → IsVerdict m.step justs t goal w → v ≡ w

  -- of a tree that can be replayed and a goal there is a verdict
  abbrev pub SomeVerdict : Type 0
  SomeVerdict = (justs : List J) (t : Tree G) (goal : G) → CanReplay m justs t → (v : Verdict G) × IsVerdict m.step justs t goal v

  -- a verdict says whether the tree is valid for the goal, and with how many open leaves
  pub record SaysValidity (justs : List J) (t : Tree G) (goal : G) (v : Verdict G) : Type 0 where
    pub closed : (v ≡ verdict.Closed) ↔ (IsValid m.step justs t goal × (leaf_count_of t ≡ 0))
    pub leaves : (n : ℕ) → (v ≡ verdict.OpenLeaves n) ↔ (IsValid m.step justs t goal × (leaf_count_of t ≢ 0) × (n ≡ counted (leaf_count_of t)))
    pub bad : ((node : ℕ) × (c : BadCause G) × (v ≡ verdict.Bad node c)) ↔ (¬ (IsValid m.step justs t goal))

  -- each verdict on a tree and a goal says whether the tree is valid for the goal
  abbrev pub VerdictIsValidity : Type 0
  VerdictIsValidity = (justs : List J) (t : Tree G) (goal : G) (v : Verdict G) → IsVerdict m.step justs t goal v → SaysValidity justs t goal v

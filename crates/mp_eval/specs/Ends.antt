-- How what a strategy ends with is an outcome.
use Rattle.std.specs.Prelude.{◌≡◌, ◌≤◌, ℕ, Some, None, IsTrue, ⊤}
use Rattle.std.specs.declared.option.Option.{Option}
use Rattle.mp_logic.specs.Meaning.{Meaning}
use Rattle.mp_logic.specs.Trees.{root_of}
use Rattle.mp_logic.specs.Valid.{EachGoal}
use Rattle.mp_strategy.specs.declared.outcome.Outcome.{Outcome}
use Rattle.mp_strategy.specs.declared.outcome.Outcome.TheVariants as outcome
use Rattle.mp_strategy.specs.Laws.{tree_depth_of}
use Rattle.mp_eval.specs.declared.ended.Ended.{Ended}
use Rattle.mp_eval.specs.declared.ended.Ended.TheVariants as ended

-- the goal that a failure arose at: another one than was given, if there is one
abbrev pub where_at : {G : Type 0} → Option G → G → G
where_at (Some g) given = g
where_at None given = given

-- what a strategy ends with on a goal is this outcome; a failure hands the goal back
abbrev pub Ends : {G : Type 0} → Outcome G → G → Ended G → Type 0
Ends o g (ended.Tree t) = o ≡ outcome.Tree t
Ends o g (ended.Failed kind tac given other) = (given ≡ g) × (o ≡ outcome.Failure (record { kind = kind; tac = tac; goal = where_at other given }))

-- a tree that a strategy ends with is for the goal, each goal of it is good, and no path of it has more steps than the fuel
abbrev pub IsFor : {G J : Type 0} → Meaning G J → ℕ → G → Ended G → Type 0
IsFor m f g (ended.Tree t) = EachGoal (λ h. IsTrue (m.good h)) t × (tree_depth_of t ≤ f) × (root_of t ≡ g)
IsFor m f g (ended.Failed kind tac given other) = ⊤

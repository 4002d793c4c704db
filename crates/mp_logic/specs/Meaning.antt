-- What a logic means: its goals, its justifications and its steps.
use Rattle.std.specs.Prelude.{◌≡◌, ◌≤◌, ◌↔◌, ℕ, Bool, length, IfOk, IsTrue}
use Rattle.std.specs.List.{list_all}
use Rattle.mp_logic.specs.Steps.{Outcome}

-- the meaning of a logic: which goals and which justifications a step may be tried on, what a step gives, which goals are
-- equal, and the greatest number of subgoals
pub record Meaning (G J : Type 0) : Type 0 where
  pub good : G → Bool
  pub allowed : J → Bool
  pub step : J → G → Outcome G
  pub same : G → G → Bool
  pub width : ℕ

-- the laws of a meaning: an allowed step of a good goal gives good subgoals, and no more than the width; and two goals pass
-- the test exactly where they are equal
pub record IsLogic {G J : Type 0} (m : Meaning G J) : Type 0 where
  pub keeps_good : (j : J) (g : G) → IsTrue (m.allowed j) → IsTrue (m.good g) → IfOk (m.step j g) (λ kids. IsTrue (list_all m.good kids))
  pub within_width : (j : J) (g : G) → IsTrue (m.allowed j) → IsTrue (m.good g) → IfOk (m.step j g) (λ kids. length kids ≤ m.width)
  pub same_is : (a b : G) → IsTrue (m.same a b) ↔ (a ≡ b)

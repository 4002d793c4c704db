-- Settling to the end.
use Rattle.std.proofs.Common.{◌≡◌, ◌+◌, ◌≤◌, Some, None, arith}
use Rattle.mp_logic.specs.Meaning.{Meaning, IsLogic}
use Rattle.mp_strategy.specs.declared.problem.ProblemState.{ProblemState}
use Rattle.mp_strategy.specs.Problems.{IsProblem}
use Rattle.mp_jobs.specs.declared.node.Node.{Node}
use Rattle.mp_jobs.specs.Kept.{Kept}
use Rattle.mp_jobs.specs.Laws.{SettledIsSettled}
use Rattle.mp_jobs.specs.Runs.{settled}
use Rattle.mp_jobs.specs.Settlement.{settle_rule}
use Rattle.mp_jobs.specs.Shapes.{Shape}
use Rattle.mp_jobs.specs.Sizes.{weight_of}
use Rattle.mp_jobs.specs.Walks.{first_change}
use Rattle.mp_jobs.proofs.Chains.{Chain}
use Rattle.mp_jobs.proofs.Runs.{arrives, ends}
use Rattle.mp_jobs.proofs.UnitMoves.{first_settles}

module _ {L G J : Type 0} (meaning : L → Meaning G J) (p : ProblemState L J) (lawful : IsLogic (meaning p.logic)) (is : IsProblem meaning p) where
  falls : (n m : Node G) → Shape meaning p n → first_change (settle_rule meaning p) n ≡ Some m → Shape meaning p m × (weight_of meaning p m + 1 ≤ weight_of meaning p n)
  falls n m h e = let k : Kept meaning p 1 (λ e. 0) m n = (first_settles meaning p lawful is n m e).kept h in (k.shape, k.sizes.heavy)

  -- settlements after which no node is ready are all that there are
  pub settled_by : (n m : Node G) → Shape meaning p n → Chain (settle_rule meaning p) n m → first_change (settle_rule meaning p) m ≡ None → settled meaning p n ≡ m
  settled_by n m h c e = arrives (settle_rule meaning p) (Shape meaning p) (weight_of meaning p) falls n m (weight_of meaning p n) c e h (omega arith)

  pub settled_ends : SettledIsSettled meaning p
  settled_ends n h = ends (settle_rule meaning p) (Shape meaning p) (weight_of meaning p) falls (weight_of meaning p n) n h (omega arith)

-- What may happen to a core, in any order and as often as it may.
use Rattle.std.specs.Prelude.{◌≡◌, ℕ, ⊤, List, [], ◌∷◌, Some}
use Rattle.mp_logic.specs.Meaning.{Meaning}
use Rattle.mp_strategy.specs.declared.work.Work.{Work}
use Rattle.mp_strategy.specs.declared.outcome.Outcome.{Outcome}
use Rattle.mp_strategy.specs.declared.problem.ProblemState.{ProblemState}
use Rattle.mp_strategy.specs.Strategies.{Evals}
use Rattle.mp_core.specs.declared.state.MachineState.{MachineState}
use Rattle.mp_core.specs.declared.state.Parcel.{Parcel}
use Rattle.mp_core.specs.declared.core_calls.Reported.{Reported}
use Rattle.mp_core.specs.Machine.{opening, claimed_by, reissued, next_for, lost_by, Reports, answer_of}
use Rattle.mp_core.specs.Sound.{Yields, HasShape, IsSoundState}

-- one call; a report may be of any parcel, late or for a second time
pub data Event (G : Type 0) : Type 0 where
  Claim : (who : ℕ) → Event G
  Report : (parcel : Parcel G) → Event G
  Lose : (who : ℕ) → Event G
  Reissue : Event G
  NextForCaller : Event G

module _ {G : Type 0} where
  -- the call takes the one state to the other
  abbrev pub Steps : MachineState G → Event G → MachineState G → Type 0
  Steps s (Claim who) new = new ≡ (claimed_by s who).1
  Steps s (Report parcel) new = (reply : Reported G) × Reports s parcel reply new
  Steps s (Lose who) new = new ≡ (lost_by s who).1
  Steps s Reissue new = new ≡ (reissued s).1
  Steps s NextForCaller new = new ≡ (next_for s).1

  -- the calls, one after the other, take the one state to the other
  abbrev pub Runs : MachineState G → List (Event G) → MachineState G → Type 0
  Runs s [] end = end ≡ s
  Runs s (e ∷ es) end = (mid : MachineState G) × Steps s e mid × Runs mid es end

module _ {G : Type 0} (evals : Work G → Outcome G → Type 0) where
  -- a parcel that is reported has an outcome that its work gives
  abbrev pub IsHonest : Event G → Type 0
  IsHonest (Claim who) = ⊤
  IsHonest (Report parcel) = evals parcel.work parcel.outcome
  IsHonest (Lose who) = ⊤
  IsHonest Reissue = ⊤
  IsHonest NextForCaller = ⊤

  -- each parcel that is reported has an outcome that its work gives
  abbrev pub AllHonest : List (Event G) → Type 0
  AllHonest [] = ⊤
  AllHonest (e ∷ es) = IsHonest e × AllHonest es

  -- a call on a sound state leaves a sound one
  abbrev pub CallsKeepSound : Type 0
  CallsKeepSound = (s : MachineState G) (e : Event G) (new : MachineState G) → IsHonest e → Steps s e new → IsSoundState evals s → IsSoundState evals new

  -- a call makes no outcome possible that wasn't
  abbrev pub CallsYieldNoMore : Type 0
  CallsYieldNoMore = (s : MachineState G) (e : Event G) (new : MachineState G) → IsHonest e → Steps s e new → (o : Outcome G) → Yields evals new.node o → Yields evals s.node o

  -- from the start of a work, whatever happens, each state is sound
  abbrev pub RunsStaySound : Work G → Type 0
  RunsStaySound work = (es : List (Event G)) (end : MachineState G) → AllHonest es → Runs (opening work) es end → IsSoundState evals end

  -- from the start of a work, whatever happens, an answer is an outcome that the work gives
  abbrev pub RunsAnswerTruly : Work G → Type 0
  RunsAnswerTruly work = (es : List (Event G)) (end : MachineState G) → AllHonest es → Runs (opening work) es end
      → (o : Outcome G) → answer_of end ≡ Some o → evals work o

module _ {L G J : Type 0} (meaning : L → Meaning G J) (p : ProblemState L J) where
  -- a call on a state of a core's shape leaves one
  abbrev pub CallsKeepShape : Type 0
  CallsKeepShape = (s : MachineState G) (e : Event G) (new : MachineState G) → IsHonest (Evals meaning p) e → Steps s e new → HasShape meaning p s → HasShape meaning p new

  -- from the start of a work, whatever happens, each state has a core's shape
  abbrev pub RunsKeepShape : Work G → Type 0
  RunsKeepShape work = (es : List (Event G)) (end : MachineState G) → AllHonest (Evals meaning p) es → Runs (opening work) es end → HasShape meaning p end

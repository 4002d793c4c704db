-- The small steps that each call of a core is made of.
use Rattle.std.specs.Prelude.{◌≡◌, ℕ, ◌+◌, ◌≤◌, Some}
use Rattle.mp_logic.specs.Meaning.{Meaning}
use Rattle.mp_strategy.specs.declared.outcome.Outcome.{Outcome}
use Rattle.mp_strategy.specs.declared.problem.ProblemState.{ProblemState}
use Rattle.mp_strategy.specs.declared.work.Work.{Work}
use Rattle.mp_strategy.specs.Strategies.{Evals}
use Rattle.mp_jobs.specs.declared.node.Node.{Node}
use Rattle.mp_jobs.specs.Epochs.{HasDistinctEpochs, HasEpochsBelow}
use Rattle.mp_jobs.specs.Jobs.{claim_rule, place_rule, reclaim_rule, lose_rule}
use Rattle.mp_jobs.specs.Refines.{Refines}
use Rattle.mp_jobs.specs.Settlement.{settle_rule}
use Rattle.mp_jobs.specs.Shapes.{Shape}
use Rattle.mp_jobs.specs.Sizes.{size_of, weight_of}
use Rattle.mp_jobs.specs.Walks.{first_change}
use Rattle.mp_jobs.specs.Yields.{Yields, YieldsNoMore}

module _ {L G J : Type 0} (meaning : L → Meaning G J) (p : ProblemState L J) where
  -- one small step, from a node and the next epoch to a node and the next epoch: a settlement; a claim or a reissue, which
  -- draws an epoch; a parcel that is placed; a claim that is given back
  pub data Step : Node G → ℕ → Node G → ℕ → Type 0 where
    settles : (old new : Node G) (next : ℕ) → first_change (settle_rule meaning p) old ≡ Some new → Step old next new next
    claims : (old new : Node G) (next who : ℕ) → first_change (claim_rule next who) old ≡ Some new → Step old next new (next + 1)
    places : (old new node : Node G) (next epoch : ℕ) (work : Work G) → Refines meaning p node work
        → first_change (place_rule (meaning p.logic).same epoch work node) old ≡ Some new → Step old next new next
    loses : (old new : Node G) (next who : ℕ) → first_change (lose_rule who) old ≡ Some new → Step old next new next
    reclaims : (old new : Node G) (next epoch : ℕ) → first_change (reclaim_rule epoch next) old ≡ Some new → Step old next new (next + 1)

  -- several steps, one after the other
  pub data Steps : Node G → ℕ → Node G → ℕ → Type 0 where
    stays : (n : Node G) (next : ℕ) → Steps n next n next
    goes : (old mid new : Node G) (i j k : ℕ) → Step old i mid j → Steps mid j new k → Steps old i new k

  -- what each node has that a core keeps: the shape of a node, no epoch in two leaves, and each below the next one
  pub record IsSteady (n : Node G) (next : ℕ) : Type 0 where
    pub shape : Shape meaning p n
    pub distinct : HasDistinctEpochs n
    pub below : HasEpochsBelow next n

  -- the new node yields no more than the old one, is no heavier, and no wider
  pub record IsNoMore (new old : Node G) : Type 0 where
    pub yields : YieldsNoMore meaning p new old
    pub heavy : weight_of meaning p new ≤ weight_of meaning p old
    pub wide : (size_of meaning p new).wide ≤ (size_of meaning p old).wide

  -- the node yields only what the work gives
  abbrev pub IsSoundFor : Work G → Node G → Type 0
  IsSoundFor work n = (o : Outcome G) → Yields meaning p n o → Evals meaning p work o

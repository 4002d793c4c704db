-- The core's machine: its states, and what each call answers and leaves.
use Rattle.std.specs.Prelude.{◌≡◌, ◌⊎◌, ℕ, ◌+◌, ◌==◌, if◌then◌else◌, Some, None}
use Rattle.std.specs.declared.option.Option.{Option}
use Rattle.mp_strategy.specs.declared.work.Work.{Work}
use Rattle.mp_strategy.specs.declared.outcome.Outcome.{Outcome}
use Rattle.mp_core.specs.declared.node.Node.{Node}
use Rattle.mp_core.specs.declared.node.Node.TheVariants as node
use Rattle.mp_core.specs.declared.state.MachineState.{MachineState}
use Rattle.mp_core.specs.declared.state.Parcel.{Parcel}
use Rattle.mp_core.specs.declared.core_calls.Claimed.{Claimed}
use Rattle.mp_core.specs.declared.core_calls.Claimed.TheVariants as claimed
use Rattle.mp_core.specs.declared.core_calls.Reported.{Reported}
use Rattle.mp_core.specs.declared.core_calls.Reported.TheVariants as reported
use Rattle.mp_core.specs.Nodes.{settled, done_of, first_todo, claim_first, oldest_claim, reclaim, claims_of, give_back, HasClaim, place}

-- the greatest epoch: once it was drawn, none is left
abbrev pub last_epoch : ℕ
last_epoch = 18446744073709551615

module _ {G : Type 0} where
  -- the root work is to do, and no epoch was drawn
  abbrev pub opening : Work G → MachineState G
  opening work = record { work = work; node = node.Todo work; drawn = 0 }

  -- the state with every settlement made
  abbrev pub settle : MachineState G → MachineState G
  settle s = record s { node = settled s.node }

  -- a ticket for the work under the next epoch, unless the epochs are spent
  abbrev pub issue_reply : MachineState G → Work G → Claimed G
  issue_reply s work = if s.drawn == last_epoch then claimed.Spent else claimed.Ticket (record { epoch = s.drawn + 1; work = work })

  -- the next epoch is drawn and the node becomes this one, unless the epochs are spent
  abbrev pub issue_state : MachineState G → Node G → MachineState G
  issue_state s n = if s.drawn == last_epoch then s else record s { node = n; drawn = s.drawn + 1 }

  -- a claim on a settled state that isn't done, by what is to do
  abbrev pub claim_todo : Option (Work G) → MachineState G → ℕ → Claimed G × MachineState G
  claim_todo None s who = (claimed.Nothing, s)
  claim_todo (Some work) s who = (issue_reply s work, issue_state s (claim_first (s.drawn + 1) who s.node))

  -- a claim on a settled state, by whether it is done
  abbrev pub claim_settled : Option (Outcome G) → MachineState G → ℕ → Claimed G × MachineState G
  claim_settled (Some o) s who = (claimed.Finished, s)
  claim_settled None s who = claim_todo (first_todo s.node) s who

  -- `claim(who)`: Finished if the root is done, else Nothing if no job is to do, else Spent if no
  -- epoch is left, else the leftmost job that is to do under the next epoch
  abbrev pub claimed_by : MachineState G → ℕ → Claimed G × MachineState G
  claimed_by s who = claim_settled (done_of (settle s).node) (settle s) who

  -- a reissue on a settled state that isn't done, by its oldest claim
  abbrev pub reissue_oldest : Option (ℕ × Work G) → MachineState G → Claimed G × MachineState G
  reissue_oldest None s = (claimed.Nothing, s)
  reissue_oldest (Some oldest) s = (issue_reply s oldest.1, issue_state s (reclaim oldest.0 (s.drawn + 1) s.node))

  -- a reissue on a settled state, by whether it is done
  abbrev pub reissue_settled : Option (Outcome G) → MachineState G → Claimed G × MachineState G
  reissue_settled (Some o) s = (claimed.Finished, s)
  reissue_settled None s = reissue_oldest (oldest_claim s.node) s

  -- `reissue`: Finished if the root is done, else Nothing if no job is claimed, else Spent if no epoch
  -- is left, else the claim with the least epoch becomes worker 0's under the next epoch
  abbrev pub reissued : MachineState G → Claimed G × MachineState G
  reissued s = reissue_settled (done_of (settle s).node) (settle s)

  -- after a claim that found nothing a reissue
  abbrev pub or_reissued : Claimed G × MachineState G → Claimed G × MachineState G
  or_reissued (claimed.Nothing, s) = reissued s
  or_reissued (claimed.Ticket t, s) = (claimed.Ticket t, s)
  or_reissued (claimed.Finished, s) = (claimed.Finished, s)
  or_reissued (claimed.Spent, s) = (claimed.Spent, s)

  -- `next_for_caller`: a claim of worker 0, and a reissue if that is Nothing
  abbrev pub next_for : MachineState G → Claimed G × MachineState G
  next_for s = or_reissued (claimed_by s 0)

  -- a job is claimed under the parcel's epoch, with its work
  abbrev pub IsDue : MachineState G → Parcel G → Type 0
  IsDue s p = HasClaim p.epoch p.work s.node

  -- the job claimed under the parcel's epoch is done, with the parcel's outcome
  abbrev pub placed : MachineState G → Parcel G → MachineState G
  placed s p = record s { node = place p.epoch (node.Done p.outcome) s.node }

  -- the parcel isn't due, and nothing changes; or what was left over is settled, and that withdraws the job: the settled
  -- state stays then
  abbrev pub IsStale : MachineState G → Parcel G → MachineState G → Type 0
  IsStale s p new = ((IsDue s p → ⊥) × (new ≡ s)) ⊎ (IsDue s p × (IsDue (settle s) p → ⊥) × (new ≡ settle s))

  -- `report(p)`: Taken exactly if the parcel is due, and still is once what was left over is settled: it is placed
  -- then, and the state is settled; else it is Stale, and comes back. With one job no memory is taken.
  abbrev pub Reports : MachineState G → Parcel G → Reported G → MachineState G → Type 0
  Reports s p reported.Taken new = IsDue s p × IsDue (settle s) p × (new ≡ settle (placed (settle s) p))
  Reports s p (reported.Stale back) new = (back ≡ p) × IsStale s p new
  Reports s p reported.TakenUnsettled new = ⊥
  Reports s p (reported.NoMemory back) new = ⊥

  -- `lose(who)`: each claim of the worker is to do again, and their number is the answer
  abbrev pub lost_by : MachineState G → ℕ → ℕ × MachineState G
  lost_by s who = (claims_of who s.node, record s { node = give_back who s.node })

  -- `answer`: the root's outcome, if the root is done
  abbrev pub answer_of : MachineState G → Option (Outcome G)
  answer_of s = done_of s.node

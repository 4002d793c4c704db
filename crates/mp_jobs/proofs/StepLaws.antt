-- Each small step keeps a node steady, and makes it no more than it was.
use Rattle.std.proofs.Common.{◌≡◌, ℕ, ◌+◌, ◌≤◌, ◌==◌, Bool, true, false, refl, subst, arith}
use Rattle.std.proofs.lemmas.Bool.{eqb-true}
use Rattle.mp_logic.specs.Meaning.{Meaning, IsLogic}
use Rattle.mp_strategy.specs.declared.problem.ProblemState.{ProblemState}
use Rattle.mp_strategy.specs.declared.work.Work.{Work}
use Rattle.mp_strategy.specs.Problems.{IsProblem}
use Rattle.mp_strategy.specs.Works.{IsWork}
use Rattle.mp_jobs.specs.declared.node.Node.{Node, Todo}
use Rattle.mp_jobs.specs.Costs.{IsWithin, work_size}
use Rattle.mp_jobs.specs.Epochs.{one_if, claims_under, claims_step, under}
use Rattle.mp_jobs.specs.Jobs.{claim_rule, place_rule, reclaim_rule, lose_rule}
use Rattle.mp_jobs.specs.Kept.{Kept, Moves}
use Rattle.mp_jobs.specs.Laws.{StepsKeep, RunsAreSound}
use Rattle.mp_jobs.specs.Sizes.{size_of, size_step}
use Rattle.mp_jobs.specs.Steps.{Step, settles, claims, places, loses, reclaims, stays, goes, IsSteady, IsNoMore}
use Rattle.mp_jobs.proofs.Folds.{fold-Todo}
use Rattle.mp_jobs.proofs.JobMoves.{claim_moves, reclaim_moves, lose_moves, place_moves}
use Rattle.mp_jobs.proofs.ShapeSteps.{shape-Todo, back}
use Rattle.mp_jobs.proofs.UnitMoves.{first_moves, first_settles}
use Rattle.mp_jobs.proofs.YieldSteps.{yields-Todo}

-- an epoch that is drawn stands in one leaf, and was in none before
once_by : (next e a b : ℕ) (c : Bool) → (next == e) ≡ c → a ≤ b + one_if c → b ≤ 1 → (next ≤ e → b ≡ 0) → a ≤ 1
once_by next e a b false q h l z = omega (arith, h, l)
once_by next e a b true q h l z = let same-is : next ≡ e = eqb-true next e q in let le : next ≤ e = omega (arith, same-is) in let n : b ≡ 0 = z le in omega (arith, h, n)

below_by : (next e a b : ℕ) (c : Bool) → (next == e) ≡ c → next + 1 ≤ e → a ≤ b + one_if c → (next ≤ e → b ≡ 0) → a ≡ 0
below_by next e a b false q le h z = let l : next ≤ e = omega (arith, le) in let n : b ≡ 0 = z l in omega (arith, h, n)
below_by next e a b true q le h z = let same-is : next ≡ e = eqb-true next e q in absurd (omega (arith, same-is, le))

module _ {L G J : Type 0} (meaning : L → Meaning G J) (p : ProblemState L J) where
  abbrev Keeps : Node G → ℕ → Node G → ℕ → Type 0
  Keeps old i new j = IsSteady meaning p old i → IsSteady meaning p new j × IsNoMore meaning p new old

  no_more : (less : ℕ) (more : ℕ → ℕ) (old new : Node G) → Kept meaning p less more new old → IsNoMore meaning p new old
  no_more less more old new k =
      let s : IsWithin less (size_of meaning p new) (size_of meaning p old) = k.sizes in
      let heavy = s.heavy in
      record { yields = k.yields; heavy = omega (arith, heavy); wide = s.wide }

  -- a step that claims nothing
  quiet : (less : ℕ) (old new : Node G) (next : ℕ) → Moves meaning p less (λ e. 0) new old → Keeps old next new next
  quiet less old new next r s =
      let k : Kept meaning p less (λ e. 0) new old = r.kept s.shape in (
        record {
          shape = k.shape;
          distinct = λ e. (let a : claims_under e new ≤ claims_under e old + 0 = k.epochs e in let b : claims_under e old ≤ 1 = s.distinct e in omega (arith, a, b));
          below = λ e le. (let a : claims_under e new ≤ claims_under e old + 0 = k.epochs e in let b : claims_under e old ≡ 0 = s.below e le in omega (arith, a, b));
        },
        no_more less (λ e. 0) old new k,
      )

  -- a step that claims under the next epoch
  drawn : (old new : Node G) (next : ℕ) → Moves meaning p 0 (λ e. one_if (next == e)) new old → Keeps old next new (next + 1)
  drawn old new next r s =
      let k : Kept meaning p 0 (λ e. one_if (next == e)) new old = r.kept s.shape in (
        record {
          shape = k.shape;
          distinct = λ e. once_by next e (claims_under e new) (claims_under e old) (next == e) refl (k.epochs e) (s.distinct e) (s.below e);
          below = λ e le. below_by next e (claims_under e new) (claims_under e old) (next == e) refl le (k.epochs e) (s.below e);
        },
        no_more 0 (λ e. one_if (next == e)) old new k,
      )

  -- nothing changed
  same : (n : Node G) → IsNoMore meaning p n n
  same n = record { yields = λ o y. y; heavy = omega arith; wide = omega arith }

  both : (a b c : Node G) → IsNoMore meaning p b a → IsNoMore meaning p c b → IsNoMore meaning p c a
  both a b c x y =
      let h = x.heavy in let i = y.heavy in let w = x.wide in let v = y.wide in
      record { yields = λ o z. x.yields o (y.yields o z); heavy = omega (arith, h, i); wide = omega (arith, w, v) }

  -- the job of a work
  opening : (work : Work G) (next : ℕ) → IsWork meaning p work → IsSteady meaning p (Todo work) next
  opening work next w = record {
    shape = back _ _ (shape-Todo meaning p work) w;
    distinct = λ e. (let c : claims_under e (Todo work) ≡ 0 = fold-Todo (claims_step (under e)) work in omega (arith, c));
    below = λ e le. fold-Todo (claims_step (under e)) work;
  }

  module _ (lawful : IsLogic (meaning p.logic)) (is : IsProblem meaning p) where
    step_keeps : (old new : Node G) (i j : ℕ) → Step meaning p old i new j → Keeps old i new j
    step_keeps old new i j (settles _ _ _ e) = quiet 1 old new i (first_settles meaning p lawful is old new e)
    step_keeps old new i j (claims _ _ _ who e) = drawn old new i (first_moves meaning p 0 (λ e. one_if (i == e)) (claim_rule i who) (claim_moves meaning p i who) old new e)
    step_keeps old new i j (places _ _ node _ epoch work r e) =
        quiet 1 old new i (first_moves meaning p 1 (λ e. 0) (place_rule (meaning p.logic).same epoch work node) (place_moves meaning p lawful epoch work node r) old new e)
    step_keeps old new i j (loses _ _ _ who e) = quiet 0 old new i (first_moves meaning p 0 (λ e. 0) (lose_rule who) (lose_moves meaning p who) old new e)
    step_keeps old new i j (reclaims _ _ _ epoch e) = drawn old new i (first_moves meaning p 0 (λ e. one_if (i == e)) (reclaim_rule epoch i) (reclaim_moves meaning p epoch i) old new e)

    pub steps_keep : StepsKeep meaning p
    steps_keep old new i j (stays _ _) s = (s, same old)
    steps_keep old new i j (goes _ mid _ _ h _ a b) s =
        let first = step_keeps old mid i h a s in
        let rest = steps_keep mid new h j b first.0 in
        (rest.0, both old mid new first.1 rest.1)

    pub runs_sound : RunsAreSound meaning p
    runs_sound work n i j w steps =
        let kept = steps_keep (Todo work) n i j steps (opening work i w) in
        let size : (size_of meaning p (Todo work)).heavy ≡ (work_size meaning p work).heavy = (let e : size_of meaning p (Todo work) ≡ work_size meaning p work = fold-Todo (size_step meaning p) work in λ k. (e k).heavy) in
        let heavy = kept.1.heavy in
        (kept.0, (λ o y. subst (λ q. q o) (yields-Todo meaning p work) (kept.1.yields o y)), omega (arith, size, heavy))

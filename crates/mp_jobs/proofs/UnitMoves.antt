-- What a unit keeps, and what any number of units makes of a job.
use Rattle.std.proofs.Common.{◌≡◌, ℕ, zero, suc, ◌+◌, ◌≤◌, refl, ap, sym, subst, ◌∙◌, Some, None, arith}
use Rattle.std.specs.Option.{option_or, unwrap_or}
use Rattle.std.specs.declared.option.Option.{Option}
use Rattle.mp_logic.specs.Meaning.{Meaning, IsLogic}
use Rattle.mp_strategy.specs.declared.problem.ProblemState.{ProblemState}
use Rattle.mp_strategy.specs.declared.work.Work.{Work}
use Rattle.mp_strategy.specs.Problems.{IsProblem}
use Rattle.mp_strategy.specs.Works.{IsWork}
use Rattle.mp_jobs.specs.declared.node.Node.{Node, Todo}
use Rattle.mp_jobs.specs.Costs.{IsWithin, work_size}
use Rattle.mp_jobs.specs.Epochs.{claims_under, claims_step, under}
use Rattle.mp_jobs.specs.Expansion.{expansion, expand_rule}
use Rattle.mp_jobs.specs.Kept.{Kept, Moves}
use Rattle.mp_jobs.specs.Refines.{Refines}
use Rattle.mp_jobs.specs.Settlement.{settle_rule}
use Rattle.mp_jobs.specs.Sizes.{size_of, size_step}
use Rattle.mp_jobs.specs.Units.{unit_of, units_of}
use Rattle.mp_jobs.specs.Walks.{Rule, first_change}
use Rattle.mp_jobs.proofs.Carries.{moves_congruence}
use Rattle.mp_jobs.proofs.Changes.{first_todo}
use Rattle.mp_jobs.proofs.Congruence.{first_keeps}
use Rattle.mp_jobs.proofs.ExpandMoves.{expand_moves}
use Rattle.mp_jobs.proofs.Folds.{fold-Todo}
use Rattle.mp_jobs.proofs.Forms.{settle-Todo, expand-Todo}
use Rattle.mp_jobs.proofs.SettleMoves.{settle_moves}
use Rattle.mp_jobs.proofs.ShapeSteps.{shape-Todo, back}
use Rattle.mp_jobs.proofs.YieldSteps.{yields-Todo}

module _ {L G J : Type 0} (meaning : L → Meaning G J) (p : ProblemState L J) where
  -- what a rule keeps of each node that it changes, its first change keeps of the whole
  pub first_moves : (less : ℕ) (more : ℕ → ℕ) (rule : Rule G) → ((n m : Node G) → rule n ≡ Some m → Moves meaning p less more m n) → (n m : Node G) → first_change rule n ≡ Some m → Moves meaning p less more m n
  first_moves less more rule h = first_keeps (Moves meaning p less more) (moves_congruence meaning p less more) rule h

  module _ (lawful : IsLogic (meaning p.logic)) (is : IsProblem meaning p) where
    abbrev R : Node G → Node G → Type 0
    R m n = Moves meaning p 1 (λ e. 0) m n

    pub first_settles : (n m : Node G) → first_change (settle_rule meaning p) n ≡ Some m → R m n
    first_settles = first_moves 1 (λ e. 0) (settle_rule meaning p) (settle_moves meaning p is)

    pub first_expands : (n m : Node G) → first_change (expand_rule meaning p) n ≡ Some m → R m n
    first_expands = first_moves 1 (λ e. 0) (expand_rule meaning p) (expand_moves meaning p lawful is)

    unit_by : (a b : Option (Node G)) (n m : Node G) → first_change (settle_rule meaning p) n ≡ a → first_change (expand_rule meaning p) n ≡ b → option_or a b ≡ Some m → R m n
    unit_by (Some x) b n m e f g = first_settles n m (e ∙ g)
    unit_by None b n m e f g = first_expands n m (f ∙ g)

    pub unit_moves : (n m : Node G) → unit_of meaning p n ≡ Some m → R m n
    unit_moves n m e = unit_by _ _ n m refl refl e

    first_unit : (w : Work G) → unit_of meaning p (Todo w) ≡ Some (expansion meaning p w)
    first_unit w =
        ap (λ o. option_or o (first_change (expand_rule meaning p) (Todo w))) (first_todo (settle_rule meaning p) w ∙ settle-Todo meaning p w)
        ∙ (first_todo (expand_rule meaning p) w ∙ expand-Todo meaning p w)

    -- after the first unit on its job a node refines the work
    one_fits : (w : Work G) → IsWork meaning p w → Refines meaning p (expansion meaning p w) w
    one_fits w ok =
        let k : Kept meaning p 1 (λ e. 0) (expansion meaning p w) (Todo w) = (unit_moves (Todo w) (expansion meaning p w) (first_unit w)).kept (back _ _ (shape-Todo meaning p w) ok) in
        let s : IsWithin 1 (size_of meaning p (expansion meaning p w)) (work_size meaning p w) = subst (λ z. IsWithin 1 (size_of meaning p (expansion meaning p w)) z) (fold-Todo (size_step meaning p) w) k.sizes in
        let heavy = s.heavy in
        record {
          shape = k.shape;
          yields = λ o y. subst (λ q. q o) (yields-Todo meaning p w) (k.yields o y);
          lighter = omega (arith, heavy);
          no_wider = s.wide;
          unclaimed = λ e. (let a : claims_under e (expansion meaning p w) ≤ claims_under e (Todo w) + 0 = k.epochs e in let b = fold-Todo (claims_step (under e)) w in omega (arith, a, b));
        }

    -- and a further unit changes nothing of that
    next_fits : (o : Option (Node G)) (n : Node G) (w : Work G) → unit_of meaning p n ≡ o → Refines meaning p n w → Refines meaning p (unwrap_or o n) w
    next_fits None n w e r = r
    next_fits (Some m) n w e r =
        let k : Kept meaning p 1 (λ e. 0) m n = (unit_moves n m e).kept r.shape in
        let s : IsWithin 1 (size_of meaning p m) (size_of meaning p n) = k.sizes in
        let wide = s.wide in let heavy = s.heavy in let lighter = r.lighter in let no_wider = r.no_wider in
        record {
          shape = k.shape;
          yields = λ o y. r.yields o (k.yields o y);
          lighter = omega (arith, heavy, lighter);
          no_wider = omega (arith, wide, no_wider);
          unclaimed = λ e. (let c : claims_under e m ≤ claims_under e n + 0 = k.epochs e in let d : claims_under e n ≡ 0 = r.unclaimed e in omega (arith, c, d));
        }

    pub units_fit : (w : Work G) (k : ℕ) → IsWork meaning p w → Refines meaning p (units_of meaning p (suc k) (Todo w)) w
    units_fit w zero ok = subst (λ o. Refines meaning p (unwrap_or o (Todo w)) w) (sym (first_unit w)) (one_fits w ok)
    units_fit w (suc k) ok = next_fits (unit_of meaning p (units_of meaning p (suc k) (Todo w))) (units_of meaning p (suc k) (Todo w)) w refl (units_fit w k ok)

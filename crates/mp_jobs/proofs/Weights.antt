-- A node that isn't done weighs something, and one that is done nothing.
use Rattle.std.proofs.Common.{◌≡◌, ℕ, zero, suc, ◌+◌, ◌-◌, ◌≤◌, IsTrue, List, [], ◌∷◌, refl, ap, sym, subst, Some, None, arith}
use Rattle.std.specs.declared.option.Option.{Option}
use Rattle.std.specs.Option.{is_some}
use Rattle.std.specs.Prelude.{slice_get}
use Rattle.mp_logic.specs.Meaning.{Meaning}
use Rattle.mp_strategy.specs.declared.problem.ProblemState.{ProblemState}
use Rattle.mp_strategy.specs.declared.tactic.Tac.{Tac}
use Rattle.mp_strategy.specs.declared.tactic.Tac.TheVariants as tac
use Rattle.mp_strategy.specs.declared.work.Work.{Work}
use Rattle.mp_strategy.specs.declared.outcome.Outcome.{Outcome}
use Rattle.mp_strategy.specs.Strategies.{left_of}
use Rattle.mp_jobs.specs.declared.node.Node.{Node}
use Rattle.mp_jobs.specs.Costs.{Size, repeat_size, size_row, size_in, then_size_by}
use Rattle.mp_jobs.specs.Ends.{done_of}
use Rattle.mp_jobs.specs.Laws.{OnlyDoneIsWeightless}
use Rattle.mp_jobs.specs.Shapes.{makes_then, Shape}
use Rattle.mp_jobs.specs.Sizes.{size_of, size_step, weight_of}
use Rattle.mp_jobs.proofs.DoneNodes.{size_done}
use Rattle.mp_jobs.proofs.Folds.{fold-Todo, fold-Claimed, fold-Then, fold-Leaves, fold-Else, fold-Race, fold-Check}
use Rattle.mp_jobs.proofs.Forms.{done-Done}
use Rattle.mp_jobs.proofs.Induction.{node_ind}
use Rattle.mp_jobs.proofs.ShapeSteps.{shape-Then, into}

repeat_some : (a : Size) (n : ℕ) → 1 ≤ (repeat_size a n).heavy
repeat_some a zero = omega arith
repeat_some a (suc n) = omega arith

row_some : (w : ℕ) (t : Tac) (part : ℕ → Size) (left : ℕ) → 1 ≤ (size_row w t part left).heavy
row_some w tac.Id part left = omega arith
row_some w tac.Fail part left = omega arith
row_some w (tac.Step j) part left = omega arith
row_some w (tac.Then a b) part left = omega arith
row_some w (tac.ThenL a bs) part left = omega arith
row_some w (tac.Else a b) part left = omega arith
row_some w (tac.Race bs) part left = omega arith
row_some w (tac.Repeat n a) part left = repeat_some (part a.0) left
row_some w (tac.Progress a) part left = omega arith
row_some w (tac.Complete a) part left = omega arith

-- each work costs something
cost_some : (w here : ℕ) (ts : List Tac) (at left : ℕ) → 1 ≤ (size_in w here ts at left).heavy
cost_some w here [] at left = omega arith
cost_some w here (t ∷ ts) zero left = row_some w t (λ c. size_in w (here + 1) ts (c - (here + 1)) (left_of (slice_get ts (c - (here + 1))))) left
cost_some w here (t ∷ ts) (suc at) left = cost_some w (here + 1) ts at left

module _ {L G J : Type 0} (meaning : L → Meaning G J) (p : ProblemState L J) where
  abbrev S : Node G → Size
  S = size_of meaning p

  heavy_by : (a b : Size) → a ≡ b → 1 ≤ b.heavy → 1 ≤ a.heavy
  heavy_by a b e h = subst (λ (s : Size). 1 ≤ s.heavy) (sym e) h

  then_some : (t : Option Tac) (x : Work G) (s : Size) → IsTrue (makes_then t x.left) → 1 ≤ (then_size_by meaning p t x s).heavy
  then_some None x s m = absurd (cc)
  then_some (Some tac.Id) x s m = absurd (cc)
  then_some (Some tac.Fail) x s m = absurd (cc)
  then_some (Some (tac.Step j)) x s m = absurd (cc)
  then_some (Some (tac.Then a b)) x s m = omega arith
  then_some (Some (tac.ThenL a bs)) x s m = omega arith
  then_some (Some (tac.Else a b)) x s m = absurd (cc)
  then_some (Some (tac.Race bs)) x s m = absurd (cc)
  then_some (Some (tac.Repeat n a)) x s m = omega arith
  then_some (Some (tac.Progress a)) x s m = absurd (cc)
  then_some (Some (tac.Complete a)) x s m = absurd (cc)

  abbrev Weighs : Node G → Type 0
  Weighs n = Shape meaning p n → done_of n ≡ None → 1 ≤ (S n).heavy

  weighs : (n : Node G) → Weighs n
  weighs = node_ind Weighs (record {
    todo = λ x h r. heavy_by _ _ (fold-Todo (size_step meaning p) x) (cost_some (meaning p.logic).width 0 p.tacs x.tac.0 x.left);
    claimed = λ e who x h r. heavy_by _ _ (fold-Claimed (size_step meaning p) e who x) (cost_some (meaning p.logic).width 0 p.tacs x.tac.0 x.left);
    done = λ o h r. absurd (let d = done-Done o in (cc));
    then = λ x f i h r. (let k = into _ _ (shape-Then meaning p x f) h in heavy_by _ _ (fold-Then (size_step meaning p) x f) (then_some (slice_get p.tacs x.tac.0) x (S f) k.1));
    check = λ x f i h r. heavy_by _ _ (fold-Check (size_step meaning p) x f) (omega arith);
    leaves = λ t ks c i h r. heavy_by _ _ (fold-Leaves (size_step meaning p) t ks c) (omega arith);
    or = λ a b i j h r. heavy_by _ _ (fold-Else (size_step meaning p) a b) (omega arith);
    race = λ ks i h r. heavy_by _ _ (fold-Race (size_step meaning p) ks) (omega arith);
  })

  only_done : (n : Node G) (o : Option (Outcome G)) → done_of n ≡ o → Shape meaning p n → weight_of meaning p n ≡ 0 → IsTrue (is_some o)
  only_done n None e h z = absurd (let w = weighs n h e in omega (arith, w, z))
  only_done n (Some o) e h z = refl

  weightless : (n : Node G) (o : Option (Outcome G)) → done_of n ≡ o → IsTrue (is_some o) → weight_of meaning p n ≡ 0
  weightless n None e z = absurd (cc)
  weightless n (Some o) e z = ap (λ (s : Size). s.heavy) (size_done meaning p n o e)

  pub weighs_only : OnlyDoneIsWeightless meaning p
  weighs_only n h = (only_done n (done_of n) refl h, weightless n (done_of n) refl)

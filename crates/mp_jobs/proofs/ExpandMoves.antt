-- What an expansion keeps.
use Rattle.std.proofs.Common.{◌≡◌, ℕ, zero, suc, ◌<◌, ◌&&◌, nat_lt, List, [], ◌∷◌, length, true, refl, sym, subst, Some, arith}
use Rattle.std.specs.List.{list_all}
use Rattle.std.specs.Prelude.{slice_get}
use Rattle.mp_logic.specs.Meaning.{Meaning, IsLogic}
use Rattle.mp_strategy.specs.declared.problem.ProblemState.{ProblemState}
use Rattle.mp_strategy.specs.declared.work.Work.{Work}
use Rattle.mp_strategy.specs.declared.tactic.Tac.{Tac}
use Rattle.mp_strategy.specs.Fits.{parts_of, justs_of, counts_fit, is_behind, fits_of}
use Rattle.mp_strategy.specs.Problems.{IsProblem}
use Rattle.mp_strategy.proofs.Unfolds.{parts_here, row_here}
use Rattle.std.proofs.lemmas.Bool.{and_parts}
use Rattle.mp_jobs.specs.declared.node.Node.{Node, Todo}
use Rattle.mp_jobs.specs.Costs.{IsWithin, work_size}
use Rattle.mp_jobs.specs.Epochs.{claims_under}
use Rattle.mp_jobs.specs.Expansion.{expansion, expand_rule}
use Rattle.mp_jobs.specs.Kept.{Moves}
use Rattle.mp_jobs.specs.Sizes.{size_of, size_step}
use Rattle.mp_jobs.proofs.ExpandLess.{expand_less}
use Rattle.mp_jobs.proofs.Expanded.{Expanded, expand_made}
use Rattle.mp_jobs.proofs.Folds.{fold-Todo}
use Rattle.mp_jobs.proofs.Forms.{done-Todo}
use Rattle.mp_jobs.proofs.JobRules.{todos_by}
use Rattle.mp_jobs.proofs.ShapeSteps.{shape-Todo, into}
use Rattle.mp_jobs.proofs.YieldSteps.{yields-Todo}

entry_at : {A : Type 0} (xs : List A) (i : ℕ) → i < length xs → (x : A) × (slice_get xs i ≡ Some x)
entry_at [] i lt = absurd (omega arith)
entry_at (x ∷ xs) zero lt = (x, refl)
entry_at (x ∷ xs) (suc i) lt = entry_at xs i (omega arith)

counts_here : (justs : ℕ) (ts : List Tac) (i : ℕ) (t : Tac) → fits_of justs ts ≡ true → slice_get ts i ≡ Some t → counts_fit t ≡ true
counts_here justs ts i t fit e =
    let row = and_parts (list_all (is_behind i (length ts)) (parts_of t)) (list_all (λ just. nat_lt just justs) (justs_of t) && counts_fit t) (row_here justs ts i t fit e) in
    (and_parts (list_all (λ just. nat_lt just justs) (justs_of t)) (counts_fit t) row.1).1

module _ {L G J : Type 0} (meaning : L → Meaning G J) (p : ProblemState L J) (lawful : IsLogic (meaning p.logic)) (is : IsProblem meaning p) where
  abbrev R : Node G → Node G → Type 0
  R m n = Moves meaning p 1 (λ e. 0) m n

  expanded : (x : Work G) → R (expansion meaning p x) (Todo x)
  expanded x = record {
    stays = λ o e. absurd (let n = done-Todo x in (cc));
    kept = λ h. (
        let w = into _ _ (shape-Todo meaning p x) h in
        let t = entry_at p.tacs x.tac.0 w.tac in
        let parts = parts_here (length p.justs) p.tacs x.tac.0 t.0 is.fits t.1 in
        let counts : counts_fit t.0 ≡ true = counts_here (length p.justs) p.tacs x.tac.0 t.0 is.fits t.1 in
        let made : Expanded meaning p lawful is (expansion meaning p x) (work_size meaning p x) = expand_made meaning p lawful is t.0 x t.1 w parts counts in
        record {
          shape = made.shape;
          yields = λ o y. subst (λ q. q o) (sym (yields-Todo meaning p x)) (expand_less meaning p x t.0 t.1 parts o y);
          sizes = subst (λ z. IsWithin 1 (size_of meaning p (expansion meaning p x)) z) (sym (fold-Todo (size_step meaning p) x)) made.sizes;
          epochs = λ e. (let a : claims_under e (expansion meaning p x) ≡ 0 = made.none e in omega (arith, a));
        });
  }

  pub expand_moves : (n m : Node G) → expand_rule meaning p n ≡ Some m → R m n
  expand_moves = todos_by R (λ w. Some (expansion meaning p w)) (λ w m e. (let at : expansion meaning p w ≡ m = cc in subst (λ x. R x (Todo w)) at (expanded w)))

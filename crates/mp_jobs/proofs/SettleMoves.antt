-- What each settlement keeps.
use Rattle.std.proofs.Common.{◌≡◌, refl, sym, ◌∙◌, Some, None}
use Rattle.mp_logic.specs.Meaning.{Meaning}
use Rattle.mp_strategy.specs.declared.problem.ProblemState.{ProblemState}
use Rattle.mp_jobs.specs.declared.node.Node.{Node, Todo, Claimed, Done}
use Rattle.mp_jobs.specs.Ends.{done_of}
use Rattle.mp_jobs.specs.Kept.{Moves}
use Rattle.mp_jobs.specs.Settlement.{cut_kids, first_tree, settle_rule}
use Rattle.mp_strategy.specs.Problems.{IsProblem}
use Rattle.mp_jobs.proofs.CheckMoves.{check_kept}
use Rattle.mp_jobs.proofs.ElseMoves.{else_by}
use Rattle.mp_jobs.proofs.Forms.{done-Then, done-Leaves, done-Else, done-Race, done-Check, settle-Todo, settle-Claimed, settle-Done, settle-Then, settle-Leaves, settle-Else, settle-Race, settle-Check}
use Rattle.mp_jobs.proofs.Induction.{node_ind}
use Rattle.mp_jobs.proofs.LeavesMoves.{leaves_by}
use Rattle.mp_jobs.proofs.RaceMoves.{race_by}
use Rattle.mp_jobs.proofs.ThenMoves.{then_kept}

module _ {L G J : Type 0} (meaning : L → Meaning G J) (p : ProblemState L J) where
  abbrev R : Node G → Node G → Type 0
  R m n = Moves meaning p 1 (λ e. 0) m n

  never : (n m : Node G) → settle_rule meaning p n ≡ None → settle_rule meaning p n ≡ Some m → R m n
  never n m e f = absurd (cc)

  abbrev Ruled : Node G → Type 0
  Ruled n = (m : Node G) → settle_rule meaning p n ≡ Some m → R m n

  pub settle_moves : IsProblem meaning p → (n m : Node G) → settle_rule meaning p n ≡ Some m → R m n
  settle_moves is n = node_ind Ruled (record {
    todo = λ w m e. never (Todo w) m (settle-Todo meaning p w) e;
    claimed = λ ep who w m e. never (Claimed ep who w) m (settle-Claimed meaning p ep who w) e;
    done = λ o m e. never (Done o) m (settle-Done meaning p o) e;
    then = λ w f i m e. record { stays = λ o x. absurd (let n = done-Then w f in (cc)); kept = λ h. then_kept meaning p is w f m (sym (settle-Then meaning p w f) ∙ e) h };
    check = λ w f i m e. record { stays = λ o x. absurd (let n = done-Check w f in (cc)); kept = λ h. check_kept meaning p w f m (sym (settle-Check meaning p w f) ∙ e) h };
    leaves = λ t ks c i m e. record { stays = λ o x. absurd (let n = done-Leaves t ks c in (cc)); kept = λ h. leaves_by meaning p (cut_kids ks) t ks c m refl (sym (settle-Leaves meaning p t ks c) ∙ e) h };
    or = λ a b i j m e. record { stays = λ o x. absurd (let n = done-Else a b in (cc)); kept = λ h. else_by meaning p (done_of a) a b m refl (sym (settle-Else meaning p a b) ∙ e) h };
    race = λ ks i m e. record { stays = λ o x. absurd (let n = done-Race ks in (cc)); kept = λ h. race_by meaning p (first_tree ks) ks m refl (sym (settle-Race meaning p ks) ∙ e) h };
  }) n

-- A settled node that isn't done has a job that is to do or claimed.
use Rattle.std.proofs.Common.{◌≡◌, Bool, true, false, ◌||◌, List, map, refl, sym, ◌∙◌, None}
use Rattle.std.specs.Option.{option_or, option_map}
use Rattle.std.specs.List.{list_any}
use Rattle.mp_logic.specs.Meaning.{Meaning}
use Rattle.mp_strategy.specs.declared.problem.ProblemState.{ProblemState}
use Rattle.mp_jobs.specs.declared.node.Node.{Node, Then, Leaves, Else, Race, Check}
use Rattle.mp_jobs.specs.Ends.{done_of}
use Rattle.mp_jobs.specs.Finding.{some_step, is_live}
use Rattle.mp_jobs.specs.Settlement.{settle_rule}
use Rattle.mp_jobs.specs.Shapes.{Shape}
use Rattle.mp_jobs.specs.Walks.{Rule, first_change, kids_change}
use Rattle.mp_jobs.proofs.Changes.{first_then, first_check, first_leaves, first_else, first_race}
use Rattle.mp_jobs.proofs.Folds.{fold-Todo, fold-Claimed, fold-Then, fold-Check, fold-Else, fold-Leaves, fold-Race}
use Rattle.mp_jobs.proofs.Forms.{done-Done, settle-Then, settle-Check, settle-Else, settle-Leaves, settle-Race}
use Rattle.mp_jobs.proofs.Induction.{node_ind}
use Rattle.mp_jobs.proofs.LiveKids.{race_live, leaves_live}
use Rattle.mp_jobs.proofs.LiveParts.{then_live, check_live, else_live}
use Rattle.mp_jobs.proofs.NotReady.{none_map, or_none}
use Rattle.mp_jobs.proofs.ShapeSteps.{shape-Then, shape-Check, shape-Else, shape-Leaves, shape-Race, into}

or_true : (a b : Bool) → a ≡ true → (a || b) ≡ true
or_true true b e = refl
or_true false b e = absurd (cc)

module _ {L G J : Type 0} (meaning : L → Meaning G J) (p : ProblemState L J) where
  abbrev rule : Rule G
  rule = settle_rule meaning p

  abbrev H : Node G → Type 0
  H = Shape meaning p

  abbrev Live : Node G → Type 0
  Live n = H n → first_change rule n ≡ None → done_of n ≡ None → is_live n ≡ true

  abbrev any_live : List (Node G) → Bool
  any_live ks = list_any (λ b. b) (map is_live ks)

  pub settled_live : (n : Node G) → Live n
  settled_live = node_ind Live (record {
    todo = λ w s n r. fold-Todo (some_step (λ w. true) (λ epoch who w. true)) w;
    claimed = λ e who w s n r. fold-Claimed (some_step (λ w. true) (λ epoch who w. true)) e who w;
    done = λ o s n r. absurd (let d = done-Done o in (cc));
    then = λ w f h s n r. (let k = into _ _ (shape-Then meaning p w f) s in let e = none_map (λ m. Then w m) (first_change rule f) (rule (Then w f)) (sym (first_then rule w f) ∙ n) in
        fold-Then (some_step (λ w. true) (λ epoch who w. true)) w f ∙ then_live meaning p (done_of f) w f refl (sym (settle-Then meaning p w f) ∙ e.1) k.1 k.2 e.0 h);
    check = λ w f h s n r. (let k = into _ _ (shape-Check meaning p w f) s in let e = none_map (λ m. Check w m) (first_change rule f) (rule (Check w f)) (sym (first_check rule w f) ∙ n) in
        fold-Check (some_step (λ w. true) (λ epoch who w. true)) w f ∙ check_live meaning p (done_of f) w f refl (sym (settle-Check meaning p w f) ∙ e.1) k.1 k.2 e.0 h);
    leaves = λ t ks c h s n r. (let k = into _ _ (shape-Leaves meaning p t ks c) s in let e = none_map (λ ms. Leaves t ms c) (kids_change rule ks) (rule (Leaves t ks c)) (sym (first_leaves rule t ks c) ∙ n) in
        fold-Leaves (some_step (λ w. true) (λ epoch who w. true)) t ks c ∙ leaves_live meaning p (any_live ks) t ks c refl k.2 k.1 e.0 h (sym (settle-Leaves meaning p t ks c) ∙ e.1));
    or = λ a b h i s n r. (let k = into _ _ (shape-Else meaning p a b) s in
        let o = or_none (option_or (option_map (λ m. Else m b) (first_change rule a)) (option_map (λ m. Else a m) (first_change rule b))) (rule (Else a b)) (sym (first_else rule a b) ∙ n) in
        let e = none_map (λ m. Else m b) (first_change rule a) _ o.0 in
        fold-Else (some_step (λ w. true) (λ epoch who w. true)) a b ∙ or_true (is_live a) (is_live b) (else_live meaning p (done_of a) a b refl (sym (settle-Else meaning p a b) ∙ o.1) k.0 e.0 h));
    race = λ ks h s n r. (let k = into _ _ (shape-Race meaning p ks) s in let e = none_map (λ ms. Race ms) (kids_change rule ks) (rule (Race ks)) (sym (first_race rule ks) ∙ n) in
        fold-Race (some_step (λ w. true) (λ epoch who w. true)) ks ∙ race_live meaning p (any_live ks) ks refl k.0 k.1 e.0 h (sym (settle-Race meaning p ks) ∙ e.1));
  })

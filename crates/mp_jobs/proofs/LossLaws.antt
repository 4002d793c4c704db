-- The loss of a worker gives back one claim after the other.
use Rattle.std.proofs.Common.{◌≡◌, ℕ, ◌==◌, Bool, true, false, if◌then◌else◌, List, [], ◌∷◌, map, refl, ap, sym, subst, ◌∙◌, None}
use Rattle.std.specs.List.{AllByRecursion}
use Rattle.std.specs.Option.{option_or, option_map}
use Rattle.std.specs.declared.option.Option.{Option}
use Rattle.mp_logic.specs.Meaning.{Meaning}
use Rattle.mp_strategy.specs.declared.problem.ProblemState.{ProblemState}
use Rattle.mp_strategy.specs.declared.work.Work.{Work}
use Rattle.mp_jobs.specs.declared.node.Node.{Node, Todo, Claimed, Done, Then, Leaves, Else, Race, Check}
use Rattle.mp_jobs.specs.declared.node.Node.TheVariants.{outs-Todo, outs-Claimed, outs-Done, outs-Then, outs-Leaves, outs-Else, outs-Race, outs-Check}
use Rattle.mp_jobs.specs.JobLaws.{LossesAreSteps}
use Rattle.mp_jobs.specs.Jobs.{some_if, on_claim, lose_rule}
use Rattle.mp_jobs.specs.Losses.{give_back, give_back_step}
use Rattle.mp_jobs.specs.Steps.{loses, Steps, stays, goes as steps_on}
use Rattle.mp_jobs.specs.Walks.{Rule, first_change, kids_change}
use Rattle.mp_jobs.proofs.Chains.{Chain, rests, goes, one, chain_then, chain_check, chain_left, chain_right, joined, Kids, rest, kids_head, kids_tail, kids_joined, chain_leaves, chain_race}
use Rattle.mp_jobs.proofs.Changes.{first_todo, first_claimed, first_done, first_then, first_check, first_leaves, first_else, first_race, kids_more}
use Rattle.mp_jobs.proofs.Folds.{fold-Todo, fold-Claimed, fold-Done, fold-Then, fold-Leaves, fold-Else, fold-Race, fold-Check}
use Rattle.mp_jobs.proofs.Induction.{node_ind}

none_or : {A B : Type 0} (f : A → B) (a : Option A) (o : Option B) → a ≡ None → o ≡ None → option_or (option_map f a) o ≡ None
none_or f a o e d = ap (λ x. option_or (option_map f x) o) e ∙ d

module _ {G : Type 0} (who : ℕ) where
  abbrev rule : Rule G
  rule = lose_rule who

  -- one claim is given back
  abbrev back_one : ℕ → ℕ → Work G → Option (Node G)
  back_one own holder w = some_if (holder == who) (Todo w)

  abbrev back : Node G → Node G
  back = give_back who

  -- changes by the rule lead there, and there it changes nothing more
  abbrev Leads : Node G → Node G → Type 0
  Leads n m = Chain rule n m × (first_change rule m ≡ None)

  stay : (n : Node G) → back n ≡ n → first_change rule n ≡ None → Leads n (back n)
  stay n e d = subst (Leads n) (sym e) (rests n, d)

  claim_by : (b : Bool) (epoch holder : ℕ) (w : Work G) → first_change rule (Claimed epoch holder w) ≡ some_if b (Todo w) → Leads (Claimed epoch holder w) (if b then Todo w else Claimed epoch holder w)
  claim_by true epoch holder w e = (one rule (Claimed epoch holder w) (Todo w) e, first_todo rule w ∙ ap (on_claim back_one) (outs-Todo w))
  claim_by false epoch holder w e = (rests (Claimed epoch holder w), e)

  abbrev Lost : Node G → Type 0
  Lost n = Leads n (back n)

  abbrev KidsLead : List (Node G) → List (Node G) → Type 0
  KidsLead ks ms = Kids rule ks ms × (kids_change rule ms ≡ None)

  lost_each : (ks : List (Node G)) → AllByRecursion Lost ks → KidsLead ks (map back ks)
  lost_each [] h = (rest [], refl)
  lost_each (k ∷ ks) h =
      let first = h.0 in
      let others = lost_each ks h.1 in (
        kids_joined rule (k ∷ ks) (back k ∷ ks) (back k ∷ map back ks) (kids_head rule k (back k) ks first.0) (kids_tail rule (back k) ks (map back ks) first.1 others.0),
        kids_more rule (back k) (map back ks) ∙ none_or (λ m. m ∷ map back ks) (first_change rule (back k)) _ first.1 (ap (option_map (λ ms. back k ∷ ms)) others.1),
      )

  pub lost : (n : Node G) → Lost n
  lost = node_ind Lost (record {
    todo = λ w. stay (Todo w) (fold-Todo (give_back_step who) w) (first_todo rule w ∙ ap (on_claim back_one) (outs-Todo w));
    claimed = λ e holder w. subst (Leads (Claimed e holder w)) (sym (fold-Claimed (give_back_step who) e holder w))
        (claim_by (holder == who) e holder w (first_claimed rule e holder w ∙ ap (on_claim back_one) (outs-Claimed e holder w)));
    done = λ o. stay (Done o) (fold-Done (give_back_step who) o) (first_done rule o ∙ ap (on_claim back_one) (outs-Done o));
    then = λ w f h. subst (Leads (Then w f)) (sym (fold-Then (give_back_step who) w f))
        (chain_then rule w f (back f) h.0, first_then rule w (back f) ∙ none_or (λ m. Then w m) (first_change rule (back f)) _ h.1 (ap (on_claim back_one) (outs-Then w (back f))));
    check = λ w f h. subst (Leads (Check w f)) (sym (fold-Check (give_back_step who) w f))
        (chain_check rule w f (back f) h.0, first_check rule w (back f) ∙ none_or (λ m. Check w m) (first_change rule (back f)) _ h.1 (ap (on_claim back_one) (outs-Check w (back f))));
    leaves = λ t ks c h. (let k = lost_each ks h in subst (Leads (Leaves t ks c)) (sym (fold-Leaves (give_back_step who) t ks c))
        (chain_leaves rule t ks (map back ks) c k.0, first_leaves rule t (map back ks) c ∙ none_or (λ ms. Leaves t ms c) (kids_change rule (map back ks)) _ k.1 (ap (on_claim back_one) (outs-Leaves t (map back ks) c))));
    or = λ a b h k. subst (Leads (Else a b)) (sym (fold-Else (give_back_step who) a b)) (
      joined rule (Else a b) (Else (back a) b) (Else (back a) (back b)) (chain_left rule a (back a) b h.0) (chain_right rule (back a) b (back b) h.1 k.0),
      first_else rule (back a) (back b)
          ∙ ap (λ o. option_or o (rule (Else (back a) (back b)))) (none_or (λ m. Else m (back b)) (first_change rule (back a)) _ h.1 (ap (option_map (λ m. Else (back a) m)) k.1))
          ∙ ap (on_claim back_one) (outs-Else (back a) (back b)),
    );
    race = λ ks h. (let k = lost_each ks h in subst (Leads (Race ks)) (sym (fold-Race (give_back_step who) ks))
        (chain_race rule ks (map back ks) k.0, first_race rule (map back ks) ∙ none_or (λ ms. Race ms) (kids_change rule (map back ks)) _ k.1 (ap (on_claim back_one) (outs-Race (map back ks)))));
  })

module _ {L G J : Type 0} (meaning : L → Meaning G J) (p : ProblemState L J) where
  steps_of : (who next : ℕ) (n m : Node G) → Chain (lose_rule who) n m → Steps meaning p n next m next
  steps_of who next n m (rests _) = stays n next
  steps_of who next n m (goes _ l _ e c) = steps_on n l m next next next (loses n l next who e) (steps_of who next l m c)

  pub losses_steps : LossesAreSteps meaning p
  losses_steps who next n = steps_of who next n (give_back who n) (lost who n).0

-- A job that is to do is found exactly where it can be claimed.
use Rattle.std.proofs.Common.{◌≡◌, ℕ, Bool, true, false, ◌||◌, List, [], ◌∷◌, map, refl, ap, sym, ◌∙◌, Some, None}
use Rattle.std.specs.List.{AllByRecursion, list_any}
use Rattle.std.specs.Option.{option_or, is_some}
use Rattle.std.specs.declared.option.Option.{Option}
use Rattle.mp_strategy.specs.declared.work.Work.{Work}
use Rattle.mp_jobs.specs.declared.node.Node.{Node, Node-F, Claimed}
use Rattle.mp_jobs.specs.Finding.{some_step, some_job, first_some, todo_step, first_todo_of}
use Rattle.mp_jobs.specs.Jobs.{claim_rule}
use Rattle.mp_jobs.specs.Walks.{first_change}
use Rattle.mp_jobs.proofs.Folds.{fold-Todo, fold-Claimed, fold-Done, fold-Then, fold-Leaves, fold-Else, fold-Race, fold-Check}
use Rattle.mp_jobs.proofs.FoundJobs.{found, todo_rule}
use Rattle.mp_jobs.proofs.Induction.{node_ind}

pub some_or : {A : Type 0} (a b : Option A) → is_some (option_or a b) ≡ (is_some a || is_some b)
some_or (Some x) b = refl
some_or None b = refl

module _ {G : Type 0} where
  abbrev is_todo : Work G → Bool
  is_todo w = true

  abbrev no_claim : ℕ → ℕ → Work G → Bool
  no_claim e who w = false

  abbrev step : Node-F G Bool → Bool
  step = some_step is_todo no_claim

  abbrev Finds : Node G → Type 0
  Finds n = some_job is_todo no_claim n ≡ is_some (first_todo_of n)

  finds_each : (ks : List (Node G)) → AllByRecursion Finds ks → list_any (λ b. b) (map (some_job is_todo no_claim) ks) ≡ is_some (first_some (map first_todo_of ks))
  finds_each [] h = refl
  finds_each (k ∷ ks) h = (λ i. h.0 i || finds_each ks h.1 i) ∙ sym (some_or (first_todo_of k) (first_some (map first_todo_of ks)))

  pub finds_todo : (n : Node G) → Finds n
  finds_todo = node_ind Finds (record {
    todo = λ w. fold-Todo step w ∙ sym (ap is_some (fold-Todo todo_step w));
    claimed = λ e who w. fold-Claimed step e who w ∙ sym (ap is_some (fold-Claimed todo_step e who w));
    done = λ o. fold-Done step o ∙ sym (ap is_some (fold-Done todo_step o));
    then = λ w f h. fold-Then step w f ∙ h ∙ sym (ap is_some (fold-Then todo_step w f));
    check = λ w f h. fold-Check step w f ∙ h ∙ sym (ap is_some (fold-Check todo_step w f));
    leaves = λ t ks c h. fold-Leaves step t ks c ∙ finds_each ks h ∙ sym (ap is_some (fold-Leaves todo_step t ks c));
    or = λ a b h k. fold-Else step a b ∙ (λ i. h i || k i) ∙ sym (some_or (first_todo_of a) (first_todo_of b)) ∙ sym (ap is_some (fold-Else todo_step a b));
    race = λ ks h. fold-Race step ks ∙ finds_each ks h ∙ sym (ap is_some (fold-Race todo_step ks));
  })

  pub todo_claimed : (epoch who : ℕ) (n : Node G) → is_some (first_change (claim_rule epoch who) n) ≡ is_some (first_todo_of n)
  todo_claimed epoch who n = found (claim_rule epoch who) is_todo no_claim (todo_rule (λ w. Some (Claimed epoch who w))) n ∙ finds_todo n

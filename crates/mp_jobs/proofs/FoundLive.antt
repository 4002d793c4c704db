-- A job that is to do or claimed is found as one or the other.
use Rattle.std.proofs.Common.{◌≡◌, ℕ, Bool, true, false, ◌||◌, nat_le, if◌then◌else◌, List, [], ◌∷◌, map, refl, sym, ◌∙◌, Some, None}
use Rattle.std.specs.List.{AllByRecursion, list_any}
use Rattle.std.specs.Option.{option_or, is_some}
use Rattle.std.specs.declared.option.Option.{Option}
use Rattle.mp_strategy.specs.declared.work.Work.{Work}
use Rattle.mp_jobs.specs.declared.node.Node.{Node, Node-F}
use Rattle.mp_jobs.specs.Finding.{some_step, is_live, older, oldest, oldest_step, oldest_claim_of, first_some, todo_step, first_todo_of}
use Rattle.mp_jobs.proofs.Folds.{fold-Todo, fold-Claimed, fold-Done, fold-Then, fold-Leaves, fold-Else, fold-Race, fold-Check}
use Rattle.mp_jobs.proofs.FoundTodos.{some_or}
use Rattle.mp_jobs.proofs.Induction.{node_ind}

chosen_some : {A : Type 0} (b : Bool) (x y : A) → is_some (if b then Some x else Some y) ≡ true
chosen_some true x y = refl
chosen_some false x y = refl

some_older : {G : Type 0} (a b : Option (ℕ × Work G)) → is_some (older a b) ≡ (is_some a || is_some b)
some_older None b = refl
some_older (Some x) None = refl
some_older (Some x) (Some y) = chosen_some (nat_le x.0 y.0) x y

in_pairs : (a b c d : Bool) → ((a || b) || (c || d)) ≡ ((a || c) || (b || d))
in_pairs true b c d = refl
in_pairs false true true d = refl
in_pairs false true false d = refl
in_pairs false false true d = refl
in_pairs false false false d = refl

module _ {G : Type 0} where
  abbrev step : Node-F G Bool → Bool
  step = some_step (λ w. true) (λ epoch who w. true)

  abbrev two : Option (Work G) → Option (ℕ × Work G) → Bool
  two a b = is_some a || is_some b

  abbrev Finds : Node G → Type 0
  Finds n = is_live n ≡ two (first_todo_of n) (oldest_claim_of n)

  joined : (a c : Option (Work G)) (b d : Option (ℕ × Work G)) → (two a b || two c d) ≡ two (option_or a c) (older b d)
  joined a c b d = in_pairs (is_some a) (is_some b) (is_some c) (is_some d) ∙ (λ i. sym (some_or a c) i || sym (some_older b d) i)

  finds_each : (ks : List (Node G)) → AllByRecursion Finds ks → list_any (λ b. b) (map is_live ks) ≡ two (first_some (map first_todo_of ks)) (oldest (map oldest_claim_of ks))
  finds_each [] h = refl
  finds_each (k ∷ ks) h =
      (λ i. h.0 i || finds_each ks h.1 i) ∙ joined (first_todo_of k) (first_some (map first_todo_of ks)) (oldest_claim_of k) (oldest (map oldest_claim_of ks))

  both : (a c : Option (Work G)) (b d : Option (ℕ × Work G)) → a ≡ c → b ≡ d → two c d ≡ two a b
  both a c b d p q = λ i. two (sym p i) (sym q i)

  pub live_found : (n : Node G) → Finds n
  live_found = node_ind Finds (record {
    todo = λ w. fold-Todo step w ∙ both _ _ _ _ (fold-Todo todo_step w) (fold-Todo oldest_step w);
    claimed = λ e who w. fold-Claimed step e who w ∙ both _ _ _ _ (fold-Claimed todo_step e who w) (fold-Claimed oldest_step e who w);
    done = λ o. fold-Done step o ∙ both _ _ _ _ (fold-Done todo_step o) (fold-Done oldest_step o);
    then = λ w f h. fold-Then step w f ∙ h ∙ both _ _ _ _ (fold-Then todo_step w f) (fold-Then oldest_step w f);
    check = λ w f h. fold-Check step w f ∙ h ∙ both _ _ _ _ (fold-Check todo_step w f) (fold-Check oldest_step w f);
    leaves = λ t ks c h. fold-Leaves step t ks c ∙ finds_each ks h ∙ both _ _ _ _ (fold-Leaves todo_step t ks c) (fold-Leaves oldest_step t ks c);
    or = λ a b h k. fold-Else step a b ∙ (λ i. h i || k i) ∙ joined (first_todo_of a) (first_todo_of b) (oldest_claim_of a) (oldest_claim_of b) ∙ both _ _ _ _ (fold-Else todo_step a b) (fold-Else oldest_step a b);
    race = λ ks h. fold-Race step ks ∙ finds_each ks h ∙ both _ _ _ _ (fold-Race todo_step ks) (fold-Race oldest_step ks);
  })

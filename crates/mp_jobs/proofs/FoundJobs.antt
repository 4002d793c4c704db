-- A rule on jobs changes something exactly where some job passes its test.
use Rattle.std.proofs.Common.{◌≡◌, ℕ, Bool, false, ◌||◌, List, [], ◌∷◌, map, refl, ap, sym, ◌∙◌, Some, None}
use Rattle.std.specs.List.{AllByRecursion, list_any}
use Rattle.std.specs.Option.{option_or, option_map, is_some}
use Rattle.std.specs.declared.option.Option.{Option}
use Rattle.mp_logic.specs.declared.tree.Tree.{Tree}
use Rattle.mp_strategy.specs.declared.work.Work.{Work}
use Rattle.mp_strategy.specs.declared.outcome.Outcome.{Outcome}
use Rattle.mp_jobs.specs.declared.node.Node.{Node, Node-F, Todo, Claimed, Done, Then, Leaves, Else, Race, Check, out-Node}
use Rattle.mp_jobs.specs.declared.node.Node.TheVariants.{outs-Todo, outs-Claimed, outs-Done, outs-Then, outs-Leaves, outs-Else, outs-Race, outs-Check}
use Rattle.mp_jobs.specs.Finding.{some_step, some_job}
use Rattle.mp_jobs.specs.Jobs.{on_todo, on_claim}
use Rattle.mp_jobs.specs.Walks.{Rule, first_change, kids_change}
use Rattle.mp_jobs.proofs.Changes.{first_todo, first_claimed, first_done, first_then, first_check, first_leaves, first_else, first_race, kids_more}
use Rattle.mp_jobs.proofs.Folds.{fold-Todo, fold-Claimed, fold-Done, fold-Then, fold-Leaves, fold-Else, fold-Race, fold-Check}
use Rattle.mp_jobs.proofs.Induction.{node_ind}

pub either_some : {A B C : Type 0} (f : A → C) (g : B → C) (a : Option A) (b : Option B) → is_some (option_or (option_map f a) (option_map g b)) ≡ (is_some a || is_some b)
either_some f g (Some x) b = refl
either_some f g None (Some y) = refl
either_some f g None None = refl

alone_some : {A B : Type 0} (f : A → B) (a : Option A) (o : Option B) → o ≡ None → is_some (option_or (option_map f a) o) ≡ is_some a
alone_some f (Some x) o e = refl
alone_some f None o e = ap is_some e

before_none : {A : Type 0} (a o : Option A) → o ≡ None → is_some (option_or a o) ≡ is_some a
before_none (Some x) o e = refl
before_none None o e = ap is_some e

-- the rule changes jobs that pass the test, and nothing else
pub record IsJobRule {G : Type 0} (rule : Rule G) (todo : Work G → Bool) (claimed : ℕ → ℕ → Work G → Bool) : Type 0 where
  pub at_todo : (w : Work G) → is_some (rule (Todo w)) ≡ todo w
  pub at_claim : (e who : ℕ) (w : Work G) → is_some (rule (Claimed e who w)) ≡ claimed e who w
  pub at_done : (o : Outcome G) → rule (Done o) ≡ None
  pub at_then : (w : Work G) (f : Node G) → rule (Then w f) ≡ None
  pub at_leaves : (t : Tree G) (ks : List (Node G)) (c : Bool) → rule (Leaves t ks c) ≡ None
  pub at_else : (a b : Node G) → rule (Else a b) ≡ None
  pub at_race : (ks : List (Node G)) → rule (Race ks) ≡ None
  pub at_check : (w : Work G) (f : Node G) → rule (Check w f) ≡ None

pub todo_rule : {G : Type 0} (f : Work G → Option (Node G)) → IsJobRule (λ n. on_todo f (out-Node G n)) (λ w. is_some (f w)) (λ e who w. false)
todo_rule f = record {
  at_todo = λ w. ap (λ l. is_some (on_todo f l)) (outs-Todo w);
  at_claim = λ e who w. ap (λ l. is_some (on_todo f l)) (outs-Claimed e who w);
  at_done = λ o. ap (on_todo f) (outs-Done o);
  at_then = λ w k. ap (on_todo f) (outs-Then w k);
  at_leaves = λ t ks c. ap (on_todo f) (outs-Leaves t ks c);
  at_else = λ a b. ap (on_todo f) (outs-Else a b);
  at_race = λ ks. ap (on_todo f) (outs-Race ks);
  at_check = λ w k. ap (on_todo f) (outs-Check w k);
}

pub claim_rule : {G : Type 0} (f : ℕ → ℕ → Work G → Option (Node G)) → IsJobRule (λ n. on_claim f (out-Node G n)) (λ w. false) (λ e who w. is_some (f e who w))
claim_rule f = record {
  at_todo = λ w. ap (λ l. is_some (on_claim f l)) (outs-Todo w);
  at_claim = λ e who w. ap (λ l. is_some (on_claim f l)) (outs-Claimed e who w);
  at_done = λ o. ap (on_claim f) (outs-Done o);
  at_then = λ w k. ap (on_claim f) (outs-Then w k);
  at_leaves = λ t ks c. ap (on_claim f) (outs-Leaves t ks c);
  at_else = λ a b. ap (on_claim f) (outs-Else a b);
  at_race = λ ks. ap (on_claim f) (outs-Race ks);
  at_check = λ w k. ap (on_claim f) (outs-Check w k);
}

module _ {G : Type 0} (rule : Rule G) (todo : Work G → Bool) (claimed : ℕ → ℕ → Work G → Bool) (is : IsJobRule rule todo claimed) where
  abbrev step : Node-F G Bool → Bool
  step = some_step todo claimed

  abbrev Found : Node G → Type 0
  Found n = is_some (first_change rule n) ≡ some_job todo claimed n

  found_each : (ks : List (Node G)) → AllByRecursion Found ks → is_some (kids_change rule ks) ≡ list_any (λ b. b) (map (some_job todo claimed) ks)
  found_each [] h = refl
  found_each (k ∷ ks) h =
      ap is_some (kids_more rule k ks) ∙ either_some (λ m. m ∷ ks) (λ ms. k ∷ ms) (first_change rule k) (kids_change rule ks)
      ∙ (λ i. h.0 i || found_each ks h.1 i)

  pub found : (n : Node G) → Found n
  found = node_ind Found (record {
    todo = λ w. ap is_some (first_todo rule w) ∙ is.at_todo w ∙ sym (fold-Todo step w);
    claimed = λ e who w. ap is_some (first_claimed rule e who w) ∙ is.at_claim e who w ∙ sym (fold-Claimed step e who w);
    done = λ o. ap is_some (first_done rule o ∙ is.at_done o) ∙ sym (fold-Done step o);
    then = λ w f h. ap is_some (first_then rule w f) ∙ alone_some (λ m. Then w m) (first_change rule f) (rule (Then w f)) (is.at_then w f) ∙ h ∙ sym (fold-Then step w f);
    check = λ w f h. ap is_some (first_check rule w f) ∙ alone_some (λ m. Check w m) (first_change rule f) (rule (Check w f)) (is.at_check w f) ∙ h ∙ sym (fold-Check step w f);
    leaves = λ t ks c h. ap is_some (first_leaves rule t ks c) ∙ alone_some (λ ms. Leaves t ms c) (kids_change rule ks) (rule (Leaves t ks c)) (is.at_leaves t ks c) ∙ found_each ks h ∙ sym (fold-Leaves step t ks c);
    or = λ a b h k. ap is_some (first_else rule a b)
        ∙ before_none (option_or (option_map (λ m. Else m b) (first_change rule a)) (option_map (λ m. Else a m) (first_change rule b))) (rule (Else a b)) (is.at_else a b)
        ∙ either_some (λ m. Else m b) (λ m. Else a m) (first_change rule a) (first_change rule b) ∙ (λ i. h i || k i) ∙ sym (fold-Else step a b);
    race = λ ks h. ap is_some (first_race rule ks) ∙ alone_some (λ ms. Race ms) (kids_change rule ks) (rule (Race ks)) (is.at_race ks) ∙ found_each ks h ∙ sym (fold-Race step ks);
  })

-- One level of the first change in a node.
use Rattle.std.proofs.Common.{◌≡◌, ℕ, Bool, List, [], ◌∷◌, map, ap, refl, ◌∙◌}
use Rattle.std.specs.declared.option.Option.{Option}
use Rattle.std.specs.List.{AllByRecursion}
use Rattle.mp_logic.specs.declared.tree.Tree.{Tree}
use Rattle.mp_strategy.specs.declared.work.Work.{Work}
use Rattle.mp_strategy.specs.declared.outcome.Outcome.{Outcome}
use Rattle.mp_jobs.specs.declared.node.Node.{Node, Node-F, Todo, Claimed, Done, Then, Leaves, Else, Race, Check}
use Rattle.std.specs.Option.{option_or, option_map}
use Rattle.mp_jobs.specs.Walks.{Rule, Change, change_step, change_of, first_change, kids_change, were}
use Rattle.mp_jobs.proofs.Folds.{fold-Todo, fold-Claimed, fold-Done, fold-Then, fold-Leaves, fold-Else, fold-Race, fold-Check}
use Rattle.mp_jobs.proofs.Induction.{node_ind, Cases}

module _ {G : Type 0} (rule : Rule G) where
  abbrev step : Node-F G (Change G) → Change G
  step = change_step rule

  abbrev Was : Node G → Type 0
  Was n = (change_of rule n).0 ≡ n

  were_by : (ks : List (Node G)) → AllByRecursion Was ks → were (map (change_of rule) ks) ≡ ks
  were_by [] h = refl
  were_by (k ∷ ks) h = let first = h.0 in let rest = were_by ks h.1 in (cc)

  abbrev fst : Change G → Node G
  fst c = c.0

  cases : Cases Was
  cases = record {
    todo = λ w. ap fst (fold-Todo step w);
    claimed = λ e who w. ap fst (fold-Claimed step e who w);
    done = λ o. ap fst (fold-Done step o);
    then = λ w f h. ap fst (fold-Then step w f) ∙ ap (Then w) h;
    check = λ w f h. ap fst (fold-Check step w f) ∙ ap (Check w) h;
    leaves = λ t ks c h. ap fst (fold-Leaves step t ks c) ∙ ap (λ ms. Leaves t ms c) (were_by ks h);
    or = λ a b h k. ap fst (fold-Else step a b) ∙ (ap (λ x. Else x (change_of rule b).0) h ∙ ap (λ x. Else a x) k);
    race = λ ks h. ap fst (fold-Race step ks) ∙ ap Race (were_by ks h);
  }

  -- what stood there is the node itself
  pub was_is : (n : Node G) → (change_of rule n).0 ≡ n
  was_is n = node_ind Was cases n

  were_are : (ks : List (Node G)) → were (map (change_of rule) ks) ≡ ks
  were_are [] = refl
  were_are (k ∷ ks) = let first = was_is k in let rest = were_are ks in (cc)

  abbrev snd : Change G → Option (Node G)
  snd c = c.1

  pub first_todo : (w : Work G) → first_change rule (Todo w) ≡ rule (Todo w)
  first_todo w = ap snd (fold-Todo step w)

  pub first_claimed : (e who : ℕ) (w : Work G) → first_change rule (Claimed e who w) ≡ rule (Claimed e who w)
  first_claimed e who w = ap snd (fold-Claimed step e who w)

  pub first_done : (o : Outcome G) → first_change rule (Done o) ≡ rule (Done o)
  first_done o = ap snd (fold-Done step o)

  pub first_then : (w : Work G) (f : Node G) → first_change rule (Then w f) ≡ option_or (option_map (λ m. Then w m) (first_change rule f)) (rule (Then w f))
  first_then w f = ap snd (fold-Then step w f) ∙ ap (λ x. option_or (option_map (λ m. Then w m) (first_change rule f)) (rule (Then w x))) (was_is f)

  pub first_check : (w : Work G) (f : Node G) → first_change rule (Check w f) ≡ option_or (option_map (λ m. Check w m) (first_change rule f)) (rule (Check w f))
  first_check w f = ap snd (fold-Check step w f) ∙ ap (λ x. option_or (option_map (λ m. Check w m) (first_change rule f)) (rule (Check w x))) (was_is f)

  pub first_leaves : (t : Tree G) (ks : List (Node G)) (c : Bool)
      → first_change rule (Leaves t ks c) ≡ option_or (option_map (λ ms. Leaves t ms c) (kids_change rule ks)) (rule (Leaves t ks c))
  first_leaves t ks c = ap snd (fold-Leaves step t ks c) ∙ ap (λ xs. option_or (option_map (λ ms. Leaves t ms c) (kids_change rule ks)) (rule (Leaves t xs c))) (were_are ks)

  pub first_else : (a b : Node G)
      → first_change rule (Else a b) ≡ option_or (option_or (option_map (λ m. Else m b) (first_change rule a)) (option_map (λ m. Else a m) (first_change rule b))) (rule (Else a b))
  first_else a b =
      ap snd (fold-Else step a b) ∙ (ap (λ x. option_or (option_or (option_map (λ m. Else m (change_of rule b).0) (first_change rule a)) (option_map (λ m. Else x m) (first_change rule b))) (rule (Else x (change_of rule b).0))) (was_is a)
      ∙ ap (λ x. option_or (option_or (option_map (λ m. Else m x) (first_change rule a)) (option_map (λ m. Else a m) (first_change rule b))) (rule (Else a x))) (was_is b))

  pub first_race : (ks : List (Node G)) → first_change rule (Race ks) ≡ option_or (option_map (λ ms. Race ms) (kids_change rule ks)) (rule (Race ks))
  first_race ks = ap snd (fold-Race step ks) ∙ ap (λ xs. option_or (option_map (λ ms. Race ms) (kids_change rule ks)) (rule (Race xs))) (were_are ks)

  pub kids_more : (n : Node G) (ns : List (Node G))
      → kids_change rule (n ∷ ns) ≡ option_or (option_map (λ m. m ∷ ns) (first_change rule n)) (option_map (λ ms. n ∷ ms) (kids_change rule ns))
  kids_more n ns =
      ap (λ xs. option_or (option_map (λ m. m ∷ xs) (first_change rule n)) (option_map (λ ms. (change_of rule n).0 ∷ ms) (kids_change rule ns))) (were_are ns)
      ∙ ap (λ x. option_or (option_map (λ m. m ∷ ns) (first_change rule n)) (option_map (λ ms. x ∷ ms) (kids_change rule ns))) (was_is n)

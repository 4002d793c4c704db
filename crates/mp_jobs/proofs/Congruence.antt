-- A relation that goes from a part to the whole holds between a node and its first change, where the rule keeps it.
use Rattle.std.proofs.Common.{◌≡◌, Bool, List, [], ◌∷◌, sym, subst, refl, ◌∙◌, Some, None}
use Rattle.std.specs.declared.option.Option.{Option}
use Rattle.std.specs.List.{AllByRecursion}
use Rattle.mp_logic.specs.declared.tree.Tree.{Tree}
use Rattle.mp_strategy.specs.declared.work.Work.{Work}
use Rattle.mp_jobs.specs.declared.node.Node.{Node, Todo, Claimed, Done, Then, Leaves, Else, Race, Check}
use Rattle.std.specs.Option.{option_or, option_map}
use Rattle.mp_jobs.specs.Walks.{Rule, first_change, kids_change}
use Rattle.mp_jobs.proofs.Induction.{node_ind, Cases}
use Rattle.mp_jobs.proofs.Changes.{first_todo, first_claimed, first_done, first_then, first_check, first_leaves, first_else, first_race, kids_more}

-- one item is another, and the others are the same
pub data One {A : Type 0} (R : A → A → Type 0) : List A → List A → Type 0 where
  here : (m k : A) (ks : List A) → R m k → One R (m ∷ ks) (k ∷ ks)
  there : (k : A) (ms ks : List A) → One R ms ks → One R (k ∷ ms) (k ∷ ks)

-- from a part to the whole: the new first
pub record IsCongruence {G : Type 0} (R : Node G → Node G → Type 0) : Type 0 where
  pub then : (w : Work G) (m f : Node G) → R m f → R (Then w m) (Then w f)
  pub check : (w : Work G) (m f : Node G) → R m f → R (Check w m) (Check w f)
  pub leaves : (t : Tree G) (c : Bool) (ms ks : List (Node G)) → One R ms ks → R (Leaves t ms c) (Leaves t ks c)
  pub or_left : (m a b : Node G) → R m a → R (Else m b) (Else a b)
  pub or_right : (a m b : Node G) → R m b → R (Else a m) (Else a b)
  pub race : (ms ks : List (Node G)) → One R ms ks → R (Race ms) (Race ks)

module _ {G : Type 0} (R : Node G → Node G → Type 0) (c : IsCongruence R) (rule : Rule G) (keeps : (n m : Node G) → rule n ≡ Some m → R m n) where
  abbrev Holds : Node G → Type 0
  Holds n = (m : Node G) → first_change rule n ≡ Some m → R m n

  abbrev Rest : List (Node G) → Type 0
  Rest ks = (xs : List (Node G)) → kids_change rule ks ≡ Some xs → One R xs ks

  rest_by : (k : Node G) (ks : List (Node G)) (o : Option (List (Node G))) → kids_change rule ks ≡ o → Rest ks → (ms : List (Node G)) → option_map (λ xs. k ∷ xs) o ≡ Some ms → One R ms (k ∷ ks)
  rest_by k ks (Some xs) e rest ms f = let is : k ∷ xs ≡ ms = cc in subst (λ ys. One R ys (k ∷ ks)) is (there k xs ks (rest xs e))
  rest_by k ks None e rest ms f = absurd (cc)

  first_by : (k : Node G) (ks : List (Node G)) (o : Option (Node G)) → first_change rule k ≡ o → Holds k → Rest ks → (ms : List (Node G))
      → option_or (option_map (λ m. m ∷ ks) o) (option_map (λ xs. k ∷ xs) (kids_change rule ks)) ≡ Some ms → One R ms (k ∷ ks)
  first_by k ks (Some m) e h rest ms f = let is : m ∷ ks ≡ ms = cc in subst (λ xs. One R xs (k ∷ ks)) is (here m k ks (h m e))
  first_by k ks None e h rest ms f = rest_by k ks (kids_change rule ks) refl rest ms f

  each_rest : (ks : List (Node G)) → AllByRecursion Holds ks → Rest ks
  each_rest [] h ms e = absurd (cc)
  each_rest (k ∷ ks) h ms e = first_by k ks (first_change rule k) refl h.0 (each_rest ks h.1) ms (sym (kids_more rule k ks) ∙ e)

  then_by : (w : Work G) (f : Node G) (o : Option (Node G)) → first_change rule f ≡ o → Holds f → (m : Node G) → option_or (option_map (λ x. Then w x) o) (rule (Then w f)) ≡ Some m → R m (Then w f)
  then_by w f (Some x) e h m g = let is : Then w x ≡ m = cc in subst (λ y. R y (Then w f)) is (c.then w x f (h x e))
  then_by w f None e h m g = keeps (Then w f) m g

  check_by : (w : Work G) (f : Node G) (o : Option (Node G)) → first_change rule f ≡ o → Holds f → (m : Node G) → option_or (option_map (λ x. Check w x) o) (rule (Check w f)) ≡ Some m → R m (Check w f)
  check_by w f (Some x) e h m g = let is : Check w x ≡ m = cc in subst (λ y. R y (Check w f)) is (c.check w x f (h x e))
  check_by w f None e h m g = keeps (Check w f) m g

  leaves_by : (t : Tree G) (ks : List (Node G)) (b : Bool) (o : Option (List (Node G))) → kids_change rule ks ≡ o → Rest ks → (m : Node G)
      → option_or (option_map (λ xs. Leaves t xs b) o) (rule (Leaves t ks b)) ≡ Some m → R m (Leaves t ks b)
  leaves_by t ks b (Some xs) e h m g = let is : Leaves t xs b ≡ m = cc in subst (λ y. R y (Leaves t ks b)) is (c.leaves t b xs ks (h xs e))
  leaves_by t ks b None e h m g = keeps (Leaves t ks b) m g

  race_by : (ks : List (Node G)) (o : Option (List (Node G))) → kids_change rule ks ≡ o → Rest ks → (m : Node G) → option_or (option_map (λ xs. Race xs) o) (rule (Race ks)) ≡ Some m → R m (Race ks)
  race_by ks (Some xs) e h m g = let is : Race xs ≡ m = cc in subst (λ y. R y (Race ks)) is (c.race xs ks (h xs e))
  race_by ks None e h m g = keeps (Race ks) m g

  else_by : (a b : Node G) (o p : Option (Node G)) → first_change rule a ≡ o → first_change rule b ≡ p → Holds a → Holds b → (m : Node G)
      → option_or (option_or (option_map (λ x. Else x b) o) (option_map (λ x. Else a x) p)) (rule (Else a b)) ≡ Some m → R m (Else a b)
  else_by a b (Some x) p e f h k m g = let is : Else x b ≡ m = cc in subst (λ y. R y (Else a b)) is (c.or_left x a b (h x e))
  else_by a b None (Some x) e f h k m g = let is : Else a x ≡ m = cc in subst (λ y. R y (Else a b)) is (c.or_right a x b (k x f))
  else_by a b None None e f h k m g = keeps (Else a b) m g

  cases : Cases Holds
  cases = record {
    todo = λ w m e. keeps (Todo w) m (sym (first_todo rule w) ∙ e);
    claimed = λ e who w m f. keeps (Claimed e who w) m (sym (first_claimed rule e who w) ∙ f);
    done = λ o m e. keeps (Done o) m (sym (first_done rule o) ∙ e);
    then = λ w f h m e. then_by w f (first_change rule f) refl h m (sym (first_then rule w f) ∙ e);
    check = λ w f h m e. check_by w f (first_change rule f) refl h m (sym (first_check rule w f) ∙ e);
    leaves = λ t ks b h m e. leaves_by t ks b (kids_change rule ks) refl (each_rest ks h) m (sym (first_leaves rule t ks b) ∙ e);
    or = λ a b h k m e. else_by a b (first_change rule a) (first_change rule b) refl refl h k m (sym (first_else rule a b) ∙ e);
    race = λ ks h m e. race_by ks (kids_change rule ks) refl (each_rest ks h) m (sym (first_race rule ks) ∙ e);
  }

  pub first_keeps : (n m : Node G) → first_change rule n ≡ Some m → R m n
  first_keeps n = node_ind Holds cases n

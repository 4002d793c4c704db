-- Kids that are evaluated one by one, each in its place.
use Rattle.std.proofs.Common.{◌≡◌, ℕ, zero, suc, ◌+◌, ◌<◌, ◌≤◌, max, List, [], ◌∷◌, ◌++◌, map, sum, length, get_or, take, drop, Ok, Err, refl, ap, sym, subst, ◌∙◌, append_assoc, append-nil, drop-cons, arith}
use Rattle.std.proofs.lemmas.Grind.{common_steps}
use Rattle.std.specs.List.{AllByRecursion, insert, remove}
use Rattle.mp_logic.specs.declared.tree.Tree.{Tree}
use Rattle.mp_logic.specs.Lists.{greatest}
use Rattle.mp_logic.specs.Trees.{leaf_count_of}
use Rattle.mp_logic.specs.Valid.{EachGoal}
use Rattle.mp_strategy.specs.declared.outcome.Failure.{Failure}
use Rattle.mp_strategy.specs.declared.outcome.Outcome.TheVariants as outcome
use Rattle.mp_strategy.specs.Evaluation.{Evaluator, Trees, with_first}
use Rattle.mp_strategy.specs.Laws.{tree_depth_of}
use Rattle.mp_eval.specs.declared.queue.Queue.{Queue}
use Rattle.mp_eval.specs.Queues.{IsReady, after, on_tree, on_kids, weight_of}
use Rattle.mp_eval.proofs.Leaves.{followed}
use Rattle.mp_eval.proofs.Queues.{after_sum, ready_after, weight_after}

module _ {A : Type 0} where
  replaced : (xs : List A) (i : ℕ) (x : A) → i < length xs → insert (remove xs i) i x ≡ take i xs ++ x ∷ drop (suc i) xs
  replaced [] i x lt = absurd (omega (arith, lt))
  replaced (y ∷ ys) zero x lt = refl
  replaced (y ∷ ys) (suc i) x lt = ap (λ zs. y ∷ zs) (replaced ys i x (omega (arith, lt)))

  front : (xs rest : List A) (i : ℕ) (x : A) → i < length xs → take (suc i) (take i xs ++ x ∷ rest) ≡ take i xs ++ x ∷ []
  front [] rest i x lt = absurd (omega (arith, lt))
  front (y ∷ ys) rest zero x lt = refl
  front (y ∷ ys) rest (suc i) x lt = ap (λ zs. y ∷ zs) (front ys rest i x (omega (arith, lt)))

  behind : (xs rest : List A) (i : ℕ) (x : A) → i < length xs → drop (suc i) (take i xs ++ x ∷ rest) ≡ rest
  behind [] rest i x lt = absurd (omega (arith, lt))
  behind (y ∷ ys) rest zero x lt = refl
  behind (y ∷ ys) rest (suc i) x lt = behind ys rest i x (omega (arith, lt))

  as_long : (xs : List A) (i : ℕ) (x : A) → i < length xs → length (take i xs ++ x ∷ drop (suc i) xs) ≡ length xs
  as_long [] i x lt = absurd (omega (arith, lt))
  as_long (y ∷ ys) zero x lt = refl
  as_long (y ∷ ys) (suc i) x lt = ap (λ n. suc n) (as_long ys i x (omega (arith, lt)))

  none_left : (xs : List A) (i : ℕ) → length xs ≤ i → drop i xs ≡ []
  none_left [] zero h = refl
  none_left [] (suc i) h = refl
  none_left (x ∷ xs) zero h = absurd (omega (arith, h))
  none_left (x ∷ xs) (suc i) h = none_left xs i (omega (arith, h))

  all_taken : (xs : List A) (i : ℕ) → length xs ≤ i → take i xs ≡ xs
  all_taken [] zero h = refl
  all_taken [] (suc i) h = refl
  all_taken (x ∷ xs) zero h = absurd (omega (arith, h))
  all_taken (x ∷ xs) (suc i) h = ap (λ ys. x ∷ ys) (all_taken xs i (omega (arith, h)))

first_taken : {G : Type 0} (xs : List (Tree G)) (t : Tree G) (r : Trees G) → followed (Ok (xs ++ t ∷ [])) r ≡ followed (Ok xs) (with_first (outcome.Tree t) r)
first_taken xs t (Ok us) = ap (λ ys. Ok ys) (append_assoc xs (t ∷ []) us)
first_taken xs t (Err e) = refl

sum_more : (n : ℕ) (ns : List ℕ) → sum (n ∷ ns) ≡ n + sum ns
sum_more n ns = grind (arith, common_steps)

module _ {G : Type 0} (draws : Queue → Evaluator G) (P : G → Type 0) (count f : ℕ) (first : Queue) (kids : List (Tree G)) where
  -- the kids before a place are done, and those from it on are left, with the strategies that are left for them
  pub record Half (q : Queue) (xs : List (Tree G)) (i : ℕ) : Type 0 where
    pub same : followed (Ok (take i xs)) (on_kids draws q f (drop i xs)) ≡ on_kids draws first f kids
    pub long : length xs ≡ length kids
    pub good : AllByRecursion (EachGoal P) (drop i xs)
    pub depth : greatest (map tree_depth_of (drop i xs)) ≤ f
    pub ready : IsReady count q (sum (map leaf_count_of (drop i xs)))
    pub left : after (sum (map leaf_count_of (drop i xs))) q ≡ after (sum (map leaf_count_of kids)) first
    pub weight : weight_of count q ≡ weight_of count first

  -- what is asked of the next kid
  pub record Next (q : Queue) (xs : List (Tree G)) (i : ℕ) (k : Tree G) : Type 0 where
    pub here : drop i xs ≡ k ∷ drop (suc i) xs
    pub good : EachGoal P k
    pub depth : tree_depth_of k ≤ f
    pub ready : IsReady count q (leaf_count_of k + sum (map leaf_count_of (drop (suc i) xs)))

  pub half_here : (q : Queue) (xs : List (Tree G)) (i : ℕ) (k : Tree G) → i < length xs → k ≡ get_or xs i k → Half q xs i → Next q xs i k
  half_here q xs i k lt is h =
      let here : drop i xs ≡ k ∷ drop (suc i) xs = drop-cons xs i k lt ∙ ap (λ y. y ∷ drop (suc i) xs) (sym is) in
      let both : max (tree_depth_of k) (greatest (map tree_depth_of (drop (suc i) xs))) ≤ f = subst (λ ys. greatest (map tree_depth_of ys) ≤ f) here h.depth in
      record {
        here = here;
        good = (subst (AllByRecursion (EachGoal P)) here h.good).0;
        depth = omega (arith, both);
        ready = subst (IsReady count q) (sum_more (leaf_count_of k) (map leaf_count_of (drop (suc i) xs))) (subst (λ ys. IsReady count q (sum (map leaf_count_of ys))) here h.ready);
      }

  pub half_next : (q new : Queue) (xs zs : List (Tree G)) (i n : ℕ) (k t : Tree G) → i < length xs → n ≡ i + 1 → k ≡ get_or xs i k → zs ≡ insert (remove xs i) i t → on_tree draws q f k ≡ outcome.Tree t → new ≡ after (leaf_count_of k) q
      → Half q xs i → Half new zs n
  half_next q new xs zs i n k t lt next is made gives passed h =
      let here = half_here q xs i k lt is h in
      let rest = drop (suc i) xs in
      let counts = sum (map leaf_count_of rest) in
      let now : zs ≡ take i xs ++ t ∷ rest = made ∙ replaced xs i t lt in
      let up : n ≡ suc i = omega (arith, next) in
      let later : drop n zs ≡ rest = ap (λ m. drop m zs) up ∙ ap (drop (suc i)) now ∙ behind xs rest i t lt in
      let done : take n zs ≡ take i xs ++ t ∷ [] = ap (λ m. take m zs) up ∙ ap (take (suc i)) now ∙ front xs rest i t lt in
      let both : max (tree_depth_of k) (greatest (map tree_depth_of rest)) ≤ f = subst (λ ys. greatest (map tree_depth_of ys) ≤ f) here.here h.depth in
      let low : greatest (map tree_depth_of rest) ≤ f = omega (arith, both) in
      record {
        same = ap (λ ys. followed (Ok (take n zs)) (on_kids draws new f ys)) later
            ∙ ap (λ p. followed (Ok (take n zs)) (on_kids draws p f rest)) passed
            ∙ ap (λ ys. followed (Ok ys) (on_kids draws (after (leaf_count_of k) q) f rest)) done
            ∙ first_taken (take i xs) t (on_kids draws (after (leaf_count_of k) q) f rest)
            ∙ ap (λ o. followed (Ok (take i xs)) (with_first o (on_kids draws (after (leaf_count_of k) q) f rest))) (sym gives)
            ∙ ap (λ ys. followed (Ok (take i xs)) (on_kids draws q f ys)) (sym here.here)
            ∙ h.same;
        long = ap length now ∙ as_long xs i t lt ∙ h.long;
        good = subst (AllByRecursion (EachGoal P)) (sym later) (subst (AllByRecursion (EachGoal P)) here.here h.good).1;
        depth = subst (λ ys. greatest (map tree_depth_of ys) ≤ f) (sym later) low;
        ready = subst (λ ys. IsReady count new (sum (map leaf_count_of ys))) (sym later) (subst (λ p. IsReady count p counts) (sym passed) (ready_after count (leaf_count_of k) counts q here.ready));
        left = ap (λ ys. after (sum (map leaf_count_of ys)) new) later ∙ ap (after counts) passed ∙ sym (after_sum (leaf_count_of k) counts q)
            ∙ ap (λ m. after m q) (sym (sum_more (leaf_count_of k) (map leaf_count_of rest))) ∙ ap (λ ys. after (sum (map leaf_count_of ys)) q) (sym here.here) ∙ h.left;
        weight = ap (weight_of count) passed ∙ weight_after count (leaf_count_of k) q ∙ h.weight;
      }

  pub half_fails : (q : Queue) (xs : List (Tree G)) (i : ℕ) (k : Tree G) (e : Failure G) → i < length xs → k ≡ get_or xs i k → on_tree draws q f k ≡ outcome.Failure e → Half q xs i → Err e ≡ on_kids draws first f kids
  half_fails q xs i k e lt is gives h =
      let here = half_here q xs i k lt is h in
      ap (λ o. followed (Ok (take i xs)) (with_first o (on_kids draws (after (leaf_count_of k) q) f (drop (suc i) xs)))) (sym gives)
      ∙ ap (λ ys. followed (Ok (take i xs)) (on_kids draws q f ys)) (sym here.here) ∙ h.same

  pub half_begins : (xs : List (Tree G)) → xs ≡ kids → AllByRecursion (EachGoal P) kids → greatest (map tree_depth_of kids) ≤ f → IsReady count first (sum (map leaf_count_of kids)) → Half first xs 0
  half_begins xs is good depth ready =
      subst (λ ys. Half first ys 0) (sym is) (record { same = none (on_kids draws first f kids); long = refl; good = good; depth = depth; ready = ready; left = refl; weight = refl }) where
        none : (r : Trees G) → followed (Ok []) r ≡ r
        none (Ok ts) = refl
        none (Err e) = refl

  pub half_done : (q : Queue) (xs : List (Tree G)) (i : ℕ) → length xs ≤ i → Half q xs i → (Ok xs ≡ on_kids draws first f kids) × (q ≡ after (sum (map leaf_count_of kids)) first)
  half_done q xs i past h =
      let end : drop i xs ≡ [] = none_left xs i past in (
        ap (λ ys. Ok ys) (sym (append-nil xs)) ∙ ap (λ ys. Ok (ys ++ [])) (sym (all_taken xs i past)) ∙ ap (λ ys. followed (Ok (take i xs)) (on_kids draws q f ys)) (sym end) ∙ h.same,
        ap (λ ys. after (sum (map leaf_count_of ys)) q) (sym end) ∙ h.left,
      )

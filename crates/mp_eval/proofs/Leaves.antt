-- A strategy on the leaves of a tree, level by level.
use Rattle.std.specs.declared.option.Option.{Option}
use Rattle.std.proofs.Common.{◌≡◌, ℕ, zero, suc, ◌+◌, ◌-◌, ◌<◌, Bool, true, false, List, [], ◌∷◌, ◌++◌, map, length, zip, get_or, drop, Some, Ok, Err, refl, ap, sym, subst, ◌∙◌, append_assoc, drop-cons, arith}
use Rattle.std.specs.List.{AllByRecursion, flat_map}
use Rattle.mp_logic.specs.declared.tree.Tree.{Tree, Leaf, Step}
use Rattle.mp_logic.specs.declared.tree.JustId.{JustId}
use Rattle.mp_logic.specs.Meaning.{Meaning}
use Rattle.mp_logic.specs.Trees.{LeafAt, deeper, leaves_of, graft_of, graft_from}
use Rattle.mp_logic.proofs.TreeInduction.{tree_ind}
use Rattle.mp_logic.proofs.TreeSteps.{leaves-Leaf, leaves-Step, graft-Step, graft_all}
use Rattle.mp_strategy.specs.declared.outcome.Failure.{Failure}
use Rattle.mp_strategy.specs.declared.outcome.Outcome.{Outcome}
use Rattle.mp_strategy.specs.declared.outcome.Outcome.TheVariants as outcome
use Rattle.mp_strategy.specs.declared.tactic.TacId.{TacId}
use Rattle.mp_strategy.specs.declared.problem.ProblemState.{ProblemState}
use Rattle.mp_strategy.specs.Strategies.{as_many, is_leaf, only_leaf}
use Rattle.mp_strategy.specs.Evaluation.{Evaluator, Trees, with_first, all_of, grafted, on_leaves, one_each, goes_on, repeat_after, repeat_of, entry_eval, part_of}
use Rattle.mp_strategy.proofs.Steps.{graft-Leaf}
use Rattle.mp_strategy.proofs.Keeping.{same_number}
use Rattle.mp_strategy.proofs.LeafCounts.{as_long, leaf_count-leaves}
use Rattle.mp_eval.specs.declared.queue.Queue.{Queue}
use Rattle.mp_eval.specs.declared.queue.Queue.TheVariants as queue
use Rattle.mp_eval.specs.Leaves.{first_goal}
use Rattle.mp_eval.specs.Queues.{rest_of, after, all_by, on_tree, on_kids, with_kids, drawn}

abbrev pub Pair : Type 0 → Type 0
Pair G = List (Tree G) × List (Tree G)

-- the trees of the first leaves, and those of the leaves after them
abbrev pub followed : {G : Type 0} → Trees G → Trees G → Trees G
followed (Ok ts) (Ok us) = Ok (ts ++ us)
followed (Ok ts) (Err e) = Err e
followed (Err e) others = Err e

first_followed : {G : Type 0} (o : Outcome G) (a b : Trees G) → with_first o (followed a b) ≡ followed (with_first o a) b
first_followed (outcome.Failure e) a b = refl
first_followed (outcome.Tree t) (Ok ts) (Ok us) = refl
first_followed (outcome.Tree t) (Ok ts) (Err e) = refl
first_followed (outcome.Tree t) (Err e) b = refl

none_followed : {G : Type 0} (a : Trees G) → a ≡ followed (Ok []) a
none_followed (Ok ts) = refl
none_followed (Err e) = refl

-- both parts of what is followed
record Parts {G : Type 0} (a b : Trees G) (ts : List (Tree G)) : Type 0 where
  front : List (Tree G)
  back : List (Tree G)
  is_front : a ≡ Ok front
  is_back : b ≡ Ok back
  whole : front ++ back ≡ ts

parts_of : {G : Type 0} (a b : Trees G) (ts : List (Tree G)) → followed a b ≡ Ok ts → Parts a b ts
parts_of (Ok xs) (Ok ys) ts h = record { front = xs; back = ys; is_front = refl; is_back = refl; whole = cc }
parts_of (Ok xs) (Err e) ts h = absurd cc
parts_of (Err e) b ts h = absurd cc

module _ {G : Type 0} (draws : Queue → Evaluator G) where
  all_followed : (q : Queue) (f : ℕ) (xs ys : List (LeafAt G)) → all_by draws q f (xs ++ ys) ≡ followed (all_by draws q f xs) (all_by draws (after (length xs) q) f ys)
  all_followed q f [] ys = none_followed (all_by draws q f ys)
  all_followed q f (x ∷ xs) ys =
      ap (with_first (draws q (f - x.depth) x.goal)) (all_followed (rest_of q) f xs ys)
      ∙ first_followed (draws q (f - x.depth) x.goal) (all_by draws (rest_of q) f xs) (all_by draws (after (length xs) (rest_of q)) f ys)

  below : (q : Queue) (f : ℕ) (leaves : List (LeafAt G)) → all_by draws q f (map deeper leaves) ≡ all_by draws q (f - 1) leaves
  below q f [] = refl
  below q f (leaf ∷ leaves) =
      let e : f - (leaf.depth + 1) ≡ f - 1 - leaf.depth = omega arith in
      let P : ℕ → Trees G = λ n. with_first (draws q n leaf.goal) (all_by draws (rest_of q) f (map deeper leaves)) in
      ap P e ∙ ap (with_first (draws q (f - 1 - leaf.depth) leaf.goal)) (below (rest_of q) f leaves)

  below_kids : (q : Queue) (f : ℕ) (kids : List (Tree G)) → all_by draws q f (flat_map (λ kid. map deeper (leaves_of kid)) kids) ≡ all_by draws q (f - 1) (flat_map leaves_of kids)
  below_kids q f [] = refl
  below_kids q f (k ∷ ks) =
      let rest = flat_map (λ kid. map deeper (leaves_of kid)) ks in
      let next = after (length (leaves_of k)) q in
      all_followed q f (map deeper (leaves_of k)) rest
      ∙ ap (λ n. followed (all_by draws q f (map deeper (leaves_of k))) (all_by draws (after n q) f rest)) (as_long (leaves_of k))
      ∙ ap (λ a. followed a (all_by draws next f rest)) (below q f (leaves_of k))
      ∙ ap (followed (all_by draws q (f - 1) (leaves_of k))) (below_kids next f ks)
      ∙ sym (all_followed q (f - 1) (leaves_of k) (flat_map leaves_of ks))

  at_step : (q : Queue) (g : G) (just : JustId) (kids : List (Tree G)) (f : ℕ) → all_by draws q f (leaves_of (Step g just kids)) ≡ all_by draws q (f - 1) (flat_map leaves_of kids)
  at_step q g just kids f = ap (all_by draws q f) (leaves-Step g just kids) ∙ below_kids q f kids

  -- the tree takes the trees of its own leaves, and leaves what follows them
  abbrev Takes : Tree G → Type 0
  Takes t = (q : Queue) (f : ℕ) (ts us : List (Tree G)) → all_by draws q f (leaves_of t) ≡ Ok ts → graft_from t (ts ++ us) ≡ (graft_of t ts, us)

  one_tree : (o : Outcome G) (ts us : List (Tree G)) (g : G) → with_first o (Ok []) ≡ Ok ts → graft_from (Leaf g) (ts ++ us) ≡ (graft_of (Leaf g) ts, us)
  one_tree (outcome.Failure e) ts us g is = absurd cc
  one_tree (outcome.Tree t) ts us g is =
      let e : t ∷ [] ≡ ts = cc in
      let P : List (Tree G) → Type 0 = λ ts. graft_from (Leaf g) (ts ++ us) ≡ (graft_of (Leaf g) ts, us) in
      let Q : Tree G → Tree G × List (Tree G) = λ x. (x, us) in
      subst P e (graft-Leaf g (t ∷ us) ∙ ap Q (sym (ap (λ (p : Tree G × List (Tree G)). p.0) (graft-Leaf g (t ∷ [])))))

  takes_leaf : (g : G) → Takes (Leaf g)
  takes_leaf g q f ts us h = one_tree (draws q (f - 0) g) ts us g (sym (ap (all_by draws q f) (leaves-Leaf g)) ∙ h)

  -- a first kid, and what the others become
  abbrev joined : List (Tree G) → Tree G × List (Tree G) → Pair G
  joined ks first = (first.0 ∷ (graft_all ks first.1).0, (graft_all ks first.1).1)

  takes_each : (q : Queue) (f : ℕ) (kids : List (Tree G)) → AllByRecursion Takes kids → (ts us : List (Tree G)) → all_by draws q f (flat_map leaves_of kids) ≡ Ok ts → graft_all kids (ts ++ us) ≡ ((graft_all kids ts).0, us)
  takes_each q f [] takes ts us h =
      let e : [] ≡ ts = cc in
      let P : List (Tree G) → Type 0 = λ ts. graft_all [] (ts ++ us) ≡ ((graft_all [] ts).0, us) in
      subst P e refl
  takes_each q f (k ∷ ks) takes ts us h =
      let later : List (LeafAt G) = flat_map leaves_of ks in
      let next : Queue = after (length (leaves_of k)) q in
      let p : Parts (all_by draws q f (leaves_of k)) (all_by draws next f later) ts = parts_of (all_by draws q f (leaves_of k)) (all_by draws next f later) ts (sym (all_followed q f (leaves_of k) later) ∙ h) in
      let P : List (Tree G) → Type 0 = λ ts. graft_all (k ∷ ks) (ts ++ us) ≡ ((graft_all (k ∷ ks) ts).0, us) in
      let first : graft_from k (p.front ++ (p.back ++ us)) ≡ (graft_of k p.front, p.back ++ us) = takes.0 q f p.front (p.back ++ us) p.is_front in
      let alone : graft_from k (p.front ++ p.back) ≡ (graft_of k p.front, p.back) = takes.0 q f p.front p.back p.is_front in
      let others : graft_all ks (p.back ++ us) ≡ ((graft_all ks p.back).0, us) = takes_each next f ks takes.1 p.back us p.is_back in
      let Q : Pair G → Pair G = λ q. (graft_of k p.front ∷ q.0, q.1) in
      let R : Pair G → Pair G = λ q. (q.0, us) in
      let assoc : graft_all (k ∷ ks) ((p.front ++ p.back) ++ us) ≡ graft_all (k ∷ ks) (p.front ++ (p.back ++ us)) = ap (graft_all (k ∷ ks)) (append_assoc p.front p.back us) in
      subst P p.whole (assoc ∙ ap (joined ks) first ∙ ap Q others ∙ sym (ap (λ q. R (joined ks q)) alone))

  takes_step : (g : G) (just : JustId) (kids : List (Tree G)) → AllByRecursion Takes kids → Takes (Step g just kids)
  takes_step g just kids takes q f ts us h =
      let all : all_by draws q (f - 1) (flat_map leaves_of kids) ≡ Ok ts = sym (at_step q g just kids f) ∙ h in
      let Q : Pair G → Tree G × List (Tree G) = λ q. (Step g just q.0, q.1) in
      let R : Tree G × List (Tree G) → Tree G × List (Tree G) = λ q. (q.0, us) in
      graft-Step g just kids (ts ++ us) ∙ ap Q (takes_each q (f - 1) kids takes ts us all) ∙ sym (ap R (graft-Step g just kids ts))

  takes : (t : Tree G) → Takes t
  takes t = tree_ind Takes takes_leaf takes_step t

  abbrev kids_grafted : List (Tree G) → Trees G → Trees G
  kids_grafted kids (Ok ts) = Ok (graft_all kids ts).0
  kids_grafted kids (Err e) = Err e

  step_grafted : (g : G) (just : JustId) (kids : List (Tree G)) (r : Trees G) → grafted (Step g just kids) r ≡ with_kids g just (kids_grafted kids r)
  step_grafted g just kids (Ok ts) = ap (λ (p : Tree G × List (Tree G)). outcome.Tree p.0) (graft-Step g just kids ts)
  step_grafted g just kids (Err e) = refl

  kid_grafted : (q : Queue) (k : Tree G) (ks : List (Tree G)) (f : ℕ) (a b : Trees G) → all_by draws q f (leaves_of k) ≡ a → kids_grafted (k ∷ ks) (followed a b) ≡ with_first (grafted k a) (kids_grafted ks b)
  kid_grafted q k ks f (Ok xs) (Ok ys) h = ap (λ q. Ok (joined ks q).0) (takes k q f xs ys h)
  kid_grafted q k ks f (Ok xs) (Err e) h = refl
  kid_grafted q k ks f (Err e) b h = refl

  kids_done : (q : Queue) (f : ℕ) (kids : List (Tree G)) → kids_grafted kids (all_by draws q f (flat_map leaves_of kids)) ≡ on_kids draws q f kids
  kids_done q f [] = refl
  kids_done q f (k ∷ ks) =
      let later : List (LeafAt G) = flat_map leaves_of ks in
      let next : Queue = after (length (leaves_of k)) q in
      ap (kids_grafted (k ∷ ks)) (all_followed q f (leaves_of k) later)
      ∙ kid_grafted q k ks f (all_by draws q f (leaves_of k)) (all_by draws next f later) refl
      ∙ ap (with_first (on_tree draws q f k)) (kids_done next f ks)
      ∙ ap (λ n. with_first (on_tree draws q f k) (on_kids draws (after n q) f ks)) (leaf_count-leaves k)

  -- on the leaves of a step, by what becomes of its kids
  pub on_step : (q : Queue) (g : G) (just : JustId) (kids : List (Tree G)) (f : ℕ) → on_tree draws q f (Step g just kids) ≡ with_kids g just (on_kids draws q (f - 1) kids)
  on_step q g just kids f =
      ap (grafted (Step g just kids)) (at_step q g just kids f)
      ∙ step_grafted g just kids (all_by draws q (f - 1) (flat_map leaves_of kids))
      ∙ ap (with_kids g just) (kids_done q (f - 1) kids)

  one_leaf : (g : G) (o : Outcome G) → grafted (Leaf g) (with_first o (Ok [])) ≡ o
  one_leaf g (outcome.Tree t) = ap (λ (p : Tree G × List (Tree G)). outcome.Tree p.0) (graft-Leaf g (t ∷ []))
  one_leaf g (outcome.Failure e) = refl

  -- on a leaf, by its goal
  pub on_leaf : (q : Queue) (g : G) (f : ℕ) → on_tree draws q f (Leaf g) ≡ draws q f g
  on_leaf q g f =
      let e : f - 0 ≡ f = omega arith in
      ap (λ leaves. grafted (Leaf g) (all_by draws q f leaves)) (leaves-Leaf g) ∙ one_leaf g (draws q (f - 0) g) ∙ ap (λ n. draws q n g) e

  -- what a step ends with, by what becomes of its kids
  pub step_ends : (q : Queue) (t : Tree G) (g : G) (just : JustId) (kids done : List (Tree G)) (f : ℕ) (r : Trees G) → t ≡ Step g just kids → r ≡ on_kids draws q (f - 1) kids → r ≡ Ok done → on_tree draws q f t ≡ outcome.Tree (Step g just done)
  step_ends q t g just kids done f r is value are = ap (on_tree draws q f) is ∙ on_step q g just kids f ∙ ap (with_kids g just) (sym value ∙ are)

  pub step_fails : (q : Queue) (t : Tree G) (g : G) (just : JustId) (kids : List (Tree G)) (e : Failure G) (f : ℕ) (r : Trees G) → t ≡ Step g just kids → r ≡ on_kids draws q (f - 1) kids → r ≡ Err e → on_tree draws q f t ≡ outcome.Failure e
  step_fails q t g just kids e f r is value are = ap (on_tree draws q f) is ∙ on_step q g just kids f ∙ ap (with_kids g just) (sym value ∙ are)

module _ {G : Type 0} where
  abbrev below_of : List (Tree G) → List (LeafAt G)
  below_of kids = flat_map (λ kid. map deeper (leaves_of kid)) kids

  pub first_of_step : (t : Tree G) (g : G) (just : JustId) (kids items : List (Tree G)) → t ≡ Step g just kids → items ≡ kids → first_goal (below_of items) ≡ first_goal (leaves_of t)
  first_of_step t g just kids items is are = ap (λ ks. first_goal (below_of ks)) are ∙ sym (ap (λ x. first_goal (leaves_of x)) is ∙ ap first_goal (leaves-Step g just kids))

  first_down : (leaves rest : List (LeafAt G)) (g : G) → Some g ≡ first_goal leaves → Some g ≡ first_goal (map deeper leaves ++ rest)
  first_down [] rest g h = absurd cc
  first_down (leaf ∷ leaves) rest g h = h

  pub first_in : (items : List (Tree G)) (i : ℕ) (kid : Tree G) (g : G) (whole : Option G) → i < length items → kid ≡ get_or items i kid → Some g ≡ first_goal (leaves_of kid) → first_goal (below_of (drop i items)) ≡ whole → Some g ≡ whole
  first_in items i kid g whole lt is has h =
      let here : drop i items ≡ kid ∷ drop (suc i) items = drop-cons items i kid lt ∙ ap (λ y. y ∷ drop (suc i) items) (sym is) in
      first_down (leaves_of kid) (below_of (drop (suc i) items)) g has ∙ sym (ap (λ ks. first_goal (below_of ks)) here) ∙ h

  pub not_only : (same : G → G → Bool) (leaves : List (LeafAt G)) (g : G) → (length leaves ≡ 1 → ⊥) → false ≡ only_leaf same leaves g
  not_only same [] g h = refl
  not_only same (leaf ∷ []) g h = absurd (h refl)
  not_only same (leaf ∷ other ∷ leaves) g h = refl

  pub is_only : (same : G → G → Bool) (leaves : List (LeafAt G)) (g h : G) → length leaves ≡ 1 → Some h ≡ first_goal leaves → same h g ≡ only_leaf same leaves g
  is_only same [] g h one has = absurd cc
  is_only same (leaf ∷ []) g h one has = let e : h ≡ leaf.goal = cc in ap (λ x. same x g) e
  is_only same (leaf ∷ other ∷ leaves) g h one has = absurd (omega (arith, one))

  -- a repeat goes on with a tree that is no leaf
  pub repeat_goes : (sub : Evaluator G) (left f : ℕ) (g : G) (t : Tree G) → 0 < left → sub f g ≡ outcome.Tree t → is_leaf t ≡ false → repeat_of sub left f g ≡ on_leaves (repeat_of sub (left - 1)) f t
  repeat_goes sub zero f g t lt first leaf = absurd (omega (arith, lt))
  repeat_goes sub (suc m) f g t lt first leaf =
      let e : m ≡ suc m - 1 = omega arith in
      ap (λ o. repeat_after o (repeat_of sub m) f g) first ∙ ap (λ b. goes_on b (repeat_of sub m) f g t) leaf ∙ ap (λ n. on_leaves (repeat_of sub n) f t) e

module _ {L G J : Type 0} (meaning : L → Meaning G J) (p : ProblemState L J) where
  each_all : (at : TacId) (left f : ℕ) (leaves : List (LeafAt G)) → all_by (drawn meaning p) (queue.Each at left) f leaves ≡ all_of (λ leaf. entry_eval meaning p at.0 left (f - leaf.depth) leaf.goal) leaves
  each_all at left f [] = refl
  each_all at left f (leaf ∷ leaves) = ap (with_first (entry_eval meaning p at.0 left (f - leaf.depth) leaf.goal)) (each_all at left f leaves)

  -- the same strategy on each leaf
  pub each_same : (at : TacId) (left f : ℕ) (t : Tree G) → on_tree (drawn meaning p) (queue.Each at left) f t ≡ on_leaves (entry_eval meaning p at.0 left) f t
  each_same at left f t = ap (grafted t) (each_all at left f (leaves_of t))

  listed_all : (here : TacId) (bs : List TacId) (f : ℕ) (leaves : List (LeafAt G)) → length bs ≡ length leaves
      → all_by (drawn meaning p) (queue.Listed here bs) f leaves ≡ all_of (λ x. part_of meaning p x.0.0 (f - x.1.depth) x.1.goal) (zip bs leaves)
  listed_all here [] f [] e = refl
  listed_all here [] f (leaf ∷ leaves) e = absurd (omega (arith, e))
  listed_all here (b ∷ bs) f [] e = absurd (omega (arith, e))
  listed_all here (b ∷ bs) f (leaf ∷ leaves) e = ap (with_first (part_of meaning p b.0 (f - leaf.depth) leaf.goal)) (listed_all here bs f leaves (omega (arith, e)))

  -- one strategy of a list on each leaf, where there are as many
  pub listed_same : (here : TacId) (bs : List TacId) (f : ℕ) (g : G) (t : Tree G) (b : Bool) → as_many bs t ≡ b → b ≡ true
      → on_tree (drawn meaning p) (queue.Listed here bs) f t ≡ one_each b (part_of meaning p) here.0 bs f g t
  listed_same here bs f g t true many is = ap (grafted t) (listed_all here bs f (leaves_of t) (same_number bs t many))
  listed_same here bs f g t false many is = absurd cc

-- Trees that are given are valid, with no path of more steps than the fuel.
use Rattle.std.proofs.Common.{◌≡◌, ℕ, zero, suc, ◌+◌, ◌-◌, ◌≤◌, List, [], ◌∷◌, ◌++◌, map, max, Some, None, Option, Ok, Err, refl, sym, ap, subst, ◌∙◌, append_assoc, append-nil, arith}
use Rattle.std.specs.List.{AllByRecursion, flat_map}
use Rattle.std.specs.Prelude.{⊤, slice_get}
use Rattle.mp_logic.specs.declared.tree.Tree.{Tree, Leaf, Step}
use Rattle.mp_logic.specs.declared.tree.Tree.TheFolds.{every-Tree}
use Rattle.mp_logic.specs.declared.tree.Tree.TheOpen as layer
use Rattle.mp_logic.specs.declared.tree.JustId.{JustId}
use Rattle.mp_logic.specs.Meaning.{Meaning}
use Rattle.mp_logic.specs.Steps as steps
use Rattle.mp_logic.specs.Trees.{LeafAt, deeper, leaves_of, root_of, graft_of, graft_from, graft_step}
use Rattle.mp_logic.specs.Valid.{IsValid, StepHolds}
use Rattle.mp_logic.proofs.Every.{every_leaf, every_step}
use Rattle.mp_logic.proofs.TreeInduction.{tree_ind}
use Rattle.mp_logic.proofs.TreeSteps.{leaves-Leaf, leaves-Step, graft-Step, graft_all}
use Rattle.mp_strategy.specs.declared.tactic.Tac.{Tac}
use Rattle.mp_strategy.specs.declared.outcome.Outcome.{Outcome}
use Rattle.mp_strategy.specs.declared.outcome.Outcome.TheVariants as outcome
use Rattle.mp_logic.specs.Lists.{greatest}
use Rattle.mp_strategy.specs.Strategies.{Given, EachTree, stepped, step_or_failed, step_with, EvalsIn}
use Rattle.mp_strategy.specs.Laws.{tree_depth_of, IsSoundFor}
use Rattle.mp_strategy.proofs.Keeping.{IsKept, kept_in}
use Rattle.mp_strategy.proofs.Allowed.{all_of_any}
use Rattle.mp_strategy.proofs.Steps.{depth-Leaf, depth-Step, root-Leaf, root-Step, graft-Leaf, every_here, every_kid}

-- a bound of the depths of several trees
pub depths_within : {G : Type 0} (n : ℕ) (ts : List (Tree G)) → AllByRecursion (λ t. tree_depth_of t ≤ n) ts → greatest (map tree_depth_of ts) ≤ n
depths_within n [] h = omega arith
depths_within n (t ∷ ts) h = let rest : greatest (map tree_depth_of ts) ≤ n = depths_within n ts h.1 in let first : tree_depth_of t ≤ n = h.0 in omega (arith, first, rest)

pub within_depths : {G : Type 0} (n : ℕ) (ts : List (Tree G)) → greatest (map tree_depth_of ts) ≤ n → AllByRecursion (λ t. tree_depth_of t ≤ n) ts
within_depths n [] h = tt
within_depths n (t ∷ ts) h =
    let all : max (tree_depth_of t) (greatest (map tree_depth_of ts)) ≤ n = h in
    (omega (arith, all), within_depths n ts (omega (arith, all)))

roots_of_leaves : {G : Type 0} (goals : List G) → map root_of (map Leaf goals) ≡ goals
roots_of_leaves [] = refl
roots_of_leaves (g ∷ goals) = ap (λ x. x ∷ map root_of (map Leaf goals)) (root-Leaf g) ∙ ap (λ xs. g ∷ xs) (roots_of_leaves goals)

depths_of_leaves : {G : Type 0} (n : ℕ) (goals : List G) → AllByRecursion (λ t. tree_depth_of t ≤ n) (map Leaf goals)
depths_of_leaves n [] = tt
depths_of_leaves n (g ∷ goals) = (let e : tree_depth_of (Leaf g) ≡ 0 = depth-Leaf g in omega (arith, e), depths_of_leaves n goals)

-- a leaf's goal, and what is left there of the fuel
abbrev left_at : {G : Type 0} → ℕ → LeafAt G → G × ℕ
left_at f leaf = (leaf.goal, f - leaf.depth)

abbrev fuels : {G : Type 0} → ℕ → Tree G → List (G × ℕ)
fuels f t = map (left_at f) (leaves_of t)

fuels-Leaf : {G : Type 0} (g : G) (f : ℕ) → fuels f (Leaf g) ≡ (g, f) ∷ []
fuels-Leaf {G} g f = let e : f - 0 ≡ f = omega arith in let P : ℕ → List (G × ℕ) = λ n. (g, n) ∷ [] in ap (map (left_at f)) (leaves-Leaf g) ∙ ap P e

map_joined : {A B : Type 0} (h : A → B) (xs ys : List A) → map h (xs ++ ys) ≡ map h xs ++ map h ys
map_joined h [] ys = refl
map_joined h (x ∷ xs) ys = ap (λ zs. h x ∷ zs) (map_joined h xs ys)

less_below : {G : Type 0} (n : ℕ) (leaves : List (LeafAt G)) → map (left_at (suc n)) (map deeper leaves) ≡ map (left_at n) leaves
less_below n [] = refl
less_below {G} n (leaf ∷ leaves) =
    let e : suc n - (leaf.depth + 1) ≡ n - leaf.depth = omega arith in
    let P : ℕ → List (G × ℕ) = λ k. (leaf.goal, k) ∷ map (left_at (suc n)) (map deeper leaves) in
    ap P e ∙ ap (λ zs. left_at n leaf ∷ zs) (less_below n leaves)

kids_below : {G : Type 0} (n : ℕ) (kids : List (Tree G)) → map (left_at (suc n)) (flat_map (λ kid. map deeper (leaves_of kid)) kids) ≡ flat_map (fuels n) kids
kids_below n [] = refl
kids_below n (k ∷ ks) =
    let rest = flat_map (λ kid. map deeper (leaves_of kid)) ks in
    map_joined (left_at (suc n)) (map deeper (leaves_of k)) rest ∙ ap (λ zs. zs ++ map (left_at (suc n)) rest) (less_below n (leaves_of k)) ∙ ap (λ zs. fuels n k ++ zs) (kids_below n ks)

fuels-Step : {G : Type 0} (g : G) (just : JustId) (kids : List (Tree G)) (n : ℕ) → fuels (suc n) (Step g just kids) ≡ flat_map (fuels n) kids
fuels-Step g just kids n = ap (map (left_at (suc n))) (leaves-Step g just kids) ∙ kids_below n kids

module _ {G J : Type 0} (step : J → G → steps.Outcome G) (justs : List J) where
  -- every step of the tree holds
  abbrev Holds : Tree G → Type 0
  Holds t = every-Tree G (StepHolds step justs) t

  abbrev For : ℕ → G → Tree G → Type 0
  For f g t = IsValid step justs t g × (tree_depth_of t ≤ f)

  all_leaves_hold : (goals : List G) → AllByRecursion Holds (map Leaf goals)
  all_leaves_hold [] = tt
  all_leaves_hold (g ∷ goals) = (every_leaf (StepHolds step justs) g tt, all_leaves_hold goals)

  for_leaf : (f : ℕ) (g : G) → For f g (Leaf g)
  for_leaf f g = ((root-Leaf g, every_leaf (StepHolds step justs) g tt), let e : tree_depth_of (Leaf g) ≡ 0 = depth-Leaf g in omega (arith, e))

  for_step : (f : ℕ) (g : G) (just : JustId) (kids : List (Tree G)) → StepHolds step justs (layer.Step g just kids) → AllByRecursion Holds kids → AllByRecursion (λ t. tree_depth_of t ≤ f) kids → For (suc f) g (Step g just kids)
  for_step f g just kids here each low =
      let e : tree_depth_of (Step g just kids) ≡ 1 + greatest (map tree_depth_of kids) = depth-Step g just kids in
      let all : greatest (map tree_depth_of kids) ≤ f = depths_within f kids low in
      ((root-Step g just kids, every_step (StepHolds step justs) g just kids each here), omega (arith, e, all))

  -- what is asked of the tree at a leaf, by its goal and the fuel that is left there
  abbrev At : G × ℕ → Given G
  At leaf = IsSoundFor step justs leaf.1 leaf.0

  -- what grafting makes of a tree, and the trees that it leaves for the leaves after it
  abbrev Grafted : ℕ → G → List (G × ℕ) → Tree G × List (Tree G) → Type 0
  Grafted f g more p = For f g p.0 × EachTree At more p.1

  abbrev Keeps : Tree G → Type 0
  Keeps t = (f : ℕ) (g : G) → For f g t → (more : List (G × ℕ)) (ts : List (Tree G)) → EachTree At (fuels f t ++ more) ts → Grafted f g more (graft_from t ts)

  keeps_leaf : (g : G) → Keeps (Leaf g)
  keeps_leaf g f h fits more ts a =
      let same : g ≡ h = sym (root-Leaf g) ∙ fits.0.0 in
      let b : EachTree At ((g, f) ∷ more) ts = subst (λ leaves. EachTree At (leaves ++ more) ts) (fuels-Leaf g f) a in
      subst (Grafted f h more) (sym (graft-Leaf g ts)) (at ts b same) where
        at : (ts : List (Tree G)) → EachTree At ((g, f) ∷ more) ts → g ≡ h → Grafted f h more (graft_step (layer.Leaf g) ts)
        at [] b same = absurd b
        at (t ∷ ts) b same = (subst (λ x. For f x t) same b.0, b.1)

  record Done (n : ℕ) (kids : List (Tree G)) (more : List (G × ℕ)) (p : List (Tree G) × List (Tree G)) : Type 0 where
    each : AllByRecursion Holds p.0
    low : AllByRecursion (λ t. tree_depth_of t ≤ n) p.0
    roots : map root_of p.0 ≡ map root_of kids
    rest : EachTree At more p.1

  keeps_each : (n : ℕ) (kids : List (Tree G)) → AllByRecursion Keeps kids → AllByRecursion Holds kids → AllByRecursion (λ t. tree_depth_of t ≤ n) kids
      → (more : List (G × ℕ)) (ts : List (Tree G)) → EachTree At (flat_map (fuels n) kids ++ more) ts → Done n kids more (graft_all kids ts)
  keeps_each n [] keeps each low more ts a = record { each = tt; low = tt; roots = refl; rest = a }
  keeps_each n (k ∷ ks) keeps each low more ts a =
      let after : List (G × ℕ) = flat_map (fuels n) ks ++ more in
      let b : EachTree At (fuels n k ++ after) ts = subst (λ leaves. EachTree At leaves ts) (append_assoc (fuels n k) (flat_map (fuels n) ks) more) a in
      let first : Grafted n (root_of k) after (graft_from k ts) = keeps.0 n (root_of k) ((refl, each.0), low.0) after ts b in
      let others = keeps_each n ks keeps.1 each.1 low.1 more (graft_from k ts).1 first.1 in
      record {
        each = (first.0.0.1, others.each);
        low = (first.0.1, others.low);
        roots = ap (λ x. x ∷ map root_of (graft_all ks (graft_from k ts).1).0) first.0.0.0 ∙ ap (λ xs. root_of k ∷ xs) others.roots;
        rest = others.rest;
      }

  moved_step : (g : G) (just : JustId) (kids kids' : List (Tree G)) → map root_of kids' ≡ map root_of kids → StepHolds step justs (layer.Step g just kids) → StepHolds step justs (layer.Step g just kids')
  moved_step g just kids kids' e (j, is, makes) = (j, is, makes ∙ ap Ok (sym e))

  keeps_step : (g : G) (just : JustId) (kids : List (Tree G)) → AllByRecursion Keeps kids → Keeps (Step g just kids)
  keeps_step g just kids keeps zero h fits more ts a =
      absurd (let e : tree_depth_of (Step g just kids) ≡ 1 + greatest (map tree_depth_of kids) = depth-Step g just kids in let low : tree_depth_of (Step g just kids) ≤ 0 = fits.1 in omega (arith, e, low))
  keeps_step g just kids keeps (suc n) h fits more ts a =
      let e : tree_depth_of (Step g just kids) ≡ 1 + greatest (map tree_depth_of kids) = depth-Step g just kids in
      let deep : tree_depth_of (Step g just kids) ≤ suc n = fits.1 in
      let same : g ≡ h = sym (root-Step g just kids) ∙ fits.0.0 in
      let leaves : fuels (suc n) (Step g just kids) ≡ flat_map (fuels n) kids = fuels-Step g just kids n in
      let b : EachTree At (flat_map (fuels n) kids ++ more) ts = subst (λ leaves. EachTree At (leaves ++ more) ts) leaves a in
      let done : Done n kids more (graft_all kids ts) = keeps_each n kids keeps (every_kid (StepHolds step justs) g just kids fits.0.1) (within_depths n kids (omega (arith, e, deep))) more ts b in
      let here : StepHolds step justs (layer.Step g just (graft_all kids ts).0) = moved_step g just kids (graft_all kids ts).0 done.roots (every_here (StepHolds step justs) g just kids fits.0.1) in
      let made : For (suc n) g (Step g just (graft_all kids ts).0) = for_step n g just (graft_all kids ts).0 here done.each done.low in
      subst (Grafted (suc n) h more) (sym (graft-Step g just kids ts)) (subst (λ x. For (suc n) x (Step g just (graft_all kids ts).0)) same made, done.rest)

  each_at : (f : ℕ) (leaves : List (LeafAt G)) (ts : List (Tree G)) → EachTree (λ leaf. IsSoundFor step justs (f - leaf.depth) leaf.goal) leaves ts → EachTree At (map (left_at f) leaves) ts
  each_at f [] [] a = tt
  each_at f [] (t ∷ ts) a = absurd a
  each_at f (leaf ∷ leaves) [] a = absurd a
  each_at f (leaf ∷ leaves) (t ∷ ts) a = (a.0, each_at f leaves ts a.1)

  -- sound trees in the places of the leaves of a sound tree make a sound tree
  pub sound_graft : (f : ℕ) (g : G) (t : Tree G) (ts : List (Tree G)) → IsSoundFor step justs f g (outcome.Tree t) → EachTree (λ leaf. IsSoundFor step justs (f - leaf.depth) leaf.goal) (leaves_of t) ts
      → IsSoundFor step justs f g (outcome.Tree (graft_of t ts))
  sound_graft f g t ts h a = (tree_ind Keeps keeps_leaf keeps_step t f g h [] ts (subst (λ leaves. EachTree At leaves ts) (sym (append-nil (fuels f t))) (each_at f (leaves_of t) ts a))).0

  sound_stepped : (here : ℕ) (just : JustId) (f : ℕ) (g : G) (j : J) → slice_get justs just.0 ≡ Some j → (r : steps.Outcome G) → step j g ≡ r → IsSoundFor step justs (suc f) g (stepped here just g r)
  sound_stepped here just f g j is (Ok goals) e =
      for_step f g just (map Leaf goals) (j, is, e ∙ ap Ok (sym (roots_of_leaves goals))) (all_leaves_hold goals) (depths_of_leaves f goals)
  sound_stepped here just f g j is (Err w) e = tt

module _ {G J : Type 0} (m : Meaning G J) (justs : List J) where
  sound_step_by : (here : ℕ) (just : JustId) (f : ℕ) (g : G) (o : Option J) → slice_get justs just.0 ≡ o → IsSoundFor m.step justs (suc f) g (step_or_failed m o here just g)
  sound_step_by here just f g None e = tt
  sound_step_by here just f g (Some j) e = sound_stepped m.step justs here just f g j e (m.step j g) refl

  sound_step : (here : ℕ) (just : JustId) (f : ℕ) (g : G) → IsSoundFor m.step justs f g (step_with m justs here just f g)
  sound_step here just zero g = tt
  sound_step here just (suc f) g = sound_step_by here just f g (slice_get justs just.0) refl

  sounds : IsKept m justs (λ g. ⊤) (IsSoundFor m.step justs)
  sounds = record {
    leaf = λ f g h. for_leaf m.step justs f g;
    fails = λ k here f g h. tt;
    steps = λ here just f g h. sound_step here just f g;
    goals = λ f g t h. all_of_any (λ leaf. ⊤) (λ leaf. tt) (leaves_of t);
    grafts = sound_graft m.step justs;
    passes = λ f n g h e k. tt;
  }

  pub sound_in : (here : ℕ) (ts : List Tac) (at left f : ℕ) (g : G) (o : Outcome G) → EvalsIn m justs here ts at left f g o → IsSoundFor m.step justs f g o
  sound_in here ts at left f g o k = kept_in m justs (λ g. ⊤) (IsSoundFor m.step justs) sounds here ts at left f g o tt k

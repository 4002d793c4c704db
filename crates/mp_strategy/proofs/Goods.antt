-- A good goal gives good open leaves, and failures at good goals.
use Rattle.std.proofs.Common.{◌≡◌, ℕ, zero, suc, Bool, true, List, [], ◌∷◌, map, Some, None, Option, Ok, Err, IsTrue, refl, subst}
use Rattle.std.proofs.lemmas.Bool.{and_parts}
use Rattle.std.specs.List.{AllByRecursion, list_all}
use Rattle.std.specs.Prelude.{slice_get, IfOk}
use Rattle.mp_logic.specs.declared.tree.Tree.{Tree, Leaf}
use Rattle.mp_logic.specs.declared.tree.JustId.{JustId}
use Rattle.mp_logic.specs.Meaning.{Meaning, IsLogic}
use Rattle.mp_logic.specs.Steps as steps
use Rattle.mp_logic.specs.Trees.{leaves_of, EachLeaf}
use Rattle.mp_logic.proofs.GoodTrees.{each_leaf_leaf, each_leaf_step, each_leaf_graft}
use Rattle.mp_strategy.specs.declared.tactic.Tac.{Tac}
use Rattle.mp_strategy.specs.declared.outcome.Outcome.{Outcome}
use Rattle.mp_strategy.specs.declared.outcome.Outcome.TheVariants as outcome
use Rattle.mp_strategy.specs.Strategies.{Given, EachTree, stepped, step_or_failed, step_with, EvalsIn}
use Rattle.mp_strategy.proofs.Keeping.{IsKept, kept_in}

-- each justification of a list is allowed
pub allowed_at : {J : Type 0} (allowed : J → Bool) (js : List J) (i : ℕ) (j : J) → list_all allowed js ≡ true → slice_get js i ≡ Some j → IsTrue (allowed j)
allowed_at allowed [] i j a e = absurd cc
allowed_at allowed (k ∷ ks) zero j a e = let h : k ≡ j = cc in subst (λ x. IsTrue (allowed x)) h (and_parts (allowed k) (list_all allowed ks) a).0
allowed_at allowed (k ∷ ks) (suc i) j a e = allowed_at allowed ks i j (and_parts (allowed k) (list_all allowed ks) a).1 e

module _ {G : Type 0} (good : G → Bool) where
  abbrev pub Good : G → Type 0
  Good g = IsTrue (good g)

  -- the open leaves of a tree are good, and so is the goal of a failure
  abbrev pub AreGood : Outcome G → Type 0
  AreGood (outcome.Tree t) = EachLeaf Good t
  AreGood (outcome.Failure e) = Good e.goal

  trees_good : {X : Type 0} (gives : X → Given G) → ((x : X) (o : Outcome G) → gives x o → AreGood o) → (xs : List X) (ts : List (Tree G)) → EachTree gives xs ts → AllByRecursion (EachLeaf Good) ts
  trees_good gives h [] [] a = tt
  trees_good gives h [] (t ∷ ts) a = absurd a
  trees_good gives h (x ∷ xs) [] a = absurd a
  trees_good gives h (x ∷ xs) (t ∷ ts) a = (h x (outcome.Tree t) a.0, trees_good gives h xs ts a.1)

  leaves_good : (kids : List G) → list_all good kids ≡ true → AllByRecursion (EachLeaf Good) (map Leaf kids)
  leaves_good [] h = tt
  leaves_good (k ∷ ks) h = let both = and_parts (good k) (list_all good ks) h in (each_leaf_leaf Good k both.0, leaves_good ks both.1)

  good_stepped : (here : ℕ) (just : JustId) (g : G) (r : steps.Outcome G) → Good g → IfOk r (λ kids. IsTrue (list_all good kids)) → AreGood (stepped here just g r)
  good_stepped here just g (Ok kids) a h = each_leaf_step Good g just (map Leaf kids) (leaves_good kids h)
  good_stepped here just g (Err w) a h = a

module _ {G J : Type 0} (m : Meaning G J) (lawful : IsLogic m) (justs : List J) (all_allowed : IsTrue (list_all m.allowed justs)) where
  good_step_by : (here : ℕ) (just : JustId) (g : G) → Good m.good g → (o : Option J) → slice_get justs just.0 ≡ o → AreGood m.good (step_or_failed m o here just g)
  good_step_by here just g a None e = a
  good_step_by here just g a (Some j) e = good_stepped m.good here just g (m.step j g) a (lawful.keeps_good j g (allowed_at m.allowed justs just.0 j all_allowed e) a)

  good_step : (here : ℕ) (just : JustId) (f : ℕ) (g : G) → Good m.good g → AreGood m.good (step_with m justs here just f g)
  good_step here just zero g a = a
  good_step here just (suc f) g a = good_step_by here just g a (slice_get justs just.0) refl

  goods : IsKept m justs (Good m.good) (λ f g o. AreGood m.good o)
  goods = record {
    leaf = λ f g h. each_leaf_leaf (Good m.good) g h;
    fails = λ k here f g h. h;
    steps = good_step;
    goals = λ f g t h. h;
    grafts = λ f g t ts h each. each_leaf_graft (Good m.good) t ts (trees_good m.good (λ leaf o. AreGood m.good o) (λ leaf o k. k) (leaves_of t) ts each) h;
    passes = λ f n g h e k. k;
  }

  pub good_in : (here : ℕ) (ts : List Tac) (at left f : ℕ) (g : G) (o : Outcome G) → Good m.good g → EvalsIn m justs here ts at left f g o → AreGood m.good o
  good_in = kept_in m justs (Good m.good) (λ f g o. AreGood m.good o) goods

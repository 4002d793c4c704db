-- The branch of a race that takes the place of the whole.
use Rattle.std.proofs.Common.{◌≡◌, ℕ, true, List, [], ◌∷◌, refl, subst, Some, None, inl, inr}
use Rattle.std.proofs.lemmas.Bool.{and_parts}
use Rattle.std.specs.declared.option.Option.{Option}
use Rattle.std.specs.List.{AllByRecursion}
use Rattle.mp_logic.specs.Meaning.{Meaning}
use Rattle.mp_logic.specs.declared.tree.Tree.{Tree}
use Rattle.mp_strategy.specs.declared.problem.ProblemState.{ProblemState}
use Rattle.mp_strategy.specs.declared.outcome.Failure.{Failure}
use Rattle.mp_strategy.specs.declared.outcome.Outcome.{Outcome}
use Rattle.mp_strategy.specs.declared.outcome.Outcome.TheVariants as outcome
use Rattle.mp_strategy.specs.Strategies.{Given, SomeGives, AllFail}
use Rattle.mp_jobs.specs.declared.node.Node.{Node}
use Rattle.mp_jobs.specs.Costs.{Size}
use Rattle.mp_jobs.specs.Ends.{done_of, is_failure}
use Rattle.mp_jobs.specs.Epochs.{claims_under}
use Rattle.mp_jobs.specs.Settlement.{tree_by, first_tree, all_failed, last_of}
use Rattle.mp_jobs.specs.Shapes.{Shape}
use Rattle.mp_jobs.specs.Sizes.{size_of}
use Rattle.mp_jobs.specs.Yields.{Yields}
use Rattle.mp_jobs.proofs.Chosen.{Chosen, chosen_here, chosen_later}
use Rattle.mp_jobs.proofs.DoneNodes.{yields_own}

module _ {L G J : Type 0} (meaning : L → Meaning G J) (p : ProblemState L J) where
  abbrev Y : Node G → Given G
  Y = Yields meaning p

  abbrev S : Node G → Size
  S = size_of meaning p

  abbrev H : Node G → Type 0
  H = Shape meaning p

  abbrev C : ℕ → Node G → ℕ
  C e = claims_under e

  -- the leftmost tree of a race
  pub record Wins (m : Node G) (ks : List (Node G)) : Type 0 where
    pub t : Tree G
    pub is : done_of m ≡ Some (outcome.Tree t)
    pub gives : SomeGives Y ks (outcome.Tree t)
    pub chosen : Chosen meaning p m ks

  wins_later : (m k : Node G) (ks : List (Node G)) → Wins m ks → Wins m (k ∷ ks)
  wins_later m k ks r = record { t = r.t; is = r.is; gives = inr r.gives; chosen = chosen_later meaning p m k ks r.chosen }

  wins_by : (k : Node G) (ks : List (Node G)) (m : Node G) (r : Option (Outcome G)) → done_of k ≡ r → tree_by r k (first_tree ks) ≡ Some m → (first_tree ks ≡ Some m → Wins m ks) → H k → Wins m (k ∷ ks)
  wins_by k ks m None q f rest h = wins_later m k ks (rest f)
  wins_by k ks m (Some (outcome.Failure e)) q f rest h = wins_later m k ks (rest f)
  wins_by k ks m (Some (outcome.Tree t)) q f rest h =
      let is : k ≡ m = cc in subst (λ x. Wins x (k ∷ ks)) is (record { t = t; is = q; gives = inl (yields_own meaning p k (outcome.Tree t) q); chosen = chosen_here meaning p k ks h })

  pub first_wins : (ks : List (Node G)) (m : Node G) → first_tree ks ≡ Some m → AllByRecursion H ks → Wins m ks
  first_wins [] m f h = absurd (cc)
  first_wins (k ∷ ks) m f h = wins_by k ks m (done_of k) refl f (λ g. first_wins ks m g h.1) h.0

  -- the last one of a race in which all failed
  pub record Loses (m : Node G) (ks : List (Node G)) : Type 0 where
    pub e : Failure G
    pub is : done_of m ≡ Some (outcome.Failure e)
    pub fails : AllFail Y ks e
    pub chosen : Chosen meaning p m ks

  failed_is : (k : Node G) (r : Option (Outcome G)) → done_of k ≡ r → is_failure r ≡ true → (e : Failure G) × (done_of k ≡ Some (outcome.Failure e))
  failed_is k None q f = absurd (cc)
  failed_is k (Some (outcome.Tree t)) q f = absurd (cc)
  failed_is k (Some (outcome.Failure e)) q f = (e, q)

  pub last_loses : (ks : List (Node G)) (m : Node G) → all_failed ks ≡ true → last_of ks ≡ Some m → AllByRecursion H ks → Loses m ks
  last_loses [] m a f h = absurd (cc)
  last_loses (k ∷ []) m a f h =
      let is : k ≡ m = cc in
      let x = failed_is k (done_of k) refl (and_parts (is_failure (done_of k)) (all_failed {G = G} []) a).0 in
      subst (λ n. Loses n (k ∷ [])) is (record { e = x.0; is = x.1; fails = yields_own meaning p k (outcome.Failure x.0) x.1; chosen = chosen_here meaning p k [] h.0 })
  last_loses (k ∷ l ∷ ks) m a f h =
      let both = and_parts (is_failure (done_of k)) (all_failed (l ∷ ks)) a in
      let x = failed_is k (done_of k) refl both.0 in
      let r : Loses m (l ∷ ks) = last_loses (l ∷ ks) m both.1 f h.1 in
      record { e = r.e; is = r.is; fails = ((x.0, yields_own meaning p k (outcome.Failure x.0) x.1), r.fails); chosen = chosen_later meaning p m k (l ∷ ks) r.chosen }

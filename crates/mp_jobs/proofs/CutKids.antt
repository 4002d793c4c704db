-- The kids up to one that failed.
use Rattle.std.proofs.Common.{◌≡◌, ℕ, ◌+◌, ◌≤◌, Bool, true, false, List, [], ◌∷◌, map, refl, subst, Some, None, inl, inr, arith}
use Rattle.std.specs.Option.{option_map}
use Rattle.std.specs.declared.option.Option.{Option}
use Rattle.std.specs.List.{AllByRecursion}
use Rattle.mp_logic.specs.Meaning.{Meaning}
use Rattle.mp_strategy.specs.declared.problem.ProblemState.{ProblemState}
use Rattle.mp_strategy.specs.declared.outcome.Failure.{Failure}
use Rattle.mp_strategy.specs.declared.outcome.Outcome.{Outcome}
use Rattle.mp_strategy.specs.Strategies.{Given, SomeFails}
use Rattle.mp_jobs.specs.declared.node.Node.{Node}
use Rattle.mp_jobs.specs.Costs.{Size, width_sum, weight_each}
use Rattle.mp_jobs.specs.Ends.{done_of, is_failure}
use Rattle.mp_jobs.specs.Epochs.{claims_under, total}
use Rattle.mp_jobs.specs.Settlement.{cut_by, cut_kids}
use Rattle.mp_jobs.specs.Shapes.{Shape, LastFails}
use Rattle.mp_jobs.specs.Sizes.{size_of}
use Rattle.mp_jobs.specs.Yields.{Yields}

module _ {L G J : Type 0} (meaning : L → Meaning G J) (p : ProblemState L J) where
  abbrev Y : Node G → Given G
  Y = Yields meaning p

  abbrev S : Node G → Size
  S = size_of meaning p

  abbrev H : Node G → Type 0
  H = Shape meaning p

  abbrev C : ℕ → Node G → ℕ
  C e = claims_under e

  -- the kids up to a failure
  pub record Cut (ms ks : List (Node G)) : Type 0 where
    pub fails : (e : Failure G) → SomeFails Y ms e → SomeFails Y ks e
    pub shapes : AllByRecursion H ms
    pub last : LastFails (map (λ k. done_of k) ms)
    pub wide : width_sum (map S ms) ≤ width_sum (map S ks)
    pub heavy : weight_each (map S ms) + 1 ≤ weight_each (map S ks)
    pub counts : (e : ℕ) → total (map (C e) ms) ≤ total (map (C e) ks)

  fails_here : (k : Node G) (ks : List (Node G)) (e : Failure G) → SomeFails Y (k ∷ []) e → SomeFails Y (k ∷ ks) e
  fails_here k ks e (inl h) = inl h
  fails_here k ks e (inr h) = absurd h.2

  fails_later : (k : Node G) (ms ks : List (Node G)) → ((e : Failure G) → SomeFails Y ms e → SomeFails Y ks e) → (e : Failure G) → SomeFails Y (k ∷ ms) e → SomeFails Y (k ∷ ks) e
  fails_later k ms ks f e (inl h) = inl h
  fails_later k ms ks f e (inr h) = inr (h.0, h.1, f e h.2)

  last_later : (r : Option (Outcome G)) (ms : List (Node G)) → LastFails (map (λ k. done_of k) ms) → LastFails (r ∷ map (λ k. done_of k) ms)
  last_later r [] h = absurd h
  last_later r (m ∷ ms) h = h

  cut_later : (k : Node G) (ks xs ms : List (Node G)) → k ∷ xs ≡ ms → Cut xs ks → H k → Cut ms (k ∷ ks)
  cut_later k ks xs ms is c h =
      let a : width_sum (map S xs) ≤ width_sum (map S ks) = c.wide in
      let b : weight_each (map S xs) + 1 ≤ weight_each (map S ks) = c.heavy in
      subst (λ ys. Cut ys (k ∷ ks)) is (record {
        fails = fails_later k xs ks c.fails;
        shapes = (h, c.shapes);
        last = last_later (done_of k) xs c.last;
        wide = omega (arith, a);
        heavy = omega (arith, b);
        counts = λ e. (let g : total (map (C e) xs) ≤ total (map (C e) ks) = c.counts e in omega (arith, g));
      })

  cut_rest : (k : Node G) (ks ms : List (Node G)) (o : Option (List (Node G))) → option_map (λ xs. k ∷ xs) o ≡ Some ms → ((xs : List (Node G)) → o ≡ Some xs → Cut xs ks) → H k → Cut ms (k ∷ ks)
  cut_rest k ks ms None f rest h = absurd (cc)
  cut_rest k ks ms (Some xs) f rest h = cut_later k ks xs ms (cc) (rest xs refl) h

  cut_first : (b : Bool) (k l : Node G) (ks ms : List (Node G)) → is_failure (done_of k) ≡ b → cut_by b k (cut_kids (l ∷ ks)) ≡ Some ms → ((xs : List (Node G)) → cut_kids (l ∷ ks) ≡ Some xs → Cut xs (l ∷ ks)) → H k → Cut ms (k ∷ l ∷ ks)
  cut_first true k l ks ms q f rest h =
      let is : k ∷ [] ≡ ms = cc in
      subst (λ ys. Cut ys (k ∷ l ∷ ks)) is (record {
        fails = fails_here k (l ∷ ks);
        shapes = (h, tt);
        last = q;
        wide = omega arith;
        heavy = omega arith;
        counts = λ e. omega arith;
      })
  cut_first false k l ks ms q f rest h = cut_rest k (l ∷ ks) ms (cut_kids (l ∷ ks)) f rest h

  pub cut_is : (ks ms : List (Node G)) → cut_kids ks ≡ Some ms → AllByRecursion H ks → Cut ms ks
  cut_is [] ms f h = absurd (cc)
  cut_is (k ∷ []) ms f h = absurd (cc)
  cut_is (k ∷ l ∷ ks) ms f h = cut_first (is_failure (done_of k)) k l ks ms refl f (λ xs g. cut_is (l ∷ ks) xs g h.1) h.0

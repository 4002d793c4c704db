-- The kids of a node, of which one moves.
use Rattle.std.proofs.Common.{◌≡◌, ℕ, ◌+◌, ◌≤◌, Bool, true, false, IsTrue, List, [], ◌∷◌, map, length, refl, ap, sym, subst, ◌∙◌, Some, None, arith}
use Rattle.std.specs.declared.option.Option.{Option}
use Rattle.std.specs.List.{AllByRecursion, AllZip}
use Rattle.mp_logic.specs.Meaning.{Meaning}
use Rattle.mp_logic.specs.declared.tree.Tree.{Tree}
use Rattle.mp_strategy.specs.declared.problem.ProblemState.{ProblemState}
use Rattle.mp_strategy.specs.declared.outcome.Outcome.{Outcome}
use Rattle.mp_strategy.specs.Strategies.{Given}
use Rattle.mp_jobs.specs.declared.node.Node.{Node}
use Rattle.mp_jobs.specs.Costs.{Size, IsWithin, widest, width_sum, weight_each, weight_sum}
use Rattle.mp_jobs.specs.Ends.{done_of, is_failure}
use Rattle.mp_jobs.specs.Epochs.{claims_under, total}
use Rattle.mp_jobs.specs.Kept.{Kept, Moves}
use Rattle.mp_jobs.specs.Shapes.{LastFails, KidsFit, Shape}
use Rattle.mp_jobs.specs.Sizes.{size_of}
use Rattle.mp_jobs.specs.Yields.{Yields}
use Rattle.mp_jobs.proofs.Congruence.{One, here, there}
use Rattle.mp_jobs.proofs.Less.{Under, pairs_each, less_same}

-- a failure that stands last stays there
failed_same : {G : Type 0} (r s : Option (Outcome G)) → ((o : Outcome G) → s ≡ Some o → r ≡ s) → IsTrue (is_failure s) → IsTrue (is_failure r)
failed_same r None h f = absurd (cc)
failed_same r (Some o) h f = subst (λ x. IsTrue (is_failure x)) (sym (h o refl)) f

module _ {L G J : Type 0} (meaning : L → Meaning G J) (p : ProblemState L J) (d : ℕ) (more : ℕ → ℕ) where
  abbrev Y : Node G → Given G
  Y = Yields meaning p

  abbrev S : Node G → Size
  S = size_of meaning p

  abbrev H : Node G → Type 0
  H = Shape meaning p

  abbrev C : ℕ → Node G → ℕ
  C = claims_under

  abbrev R : Node G → Node G → Type 0
  R m n = Moves meaning p d more m n

  abbrev K : Node G → Node G → Type 0
  K m n = Kept meaning p d more m n

  -- the kids of a node, where one of them moves
  pub record KidsKept (ms ks : List (Node G)) : Type 0 where
    pub shapes : AllByRecursion H ms
    pub pairs : AllZip (Under Y Y) ms ks
    pub width_sum : width_sum (map S ms) ≤ width_sum (map S ks)
    pub widest : widest (map S ms) ≤ widest (map S ks)
    pub weight_each : weight_each (map S ms) + d ≤ weight_each (map S ks)
    pub weight_sum : weight_sum (map S ms) + d ≤ weight_sum (map S ks)
    pub counts : (e : ℕ) → total (map (C e) ms) ≤ total (map (C e) ks) + more e

  pub kids_kept : (ms ks : List (Node G)) → One R ms ks → AllByRecursion H ks → KidsKept ms ks
  kids_kept ms ks (here m k ls r) h =
      let one : K m k = r.kept h.0 in
      let s : IsWithin d (S m) (S k) = one.sizes in
      let heavy : (S m).heavy + d ≤ (S k).heavy = s.heavy in
      let wide : (S m).wide ≤ (S k).wide = s.wide in
      record {
        shapes = (one.shape, h.1);
        pairs = (one.yields, pairs_each (Under Y Y) (λ (x : Node G). less_same (Y x)) ls);
        width_sum = omega (arith, wide);
        widest = omega (arith, wide);
        weight_each = omega (arith, heavy);
        weight_sum = omega (arith, heavy);
        counts = λ e. (let c : C e m ≤ C e k + more e = one.epochs e in omega (arith, c));
      }
  kids_kept ms ks (there k xs ls o) h =
      let rest : KidsKept xs ls = kids_kept xs ls o h.1 in
      let a : width_sum (map S xs) ≤ width_sum (map S ls) = rest.width_sum in
      let b : widest (map S xs) ≤ widest (map S ls) = rest.widest in
      let e1 : weight_each (map S xs) + d ≤ weight_each (map S ls) = rest.weight_each in
      let e2 : weight_sum (map S xs) + d ≤ weight_sum (map S ls) = rest.weight_sum in
      record {
        shapes = (h.0, rest.shapes);
        pairs = (less_same (Y k), rest.pairs);
        width_sum = omega (arith, a);
        widest = omega (arith, b);
        weight_each = omega (arith, e1);
        weight_sum = omega (arith, e2);
        counts = λ e. (let c : total (map (C e) xs) ≤ total (map (C e) ls) + more e = rest.counts e in omega (arith, c));
      }

  same_length : (ms ks : List (Node G)) → One R ms ks → length (map (λ k. done_of k) ms) ≡ length (map (λ k. done_of k) ks)
  same_length ms ks (here m k ls r) = refl
  same_length ms ks (there k xs ls o) = let e = same_length xs ls o in grind arith

  pub length_kids : (ms ks : List (Node G)) → One R ms ks → length ms ≡ length ks
  length_kids ms ks (here m k ls r) = refl
  length_kids ms ks (there k xs ls o) = let e = length_kids xs ls o in grind arith

  last_same : (ms ks : List (Node G)) → One R ms ks → LastFails (map (λ k. done_of k) ks) → LastFails (map (λ k. done_of k) ms)
  last_same ms ks (here m k [] r) h = failed_same (done_of m) (done_of k) (λ o e. ap (λ n. done_of n) (r.stays o e)) h
  last_same ms ks (here m k (l ∷ ls) r) h = h
  last_same ms ks (there k xs ls (here m l rest r)) h = last_same (m ∷ rest) (l ∷ rest) (here m l rest r) h
  last_same ms ks (there k xs ls (there l zs rest o)) h = last_same (l ∷ zs) (l ∷ rest) (there l zs rest o) h

  pub kids_fit : (t : Tree G) (ms ks : List (Node G)) (c : Bool) → One R ms ks → KidsFit t (map (λ k. done_of k) ks) c → KidsFit t (map (λ k. done_of k) ms) c
  kids_fit t ms ks false o h = same_length ms ks o ∙ h
  kids_fit t ms ks true o h = last_same ms ks o h

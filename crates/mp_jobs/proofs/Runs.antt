-- A run is a chain, and one to its end where each change lowers a number and the run begins with that number.
use Rattle.std.proofs.Common.{◌≡◌, ℕ, zero, suc, ◌+◌, ◌≤◌, refl, ap, sym, ◌∙◌, Some, None, arith}
use Rattle.std.specs.declared.option.Option.{Option}
use Rattle.mp_jobs.specs.declared.node.Node.{Node}
use Rattle.mp_jobs.specs.Runs.{run_on, run}
use Rattle.mp_jobs.specs.Walks.{Rule, first_change}
use Rattle.mp_jobs.proofs.Chains.{Chain, rests, goes}

module _ {G : Type 0} (rule : Rule G) where
  pub is_chain : (k : ℕ) (n : Node G) → Chain rule n (run rule k n)
  is_chain zero n = rests n
  is_chain (suc k) n = by (first_change rule n) refl (is_chain k) where
    by : (o : Option (Node G)) → first_change rule n ≡ o → ((m : Node G) → Chain rule m (run rule k m)) → Chain rule n (run_on o (run rule k) n)
    by None e c = rests n
    by (Some m) e c = goes n m (run rule k m) e (c m)

  -- and a chain is a run
  pub is_run : (n m : Node G) → Chain rule n m → (k : ℕ) × (m ≡ run rule k n)
  is_run n m (rests _) = (0, refl)
  is_run n m (goes _ l _ e c) = let r = is_run l m c in (suc r.0, r.1 ∙ sym (ap (λ o. run_on o (run rule r.0) n) e))

module _ {G : Type 0} (rule : Rule G) (P : Node G → Type 0) (h : Node G → ℕ) (falls : (n m : Node G) → P n → first_change rule n ≡ Some m → P m × (h m + 1 ≤ h n)) where
  pub arrives : (n m : Node G) (k : ℕ) → Chain rule n m → first_change rule m ≡ None → P n → h n ≤ k → run rule k n ≡ m
  arrives n m zero (rests _) e p le = refl
  arrives n m (suc k) (rests _) e p le = ap (λ o. run_on o (run rule k) n) e
  arrives n m zero (goes _ x _ f c) e p le = absurd (let q : h x + 1 ≤ h n = (falls n x p f).1 in omega (arith, q, le))
  arrives n m (suc k) (goes _ x _ f c) e p le =
      let q = falls n x p f in
      let l : h x + 1 ≤ h n = q.1 in
      ap (λ o. run_on o (run rule k) n) f ∙ arrives x m k c e q.0 (omega (arith, l, le))

  pub ends : (k : ℕ) (n : Node G) → P n → h n ≤ k → first_change rule (run rule k n) ≡ None
  ends zero n p le = by (first_change rule n) refl where
    by : (o : Option (Node G)) → first_change rule n ≡ o → first_change rule n ≡ None
    by None e = e
    by (Some m) e = absurd (let q : h m + 1 ≤ h n = (falls n m p e).1 in omega (arith, q, le))
  ends (suc k) n p le = by (first_change rule n) refl (ends k) where
    by : (o : Option (Node G)) → first_change rule n ≡ o → ((m : Node G) → P m → h m ≤ k → first_change rule (run rule k m) ≡ None) → first_change rule (run_on o (run rule k) n) ≡ None
    by None e c = e
    by (Some m) e c = let q = falls n m p e in let l : h m + 1 ≤ h n = q.1 in c m q.0 (omega (arith, l, le))

-- Where each of several gives no more than the one in its place, what they give together is no more.
use Rattle.std.proofs.Common.{ℕ, ◌-◌, Bool, true, false, List, [], ◌∷◌, map, inl, inr}
use Rattle.std.specs.Prelude.{zip}
use Rattle.std.specs.List.{AllByRecursion, AllZip}
use Rattle.mp_logic.specs.declared.tree.Tree.{Tree}
use Rattle.mp_logic.specs.Trees.{LeafAt}
use Rattle.mp_strategy.specs.declared.outcome.Failure.{Failure}
use Rattle.mp_strategy.specs.declared.outcome.Outcome.{Outcome}
use Rattle.mp_strategy.specs.declared.outcome.Outcome.TheVariants as outcome
use Rattle.mp_strategy.specs.Strategies.{Given, Gives, EachTree, SomeFails, All, SomeGives, AllFail, RaceGives, ElseGives, Onward, OnLeaves, GoesOn, RepeatStep}

-- the second gives whatever the first gives
abbrev pub IsLess : {G : Type 0} → Given G → Given G → Type 0
IsLess {G} a b = (o : Outcome G) → a o → b o

module _ {X Z G : Type 0} (y : X → Given G) (y' : Z → Given G) where
  -- the one gives no more than the other
  abbrev pub Under : X → Z → Type 0
  Under x z = IsLess (y x) (y' z)

  pub each_tree : (xs : List X) (zs : List Z) (ts : List (Tree G)) → AllZip Under xs zs → EachTree y xs ts → EachTree y' zs ts
  each_tree [] [] [] p h = h
  each_tree [] [] (t ∷ ts) p h = h
  each_tree [] (z ∷ zs) ts p h = absurd p
  each_tree (x ∷ xs) [] ts p h = absurd p
  each_tree (x ∷ xs) (z ∷ zs) [] p h = h
  each_tree (x ∷ xs) (z ∷ zs) (t ∷ ts) p h = (p.0 (outcome.Tree t) h.0, each_tree xs zs ts p.1 h.1)

  pub some_fails : (xs : List X) (zs : List Z) (e : Failure G) → AllZip Under xs zs → SomeFails y xs e → SomeFails y' zs e
  some_fails [] zs e p h = absurd h
  some_fails (x ∷ xs) [] e p h = absurd p
  some_fails (x ∷ xs) (z ∷ zs) e p (inl h) = inl (p.0 (outcome.Failure e) h)
  some_fails (x ∷ xs) (z ∷ zs) e p (inr h) = inr (h.0, p.0 (outcome.Tree h.0) h.1, some_fails xs zs e p.1 h.2)

  pub all_less : (t : Tree G) (xs : List X) (zs : List Z) → AllZip Under xs zs → IsLess (All y t xs) (All y' t zs)
  all_less t xs zs p (outcome.Tree w) h = (h.0, each_tree xs zs h.0 p h.1, h.2)
  all_less t xs zs p (outcome.Failure e) h = some_fails xs zs e p h

  pub some_gives : (xs : List X) (zs : List Z) → AllZip Under xs zs → IsLess (SomeGives y xs) (SomeGives y' zs)
  some_gives [] zs p o h = absurd h
  some_gives (x ∷ xs) [] p o h = absurd p
  some_gives (x ∷ xs) (z ∷ zs) p o (inl h) = inl (p.0 o h)
  some_gives (x ∷ xs) (z ∷ zs) p o (inr h) = inr (some_gives xs zs p.1 o h)

  pub all_fail : (xs : List X) (zs : List Z) (e : Failure G) → AllZip Under xs zs → AllFail y xs e → AllFail y' zs e
  all_fail [] zs e p h = absurd h
  all_fail (x ∷ xs) [] e p h = absurd p
  all_fail (x ∷ []) (z ∷ []) e p h = p.0 (outcome.Failure e) h
  all_fail (x ∷ []) (z ∷ u ∷ zs) e p h = absurd p.1
  all_fail (x ∷ w ∷ xs) (z ∷ []) e p h = absurd p.1
  all_fail (x ∷ w ∷ xs) (z ∷ u ∷ zs) e p h = ((h.0.0, p.0 (outcome.Failure h.0.0) h.0.1), all_fail (w ∷ xs) (u ∷ zs) e p.1 h.1)

  pub race_less : (xs : List X) (zs : List Z) → AllZip Under xs zs → IsLess (RaceGives y xs) (RaceGives y' zs)
  race_less xs zs p (outcome.Tree t) h = some_gives xs zs p (outcome.Tree t) h
  race_less xs zs p (outcome.Failure e) h = all_fail xs zs e p h

pub pairs_same : {X : Type 0} (R : X → X → Type 0) (xs : List X) → AllByRecursion (λ x. R x x) xs → AllZip R xs xs
pairs_same R [] h = tt
pairs_same R (x ∷ xs) h = (h.0, pairs_same R xs h.1)

pub pairs_each : {X : Type 0} (R : X → X → Type 0) → ((x : X) → R x x) → (xs : List X) → AllZip R xs xs
pairs_each R h [] = tt
pairs_each R h (x ∷ xs) = (h x, pairs_each R h xs)

pub pairs_map : {X Z : Type 0} (R : Z → X → Type 0) (f : X → Z) → ((x : X) → R (f x) x) → (xs : List X) → AllZip R (map f xs) xs
pairs_map R f h [] = tt
pairs_map R f h (x ∷ xs) = (h x, pairs_map R f h xs)

pub pairs_zip : {A B : Type 0} (P : A → Type 0) (R : A × B → A × B → Type 0) → ((x : A × B) → P x.0 → R x x) → (ks : List A) (bs : List B) → AllByRecursion P ks → AllZip R (zip ks bs) (zip ks bs)
pairs_zip P R h [] bs a = tt
pairs_zip P R h (x ∷ xs) [] a = tt
pairs_zip P R h (x ∷ xs) (z ∷ zs) a = (h (x, z) a.0, pairs_zip P R h xs zs a.1)

pub less_same : {G : Type 0} (a : Given G) → IsLess a a
less_same a o h = h

pub else_less : {G : Type 0} (a b c d : Given G) → IsLess a b → IsLess c d → IsLess (ElseGives a c) (ElseGives b d)
else_less a b c d r s o (inl h) = inl (h.0, r (outcome.Tree h.0) h.1, h.2)
else_less a b c d r s o (inr h) = inr (h.0, r (outcome.Failure h.0) h.1, s o h.2)

pub onward_less : {G : Type 0} (a b : Given G) (p q : Tree G → Given G) → IsLess a b → ((t : Tree G) → IsLess (p t) (q t)) → IsLess (Onward a p) (Onward b q)
onward_less a b p q r s o (inl h) = inl (h.0, r (outcome.Failure h.0) h.1, h.2)
onward_less a b p q r s o (inr h) = inr (h.0, r (outcome.Tree h.0) h.1, s h.0 o h.2)

pub leaves_less : {G : Type 0} (a b : Gives G) → ((f : ℕ) (g : G) → IsLess (a f g) (b f g)) → (f : ℕ) (t : Tree G) → IsLess (OnLeaves a f t) (OnLeaves b f t)
leaves_less {G} a b h f t = all_less (λ (leaf : LeafAt G). a (f - leaf.depth) leaf.goal) (λ (leaf : LeafAt G). b (f - leaf.depth) leaf.goal) t _ _ (pairs_each _ (λ (leaf : LeafAt G). h (f - leaf.depth) leaf.goal) _)

pub goes_less : {G : Type 0} (c : Bool) (a b : Gives G) → ((f : ℕ) (g : G) → IsLess (a f g) (b f g)) → (f : ℕ) (g : G) (t : Tree G) → IsLess (GoesOn c a f g t) (GoesOn c b f g t)
goes_less true a b h f g t o x = x
goes_less false a b h f g t o x = leaves_less a b h f t o x

pub repeat_step_less : {G : Type 0} (c d : Given G) (a b : Gives G) → IsLess c d → ((f : ℕ) (g : G) → IsLess (a f g) (b f g)) → (f : ℕ) (g : G) → IsLess (RepeatStep c a f g) (RepeatStep d b f g)
repeat_step_less c d a b r s f g o (inl h) = inl (h.0, r (outcome.Failure h.0) h.1, h.2)
repeat_step_less c d a b r s f g o (inr h) = inr (h.0, r (outcome.Tree h.0) h.1, goes_less _ a b s f g h.0 o h.2)

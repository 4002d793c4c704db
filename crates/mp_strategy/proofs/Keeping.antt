-- What each row of the relation keeps: a fact of outcomes that leaves, failures and steps have, and that grafting keeps.
use Rattle.std.proofs.Common.{◌≡◌, ℕ, zero, suc, ◌+◌, ◌-◌, ◌==◌, inl, inr, Bool, true, false, if◌then◌else◌, List, [], ◌∷◌, length, zip, refl, sym, subst, ◌∙◌, arith}
use Rattle.std.proofs.lemmas.Bool.{eqb-true}
use Rattle.std.specs.List.{AllByRecursion}
use Rattle.std.specs.Prelude.{slice_get}
use Rattle.mp_logic.specs.declared.tree.Tree.{Tree, Leaf}
use Rattle.mp_logic.specs.declared.tree.JustId.{JustId}
use Rattle.mp_logic.specs.Meaning.{Meaning}
use Rattle.mp_logic.specs.Trees.{leaves_of, leaf_count_of, graft_of}
use Rattle.mp_strategy.specs.declared.tactic.Tac.{Tac}
use Rattle.mp_strategy.specs.declared.tactic.Tac.TheVariants as tac
use Rattle.mp_strategy.specs.declared.tactic.TacId.{TacId}
use Rattle.mp_strategy.specs.declared.outcome.Kind.{Kind}
use Rattle.mp_strategy.specs.declared.outcome.Kind.TheVariants as kind
use Rattle.mp_strategy.specs.declared.outcome.Failure.{Failure}
use Rattle.mp_strategy.specs.declared.outcome.Outcome.{Outcome}
use Rattle.mp_strategy.specs.declared.outcome.Outcome.TheVariants as outcome
use Rattle.mp_strategy.specs.Strategies.{Given, Gives, EachTree, SomeFails, OnLeaves, Onward, ElseGives, SomeGives, AllFail, RaceGives, GoesOn, RepeatStep, RepeatGives, Listed, is_leaf, as_many, only_leaf, progressed, completed, failure, left_of, step_with, Row, EvalsIn}
use Rattle.mp_strategy.proofs.LeafCounts.{leaf_count-leaves}

-- a fact of outcomes, by the fuel and the goal, and a fact of goals that it asks for
pub record IsKept {G J : Type 0} (m : Meaning G J) (justs : List J) (P : G → Type 0) (I : ℕ → G → Outcome G → Type 0) : Type 0 where
  pub leaf : (f : ℕ) (g : G) → P g → I f g (outcome.Tree (Leaf g))
  pub fails : (k : Kind) (here f : ℕ) (g : G) → P g → I f g (failure k here g)
  pub steps : (here : ℕ) (just : JustId) (f : ℕ) (g : G) → P g → I f g (step_with m justs here just f g)
  pub goals : (f : ℕ) (g : G) (t : Tree G) → I f g (outcome.Tree t) → AllByRecursion (λ leaf. P leaf.goal) (leaves_of t)
  pub grafts : (f : ℕ) (g : G) (t : Tree G) (ts : List (Tree G)) → I f g (outcome.Tree t) → EachTree (λ leaf. I (f - leaf.depth) leaf.goal) (leaves_of t) ts → I f g (outcome.Tree (graft_of t ts))
  pub passes : (f n : ℕ) (g h : G) (e : Failure G) → I n h (outcome.Failure e) → I f g (outcome.Failure e)

-- what holds of each outcome that is given holds of the trees
each_kept : {X G : Type 0} (gives others : X → Given G) (Q : X → Type 0) → ((x : X) (o : Outcome G) → Q x → gives x o → others x o) → (xs : List X) (ts : List (Tree G)) → AllByRecursion Q xs → EachTree gives xs ts → EachTree others xs ts
each_kept gives others Q h [] [] q a = tt
each_kept gives others Q h [] (t ∷ ts) q a = absurd a
each_kept gives others Q h (x ∷ xs) [] q a = absurd a
each_kept gives others Q h (x ∷ xs) (t ∷ ts) q a = (h x (outcome.Tree t) q.0 a.0, each_kept gives others Q h xs ts q.1 a.1)

-- a fact of the second parts of pairs, one for each of the second list
each_paired : {X Y G : Type 0} (gives : X × Y → Given G) (others : Y → Given G) (Q : Y → Type 0) → ((x : X) (y : Y) (o : Outcome G) → Q y → gives (x, y) o → others y o)
    → (xs : List X) (ys : List Y) (ts : List (Tree G)) → length xs ≡ length ys → AllByRecursion Q ys → EachTree gives (zip xs ys) ts → EachTree others ys ts
each_paired gives others Q h [] [] [] e q a = tt
each_paired gives others Q h [] [] (t ∷ ts) e q a = absurd a
each_paired gives others Q h [] (y ∷ ys) ts e q a = absurd (omega (arith, e))
each_paired gives others Q h (x ∷ xs) [] ts e q a = absurd (omega (arith, e))
each_paired gives others Q h (x ∷ xs) (y ∷ ys) [] e q a = absurd a
each_paired gives others Q h (x ∷ xs) (y ∷ ys) (t ∷ ts) e q a = (h x y (outcome.Tree t) q.0 a.0, each_paired gives others Q h xs ys ts (omega (arith, e)) q.1 a.1)

-- some item fails: what its outcome has, where each item has what is asked
some_fails : {X G : Type 0} (gives : X → Given G) (Q : X → Type 0) (R : Type 0) (e : Failure G) → ((x : X) → Q x → gives x (outcome.Failure e) → R) → (xs : List X) → AllByRecursion Q xs → SomeFails gives xs e → R
some_fails gives Q R e h [] q a = absurd a
some_fails gives Q R e h (x ∷ xs) q (inl a) = h x q.0 a
some_fails gives Q R e h (x ∷ xs) q (inr (t, a, b)) = some_fails gives Q R e h xs q.1 b

-- each pair of two lists has what each of the second list has
pub paired : {X Y : Type 0} (Q : Y → Type 0) (xs : List X) (ys : List Y) → AllByRecursion Q ys → AllByRecursion (λ (p : X × Y). Q p.1) (zip xs ys)
paired Q [] ys q = tt
paired Q (x ∷ xs) [] q = tt
paired Q (x ∷ xs) (y ∷ ys) q = (q.0, paired Q xs ys q.1)

pub same_number : {G : Type 0} (bs : List TacId) (t : Tree G) → as_many bs t ≡ true → length bs ≡ length (leaves_of t)
same_number bs t e = eqb-true (length bs) (leaf_count_of t) e ∙ sym (leaf_count-leaves t)

module _ {G J : Type 0} (m : Meaning G J) (justs : List J) (P : G → Type 0) (I : ℕ → G → Outcome G → Type 0) (kept : IsKept m justs P I) where
  -- from such a goal only such outcomes are given
  abbrev pub Keeps : Gives G → Type 0
  Keeps gives = (f : ℕ) (g : G) (o : Outcome G) → P g → gives f g o → I f g o

  leaves_kept : (gives : Gives G) → Keeps gives → (f : ℕ) (g : G) (t : Tree G) (o : Outcome G) → I f g (outcome.Tree t) → OnLeaves gives f t o → I f g o
  leaves_kept gives h f g t (outcome.Tree whole) is (ts, a, e) =
      subst (λ x. I f g (outcome.Tree x)) (sym e)
      (kept.grafts f g t ts is (each_kept (λ leaf. gives (f - leaf.depth) leaf.goal) (λ leaf. I (f - leaf.depth) leaf.goal) (λ leaf. P leaf.goal) (λ leaf o p k. h (f - leaf.depth) leaf.goal o p k) (leaves_of t) ts (kept.goals f g t is) a))
  leaves_kept gives h f g t (outcome.Failure e) is a =
      some_fails (λ leaf. gives (f - leaf.depth) leaf.goal) (λ leaf. P leaf.goal) (I f g (outcome.Failure e)) e
      (λ leaf p k. kept.passes f (f - leaf.depth) g leaf.goal e (h (f - leaf.depth) leaf.goal (outcome.Failure e) p k)) (leaves_of t) (kept.goals f g t is) a

  onward_kept : (f : ℕ) (g : G) (first : Given G) (On : Tree G → Given G) → ((o : Outcome G) → first o → I f g o) → ((t : Tree G) (o : Outcome G) → I f g (outcome.Tree t) → On t o → I f g o)
      → (o : Outcome G) → Onward first On o → I f g o
  onward_kept f g first On ha hb o (inl (e, h, is)) = subst (I f g) (sym is) (ha (outcome.Failure e) h)
  onward_kept f g first On ha hb o (inr (t, h, k)) = hb t o (ha (outcome.Tree t) h) k

  else_kept : (f : ℕ) (g : G) (first second : Given G) → ((o : Outcome G) → first o → I f g o) → ((o : Outcome G) → second o → I f g o) → (o : Outcome G) → ElseGives first second o → I f g o
  else_kept f g first second ha hb o (inl (t, h, is)) = subst (I f g) (sym is) (ha (outcome.Tree t) h)
  else_kept f g first second ha hb o (inr (e, h, k)) = hb o k

  module _ {X : Type 0} (f : ℕ) (g : G) (gives : X → Given G) (h : (x : X) (o : Outcome G) → gives x o → I f g o) where
    some_kept : (xs : List X) (o : Outcome G) → SomeGives gives xs o → I f g o
    some_kept [] o a = absurd a
    some_kept (x ∷ xs) o (inl a) = h x o a
    some_kept (x ∷ xs) o (inr a) = some_kept xs o a

    all_fail_kept : (xs : List X) (e : Failure G) → AllFail gives xs e → I f g (outcome.Failure e)
    all_fail_kept [] e a = absurd a
    all_fail_kept (x ∷ []) e a = h x (outcome.Failure e) a
    all_fail_kept (x ∷ y ∷ xs) e a = all_fail_kept (y ∷ xs) e a.1

    race_kept : (xs : List X) (o : Outcome G) → RaceGives gives xs o → I f g o
    race_kept xs (outcome.Tree t) a = some_kept xs (outcome.Tree t) a
    race_kept xs (outcome.Failure e) a = all_fail_kept xs e a

  goes_on_kept : (gives : Gives G) → Keeps gives → (b : Bool) (f : ℕ) (g : G) (t : Tree G) (o : Outcome G) → P g → I f g (outcome.Tree t) → GoesOn b gives f g t o → I f g o
  goes_on_kept gives h true f g t o p is e = subst (I f g) (sym e) (kept.leaf f g p)
  goes_on_kept gives h false f g t o p is a = leaves_kept gives h f g t o is a

  step_kept : (sub each : Gives G) → Keeps sub → Keeps each → (f : ℕ) (g : G) (o : Outcome G) → P g → RepeatStep (sub f g) each f g o → I f g o
  step_kept sub each ha hb f g o p (inl (e, h, is)) = subst (I f g) (sym is) (kept.leaf f g p)
  step_kept sub each ha hb f g o p (inr (t, h, k)) = goes_on_kept each hb (is_leaf t) f g t o p (ha f g (outcome.Tree t) p h) k

  repeat_kept : (sub : Gives G) → Keeps sub → (n : ℕ) → Keeps (RepeatGives sub n)
  repeat_kept sub h zero f g o p e = subst (I f g) (sym e) (kept.leaf f g p)
  repeat_kept sub h (suc n) f g o p a = step_kept sub (RepeatGives sub n) h (repeat_kept sub h n) f g o p a

  module _ (Part : ℕ → Gives G) (h : (c : ℕ) → Keeps (Part c)) where
    listed_kept : (here : ℕ) (bs : List TacId) (f : ℕ) (g : G) (t : Tree G) → P g → I f g (outcome.Tree t) → (b : Bool) → as_many bs t ≡ b → (o : Outcome G) → Listed b Part here bs f g t o → I f g o
    listed_kept here bs f g t p is true many (outcome.Tree whole) (ts, a, e) =
        subst (λ x. I f g (outcome.Tree x)) (sym e)
        (kept.grafts f g t ts is (each_paired (λ x. Part x.0.0 (f - x.1.depth) x.1.goal) (λ leaf. I (f - leaf.depth) leaf.goal) (λ leaf. P leaf.goal) (λ b leaf o q k. h b.0 (f - leaf.depth) leaf.goal o q k) bs (leaves_of t) ts
        (same_number bs t many) (kept.goals f g t is) a))
    listed_kept here bs f g t p is true many (outcome.Failure e) a =
        some_fails (λ x. Part x.0.0 (f - x.1.depth) x.1.goal) (λ x. P x.1.goal) (I f g (outcome.Failure e)) e
        (λ x q k. kept.passes f (f - x.1.depth) g x.1.goal e (h x.0.0 (f - x.1.depth) x.1.goal (outcome.Failure e) q k)) (zip bs (leaves_of t)) (paired (λ leaf. P leaf.goal) bs (leaves_of t) (kept.goals f g t is)) a
    listed_kept here bs f g t p is false many o e = subst (I f g) (sym e) (kept.fails kind.WrongCount here f g p)

    progressed_kept : (here f : ℕ) (g : G) (t : Tree G) → P g → I f g (outcome.Tree t) → (b : Bool) → I f g (if b then failure kind.NoProgress here g else outcome.Tree t)
    progressed_kept here f g t p is true = kept.fails kind.NoProgress here f g p
    progressed_kept here f g t p is false = is

    completed_kept : (here f : ℕ) (g : G) (t : Tree G) → P g → I f g (outcome.Tree t) → (b : Bool) → I f g (if b then outcome.Tree t else failure kind.Incomplete here g)
    completed_kept here f g t p is true = is
    completed_kept here f g t p is false = kept.fails kind.Incomplete here f g p

    row_kept : (t : Tac) (here left : ℕ) → Keeps (Row m justs t here Part left)
    row_kept tac.Id here left f g o p e = subst (I f g) (sym e) (kept.leaf f g p)
    row_kept tac.Fail here left f g o p e = subst (I f g) (sym e) (kept.fails kind.Failed here f g p)
    row_kept (tac.Step j) here left f g o p e = subst (I f g) (sym e) (kept.steps here j f g p)
    row_kept (tac.Then a b) here left f g o p k = onward_kept f g (Part a.0 f g) (OnLeaves (Part b.0) f) (λ o k. h a.0 f g o p k) (λ t o is k. leaves_kept (Part b.0) (h b.0) f g t o is k) o k
    row_kept (tac.ThenL a bs) here left f g o p k =
        onward_kept f g (Part a.0 f g) (λ t. Listed (as_many bs t) Part here bs f g t) (λ o k. h a.0 f g o p k) (λ t o is k. listed_kept here bs f g t p is (as_many bs t) refl o k) o k
    row_kept (tac.Else a b) here left f g o p k = else_kept f g (Part a.0 f g) (Part b.0 f g) (λ o k. h a.0 f g o p k) (λ o k. h b.0 f g o p k) o k
    row_kept (tac.Race bs) here left f g o p k = race_kept f g (λ (b : TacId). Part b.0 f g) (λ b o k. h b.0 f g o p k) bs o k
    row_kept (tac.Repeat n a) here left f g o p k = repeat_kept (Part a.0) (h a.0) left f g o p k
    row_kept (tac.Progress a) here left f g o p k =
        onward_kept f g (Part a.0 f g) (λ t q. q ≡ progressed m here g t) (λ o k. h a.0 f g o p k) (λ t o is e. subst (I f g) (sym e) (progressed_kept here f g t p is (only_leaf m.same (leaves_of t) g))) o k
    row_kept (tac.Complete a) here left f g o p k =
        onward_kept f g (Part a.0 f g) (λ t q. q ≡ completed here g t) (λ o k. h a.0 f g o p k) (λ t o is e. subst (I f g) (sym e) (completed_kept here f g t p is (leaf_count_of t == 0))) o k

  pub kept_in : (here : ℕ) (ts : List Tac) (at left : ℕ) → Keeps (EvalsIn m justs here ts at left)
  kept_in here [] at left f g o p k = absurd k
  kept_in here (t ∷ ts) zero left f g o p k =
      row_kept
      (λ c. EvalsIn m justs (here + 1) ts (c - (here + 1)) (left_of (slice_get ts (c - (here + 1)))))
      (λ c. kept_in (here + 1) ts (c - (here + 1)) (left_of (slice_get ts (c - (here + 1))))) t here left f g o p k
  kept_in here (t ∷ ts) (suc at) left f g o p k = kept_in (here + 1) ts at left f g o p k

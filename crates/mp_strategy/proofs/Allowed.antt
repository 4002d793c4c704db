-- Evaluation gives what the relation allows.
use Rattle.std.proofs.Common.{◌≡◌, ℕ, zero, suc, ◌+◌, ◌-◌, ◌<◌, inl, inr, Bool, true, false, List, [], ◌∷◌, length, zip, nat_lt, nat_le, Ok, Err, refl, arith}
use Rattle.std.proofs.lemmas.Bool.{and_parts}
use Rattle.std.specs.List.{AllByRecursion}
use Rattle.std.specs.Prelude.{slice_get}
use Rattle.mp_logic.specs.declared.tree.Tree.{Tree}
use Rattle.mp_logic.specs.Meaning.{Meaning}
use Rattle.mp_logic.specs.Trees.{leaves_of}
use Rattle.mp_strategy.specs.declared.tactic.Tac.{Tac}
use Rattle.mp_strategy.specs.declared.tactic.Tac.TheVariants as tac
use Rattle.mp_strategy.specs.declared.tactic.TacId.{TacId}
use Rattle.mp_strategy.specs.declared.outcome.Kind.TheVariants as kind
use Rattle.mp_strategy.specs.declared.outcome.Outcome.{Outcome}
use Rattle.mp_strategy.specs.declared.outcome.Outcome.TheVariants as outcome
use Rattle.mp_strategy.specs.declared.problem.ProblemState.{ProblemState}
use Rattle.mp_strategy.specs.Fits.{places, parts_of, counts_fit, rows_fit}
use Rattle.mp_strategy.specs.Laws.{EvalIsAllowed}
use Rattle.mp_strategy.specs.Problems.{IsProblem}
use Rattle.mp_strategy.specs.Strategies.{Given, Gives, All, EachTree, SomeFails, OnLeaves, Onward, ElseGives, RaceGives, GoesOn, RepeatStep, RepeatGives, Listed, is_leaf, as_many, failure, progressed, completed, left_of, Row, EvalsIn}
use Rattle.mp_strategy.specs.Evaluation.{Evaluator, Trees, with_first, all_of, grafted, on_leaves, onward, else_of, race_of, goes_on, repeat_after, repeat_of, one_each, row_of, eval_in}
use Rattle.mp_strategy.proofs.Unfolds.{IsBehind, is_later, is_within, parts_first, counts_first, rows_later, rows_of}

-- an evaluator's outcomes are allowed
abbrev pub Allows : {G : Type 0} → Gives G → Evaluator G → Type 0
Allows {G} gives each = (f : ℕ) (g : G) → gives f g (each f g)

pub all_of_any : {X : Type 0} (P : X → Type 0) → ((x : X) → P x) → (xs : List X) → AllByRecursion P xs
all_of_any P h [] = tt
all_of_any P h (x ∷ xs) = (h x, all_of_any P h xs)

module _ {X G : Type 0} (gives : X → Given G) (each : X → Outcome G) where
  -- what all items give
  abbrev Told : List X → Trees G → Type 0
  Told xs (Ok ts) = EachTree gives xs ts
  Told xs (Err e) = SomeFails gives xs e

  told_first : (x : X) (xs : List X) (o : Outcome G) (r : Trees G) → gives x o → Told xs r → Told (x ∷ xs) (with_first o r)
  told_first x xs (outcome.Failure e) r h k = inl h
  told_first x xs (outcome.Tree t) (Ok ts) h k = (h, k)
  told_first x xs (outcome.Tree t) (Err e) h k = inr (t, h, k)

  told_all : (xs : List X) → AllByRecursion (λ x. gives x (each x)) xs → Told xs (all_of each xs)
  told_all [] h = tt
  told_all (x ∷ xs) h = told_first x xs (each x) (all_of each xs) h.0 (told_all xs h.1)

  all_told : (t : Tree G) (xs : List X) (r : Trees G) → Told xs r → All gives t xs (grafted t r)
  all_told t xs (Ok ts) h = (ts, h, refl)
  all_told t xs (Err e) h = h

  pub all_allowed : (t : Tree G) (xs : List X) → AllByRecursion (λ x. gives x (each x)) xs → All gives t xs (grafted t (all_of each xs))
  all_allowed t xs h = all_told t xs (all_of each xs) (told_all xs h)

pub leaves_allowed : {G : Type 0} (gives : Gives G) (each : Evaluator G) → Allows gives each → (f : ℕ) (t : Tree G) → OnLeaves gives f t (on_leaves each f t)
leaves_allowed gives each h f t =
    all_allowed (λ leaf. gives (f - leaf.depth) leaf.goal) (λ leaf. each (f - leaf.depth) leaf.goal) t (leaves_of t) (all_of_any _ (λ leaf. h (f - leaf.depth) leaf.goal) (leaves_of t))

onward_allowed : {G : Type 0} (first : Given G) (On : Tree G → Given G) (on : Tree G → Outcome G) → ((t : Tree G) → On t (on t)) → (o : Outcome G) → first o → Onward first On (onward o on)
onward_allowed first On on h (outcome.Failure e) k = inl (e, k, refl)
onward_allowed first On on h (outcome.Tree t) k = inr (t, k, h t)

else_allowed : {G : Type 0} (first second : Given G) (p : Outcome G) → second p → (o : Outcome G) → first o → ElseGives first second (else_of o p)
else_allowed first second p h (outcome.Tree t) k = inl (t, k, refl)
else_allowed first second p h (outcome.Failure e) k = inr (e, k, h)

module _ {X G : Type 0} (gives : X → Given G) (each : X → Outcome G) (none : Outcome G) where
  race_first : (x y : X) (xs : List X) (o p : Outcome G) → gives x o → RaceGives gives (y ∷ xs) p → RaceGives gives (x ∷ y ∷ xs) (else_of o p)
  race_first x y xs (outcome.Tree t) p h k = inl h
  race_first x y xs (outcome.Failure e) (outcome.Tree t) h k = inr k
  race_first x y xs (outcome.Failure e) (outcome.Failure d) h k = ((e, h), k)

  race_one : (x : X) (o : Outcome G) → gives x o → RaceGives gives (x ∷ []) o
  race_one x (outcome.Tree t) h = inl h
  race_one x (outcome.Failure e) h = h

  race_from : (x : X) (xs : List X) → AllByRecursion (λ x. gives x (each x)) (x ∷ xs) → RaceGives gives (x ∷ xs) (race_of each none (x ∷ xs))
  race_from x [] h = race_one x (each x) h.0
  race_from x (y ∷ xs) h = race_first x y xs (each x) (race_of each none (y ∷ xs)) h.0 (race_from y xs h.1)

  race_allowed : (xs : List X) → nat_lt 0 (length xs) ≡ true → AllByRecursion (λ x. gives x (each x)) xs → RaceGives gives xs (race_of each none xs)
  race_allowed [] some h = absurd cc
  race_allowed (x ∷ xs) some h = race_from x xs h

module _ {G : Type 0} (Sub : Gives G) (sub : Evaluator G) (h : Allows Sub sub) where
  goes_on_allowed : (Each : Gives G) (each : Evaluator G) → Allows Each each → (leaf : Bool) (f : ℕ) (g : G) (t : Tree G) → GoesOn leaf Each f g t (goes_on leaf each f g t)
  goes_on_allowed Each each k true f g t = refl
  goes_on_allowed Each each k false f g t = leaves_allowed Each each k f t

  step_allowed : (Each : Gives G) (each : Evaluator G) → Allows Each each → (f : ℕ) (g : G) (o : Outcome G) → Sub f g o → RepeatStep (Sub f g) Each f g (repeat_after o each f g)
  step_allowed Each each k f g (outcome.Failure e) a = inl (e, a, refl)
  step_allowed Each each k f g (outcome.Tree t) a = inr (t, a, goes_on_allowed Each each k (is_leaf t) f g t)

  repeat_allowed : (n : ℕ) → Allows (RepeatGives Sub n) (repeat_of sub n)
  repeat_allowed zero f g = refl
  repeat_allowed (suc n) f g = step_allowed (RepeatGives Sub n) (repeat_of sub n) (repeat_allowed n) f g (sub f g) (h f g)

-- what each strategy of a list has, each pair of it and another list has
pub each_pair : {Y : Type 0} (ok : ℕ → Type 0) (Q : TacId × Y → Type 0) → ((b : TacId) (y : Y) → ok b.0 → Q (b, y)) → (bs : List TacId) (ys : List Y) → AllByRecursion ok (places bs) → AllByRecursion Q (zip bs ys)
each_pair ok Q h [] ys a = tt
each_pair ok Q h (b ∷ bs) [] a = tt
each_pair ok Q h (b ∷ bs) (y ∷ ys) a = (h b y a.0, each_pair ok Q h bs ys a.1)

pub each_place : (ok : ℕ → Type 0) (Q : TacId → Type 0) → ((b : TacId) → ok b.0 → Q b) → (bs : List TacId) → AllByRecursion ok (places bs) → AllByRecursion Q bs
each_place ok Q h [] a = tt
each_place ok Q h (b ∷ bs) a = (h b a.0, each_place ok Q h bs a.1)

module _ {G J : Type 0} (m : Meaning G J) (justs : List J) where
  listed_allowed : (ok : ℕ → Type 0) (Part : ℕ → Gives G) (part : ℕ → Evaluator G) → ((c : ℕ) → ok c → Allows (Part c) (part c)) → (here : ℕ) (bs : List TacId) → AllByRecursion ok (places bs) → (f : ℕ) (g : G) (t : Tree G) (b : Bool)
      → Listed b Part here bs f g t (one_each b part here bs f g t)
  listed_allowed ok Part part h here bs parts f g t true =
      all_allowed (λ x. Part x.0.0 (f - x.1.depth) x.1.goal) (λ x. part x.0.0 (f - x.1.depth) x.1.goal) t (zip bs (leaves_of t)) (each_pair ok _ (λ b leaf k. h b.0 k (f - leaf.depth) leaf.goal) bs (leaves_of t) parts)
  listed_allowed ok Part part h here bs parts f g t false = refl

  row_allowed : (ok : ℕ → Type 0) (Part : ℕ → Gives G) (part : ℕ → Evaluator G) → ((c : ℕ) → ok c → Allows (Part c) (part c)) → (t : Tac) (here left : ℕ) → AllByRecursion ok (parts_of t) → counts_fit t ≡ true
      → Allows (Row m justs t here Part left) (row_of m justs t here part left)
  row_allowed ok Part part h tac.Id here left parts counts f g = refl
  row_allowed ok Part part h tac.Fail here left parts counts f g = refl
  row_allowed ok Part part h (tac.Step j) here left parts counts f g = refl
  row_allowed ok Part part h (tac.Then a b) here left parts counts f g =
      onward_allowed (Part a.0 f g) (OnLeaves (Part b.0) f) (on_leaves (part b.0) f) (leaves_allowed (Part b.0) (part b.0) (h b.0 parts.1.0) f) (part a.0 f g) (h a.0 parts.0 f g)
  row_allowed ok Part part h (tac.ThenL a bs) here left parts counts f g =
      onward_allowed (Part a.0 f g) (λ t. Listed (as_many bs t) Part here bs f g t) (λ t. one_each (as_many bs t) part here bs f g t) (λ t. listed_allowed ok Part part h here bs parts.1 f g t (as_many bs t)) (part a.0 f g) (h a.0 parts.0 f g)
  row_allowed ok Part part h (tac.Else a b) here left parts counts f g = else_allowed (Part a.0 f g) (Part b.0 f g) (part b.0 f g) (h b.0 parts.1.0 f g) (part a.0 f g) (h a.0 parts.0 f g)
  row_allowed ok Part part h (tac.Race bs) here left parts counts f g =
      race_allowed (λ (b : TacId). Part b.0 f g) (λ (b : TacId). part b.0 f g) (failure kind.Failed here g) bs (and_parts (nat_lt 0 (length bs)) (nat_le (length bs) 8) counts).0 (each_place ok _ (λ b k. h b.0 k f g) bs parts)
  row_allowed ok Part part h (tac.Repeat n a) here left parts counts f g = repeat_allowed (Part a.0) (part a.0) (h a.0 parts.0) left f g
  row_allowed ok Part part h (tac.Progress a) here left parts counts f g = onward_allowed (Part a.0 f g) (λ t p. p ≡ progressed m here g t) (progressed m here g) (λ t. refl) (part a.0 f g) (h a.0 parts.0 f g)
  row_allowed ok Part part h (tac.Complete a) here left parts counts f g = onward_allowed (Part a.0 f g) (λ t p. p ≡ completed here g t) (completed here g) (λ t. refl) (part a.0 f g) (h a.0 parts.0 f g)

  pub evals_in : (count here : ℕ) (ts : List Tac) (at left : ℕ) → rows_fit count here ts ≡ true → at < length ts → Allows (EvalsIn m justs here ts at left) (eval_in m justs here ts at left)
  evals_in count here [] at left fits lt f g = absurd (omega arith)
  evals_in count here (t ∷ ts) zero left fits lt f g =
      row_allowed (IsBehind here (here + 1 + length ts))
      (λ c. EvalsIn m justs (here + 1) ts (c - (here + 1)) (left_of (slice_get ts (c - (here + 1)))))
      (λ c. eval_in m justs (here + 1) ts (c - (here + 1)) (left_of (slice_get ts (c - (here + 1)))))
      (λ c k. evals_in count (here + 1) ts (c - (here + 1)) (left_of (slice_get ts (c - (here + 1)))) (rows_later count here t ts fits)
      (let behind : here < c = is_later here (here + 1 + length ts) c k in let within : c < here + 1 + length ts = is_within here (here + 1 + length ts) c k in omega (arith, behind, within)))
      t here left (parts_first count here t ts fits) (counts_first count here t ts fits) f g
  evals_in count here (t ∷ ts) (suc at) left fits lt f g = evals_in count (here + 1) ts at left (rows_later count here t ts fits) (omega arith) f g

pub eval_allowed : {L G J : Type 0} (meaning : L → Meaning G J) (p : ProblemState L J) → IsProblem meaning p → EvalIsAllowed meaning p
eval_allowed meaning p is work lt = evals_in (meaning p.logic) p.justs (length p.justs) 0 p.tacs work.tac.0 work.left (rows_of (length p.justs) p.tacs is.fits) lt work.fuel work.goal

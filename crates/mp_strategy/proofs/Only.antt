-- The relation allows only what evaluation gives.
use Rattle.std.proofs.Common.{◌≡◌, ℕ, zero, suc, ◌+◌, ◌-◌, inl, inr, Bool, true, false, not, List, [], ◌∷◌, zip, Ok, Err, refl, sym, ap, ◌∙◌}
use Rattle.std.proofs.lemmas.Bool.{and_parts}
use Rattle.std.specs.List.{AllByRecursion, list_all}
use Rattle.std.specs.Prelude.{slice_get}
use Rattle.mp_logic.specs.declared.tree.Tree.{Tree}
use Rattle.mp_logic.specs.Meaning.{Meaning}
use Rattle.mp_logic.specs.Trees.{leaves_of}
use Rattle.mp_strategy.specs.declared.tactic.Tac.{Tac}
use Rattle.mp_strategy.specs.declared.tactic.Tac.TheVariants as tac
use Rattle.mp_strategy.specs.declared.tactic.TacId.{TacId}
use Rattle.mp_strategy.specs.declared.outcome.Failure.{Failure}
use Rattle.mp_strategy.specs.declared.outcome.Outcome.{Outcome}
use Rattle.mp_strategy.specs.declared.outcome.Outcome.TheVariants as outcome
use Rattle.mp_strategy.specs.Fits.{places, parts_of, is_race, no_race_in}
use Rattle.mp_strategy.specs.Strategies.{Given, Gives, All, EachTree, SomeFails, OnLeaves, Onward, ElseGives, GoesOn, RepeatStep, RepeatGives, Listed, is_leaf, as_many, progressed, completed, left_of, Row, EvalsIn}
use Rattle.mp_strategy.specs.Evaluation.{Evaluator, with_first, all_of, grafted, on_leaves, onward, else_of, goes_on, repeat_after, repeat_of, one_each, row_of, eval_in}
use Rattle.mp_strategy.proofs.Allowed.{all_of_any, each_pair}
use Rattle.mp_strategy.proofs.Unfolds.{each_part}

-- no outcome is given but this one
abbrev pub Is : {G : Type 0} → Given G → Outcome G → Type 0
Is {G} gives o = (p : Outcome G) → gives p → p ≡ o

-- no outcome is allowed but the evaluator's
abbrev pub Only : {G : Type 0} → Gives G → Evaluator G → Type 0
Only {G} gives each = (f : ℕ) (g : G) → Is (gives f g) (each f g)

module _ {X G : Type 0} (gives : X → Given G) (each : X → Outcome G) where
  only_trees : (xs : List X) (ts : List (Tree G)) → AllByRecursion (λ x. Is (gives x) (each x)) xs → EachTree gives xs ts → all_of each xs ≡ Ok ts
  only_trees [] [] only h = refl
  only_trees [] (t ∷ ts) only h = absurd h
  only_trees (x ∷ xs) [] only h = absurd h
  only_trees (x ∷ xs) (t ∷ ts) only h =
      ap (λ o. with_first o (all_of each xs)) (sym (only.0 (outcome.Tree t) h.0)) ∙ ap (with_first (outcome.Tree t)) (only_trees xs ts only.1 h.1)

  only_fails : (xs : List X) (e : Failure G) → AllByRecursion (λ x. Is (gives x) (each x)) xs → SomeFails gives xs e → all_of each xs ≡ Err e
  only_fails [] e only h = absurd h
  only_fails (x ∷ xs) e only (inl h) = ap (λ o. with_first o (all_of each xs)) (sym (only.0 (outcome.Failure e) h))
  only_fails (x ∷ xs) e only (inr (t, h, k)) =
      ap (λ o. with_first o (all_of each xs)) (sym (only.0 (outcome.Tree t) h)) ∙ ap (with_first (outcome.Tree t)) (only_fails xs e only.1 k)

  pub only_all : (t : Tree G) (xs : List X) → AllByRecursion (λ x. Is (gives x) (each x)) xs → Is (All gives t xs) (grafted t (all_of each xs))
  only_all t xs only (outcome.Tree whole) (ts, h, e) = ap outcome.Tree e ∙ sym (ap (grafted t) (only_trees xs ts only h))
  only_all t xs only (outcome.Failure e) h = sym (ap (grafted t) (only_fails xs e only h))

pub only_leaves : {G : Type 0} (gives : Gives G) (each : Evaluator G) → Only gives each → (f : ℕ) (t : Tree G) → Is (OnLeaves gives f t) (on_leaves each f t)
only_leaves gives each only f t =
    only_all (λ leaf. gives (f - leaf.depth) leaf.goal) (λ leaf. each (f - leaf.depth) leaf.goal) t (leaves_of t) (all_of_any _ (λ leaf. only (f - leaf.depth) leaf.goal) (leaves_of t))

only_onward : {G : Type 0} (first : Given G) (On : Tree G → Given G) (on : Tree G → Outcome G) → ((t : Tree G) → Is (On t) (on t)) → (o : Outcome G) → Is first o → Is (Onward first On) (onward o on)
only_onward first On on h o only p (inl (e, k, is)) = is ∙ ap (λ x. onward x on) (only (outcome.Failure e) k)
only_onward first On on h o only p (inr (t, k, r)) = h t p r ∙ ap (λ x. onward x on) (only (outcome.Tree t) k)

only_else : {G : Type 0} (first second : Given G) (o p : Outcome G) → Is first o → Is second p → Is (ElseGives first second) (else_of o p)
only_else first second o p ha hb q (inl (t, k, is)) = is ∙ ap (λ x. else_of x p) (ha (outcome.Tree t) k)
only_else first second o p ha hb q (inr (e, k, r)) = hb q r ∙ ap (λ x. else_of x p) (ha (outcome.Failure e) k)

module _ {G : Type 0} (Sub : Gives G) (sub : Evaluator G) (h : Only Sub sub) where
  only_goes_on : (Each : Gives G) (each : Evaluator G) → Only Each each → (leaf : Bool) (f : ℕ) (g : G) (t : Tree G) → Is (GoesOn leaf Each f g t) (goes_on leaf each f g t)
  only_goes_on Each each k true f g t p e = e
  only_goes_on Each each k false f g t p e = only_leaves Each each k f t p e

  only_step : (Each : Gives G) (each : Evaluator G) → Only Each each → (f : ℕ) (g : G) → Is (RepeatStep (Sub f g) Each f g) (repeat_after (sub f g) each f g)
  only_step Each each k f g p (inl (e, a, is)) = is ∙ ap (λ x. repeat_after x each f g) (h f g (outcome.Failure e) a)
  only_step Each each k f g p (inr (t, a, r)) = only_goes_on Each each k (is_leaf t) f g t p r ∙ ap (λ x. repeat_after x each f g) (h f g (outcome.Tree t) a)

  only_repeat : (n : ℕ) → Only (RepeatGives Sub n) (repeat_of sub n)
  only_repeat zero f g p e = e
  only_repeat (suc n) f g p e = only_step (RepeatGives Sub n) (repeat_of sub n) (only_repeat n) f g p e

module _ {G J : Type 0} (m : Meaning G J) (justs : List J) where
  only_listed : (ok : ℕ → Type 0) (Part : ℕ → Gives G) (part : ℕ → Evaluator G) → ((c : ℕ) → ok c → Only (Part c) (part c)) → (here : ℕ) (bs : List TacId) → AllByRecursion ok (places bs) → (f : ℕ) (g : G) (t : Tree G) (b : Bool)
      → Is (Listed b Part here bs f g t) (one_each b part here bs f g t)
  only_listed ok Part part h here bs parts f g t true =
      only_all (λ x. Part x.0.0 (f - x.1.depth) x.1.goal) (λ x. part x.0.0 (f - x.1.depth) x.1.goal) t (zip bs (leaves_of t)) (each_pair ok _ (λ b leaf k. h b.0 k (f - leaf.depth) leaf.goal) bs (leaves_of t) parts)
  only_listed ok Part part h here bs parts f g t false = λ p e. e

  only_row : (ok : ℕ → Type 0) (Part : ℕ → Gives G) (part : ℕ → Evaluator G) → ((c : ℕ) → ok c → Only (Part c) (part c)) → (t : Tac) (here left : ℕ) → is_race t ≡ false → AllByRecursion ok (parts_of t)
      → Only (Row m justs t here Part left) (row_of m justs t here part left)
  only_row ok Part part h tac.Id here left race parts f g o e = e
  only_row ok Part part h tac.Fail here left race parts f g o e = e
  only_row ok Part part h (tac.Step j) here left race parts f g o e = e
  only_row ok Part part h (tac.Then a b) here left race parts f g o e =
      only_onward (Part a.0 f g) (OnLeaves (Part b.0) f) (on_leaves (part b.0) f) (only_leaves (Part b.0) (part b.0) (h b.0 parts.1.0) f) (part a.0 f g) (h a.0 parts.0 f g) o e
  only_row ok Part part h (tac.ThenL a bs) here left race parts f g o e =
      only_onward (Part a.0 f g) (λ t. Listed (as_many bs t) Part here bs f g t) (λ t. one_each (as_many bs t) part here bs f g t) (λ t. only_listed ok Part part h here bs parts.1 f g t (as_many bs t)) (part a.0 f g) (h a.0 parts.0 f g) o e
  only_row ok Part part h (tac.Else a b) here left race parts f g o e = only_else (Part a.0 f g) (Part b.0 f g) (part a.0 f g) (part b.0 f g) (h a.0 parts.0 f g) (h b.0 parts.1.0 f g) o e
  only_row ok Part part h (tac.Race bs) here left race parts f g o e = absurd cc
  only_row ok Part part h (tac.Repeat n a) here left race parts f g o e = only_repeat (Part a.0) (part a.0) (h a.0 parts.0) left f g o e
  only_row ok Part part h (tac.Progress a) here left race parts f g o e =
      only_onward (Part a.0 f g) (λ t p. p ≡ progressed m here g t) (progressed m here g) (λ t p is. is) (part a.0 f g) (h a.0 parts.0 f g) o e
  only_row ok Part part h (tac.Complete a) here left race parts f g o e =
      only_onward (Part a.0 f g) (λ t p. p ≡ completed here g t) (completed here g) (λ t p is. is) (part a.0 f g) (h a.0 parts.0 f g) o e

  -- no race can be reached from an entry
  abbrev Clear : ℕ → List Tac → ℕ → Type 0
  Clear here ts at = no_race_in here ts at ≡ true

  not_race : (b : Bool) → not b ≡ true → b ≡ false
  not_race true e = absurd cc
  not_race false e = refl

  pub only_in : (here : ℕ) (ts : List Tac) (at left : ℕ) → Clear here ts at → Only (EvalsIn m justs here ts at left) (eval_in m justs here ts at left)
  only_in here [] at left clear f g o h = absurd h
  only_in here (t ∷ ts) zero left clear f g o h =
      let both = and_parts (not (is_race t)) (list_all (λ c. no_race_in (here + 1) ts (c - (here + 1))) (parts_of t)) clear in
      only_row (λ c. Clear (here + 1) ts (c - (here + 1)))
      (λ c. EvalsIn m justs (here + 1) ts (c - (here + 1)) (left_of (slice_get ts (c - (here + 1)))))
      (λ c. eval_in m justs (here + 1) ts (c - (here + 1)) (left_of (slice_get ts (c - (here + 1)))))
      (λ c k. only_in (here + 1) ts (c - (here + 1)) (left_of (slice_get ts (c - (here + 1)))) k) t here left
      (not_race (is_race t) both.0) (each_part (λ c. no_race_in (here + 1) ts (c - (here + 1))) (parts_of t) both.1) f g o h
  only_in here (t ∷ ts) (suc at) left clear f g o h = only_in (here + 1) ts at left clear f g o h

-- How a strategy ends, by how its parts do.
use Rattle.std.proofs.Common.{◌≡◌, ℕ, ◌<◌, true, List, length, Result, Ok, Err, Option, refl, sym, ap, subst, ◌∙◌}
use Rattle.std.specs.List.{AllByRecursion}
use Rattle.std.specs.Prelude.{IfOk, IsTrue}
use Rattle.mp_logic.specs.declared.tree.Tree.{Tree, Leaf, Step}
use Rattle.mp_logic.specs.declared.tree.JustId.{JustId}
use Rattle.mp_logic.specs.Meaning.{Meaning, IsLogic}
use Rattle.mp_logic.specs.Trees.{goal_at, root_of}
use Rattle.mp_logic.specs.Valid.{EachGoal}
use Rattle.mp_logic.proofs.TreeInduction.{tree_ind}
use Rattle.mp_strategy.specs.declared.tactic.Tac.{Tac}
use Rattle.mp_strategy.specs.declared.tactic.TacId.{TacId}
use Rattle.mp_strategy.specs.declared.outcome.Kind.{Kind}
use Rattle.mp_strategy.specs.declared.outcome.Outcome.{Outcome}
use Rattle.mp_strategy.specs.declared.outcome.Outcome.TheVariants as outcome
use Rattle.mp_strategy.specs.declared.problem.ProblemState.{ProblemState}
use Rattle.mp_strategy.specs.Laws.{IsGood, IsSoundFor}
use Rattle.mp_strategy.specs.Problems.{IsProblem}
use Rattle.mp_strategy.specs.Strategies.{EvalsIn, is_leaf, is_leaf_at}
use Rattle.mp_strategy.specs.Evaluation.{Evaluator, onward, else_of, row_of, entry_eval, part_of}
use Rattle.mp_strategy.proofs.Allowed.{evals_in}
use Rattle.mp_strategy.proofs.Inner.{in_good}
use Rattle.mp_strategy.proofs.Sound.{sound_in}
use Rattle.mp_strategy.proofs.Steps.{leaf_here, every_kid, root-Leaf}
use Rattle.mp_strategy.proofs.Unfolds.{rows_of}
use Rattle.mp_logic.specs.declared.tree.Tree.TheVariants.{outs-Step}
use Rattle.mp_eval.specs.declared.ended.Ended.{Ended}
use Rattle.mp_eval.specs.declared.ended.Ended.TheVariants as ended
use Rattle.mp_eval.specs.declared.queue.Queue.{Queue}
use Rattle.mp_eval.specs.Ends.{Ends, IsFor}
use Rattle.mp_eval.specs.Queues.{Passes, after}

pub ok_by : {A E : Type 0} (P Q : A → Type 0) (r : Result A E) → ((a : A) → P a → Q a) → IfOk r P → IfOk r Q
ok_by P Q (Ok a) f h = f a h
ok_by P Q (Err e) f h = tt

module _ {G : Type 0} where
  pub ends_moved : (o p : Outcome G) (g h : G) (e : Ended G) → o ≡ p → g ≡ h → Ends o g e → Ends p h e
  ends_moved o p g h (ended.Tree t) same root k = sym same ∙ k
  ends_moved o p g h (ended.Failed kind tac given other) same root k = (k.0 ∙ root, sym same ∙ k.1)

  -- the same outcome and the same goal, in other words
  pub ends_at : {E : Type 0} (r : Result (Ended G) E) (o p : Outcome G) (g h : G) → o ≡ p → g ≡ h → IfOk r (Ends o g) → IfOk r (Ends p h)
  ends_at (Ok e) o p g h same root k = ends_moved o p g h e same root k
  ends_at (Err m) o p g h same root k = tt

  -- the first part fails
  pub first_fails : (o : Outcome G) (on : Tree G → Outcome G) (g : G) (e : Ended G) (kind : Kind) (tac : TacId) (given : G) (other : Option G) → e ≡ ended.Failed kind tac given other → Ends o g e
      → Ends (onward o on) g (ended.Failed kind tac given other)
  first_fails o on g e kind tac given other is k = let h = subst (Ends o g) is k in (h.0, ap (λ x. onward x on) h.1)

  -- the first part gives a tree
  pub first_goes : (o : Outcome G) (on : Tree G → Outcome G) (g : G) (e : Ended G) (t : Tree G) → e ≡ ended.Tree t → Ends o g e → onward o on ≡ on t
  first_goes o on g e t is k = ap (λ x. onward x on) (subst (Ends o g) is k)

  pub else_goes : (o p : Outcome G) (g : G) (e : Ended G) (t : Tree G) → e ≡ ended.Tree t → Ends o g e → else_of o p ≡ outcome.Tree t
  else_goes o p g e t is k = ap (λ x. else_of x p) (subst (Ends o g) is k)

  pub else_fails : (o p : Outcome G) (g : G) (e : Ended G) (kind : Kind) (tac : TacId) (given : G) (other : Option G) → e ≡ ended.Failed kind tac given other → Ends o g e → (given ≡ g) × (else_of o p ≡ p)
  else_fails o p g e kind tac given other is k = let h = subst (Ends o g) is k in (h.0, ap (λ x. else_of x p) h.1)

  pub passes_by : {E : Type 0} (r : Result (Ended G) E) (old new : Queue) (n : ℕ) → new ≡ after n old → IfOk r (Passes old new n)
  passes_by (Ok e) old new n is = at e where
    at : (e : Ended G) → Passes old new n e
    at (ended.Tree t) = is
    at (ended.Failed kind tac given other) = tt
  passes_by (Err m) old new n is = tt

  leaf_at : (t : Tree G) → is_leaf t ≡ true → t ≡ Leaf (root_of t)
  leaf_at = tree_ind (λ t. is_leaf t ≡ true → t ≡ Leaf (root_of t))
      (λ g e. ap Leaf (sym (root-Leaf g)))
      (λ g just kids h e. absurd (let no = sym (ap is_leaf_at (outs-Step g just kids)) ∙ e in cc))

  -- a tree that is a leaf is the leaf of its root
  pub is_its_leaf : (t : Tree G) (g : G) → is_leaf t ≡ true → root_of t ≡ g → t ≡ Leaf g
  is_its_leaf t g leaf root = leaf_at t leaf ∙ ap Leaf root

  pub leaf_good : (P : G → Type 0) (t : Tree G) (g : G) → t ≡ Leaf g → EachGoal P t → P g
  leaf_good P t g is h = leaf_here P g (subst (EachGoal P) is h)

  pub kids_good : (P : G → Type 0) (t : Tree G) (g : G) (just : JustId) (kids : List (Tree G)) → t ≡ Step g just kids → EachGoal P t → AllByRecursion (EachGoal P) kids
  kids_good P t g just kids is h = every_kid (λ layer. P (goal_at layer)) g just kids (subst (EachGoal P) is h)

module _ {L G J : Type 0} (meaning : L → Meaning G J) (p : ProblemState L J) where
  -- an entry by the row of its strategy
  pub by_row : (at left f : ℕ) (g : G) (t u : Tac) (W : ℕ → Evaluator G) → ((n : ℕ) → entry_eval meaning p at n ≡ row_of (meaning p.logic) p.justs t at W n) → t ≡ u → row_of (meaning p.logic) p.justs u at W left f g ≡ entry_eval meaning p at left f g
  by_row at left f g t u W means is = sym (ap (λ (k : Evaluator G). k f g) (means left) ∙ ap (λ x. row_of (meaning p.logic) p.justs x at W left f g) is)

  pub arm : {E : Type 0} (at left f : ℕ) (g : G) (t u : Tac) → ((n : ℕ) → entry_eval meaning p at n ≡ row_of (meaning p.logic) p.justs t at (part_of meaning p) n) → t ≡ u → (r : Result (Ended G) E)
      → IfOk r (Ends (row_of (meaning p.logic) p.justs u at (part_of meaning p) left f g) g) → IfOk r (Ends (entry_eval meaning p at left f g) g)
  arm at left f g t u means is r k = ends_at r _ _ g g (by_row at left f g t u (part_of meaning p) means is) refl k

  module _ (lawful : IsLogic (meaning p.logic)) (is : IsProblem meaning p) (at left f : ℕ) (g : G) (lt : at < length p.tacs) (good : IsTrue ((meaning p.logic).good g)) where
    gives : EvalsIn (meaning p.logic) p.justs 0 p.tacs at left f g (entry_eval meaning p at left f g)
    gives = evals_in (meaning p.logic) p.justs (length p.justs) 0 p.tacs at left (rows_of (length p.justs) p.tacs is.fits) lt f g

    ended_for : (e : Ended G) → Ends (entry_eval meaning p at left f g) g e → IsFor (meaning p.logic) f g e
    ended_for (ended.Tree t) k =
        let sound = subst (IsSoundFor (meaning p.logic).step p.justs f g) k (sound_in (meaning p.logic) p.justs 0 p.tacs at left f g (entry_eval meaning p at left f g) gives) in
        let goods = subst (IsGood (meaning p.logic)) k (in_good (meaning p.logic) lawful p.justs is.allowed 0 p.tacs at left f g (entry_eval meaning p at left f g) good gives) in
        (goods, sound.1, sound.0.0)
    ended_for (ended.Failed kind tac given other) k = tt

    -- a tree that an entry ends with is for its goal
    pub is_for : {E : Type 0} (r : Result (Ended G) E) → IfOk r (Ends (entry_eval meaning p at left f g) g) → IfOk r (IsFor (meaning p.logic) f g)
    is_for r = ok_by (Ends (entry_eval meaning p at left f g) g) (IsFor (meaning p.logic) f g) r ended_for

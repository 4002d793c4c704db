-- Evaluation from left to right: a function.
use Rattle.std.specs.Prelude.{ℕ, zero, suc, ◌+◌, ◌-◌, Bool, true, false, zip, List, [], ◌∷◌, Result, Ok, Err, slice_get}
use Rattle.mp_logic.specs.declared.tree.Tree.{Tree, Leaf}
use Rattle.mp_logic.specs.Meaning.{Meaning}
use Rattle.mp_logic.specs.Trees.{leaves_of, graft_of}
use Rattle.mp_strategy.specs.declared.tactic.Tac.{Tac}
use Rattle.mp_strategy.specs.declared.tactic.Tac.TheVariants as tac
use Rattle.mp_strategy.specs.declared.tactic.TacId.{TacId}
use Rattle.mp_strategy.specs.declared.outcome.Kind.TheVariants as kind
use Rattle.mp_strategy.specs.declared.outcome.Failure.{Failure}
use Rattle.mp_strategy.specs.declared.outcome.Outcome.{Outcome}
use Rattle.mp_strategy.specs.declared.outcome.Outcome.TheVariants as outcome
use Rattle.mp_strategy.specs.declared.problem.ProblemState.{ProblemState}
use Rattle.mp_strategy.specs.declared.work.Work.{Work}
use Rattle.mp_strategy.specs.Strategies.{failure, step_with, left_of, is_leaf, as_many, progressed, completed}

-- the outcome of a strategy with so much fuel on a goal
abbrev pub Evaluator : Type 0 → Type 0
Evaluator G = ℕ → G → Outcome G

-- the trees of several leaves, or the failure of the leftmost one that fails
abbrev pub Trees : Type 0 → Type 0
Trees G = Result (List (Tree G)) (Failure G)

-- the trees of a leaf and of the leaves right of it: the first failure from the left, or all trees
abbrev pub with_first : {G : Type 0} → Outcome G → Trees G → Trees G
with_first (outcome.Failure e) others = Err e
with_first (outcome.Tree t) (Ok ts) = Ok (t ∷ ts)
with_first (outcome.Tree t) (Err e) = Err e

-- the trees of the items of a list, or the first failure from the left
abbrev pub all_of : {X G : Type 0} → (X → Outcome G) → List X → Trees G
all_of each [] = Ok []
all_of each (x ∷ xs) = with_first (each x) (all_of each xs)

-- the tree with these trees in the place of its leaves, or the failure
abbrev pub grafted : {G : Type 0} → Tree G → Trees G → Outcome G
grafted t (Ok ts) = outcome.Tree (graft_of t ts)
grafted t (Err e) = outcome.Failure e

-- the same strategy on each leaf of a tree: a leaf has the fuel less the steps above it
abbrev pub on_leaves : {G : Type 0} → Evaluator G → ℕ → Tree G → Outcome G
on_leaves each f t = grafted t (all_of (λ leaf. each (f - leaf.depth) leaf.goal) (leaves_of t))

-- the failure of the first part, or what becomes of its tree
abbrev pub onward : {G : Type 0} → Outcome G → (Tree G → Outcome G) → Outcome G
onward (outcome.Failure e) on = outcome.Failure e
onward (outcome.Tree t) on = on t

-- the tree of the first part, or the second one's outcome
abbrev pub else_of : {G : Type 0} → Outcome G → Outcome G → Outcome G
else_of (outcome.Tree t) second = outcome.Tree t
else_of (outcome.Failure e) second = second

-- the tree of the first branch from the left that gives one, or what the last one gives; no table that fits has a race without branches
abbrev pub race_of : {X G : Type 0} → (X → Outcome G) → Outcome G → List X → Outcome G
race_of each none [] = none
race_of each none (x ∷ []) = each x
race_of each none (x ∷ y ∷ xs) = else_of (each x) (race_of each none (y ∷ xs))

-- what a repeat makes of a tree: where it is a leaf the repeat stops, and else it goes on with each leaf
abbrev pub goes_on : {G : Type 0} → Bool → Evaluator G → ℕ → G → Tree G → Outcome G
goes_on true each f g t = outcome.Tree (Leaf g)
goes_on false each f g t = on_leaves each f t

-- one step of a repeat: the leaf where the part fails, and else what becomes of its tree
abbrev pub repeat_after : {G : Type 0} → Outcome G → Evaluator G → ℕ → G → Outcome G
repeat_after (outcome.Failure e) each f g = outcome.Tree (Leaf g)
repeat_after (outcome.Tree t) each f g = goes_on (is_leaf t) each f g t

-- a part so many times at most: with none left the leaf
abbrev pub repeat_of : {G : Type 0} → Evaluator G → ℕ → Evaluator G
repeat_of sub zero f g = outcome.Tree (Leaf g)
repeat_of sub (suc n) f g = repeat_after (sub f g) (repeat_of sub n) f g

-- strategy i of a list on leaf i of a tree, where there are as many of both
abbrev pub one_each : {G : Type 0} → Bool → (ℕ → Evaluator G) → ℕ → List TacId → ℕ → G → Tree G → Outcome G
one_each true part here bs f g t = grafted t (all_of (λ x. part x.0.0 (f - x.1.depth) x.1.goal) (zip bs (leaves_of t)))
one_each false part here bs f g t = failure kind.WrongCount here g

module _ {G J : Type 0} (m : Meaning G J) (justs : List J) where
  -- the outcome of an entry that stands at a place and has so many repeats left; part says that of the entries after it
  abbrev pub row_of : Tac → ℕ → (ℕ → Evaluator G) → ℕ → Evaluator G
  row_of tac.Id here part left f g = outcome.Tree (Leaf g)
  row_of tac.Fail here part left f g = failure kind.Failed here g
  row_of (tac.Step j) here part left f g = step_with m justs here j f g
  row_of (tac.Then a b) here part left f g = onward (part a.0 f g) (on_leaves (part b.0) f)
  row_of (tac.ThenL a bs) here part left f g = onward (part a.0 f g) (λ t. one_each (as_many bs t) part here bs f g t)
  row_of (tac.Else a b) here part left f g = else_of (part a.0 f g) (part b.0 f g)
  row_of (tac.Race bs) here part left f g = race_of (λ (b : TacId). part b.0 f g) (failure kind.Failed here g) bs
  row_of (tac.Repeat n a) here part left f g = repeat_of (part a.0) left f g
  row_of (tac.Progress a) here part left f g = onward (part a.0 f g) (progressed m here g)
  row_of (tac.Complete a) here part left f g = onward (part a.0 f g) (completed here g)

  -- the outcome of the entry at a place of the table; here is the place of the first entry in the list
  abbrev pub eval_in : ℕ → List Tac → ℕ → ℕ → Evaluator G
  eval_in here [] at left f g = failure kind.Failed 0 g
  eval_in here (t ∷ ts) zero left f g =
      row_of t here (λ c. eval_in (here + 1) ts (c - (here + 1)) (left_of (slice_get ts (c - (here + 1))))) left f g
  eval_in here (t ∷ ts) (suc at) left f g = eval_in (here + 1) ts at left f g

  -- what the entries of the whole table give by themselves
  abbrev pub whole : List Tac → ℕ → Evaluator G
  whole tacs c = eval_in 0 tacs c (left_of (slice_get tacs c))

module _ {L G J : Type 0} (meaning : L → Meaning G J) (p : ProblemState L J) where
  -- the outcome of an entry of a problem's table that has so many repeats left
  abbrev pub entry_eval : ℕ → ℕ → Evaluator G
  entry_eval at left = eval_in (meaning p.logic) p.justs 0 p.tacs at left

  -- the outcome of an entry of a problem's table by itself
  abbrev pub part_of : ℕ → Evaluator G
  part_of c = whole (meaning p.logic) p.justs p.tacs c

  -- the outcome of a work on a problem
  abbrev pub eval : Work G → Outcome G
  eval work = entry_eval work.tac.0 work.left work.fuel work.goal

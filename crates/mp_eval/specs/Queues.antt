-- The strategies for the leaves of a tree, and what they give.
use Rattle.std.specs.Prelude.{◌≡◌, ℕ, zero, suc, ◌+◌, ◌-◌, ◌*◌, ◌<◌, ◌≤◌, List, [], ◌∷◌, length, slice_get, Ok, Err, IsTrue, ⊤}
use Rattle.std.specs.List.{list_all}
use Rattle.mp_logic.specs.declared.tree.Tree.{Tree, Step}
use Rattle.mp_logic.specs.declared.tree.JustId.{JustId}
use Rattle.mp_logic.specs.Meaning.{Meaning}
use Rattle.mp_logic.specs.Trees.{LeafAt, leaves_of, leaf_count_of}
use Rattle.mp_strategy.specs.declared.tactic.Tac.{Tac}
use Rattle.mp_strategy.specs.declared.outcome.Outcome.{Outcome}
use Rattle.mp_strategy.specs.declared.outcome.Outcome.TheVariants as outcome
use Rattle.mp_strategy.specs.declared.problem.ProblemState.{ProblemState}
use Rattle.mp_strategy.specs.Fits.{places, is_behind}
use Rattle.mp_strategy.specs.Strategies.{left_of}
use Rattle.mp_strategy.specs.Evaluation.{Evaluator, Trees, with_first, grafted, entry_eval}
use Rattle.mp_eval.specs.declared.queue.Queue.{Queue}
use Rattle.mp_eval.specs.declared.queue.Queue.TheVariants as queue
use Rattle.mp_eval.specs.declared.ended.Ended.{Ended}
use Rattle.mp_eval.specs.declared.ended.Ended.TheVariants as ended

-- the place of the strategy for the next leaf
abbrev pub first_at : Queue → ℕ
first_at (queue.Each at left) = at.0
first_at (queue.Listed here []) = 0
first_at (queue.Listed here (b ∷ bs)) = b.0

-- how often the strategy for the next leaf repeats
abbrev pub first_left : List Tac → Queue → ℕ
first_left tacs (queue.Each at left) = left
first_left tacs (queue.Listed here []) = 0
first_left tacs (queue.Listed here (b ∷ bs)) = left_of (slice_get tacs b.0)

-- the strategies for the leaves after the next one
abbrev pub rest_of : Queue → Queue
rest_of (queue.Each at left) = queue.Each at left
rest_of (queue.Listed here []) = queue.Listed here []
rest_of (queue.Listed here (b ∷ bs)) = queue.Listed here bs

-- the strategies that are left after so many leaves
abbrev pub after : ℕ → Queue → Queue
after zero q = q
after (suc n) q = after n (rest_of q)

-- a queue has strategies of the table for so many leaves; those of a list stand after the entry that lists them
abbrev pub IsReady : ℕ → Queue → ℕ → Type 0
IsReady count (queue.Each at left) n = at.0 < count
IsReady count (queue.Listed here bs) n = (here.0 < count) × (n ≤ length bs) × IsTrue (list_all (is_behind here.0 count) (places bs))

-- a bound on how long the evaluation of an entry goes on, with so many repeats left: each part stands after its entry, and each
-- repeat has one less left
abbrev pub weight_at : ℕ → ℕ → ℕ → ℕ
weight_at count at left = (count - at) * 1180591620717411303424 + left * 68719476736

-- the same bound for the strategies of a queue
abbrev pub weight_of : ℕ → Queue → ℕ
weight_of count (queue.Each at left) = weight_at count at.0 left
weight_of count (queue.Listed here bs) = (count - here.0) * 1180591620717411303424 - 68719476736

module _ {G : Type 0} (draws : Queue → Evaluator G) where
  -- the trees of leaves, each evaluated by the next strategy with the fuel that is left there
  abbrev pub all_by : Queue → ℕ → List (LeafAt G) → Trees G
  all_by q f [] = Ok []
  all_by q f (leaf ∷ leaves) = with_first (draws q (f - leaf.depth) leaf.goal) (all_by (rest_of q) f leaves)

  -- what becomes of a tree whose leaves are evaluated so
  abbrev pub on_tree : Queue → ℕ → Tree G → Outcome G
  on_tree q f t = grafted t (all_by q f (leaves_of t))

  -- what becomes of several trees, or the failure of the leftmost leaf that fails
  abbrev pub on_kids : Queue → ℕ → List (Tree G) → Trees G
  on_kids q f [] = Ok []
  on_kids q f (k ∷ ks) = with_first (on_tree q f k) (on_kids (after (leaf_count_of k) q) f ks)

-- the step over what becomes of its kids
abbrev pub with_kids : {G : Type 0} → G → JustId → Trees G → Outcome G
with_kids g just (Ok kids) = outcome.Tree (Step g just kids)
with_kids g just (Err e) = outcome.Failure e

-- what the next strategy of a queue gives on a problem
abbrev pub drawn : {L G J : Type 0} → (L → Meaning G J) → ProblemState L J → Queue → Evaluator G
drawn meaning p q = entry_eval meaning p (first_at q) (first_left p.tacs q)

-- after a tree the strategies for its leaves are gone
abbrev pub Passes : {G : Type 0} → Queue → Queue → ℕ → Ended G → Type 0
Passes old new n (ended.Tree t) = new ≡ after n old
Passes old new n (ended.Failed kind tac given other) = ⊤

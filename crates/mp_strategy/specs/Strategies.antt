-- What a strategy gives on a goal: a relation, with one row for each strategy.
use Rattle.std.specs.Prelude.{◌≡◌, ℕ, zero, suc, ◌+◌, ◌-◌, ◌==◌, ◌⊎◌, if◌then◌else◌, Bool, true, false, List, [], ◌∷◌, map, zip, length, Some, None, Ok, Err, slice_get}
use Rattle.std.specs.declared.option.Option.{Option}
use Rattle.mp_logic.specs.declared.tree.Tree.{Tree, Leaf, Step, out-Tree}
use Rattle.mp_logic.specs.declared.tree.Tree.TheOpen.{Tree-F}
use Rattle.mp_logic.specs.declared.tree.Tree.TheOpen as layer
use Rattle.mp_logic.specs.declared.tree.JustId.{JustId}
use Rattle.mp_logic.specs.declared.logic.Why.{Why}
use Rattle.mp_logic.specs.declared.logic.Why.TheVariants as why
use Rattle.mp_logic.specs.Meaning.{Meaning}
use Rattle.mp_logic.specs.Steps as steps
use Rattle.mp_logic.specs.Trees.{LeafAt, leaves_of, leaf_count_of, graft_of}
use Rattle.mp_strategy.specs.declared.tactic.Tac.{Tac}
use Rattle.mp_strategy.specs.declared.tactic.Tac.TheVariants as tac
use Rattle.mp_strategy.specs.declared.tactic.TacId.{TacId}
use Rattle.mp_strategy.specs.declared.outcome.Kind.{Kind}
use Rattle.mp_strategy.specs.declared.outcome.Kind.TheVariants as kind
use Rattle.mp_strategy.specs.declared.outcome.Failure.{Failure}
use Rattle.mp_strategy.specs.declared.outcome.Outcome.{Outcome}
use Rattle.mp_strategy.specs.declared.outcome.Outcome.TheVariants as outcome
use Rattle.mp_strategy.specs.declared.problem.ProblemState.{ProblemState}
use Rattle.mp_strategy.specs.declared.work.Work.{Work}

-- a step's refusal as the kind of a failure
abbrev pub kind_of : Why → Kind
kind_of why.NoMatch = kind.NoMatch
kind_of why.BadArgument = kind.BadArgument
kind_of why.BadAddress = kind.BadAddress
kind_of why.UnderBinder = kind.UnderBinder
kind_of why.TooLarge = kind.TooLarge

-- the failure of this kind at this entry and this goal
abbrev pub failure : {G : Type 0} → Kind → ℕ → G → Outcome G
failure k here g = outcome.Failure (record { kind = k; tac = record { 0 = here }; goal = g })

-- the step's node with its kids open, or the step's refusal as a failure
abbrev pub stepped : {G : Type 0} → ℕ → JustId → G → steps.Outcome G → Outcome G
stepped here just g (Ok kids) = outcome.Tree (Step g just (map Leaf kids))
stepped here just g (Err w) = failure (kind_of w) here g

-- a step by a justification of the list; no table that fits names one that isn't there
abbrev pub step_or_failed : {G J : Type 0} → Meaning G J → Option J → ℕ → JustId → G → Outcome G
step_or_failed m (Some j) here just g = stepped here just g (m.step j g)
step_or_failed m None here just g = failure kind.Failed here g

-- a step with so much fuel: out of fuel if it is 0, else by the justification of this number
abbrev pub step_with : {G J : Type 0} → Meaning G J → List J → ℕ → JustId → ℕ → G → Outcome G
step_with m justs here just zero g = failure kind.OutOfFuel here g
step_with m justs here just (suc f) g = step_or_failed m (slice_get justs just.0) here just g

-- which outcomes are given
abbrev pub Given : Type 0 → Type 1
Given G = Outcome G → Type 0

-- the outcomes that a strategy gives with so much fuel on a goal
abbrev pub Gives : Type 0 → Type 1
Gives G = ℕ → G → Given G

-- each item of a list gives the tree in its place
abbrev pub EachTree : {X G : Type 0} → (X → Given G) → List X → List (Tree G) → Type 0
EachTree each [] [] = Unit {0}
EachTree each (x ∷ xs) (t ∷ ts) = each x (outcome.Tree t) × EachTree each xs ts
EachTree each [] (t ∷ ts) = ⊥
EachTree each (x ∷ xs) [] = ⊥

-- some item of a list gives the failure, and each item left of it gives a tree
abbrev pub SomeFails : {X G : Type 0} → (X → Given G) → List X → Failure G → Type 0
SomeFails each [] e = ⊥
SomeFails {X} {G} each (x ∷ xs) e = each x (outcome.Failure e) ⊎ ((t : Tree G) × each x (outcome.Tree t) × SomeFails each xs e)

-- one item for each leaf of a tree: the tree with their trees grafted, or the failure of the leftmost one that fails
abbrev pub All : {X G : Type 0} → (X → Given G) → Tree G → List X → Given G
All {X} {G} each t xs (outcome.Tree whole) = (ts : List (Tree G)) × EachTree each xs ts × (whole ≡ graft_of t ts)
All each t xs (outcome.Failure e) = SomeFails each xs e

-- the same strategy on each leaf of a tree: a leaf has the fuel less the steps above it
abbrev pub OnLeaves : {G : Type 0} → Gives G → ℕ → Tree G → Given G
OnLeaves each f t = All (λ leaf. each (f - leaf.depth) leaf.goal) t (leaves_of t)

-- a failure of the first part, or what comes of a tree that it gives
abbrev pub Onward : {G : Type 0} → Given G → (Tree G → Given G) → Given G
Onward {G} first on o = ((e : Failure G) × first (outcome.Failure e) × (o ≡ outcome.Failure e)) ⊎ ((t : Tree G) × first (outcome.Tree t) × on t o)

-- a tree that the first part gives; what the second one gives, where the first one gives a failure
abbrev pub ElseGives : {G : Type 0} → Given G → Given G → Given G
ElseGives {G} first second o = ((t : Tree G) × first (outcome.Tree t) × (o ≡ outcome.Tree t)) ⊎ ((e : Failure G) × first (outcome.Failure e) × second o)

-- some item of a list gives the outcome
abbrev pub SomeGives : {X G : Type 0} → (X → Given G) → List X → Given G
SomeGives each [] o = ⊥
SomeGives each (x ∷ xs) o = each x o ⊎ SomeGives each xs o

-- each item of a list gives a failure, and the last one this one
abbrev pub AllFail : {X G : Type 0} → (X → Given G) → List X → Failure G → Type 0
AllFail each [] e = ⊥
AllFail each (x ∷ []) e = each x (outcome.Failure e)
AllFail {X} {G} each (x ∷ y ∷ xs) e = ((d : Failure G) × each x (outcome.Failure d)) × AllFail each (y ∷ xs) e

-- a tree that some branch gives; a failure that the last branch gives, where each branch gives a failure
abbrev pub RaceGives : {X G : Type 0} → (X → Given G) → List X → Given G
RaceGives each xs (outcome.Tree t) = SomeGives each xs (outcome.Tree t)
RaceGives each xs (outcome.Failure e) = AllFail each xs e

-- whether one layer of a tree is a leaf
abbrev pub is_leaf_at : {G T : Type 0} → Tree-F G T → Bool
is_leaf_at (layer.Leaf g) = true
is_leaf_at (layer.Step g just kids) = false

-- whether a tree is a leaf
abbrev pub is_leaf : {G : Type 0} → Tree G → Bool
is_leaf {G} t = is_leaf_at (out-Tree G t)

-- what a repeat makes of a tree: where it is a leaf the repeat stops, and else it goes on with each leaf
abbrev pub GoesOn : {G : Type 0} → Bool → Gives G → ℕ → G → Tree G → Given G
GoesOn true each f g t o = o ≡ outcome.Tree (Leaf g)
GoesOn false each f g t o = OnLeaves each f t o

-- one step of a repeat: the leaf where the part gives a failure, and else what becomes of a tree that it gives
abbrev pub RepeatStep : {G : Type 0} → Given G → Gives G → ℕ → G → Given G
RepeatStep {G} first each f g o =
    ((e : Failure G) × first (outcome.Failure e) × (o ≡ outcome.Tree (Leaf g))) ⊎ ((t : Tree G) × first (outcome.Tree t) × GoesOn (is_leaf t) each f g t o)

-- a part so many times at most: with none left the leaf
abbrev pub RepeatGives : {G : Type 0} → Gives G → ℕ → Gives G
RepeatGives sub zero f g o = o ≡ outcome.Tree (Leaf g)
RepeatGives sub (suc n) f g o = RepeatStep (sub f g) (RepeatGives sub n) f g o

-- whether a tree has as many open leaves as a list has strategies
abbrev pub as_many : {G : Type 0} → List TacId → Tree G → Bool
as_many bs t = length bs == leaf_count_of t

-- strategy i of a list on leaf i of a tree, where there are as many of both
abbrev pub Listed : {G : Type 0} → Bool → (ℕ → Gives G) → ℕ → List TacId → ℕ → G → Tree G → Given G
Listed true part here bs f g t o = All (λ x. part x.0.0 (f - x.1.depth) x.1.goal) t (zip bs (leaves_of t)) o
Listed false part here bs f g t o = o ≡ failure kind.WrongCount here g

-- whether the open leaves are exactly one goal, and it is this one
abbrev pub only_leaf : {G : Type 0} → (G → G → Bool) → List (LeafAt G) → G → Bool
only_leaf same [] g = false
only_leaf same (leaf ∷ []) g = same leaf.goal g
only_leaf same (leaf ∷ other ∷ leaves) g = false

-- a tree that has to change the goal: a failure where its open leaves are exactly that goal
abbrev pub progressed : {G J : Type 0} → Meaning G J → ℕ → G → Tree G → Outcome G
progressed m here g t = if only_leaf m.same (leaves_of t) g then failure kind.NoProgress here g else outcome.Tree t

-- a tree that has to close the goal: a failure where it has an open leaf
abbrev pub completed : {G : Type 0} → ℕ → G → Tree G → Outcome G
completed here g t = if leaf_count_of t == 0 then outcome.Tree t else failure kind.Incomplete here g

-- how often an entry of the table repeats: the count of a repeat, and 0 for any other one
abbrev pub left_of : Option Tac → ℕ
left_of (Some (tac.Repeat n a)) = n
left_of other = 0

module _ {G J : Type 0} (m : Meaning G J) (justs : List J) where
  -- what an entry gives that stands at a place and has so many repeats left; part says what the entries after it give
  abbrev pub Row : Tac → ℕ → (ℕ → Gives G) → ℕ → Gives G
  Row tac.Id here part left f g o = o ≡ outcome.Tree (Leaf g)
  Row tac.Fail here part left f g o = o ≡ failure kind.Failed here g
  Row (tac.Step j) here part left f g o = o ≡ step_with m justs here j f g
  Row (tac.Then a b) here part left f g o = Onward (part a.0 f g) (OnLeaves (part b.0) f) o
  Row (tac.ThenL a bs) here part left f g o = Onward (part a.0 f g) (λ t. Listed (as_many bs t) part here bs f g t) o
  Row (tac.Else a b) here part left f g o = ElseGives (part a.0 f g) (part b.0 f g) o
  Row (tac.Race bs) here part left f g o = RaceGives (λ (b : TacId). part b.0 f g) bs o
  Row (tac.Repeat n a) here part left f g o = RepeatGives (part a.0) left f g o
  Row (tac.Progress a) here part left f g o = Onward (part a.0 f g) (λ t p. p ≡ progressed m here g t) o
  Row (tac.Complete a) here part left f g o = Onward (part a.0 f g) (λ t p. p ≡ completed here g t) o

  -- what the entry at a place of the table gives; here is the place of the first entry in the list
  abbrev pub EvalsIn : ℕ → List Tac → ℕ → ℕ → Gives G
  EvalsIn here [] at left f g o = ⊥
  EvalsIn here (t ∷ ts) zero left f g o =
      Row t here (λ c. EvalsIn (here + 1) ts (c - (here + 1)) (left_of (slice_get ts (c - (here + 1))))) left f g o
  EvalsIn here (t ∷ ts) (suc at) left f g o = EvalsIn (here + 1) ts at left f g o

-- the outcomes that a work gives on a problem
abbrev pub Evals : {L G J : Type 0} → (L → Meaning G J) → ProblemState L J → Work G → Outcome G → Type 0
Evals meaning p work o = EvalsIn (meaning p.logic) p.justs 0 p.tacs work.tac.0 work.left work.fuel work.goal o

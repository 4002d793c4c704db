-- The cost of a work: how wide its trees can be, and a bound on how many units its job takes.
use Rattle.std.specs.Prelude.{ℕ, zero, suc, ◌+◌, ◌-◌, ◌*◌, ◌≤◌, max, List, [], ◌∷◌, Some, slice_get}
use Rattle.std.specs.declared.option.Option.{Option}
use Rattle.mp_logic.specs.Meaning.{Meaning}
use Rattle.mp_strategy.specs.declared.problem.ProblemState.{ProblemState}
use Rattle.mp_strategy.specs.declared.tactic.Tac.{Tac}
use Rattle.mp_strategy.specs.declared.tactic.Tac.TheVariants as tac
use Rattle.mp_strategy.specs.declared.tactic.TacId.{TacId}
use Rattle.mp_strategy.specs.declared.work.Work.{Work}
use Rattle.mp_strategy.specs.Strategies.{left_of}

-- how wide and how heavy
pub record Size : Type 0 where
  pub wide : ℕ
  pub heavy : ℕ

-- a size is no wider than another one, and lighter by so much
pub record IsWithin (less : ℕ) (a b : Size) : Type 0 where
  pub wide : a.wide ≤ b.wide
  pub heavy : a.heavy + less ≤ b.heavy

-- the greatest width of a list
abbrev pub widest : List Size → ℕ
widest [] = 0
widest (s ∷ ss) = max s.wide (widest ss)

-- the sum of the widths
abbrev pub width_sum : List Size → ℕ
width_sum [] = 0
width_sum (s ∷ ss) = s.wide + width_sum ss

-- the sum of the weights
abbrev pub weight_sum : List Size → ℕ
weight_sum [] = 0
weight_sum (s ∷ ss) = s.heavy + weight_sum ss

-- the sum of the weights, with 1 for each
abbrev pub weight_each : List Size → ℕ
weight_each [] = 0
weight_each (s ∷ ss) = 1 + s.heavy + weight_each ss

-- a first part, and then the same on each leaf of its tree
abbrev pub then_by : Size → Size → Size
then_by each first = record { wide = first.wide * each.wide; heavy = 2 + (first.heavy + first.wide * (1 + each.heavy)) }

-- a first part, and then one of a list on each leaf of its tree
abbrev pub list_by : List Size → Size → Size
list_by each first = record { wide = width_sum each; heavy = 2 + (first.heavy + weight_each each) }

-- a first part, and then the same on each leaf of its tree, unless the goal stays open
abbrev pub repeat_by : Size → Size → Size
repeat_by each first = record { wide = max 1 (first.wide * each.wide); heavy = 2 + (first.heavy + first.wide * (1 + each.heavy)) }

-- the same with 1 more, for the expansion
abbrev pub unexpanded : Size → Size
unexpanded s = record { wide = s.wide; heavy = s.heavy + 1 }

-- a part so many times at most
abbrev pub repeat_size : Size → ℕ → Size
repeat_size a zero = record { wide = 1; heavy = 1 }
repeat_size a (suc n) = unexpanded (repeat_by (repeat_size a n) a)

-- the sizes of the strategies of a list
abbrev pub sizes : (ℕ → Size) → List TacId → List Size
sizes part [] = []
sizes part (b ∷ bs) = part b.0 ∷ sizes part bs

-- the size of an entry with so many repeats left, by the sizes of those after it; w is the greatest number of subgoals of a step
abbrev pub size_row : ℕ → Tac → (ℕ → Size) → ℕ → Size
size_row w tac.Id part left = record { wide = 1; heavy = 1 }
size_row w tac.Fail part left = record { wide = 0; heavy = 1 }
size_row w (tac.Step j) part left = record { wide = w; heavy = 1 }
size_row w (tac.Then a b) part left = unexpanded (then_by (part b.0) (part a.0))
size_row w (tac.ThenL a bs) part left = unexpanded (list_by (sizes part bs) (part a.0))
size_row w (tac.Else a b) part left = record { wide = max (part a.0).wide (part b.0).wide; heavy = 2 + ((part a.0).heavy + (part b.0).heavy) }
size_row w (tac.Race bs) part left = record { wide = widest (sizes part bs); heavy = 2 + weight_sum (sizes part bs) }
size_row w (tac.Repeat n a) part left = repeat_size (part a.0) left
size_row w (tac.Progress a) part left = record { wide = (part a.0).wide; heavy = 2 + (part a.0).heavy }
size_row w (tac.Complete a) part left = record { wide = (part a.0).wide; heavy = 2 + (part a.0).heavy }

-- the size of the entry at a place of the table; here is the place of the first entry in the list
abbrev pub size_in : ℕ → ℕ → List Tac → ℕ → ℕ → Size
size_in w here [] at left = record { wide = 1; heavy = 1 }
size_in w here (t ∷ ts) zero left = size_row w t (λ c. size_in w (here + 1) ts (c - (here + 1)) (left_of (slice_get ts (c - (here + 1))))) left
size_in w here (t ∷ ts) (suc at) left = size_in w (here + 1) ts at left

module _ {L G J : Type 0} (meaning : L → Meaning G J) (p : ProblemState L J) where
  -- the size of an entry of the table that has so many repeats left
  abbrev pub entry_size : ℕ → ℕ → Size
  entry_size at left = size_in (meaning p.logic).width 0 p.tacs at left

  -- the size of an entry of the table by itself
  abbrev pub part_size : ℕ → Size
  part_size at = entry_size at (left_of (slice_get p.tacs at))

  -- the size of a work: its weight is the work's cost
  abbrev pub work_size : Work G → Size
  work_size w = entry_size w.tac.0 w.left

  -- the size of a work with this strategy, by that of its first part
  abbrev pub then_size_by : Option Tac → Work G → Size → Size
  then_size_by (Some (tac.Then a b)) w first = then_by (part_size b.0) first
  then_size_by (Some (tac.ThenL a bs)) w first = list_by (sizes part_size bs) first
  then_size_by (Some (tac.Repeat n a)) w first = repeat_by (entry_size w.tac.0 (w.left - 1)) first
  then_size_by other w first = first

  -- the size of a work whose first part is still to be done, by that of the part
  abbrev pub then_size : Work G → Size → Size
  then_size w first = then_size_by (slice_get p.tacs w.tac.0) w first

-- A node whose first part is still to be done gets no wider and lighter with that part.
use Rattle.std.proofs.Common.{ℕ, ◌+◌, ◌-◌, ◌*◌, ◌≤◌, List, Some, None, arith}
use Rattle.std.specs.declared.option.Option.{Option}
use Rattle.std.specs.Prelude.{slice_get}
use Rattle.mp_logic.specs.Meaning.{Meaning}
use Rattle.mp_strategy.specs.declared.tactic.Tac.{Tac}
use Rattle.mp_strategy.specs.declared.tactic.Tac.TheVariants as tac
use Rattle.mp_strategy.specs.declared.problem.ProblemState.{ProblemState}
use Rattle.mp_strategy.specs.declared.work.Work.{Work}
use Rattle.mp_jobs.specs.Costs.{Size, IsWithin, then_by, list_by, repeat_by, sizes, entry_size, part_size, then_size_by, then_size}

times : (a b c : ℕ) → a ≤ b → a * c ≤ b * c
times a b c h = grind arith

module _ (d : ℕ) (a b : Size) (h : IsWithin d a b) where
  by_then : (each : Size) → IsWithin d (then_by each a) (then_by each b)
  by_then each =
      let w : a.wide ≤ b.wide = h.wide in
      let k : a.heavy + d ≤ b.heavy = h.heavy in
      let y : a.wide * (1 + each.heavy) ≤ b.wide * (1 + each.heavy) = times a.wide b.wide (1 + each.heavy) w in
      record { wide = times a.wide b.wide each.wide w; heavy = omega (arith, k, y) }

  by_repeat : (each : Size) → IsWithin d (repeat_by each a) (repeat_by each b)
  by_repeat each =
      let w : a.wide ≤ b.wide = h.wide in
      let k : a.heavy + d ≤ b.heavy = h.heavy in
      let x : a.wide * each.wide ≤ b.wide * each.wide = times a.wide b.wide each.wide w in
      let y : a.wide * (1 + each.heavy) ≤ b.wide * (1 + each.heavy) = times a.wide b.wide (1 + each.heavy) w in
      record { wide = omega (arith, x); heavy = omega (arith, k, y) }

  by_list : (each : List Size) → IsWithin d (list_by each a) (list_by each b)
  by_list each = let k : a.heavy + d ≤ b.heavy = h.heavy in record { wide = omega arith; heavy = omega (arith, k) }

  module _ {L G J : Type 0} (meaning : L → Meaning G J) (p : ProblemState L J) (w : Work G) where
    rows_within : (t : Option Tac) → IsWithin d (then_size_by meaning p t w a) (then_size_by meaning p t w b)
    rows_within None = h
    rows_within (Some tac.Id) = h
    rows_within (Some tac.Fail) = h
    rows_within (Some (tac.Step j)) = h
    rows_within (Some (tac.Then x y)) = by_then (part_size meaning p y.0)
    rows_within (Some (tac.ThenL x bs)) = by_list (sizes (part_size meaning p) bs)
    rows_within (Some (tac.Else x y)) = h
    rows_within (Some (tac.Race bs)) = h
    rows_within (Some (tac.Repeat n x)) = by_repeat (entry_size meaning p w.tac.0 (w.left - 1))
    rows_within (Some (tac.Progress x)) = h
    rows_within (Some (tac.Complete x)) = h

    pub then_within : IsWithin d (then_size meaning p w a) (then_size meaning p w b)
    then_within = rows_within (slice_get p.tacs w.tac.0)

use Rattle.std.proofs.Common.{◌≡◌, ◌+◌, ◌++◌, length, map, drop}
use Rattle.mp_scripttext.specs.Plans.{HasRoom, grown}
use Rattle.mp_scripttext.specs.Strategies.{Strategy, link_of, linked_all, numbers, strategy_of}
use Rattle.mp_scripttext.proofs.PlanSteps.{Stands}
use Rattle.mp_scripttext.proofs.plan.+planning.Given as goal

-- a strategy of the first links stands behind as many rows as there are further links
abbrev pub invariant-push_strategy-loop-link : goal.invariant-push_strategy-loop-link
invariant-push_strategy-loop-link l =
    (s : Strategy) × Stands l.theory l.fn.plan (length (drop l.link-index l.link-items)) s l.plan × (l.at.0 ≡ length l.fn.plan.tacs + length (drop l.link-index l.link-items)) × (linked_all s (map link_of (drop l.link-index l.link-items)) ≡ strategy_of l.raw)

abbrev pub invariant-push_strategies-loop-raw : goal.invariant-push_strategies-loop-raw
invariant-push_strategies-loop-raw l = record {
  room : HasRoom l.theory (map strategy_of (drop l.raw-index l.raws)) l.plan;
  rows : grown l.theory (map strategy_of (drop l.raw-index l.raws)) l.plan ≡ grown l.theory (map strategy_of l.raws) l.fn.plan;
  numbers : l.ids ++ numbers (map strategy_of (drop l.raw-index l.raws)) (length l.plan.tacs) ≡ numbers (map strategy_of l.raws) (length l.fn.plan.tacs);
}

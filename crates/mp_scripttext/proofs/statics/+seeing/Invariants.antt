use Rattle.std.proofs.Common.{◌≡◌, ◌++◌, ◌∷◌, [], List, map, drop}
use Rattle.mp_scripttext.specs.Statics.{seen_of}
use Rattle.mp_scripttext.specs.Strategies.{Strategy, link_of, linked_all, strategy_of}
use Rattle.mp_scripttext.proofs.statics.+seeing.Given as goal

-- a strategy of the first links is seen, and the others make the whole one of it
abbrev pub invariant-see_strategy-loop-link : goal.invariant-see_strategy-loop-link
invariant-see_strategy-loop-link l =
    (s : Strategy) × (l.seen ≡ seen_of l.theory l.fn.held (s ∷ [])) × (linked_all s (map link_of (drop l.link-index l.link-items)) ≡ strategy_of l.raw)

-- the strategies before are seen
abbrev pub invariant-see_strategies-loop-raw : goal.invariant-see_strategies-loop-raw
invariant-see_strategies-loop-raw l =
    (ss : List Strategy) × (l.seen ≡ seen_of l.theory l.fn.held ss) × (ss ++ map strategy_of (drop l.raw-index l.raws) ≡ map strategy_of l.raws)

-- The static rules of scripts as they are written, in a theory.
use Rattle.std.specs.Prelude.{◌++◌, List, Option, nat_lt}
use Rattle.std.specs.List.{flat_map}
use Rattle.mp_logic.specs.Trees.{counted}
use Rattle.mp_theory.specs.Tables.{Laws}
use Rattle.mp_strategy.specs.declared.limits.TheConstants.{MOST_DEPTH, MOST_FUEL, MOST_NODES}
use Rattle.mp_words.specs.declared.fail.TextErr.{TextErr}
use Rattle.mp_words.specs.declared.fail.TextWhy.TheVariants as why
use Rattle.mp_words.specs.Faults.{fault_if, least_from}
use Rattle.mp_words.specs.Ranges.{written_number_faults}
use Rattle.mp_words.specs.Seconds.{second_faults}
use Rattle.mp_termtext.specs.Statics.{sequent_faults}
use Rattle.mp_scripttext.specs.declared.raw.RawEntry.{RawEntry}
use Rattle.mp_scripttext.specs.Strategies.{Strategy, deepest, faults_of_each, nodes_of, strategy_of}
use Rattle.mp_scripttext.specs.declared.seen.Seen.{Seen}

-- the strategy has at most 4,096 nodes and is at most 64 deep
abbrev pub shape_faults : RawEntry → Strategy → List TextErr
shape_faults e s = fault_if (nat_lt MOST_NODES s.nodes) e.name.at why.TooMany ++ fault_if (nat_lt MOST_DEPTH s.depth) e.strategy.at why.TooDeep

-- the faults of a strategy: those of its nodes, and of its shape
abbrev pub strategy_faults : Laws → RawEntry → Strategy → List TextErr
strategy_faults t e s = s.faults t ++ shape_faults e s

-- the faults of a goal but that its name is taken
abbrev pub entry_faults : Laws → RawEntry → List TextErr
entry_faults t e = written_number_faults 0 MOST_FUEL e.fuel ++ sequent_faults e.goal ++ strategy_faults t e (strategy_of e.strategy)

-- the static faults of a script: a second goal of its name, and those of each goal
abbrev pub script_faults : Laws → List RawEntry → List TextErr
script_faults t es = second_faults (λ e. e.name) why.Taken es ++ flat_map (entry_faults t) es

-- what is seen of strategies that stand side by side, where this fault is held: their nodes, the depth of the deepest, and the
-- earliest fault
abbrev pub seen_of : Laws → Option TextErr → List Strategy → Seen
seen_of t held ss = record { nodes = counted (nodes_of ss); depth = counted (deepest ss); held = least_from held (faults_of_each t ss) }

-- The text that is printed of a goal's outcome.
use Rattle.std.specs.Prelude.{ℕ, zero, suc, ◌+◌, ◌++◌, List, [], codes}
use Rattle.std.specs.Fmt.{decimal}
use Rattle.mp_logic.specs.declared.sym.Sym.{Sym}
use Rattle.mp_logic.specs.declared.tree.Tree.{Tree}
use Rattle.mp_logic.specs.Trees.{leaf_count_of, counted}
use Rattle.mp_names.specs.Table.{text_of}
use Rattle.mp_term.specs.declared.sequent.Sequent.{Sequent}
use Rattle.mp_termtext.specs.Printing.{sequent_text}
use Rattle.mp_theory.specs.declared.just.Just.{Just}
use Rattle.mp_theory.specs.Tables.{Laws}
use Rattle.mp_strategy.specs.declared.outcome.Kind.{Kind}
use Rattle.mp_strategy.specs.declared.outcome.Kind.TheVariants as kind
use Rattle.mp_strategy.specs.declared.outcome.Outcome.{Outcome}
use Rattle.mp_strategy.specs.declared.outcome.Outcome.TheVariants as outcome
use Rattle.mp_strategy.specs.declared.tactic.TacId.{TacId}
use Rattle.mp_treetext.specs.Trees.{tree_text}

-- the name of a kind of failure
abbrev pub kind_text : Kind → List ℕ
kind_text kind.OutOfFuel = codes "OutOfFuel"
kind_text kind.NoMatch = codes "NoMatch"
kind_text kind.BadArgument = codes "BadArgument"
kind_text kind.BadAddress = codes "BadAddress"
kind_text kind.UnderBinder = codes "UnderBinder"
kind_text kind.TooLarge = codes "TooLarge"
kind_text kind.NoProgress = codes "NoProgress"
kind_text kind.Incomplete = codes "Incomplete"
kind_text kind.WrongCount = codes "WrongCount"
kind_text kind.Failed = codes "Failed"

-- `closed`, or the number of open leaves and `open`
abbrev pub leaves_text : ℕ → List ℕ
leaves_text zero = codes "closed"
leaves_text (suc n) = decimal (counted (suc n)) ++ codes " open"

-- what stands after the name of a goal with a tree: that it is closed, or how many leaves are open, and the lines of the tree
abbrev pub proof_text : List (List ℕ) → Laws → List Just → Tree Sequent → List ℕ
proof_text names theory justs t = leaves_text (leaf_count_of t) ++ codes "\n" ++ tree_text names theory justs t []

-- what stands after the name of a goal that failed: the failure's kind, the number of its strategy counted from 1, and its goal
abbrev pub failure_text : List (List ℕ) → Kind → TacId → Sequent → List ℕ
failure_text names kind tac goal = codes "failed " ++ kind_text kind ++ codes " at strategy " ++ decimal (tac.0 + 1) ++ codes " | " ++ sequent_text names goal ++ codes "\n"

-- what stands after the goal's name, by its outcome
abbrev pub outcome_text : List (List ℕ) → Laws → List Just → Outcome Sequent → List ℕ
outcome_text names theory justs (outcome.Tree t) = proof_text names theory justs t
outcome_text names theory justs (outcome.Failure f) = failure_text names f.kind f.tac f.goal

-- the name of a goal, before what stands after it
abbrev pub headed : List (List ℕ) → Sym → List ℕ → List ℕ
headed names name text = codes "goal " ++ text_of names name.0 ++ codes ": " ++ text

-- the block of a goal
abbrev pub result_text : List (List ℕ) → Laws → Sym → List Just → Outcome Sequent → List ℕ
result_text names theory name justs o = headed names name (outcome_text names theory justs o)

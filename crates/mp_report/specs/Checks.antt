-- The line that is printed of a goal's block in a tree file.
use Rattle.std.specs.Prelude.{ℕ, ◌++◌, List, codes}
use Rattle.std.specs.Fmt.{decimal}
use Rattle.mp_logic.specs.declared.logic.Why.{Why}
use Rattle.mp_logic.specs.declared.logic.Why.TheVariants as why
use Rattle.mp_logic.specs.declared.sym.Sym.{Sym}
use Rattle.mp_treetext.specs.Results.{headed}
use Rattle.mp_report.specs.declared.check.BadNode.{BadNode}
use Rattle.mp_report.specs.declared.check.BadNode.TheVariants as bad
use Rattle.mp_report.specs.declared.check.Checked.{Checked}
use Rattle.mp_report.specs.declared.check.Checked.TheVariants as checked

-- a refusal is printed by its name
abbrev pub step_refusal_text : Why → List ℕ
step_refusal_text why.NoMatch = codes "NoMatch"
step_refusal_text why.BadArgument = codes "BadArgument"
step_refusal_text why.BadAddress = codes "BadAddress"
step_refusal_text why.UnderBinder = codes "UnderBinder"
step_refusal_text why.TooLarge = codes "TooLarge"

-- what is wrong with a node: the tree is for another goal, the kids' goals aren't the subgoals, or the step is refused
abbrev pub bad_node_text : BadNode → List ℕ
bad_node_text bad.Goal = codes "goal"
bad_node_text bad.Kids = codes "kids"
bad_node_text (bad.Refused reason) = step_refusal_text reason

-- what stands after the goal's name
abbrev pub check_text : Checked → List ℕ
check_text checked.Closed = codes "valid closed\n"
check_text (checked.Open leaves) = codes "valid " ++ decimal leaves ++ codes " open\n"
check_text checked.Unchecked = codes "failed unchecked\n"
check_text (checked.Bad node cause) = codes "bad node " ++ decimal node ++ codes ": " ++ bad_node_text cause ++ codes "\n"

-- the line of the goal of this name
abbrev pub checked_text : List (List ℕ) → Sym → Checked → List ℕ
checked_text names name c = headed names name (check_text c)

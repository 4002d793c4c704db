-- Blocks of goals: their texts, and which of them can be checked.
use Rattle.std.specs.Prelude.{ℕ, ◌++◌, ◌<◌, List, [], ◌∷◌, length, IsTrue, ⊤}
use Rattle.std.specs.List.{list_all}
use Rattle.mp_logic.specs.declared.sym.Sym.{Sym}
use Rattle.mp_logic.specs.declared.tree.Tree.{Tree}
use Rattle.mp_logic.specs.declared.tree.Tree.TheOpen.{Tree-F}
use Rattle.mp_logic.specs.declared.tree.Tree.TheOpen as layer
use Rattle.mp_logic.specs.declared.tree.Tree.TheFolds.{every-Tree}
use Rattle.mp_logic.specs.Valid.{EachGoal}
use Rattle.mp_term.specs.declared.sequent.Sequent.{Sequent}
use Rattle.mp_theory.specs.declared.just.Just.{Just}
use Rattle.mp_theory.specs.Allowed.{is_allowed, is_good}
use Rattle.mp_theory.specs.Tables.{Laws}
use Rattle.mp_treetext.specs.declared.printed.Printed.{Printed}
use Rattle.mp_treetext.specs.declared.printed.Printed.TheVariants as printed
use Rattle.mp_treetext.specs.Results.{failure_text, headed, proof_text}

-- ## Texts

-- what stands after the name of a goal
abbrev pub state_text : List (List ℕ) → Laws → Printed → List ℕ
state_text names theory (printed.Proof tree justs) = proof_text names theory justs tree
state_text names theory (printed.Failed kind tac goal) = failure_text names kind tac goal

-- the block of the goal of this name
abbrev pub printed_text : List (List ℕ) → Laws → Sym → Printed → List ℕ
printed_text names theory name p = headed names name (state_text names theory p)

-- the blocks of goals, one after the other
abbrev pub trees_text : List (List ℕ) → Laws → List Sym → List Printed → List ℕ
trees_text names theory [] ps = []
trees_text names theory (goal ∷ goals) [] = []
trees_text names theory (goal ∷ goals) (p ∷ ps) = printed_text names theory goal p ++ trees_text names theory goals ps

-- ## Blocks that can be checked

-- a step is by one of so many justifications
abbrev pub IsByOne : ℕ → Tree-F Sequent (Tree Sequent) → Type 0
IsByOne count (layer.Leaf goal) = ⊤
IsByOne count (layer.Step goal just kids) = just.0 < count

-- the steps of the tree can be tried in this theory: each justification is allowed, each goal is good, and each step is by one of the
-- justifications
pub record IsGoodProof (t : Laws) (justs : List Just) (tree : Tree Sequent) : Type 0 where
  pub allowed : IsTrue (list_all (is_allowed t) justs)
  pub goals : EachGoal (λ goal. IsTrue (is_good goal)) tree
  pub steps : every-Tree Sequent (IsByOne (length justs)) tree

-- a block can be checked in this theory: the steps of its tree can be tried, or the goal of its failure is good
abbrev pub IsGoodPrinted : Laws → Printed → Type 0
IsGoodPrinted t (printed.Proof tree justs) = IsGoodProof t justs tree
IsGoodPrinted t (printed.Failed kind tac goal) = IsTrue (is_good goal)

-- each of the blocks can be checked in this theory
abbrev pub EachGoodPrinted : Laws → List Printed → Type 0
EachGoodPrinted t [] = ⊤
EachGoodPrinted t (p ∷ ps) = IsGoodPrinted t p × EachGoodPrinted t ps

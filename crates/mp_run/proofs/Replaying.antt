-- Blocks of tree files that are checked by steps of the theory.
use Rattle.std.proofs.Common.{◌≡◌, ℕ, List, [], ◌∷◌, ◌++◌, map, IsTrue, Result, Ok, Err, refl, ap, sym, subst, ◌∙◌}
use Rattle.std.specs.List.{AllByRecursion, list_all}
use Rattle.std.specs.Prelude.{IfOk}
use Rattle.mp_logic.specs.declared.memory.NoMemory.{NoMemory}
use Rattle.mp_logic.specs.declared.tree.Tree.{Tree}
use Rattle.mp_logic.specs.declared.tree.Tree.TheFolds.{every-Tree}
use Rattle.mp_logic.specs.declared.tree.Tree.TheOpen as layer
use Rattle.mp_logic.specs.Trees.{goal_at, root_of}
use Rattle.mp_logic.specs.Valid.{EachGoal, IsValid, StepHolds}
use Rattle.mp_term.specs.declared.sequent.Sequent.{Sequent}
use Rattle.mp_theory.specs.declared.just.Just.{Just}
use Rattle.mp_theory.specs.Allowed.{is_good, is_allowed}
use Rattle.mp_theory.specs.Tables.{Laws, IsTheory}
use Rattle.mp_strategy.proofs.Goods.{allowed_at}
use Rattle.mp_refiner.specs.Law.{StepLaw}
use Rattle.mp_refiner.specs.Lawful.{lawful}
use Rattle.mp_refiner.specs.Steps.{meaning_of, meaning_with}
use Rattle.mp_replay.specs.declared.verdict.BadCause.{BadCause}
use Rattle.mp_replay.specs.declared.verdict.BadCause.TheVariants as cause
use Rattle.mp_replay.specs.declared.verdict.Verdict.{Verdict as TreeVerdict}
use Rattle.mp_replay.specs.declared.verdict.Verdict.TheVariants as tree
use Rattle.mp_replay.specs.Conditions.{CanReplay}
use Rattle.mp_replay.specs.Nodes.{Node, preorder_of}
use Rattle.mp_replay.specs.Verdicts.{IsBad, IsFirstBad, IsFirstFault, IsVerdict}
use Rattle.mp_replay.proofs.Listed.{can_replay}
use Rattle.mp_replay.proofs.NodeLists.{each_node, of_each_node}
use Rattle.mp_replay.proofs.Validity.{bad_not_valid, one_verdict, some_verdict}
use Rattle.mp_treetext.specs.declared.printed.Printed.{Printed}
use Rattle.mp_treetext.specs.declared.printed.Printed.TheVariants as printed
use Rattle.mp_treetext.specs.Printed.{IsByOne, IsGoodPrinted, IsGoodProof}
use Rattle.mp_report.specs.declared.check.Checked.{Checked}
use Rattle.mp_report.specs.declared.check.Checked.TheVariants as checked
use Rattle.mp_report.specs.Checks.{checked_text}
use Rattle.mp_scripttext.specs.declared.script.Entry.{Entry}
use Rattle.mp_run.specs.declared.piece.Piece.{Piece}
use Rattle.mp_run.specs.Goals.{Steps}
use Rattle.mp_run.specs.Parts.{Names}
use Rattle.mp_run.specs.Proofs.{Proves, StepIs, IsDerivable}
use Rattle.mp_run.specs.Replays.{IsLine, IsChecked, checked_of, is_valid, run_verdict}
use Rattle.mp_run.proofs.GoalPieces.{piece_of, same_piece}
use Rattle.mp_run.proofs.Proving.{agree, is_step, proves}

parted : {A : Type 0} (P : A → Type 0) (xs ys : List A) → AllByRecursion P (xs ++ ys) → AllByRecursion P xs × AllByRecursion P ys
parted P [] ys h = (tt, h)
parted P (x ∷ xs) ys h = let r = parted P xs ys h.1 in ((h.0, r.0), r.1)

-- the goal of the node is good
abbrev IsGoodNode : Node Sequent → Type 0
IsGoodNode node = IsTrue (is_good (goal_at node))

module _ (P Q : Node Sequent → Type 0) (turns : (node : Node Sequent) → IsGoodNode node → P node → Q node) where
  each_turns : (nodes : List (Node Sequent)) → AllByRecursion IsGoodNode nodes → AllByRecursion P nodes → AllByRecursion Q nodes
  each_turns [] good h = tt
  each_turns (n ∷ ns) good h = (turns n good.0 h.0, each_turns ns good.1 h.1)

  -- what turns into another fact at each node with a good goal does so in a tree of good goals
  tree_turns : (t : Tree Sequent) → EachGoal (λ g. IsTrue (is_good g)) t → every-Tree Sequent P t → every-Tree Sequent Q t
  tree_turns t goods h = of_each_node Q t (each_turns (preorder_of t) (each_node IsGoodNode t goods) (each_node P t h))

-- ## Verdicts by step functions that agree

module _ (theory : Laws) (justs : List Just) (allowed : IsTrue (list_all (is_allowed theory) justs)) (steps others : Steps)
    (same : (by : Just) (g : Sequent) → IsTrue (is_allowed theory by) → IsTrue (is_good g) → steps by g ≡ others by g) where
  node_holds : (node : Node Sequent) → IsGoodNode node → StepHolds steps justs node → StepHolds others justs node
  node_holds (layer.Leaf g) good h = tt
  node_holds (layer.Step g just kids) good (by, is, makes) = (by, is, sym (same by g (allowed_at (is_allowed theory) justs just.0 by allowed is) good) ∙ makes)

  node_bad : (node : Node Sequent) (c : BadCause Sequent) → IsGoodNode node → IsBad steps justs node c → IsBad others justs node c
  node_bad (layer.Leaf g) c good h = h
  node_bad (layer.Step g just kids) cause.Goal good h = h
  node_bad (layer.Step g just kids) (cause.Refused why) good (by, is, refused) =
      (by, is, sym (same by g (allowed_at (is_allowed theory) justs just.0 by allowed is) good) ∙ refused)
  node_bad (layer.Step g just kids) (cause.Kids found due) good (by, is, gives, roots, differ) =
      (by, is, sym (same by g (allowed_at (is_allowed theory) justs just.0 by allowed is) good) ∙ gives, roots, differ)

  first_bad : (nodes : List (Node Sequent)) (place : ℕ) (c : BadCause Sequent) → AllByRecursion IsGoodNode nodes → IsFirstBad steps justs nodes place c → IsFirstBad others justs nodes place c
  first_bad nodes place c good h =
      let parts = parted IsGoodNode h.before (h.node ∷ h.after) (subst (AllByRecursion IsGoodNode) h.split good) in
      record {
        before = h.before;
        node = h.node;
        after = h.after;
        split = h.split;
        counts = h.counts;
        sound = each_turns (StepHolds steps justs) (StepHolds others justs) node_holds h.before parts.0 h.sound;
        bad = node_bad h.node c parts.1.0 h.bad;
      }

  module _ (t : Tree Sequent) (goods : EachGoal (λ g. IsTrue (is_good g)) t) (goal : Sequent) where
    same_valid : IsValid steps justs t goal → IsValid others justs t goal
    same_valid h = (h.0, tree_turns (StepHolds steps justs) (StepHolds others justs) node_holds t goods h.1)

    same_fault : (node : ℕ) (c : BadCause Sequent) → IsFirstFault steps justs t node c → IsFirstFault others justs t node c
    same_fault node c (place, first, e) = (place, first_bad (preorder_of t) place c (each_node IsGoodNode t goods) first, e)

    -- the verdict on a tree of good goals is the same by both
    pub same_verdict : (v : TreeVerdict Sequent) → IsVerdict steps justs t goal v → IsVerdict others justs t goal v
    same_verdict tree.Closed h = (same_valid h.0, h.1)
    same_verdict (tree.OpenLeaves n) h = (same_valid h.0, h.1, h.2)
    same_verdict (tree.Bad node cause.Goal) h = h
    same_verdict (tree.Bad node (cause.Refused why)) h = (h.0, same_fault node (cause.Refused why) h.1)
    same_verdict (tree.Bad node (cause.Kids found due)) h = (h.0, same_fault node (cause.Kids found due) h.1)

-- ## Pieces

-- the line of what is said of the goal's block, with its verdict
abbrev pub line_of : Names → Entry → Checked → Piece
line_of names entry c = piece_of (checked_text names entry.name c) (run_verdict c)

one_line : (names : Names) (entry : Entry) (c d : Checked) (p q : Piece) → c ≡ d → IsLine names entry c p → IsLine names entry d q → p ≡ q
one_line names entry c d p q e h k = same_piece p q (h.text ∙ ap (checked_text names entry.name) e ∙ sym k.text) (h.verdict ∙ ap run_verdict e ∙ sym k.verdict)

-- a tree that is read can be replayed
pub can_be_replayed : (theory : Laws) (justs : List Just) (t : Tree Sequent) → IsGoodProof theory justs t → CanReplay (meaning_of theory) justs t
can_be_replayed theory justs t ok =
    can_replay (meaning_of theory) justs ok.allowed (IsByOne _) (λ g just kids (h : IsByOne _ (layer.Step g just kids)). h) t ok.goals ok.steps

module _ (law : StepLaw) (names : Names) (theory : Laws) (is_theory : IsTheory theory) (entry : Entry) (good : IsTrue (is_good entry.goal)) where
  module _ (t : Tree Sequent) (justs : List Just) (ok : IsGoodProof theory justs t) where
    valid_of : (v : TreeVerdict Sequent) → IsVerdict (meaning_of theory).step justs t entry.goal v → IsTrue (is_valid v) → IsValid (meaning_of theory).step justs t entry.goal
    valid_of tree.Closed h is = h.0
    valid_of (tree.OpenLeaves n) h is = h.0
    valid_of (tree.Bad node c) h is = absurd cc

    is_called_valid : (v : TreeVerdict Sequent) → IsVerdict (meaning_of theory).step justs t entry.goal v → IsValid (meaning_of theory).step justs t entry.goal → IsTrue (is_valid v)
    is_called_valid tree.Closed h valid = refl
    is_called_valid (tree.OpenLeaves n) h valid = refl
    is_called_valid (tree.Bad node c) h valid = absurd (bad_not_valid (meaning_of theory).step justs t entry.goal node c h valid)

    valid_proves : IsValid (meaning_of theory).step justs t entry.goal → Proves theory justs t entry.goal
    valid_proves h = proves law theory is_theory justs ok.allowed t entry.goal good h

    step_holds : (node : Node Sequent) → IsGoodNode node → StepIs theory justs node → StepHolds (meaning_of theory).step justs node
    step_holds (layer.Leaf g) here h = tt
    step_holds (layer.Step g just kids) here (by, is, may, step) = (by, is, (law theory by g (Ok (map root_of kids)) is_theory may here).1 step)

    proves_valid : Proves theory justs t entry.goal → IsValid (meaning_of theory).step justs t entry.goal
    proves_valid h = (h.0, tree_turns (StepIs theory justs) (StepHolds (meaning_of theory).step justs) step_holds t ok.goals h.1)

    closed_is_derivable : IsVerdict (meaning_of theory).step justs t entry.goal tree.Closed → IsDerivable theory entry.goal
    closed_is_derivable h = (good, justs, ok.allowed, t, valid_proves h.0, h.1)

    -- the piece of a goal whose tree was checked
    replayed : (v : TreeVerdict Sequent) (p : Piece) → IsVerdict (meaning_of theory).step justs t entry.goal v → IsLine names entry (checked_of v) p
        → IsChecked names theory entry (printed.Proof t justs) p
    replayed v p h line = (
      (meaning_of theory).step,
      is_step law theory is_theory,
      v,
      h,
      record {
        valid = (λ is. valid_proves (valid_of v h is), λ of. is_called_valid v h (proves_valid of));
        derivable = λ e. closed_is_derivable (subst (IsVerdict (meaning_of theory).step justs t entry.goal) e h);
        line = line;
      },
    )

    -- what was made of it is that piece, if memory sufficed
    pub checked_piece : (v : TreeVerdict Sequent) (c : Checked) (made : Result Piece NoMemory) → IsVerdict (meaning_of theory).step justs t entry.goal v → c ≡ checked_of v → IfOk made (IsLine names entry c)
        → IfOk made (IsChecked names theory entry (printed.Proof t justs))
    checked_piece v c (Ok p) h e line = replayed v p h (subst (λ (d : Checked). IsLine names entry d p) e line)
    checked_piece v c (Err lacking) h e line = tt

    some_checked : (p : Piece) × IsChecked names theory entry (printed.Proof t justs) p
    some_checked =
        let v = some_verdict (meaning_of theory) (lawful theory) justs t entry.goal (can_be_replayed theory justs t ok) in
        (line_of names entry (checked_of v.0), replayed v.0 (line_of names entry (checked_of v.0)) v.1 (record { text = refl; verdict = refl }))

    one_checked : (p q : Piece) → IsChecked names theory entry (printed.Proof t justs) p → IsChecked names theory entry (printed.Proof t justs) q → p ≡ q
    one_checked p q (steps, are, v, h, line) (others, also, w, k, line') =
        let there = same_verdict theory justs ok.allowed others steps (agree law theory is_theory others steps also are) t ok.goals entry.goal w k in
        let e = one_verdict (meaning_with steps theory) justs t entry.goal v w h there in
        one_line names entry (checked_of v) (checked_of w) p q (ap checked_of e) line.line line'.line

  -- each block that can be checked has a piece
  pub some_replayed : (block : Printed) → IsGoodPrinted theory block → (p : Piece) × IsChecked names theory entry block p
  some_replayed (printed.Proof t justs) ok = some_checked t justs ok
  some_replayed (printed.Failed kind tac goal) ok = (line_of names entry checked.Unchecked, record { text = refl; verdict = refl })

  -- and no other one
  pub one_replayed : (block : Printed) → IsGoodPrinted theory block → (p q : Piece) → IsChecked names theory entry block p → IsChecked names theory entry block q → p ≡ q
  one_replayed (printed.Proof t justs) ok p q h k = one_checked t justs ok p q h k
  one_replayed (printed.Failed kind tac goal) ok p q h k = one_line names entry checked.Unchecked checked.Unchecked p q refl h k

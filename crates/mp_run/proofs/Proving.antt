-- Trees of evaluation prove their goals by steps of the theory.
use Rattle.std.proofs.Common.{◌≡◌, ℕ, ◌<◌, ◌≤◌, true, List, [], ◌∷◌, map, length, nat_eq, nat_lt, Ok, IsTrue, refl, sym, subst, ◌∙◌, arith}
use Rattle.std.proofs.lemmas.Bool.{and_parts}
use Rattle.std.proofs.lemmas.Bool.Decides.{nat_tests}
use Rattle.std.specs.List.{AllByRecursion, list_all}
use Rattle.mp_logic.specs.declared.tree.Tree.{Tree, Leaf, Step}
use Rattle.mp_logic.specs.declared.tree.Tree.TheFolds.{every-Tree}
use Rattle.mp_logic.specs.declared.tree.Tree.TheOpen as layer
use Rattle.mp_logic.specs.declared.tree.JustId.{JustId}
use Rattle.mp_logic.specs.Trees.{root_of, leaf_count_of}
use Rattle.mp_logic.specs.Valid.{IsValid, StepHolds}
use Rattle.mp_logic.proofs.Every.{every_leaf, every_step}
use Rattle.mp_logic.proofs.TreeInduction.{tree_ind}
use Rattle.mp_term.specs.declared.sequent.Sequent.{Sequent}
use Rattle.mp_theory.specs.declared.just.Just.{Just}
use Rattle.mp_theory.specs.Allowed.{is_good, is_allowed}
use Rattle.mp_theory.specs.Tables.{Laws, IsTheory}
use Rattle.mp_strategy.specs.declared.outcome.Outcome.{Outcome}
use Rattle.mp_strategy.specs.declared.outcome.Outcome.TheVariants as outcome
use Rattle.mp_strategy.specs.Fits.{fits_of}
use Rattle.mp_strategy.specs.Laws.{IsSoundFor, tree_depth_of}
use Rattle.mp_strategy.proofs.Allowed.{eval_allowed}
use Rattle.mp_strategy.proofs.Goods.{allowed_at}
use Rattle.mp_strategy.proofs.Inner.{good_kids}
use Rattle.mp_strategy.proofs.Sound.{sound_in}
use Rattle.mp_strategy.proofs.Steps.{root-Step, every_here, every_kid}
use Rattle.mp_refiner.specs.Law.{StepLaw, IsStepFunction}
use Rattle.mp_refiner.specs.Steps.{meaning_of, meaning_with}
use Rattle.mp_refiner.specs.Lawful.{lawful}
use Rattle.mp_scripttext.specs.declared.script.Entry.{Entry}
use Rattle.mp_scripttext.specs.Entries.{IsGoodEntry}
use Rattle.mp_strategy.specs.declared.work.Work.{Work}
use Rattle.mp_strategy.specs.Evaluation.{eval}
use Rattle.mp_strategy.proofs.Alike.{same_outcomes}
use Rattle.mp_run.specs.Goals.{Steps, is_closed_outcome, problem_of, goal_work, evaluate_by}
use Rattle.mp_run.specs.Proofs.{StepIs, Proves, IsDerivable}

module _ (law : StepLaw) (theory : Laws) (is_theory : IsTheory theory) (justs : List Just) (allowed : IsTrue (list_all (is_allowed theory) justs)) where
  abbrev Holds : Tree Sequent → Type 0
  Holds t = every-Tree Sequent (StepHolds (meaning_of theory).step justs) t

  abbrev Says : Tree Sequent → Type 0
  Says t = every-Tree Sequent (StepIs theory justs) t

  step_is : (g : Sequent) (just : JustId) (kids : List (Tree Sequent)) → IsTrue (is_good g) → StepHolds (meaning_of theory).step justs (layer.Step g just kids) → StepIs theory justs (layer.Step g just kids)
  step_is g just kids good (j, is, makes) =
      let may = allowed_at (is_allowed theory) justs just.0 j allowed is in
      (j, is, may, (law theory j g (Ok (map root_of kids)) is_theory may good).0 makes)

  abbrev Turns : Tree Sequent → Type 0
  Turns t = IsTrue (is_good (root_of t)) → Holds t → Says t

  turns_leaf : (g : Sequent) → Turns (Leaf g)
  turns_leaf g h holds = every_leaf (StepIs theory justs) g tt

  turns_each : (kids : List (Tree Sequent)) → AllByRecursion Turns kids → AllByRecursion (λ k. IsTrue (is_good (root_of k))) kids → AllByRecursion Holds kids → AllByRecursion Says kids
  turns_each [] t h k = tt
  turns_each (x ∷ xs) t h k = (t.0 h.0 k.0, turns_each xs t.1 h.1 k.1)

  turns_step : (g : Sequent) (just : JustId) (kids : List (Tree Sequent)) → AllByRecursion Turns kids → Turns (Step g just kids)
  turns_step g just kids turns h holds =
      let good : IsTrue (is_good g) = subst (λ x. IsTrue (is_good x)) (root-Step g just kids) h in
      let here = every_here (StepHolds (meaning_of theory).step justs) g just kids holds in
      every_step (StepIs theory justs) g just kids
      (turns_each kids turns (good_kids (meaning_of theory) (lawful theory) justs allowed g just kids good here) (every_kid (StepHolds (meaning_of theory).step justs) g just kids holds))
      (step_is g just kids good here)

  -- a tree that is valid for a good goal proves it
  pub proves : (t : Tree Sequent) (g : Sequent) → IsTrue (is_good g) → IsValid (meaning_of theory).step justs t g → Proves theory justs t g
  proves t g h valid = (valid.0, tree_ind Turns turns_leaf turns_step t (subst (λ x. IsTrue (is_good x)) (sym valid.0) h) valid.1)

-- the code's steps are a step function of the theory
pub is_step : StepLaw → (theory : Laws) → IsTheory theory → IsStepFunction theory (meaning_of theory).step
is_step law theory is_theory by g ok good = (law theory by g ((meaning_of theory).step by g) is_theory ok good).0 refl

-- two step functions of the theory agree on what is allowed and good
pub agree : StepLaw → (theory : Laws) → IsTheory theory → (steps others : Steps) → IsStepFunction theory steps → IsStepFunction theory others
    → (by : Just) (g : Sequent) → IsTrue (is_allowed theory by) → IsTrue (is_good g) → steps by g ≡ others by g
agree law theory is_theory steps others are also by g ok good =
    sym ((law theory by g (steps by g) is_theory ok good).1 (are by g ok good)) ∙ (law theory by g (others by g) is_theory ok good).1 (also by g ok good)

-- ## Outcomes

nat_same : (n : ℕ) → nat_eq n 0 ≡ true → n ≡ 0
nat_same n e = grind (arith, nat_tests, e)

-- the outcome is sound for the goal: its tree is valid, with no path longer than the fuel
abbrev pub SoundIn : Laws → Entry → Outcome Sequent → Type 0
SoundIn theory entry o = IsSoundFor (meaning_of theory).step entry.justs entry.fuel entry.goal o

module _ (law : StepLaw) (theory : Laws) (is_theory : IsTheory theory) (entry : Entry) (good : IsGoodEntry theory entry) where
  -- what an outcome says of its goal: its tree proves it, no path is longer than the fuel, and a closed goal is derivable
  pub record OutcomeSays (o : Outcome Sequent) : Type 0 where
    pub valid : (t : Tree Sequent) → o ≡ outcome.Tree t → Proves theory entry.justs t entry.goal
    pub low : (t : Tree Sequent) → o ≡ outcome.Tree t → tree_depth_of t ≤ entry.fuel
    pub derivable : IsTrue (is_closed_outcome o) → IsDerivable theory entry.goal

  tree_proves : (t : Tree Sequent) → SoundIn theory entry (outcome.Tree t) → Proves theory entry.justs t entry.goal
  tree_proves t sound = proves law theory is_theory entry.justs good.allowed t entry.goal good.good sound.0

  closed_is_derivable : (o : Outcome Sequent) → SoundIn theory entry o → IsTrue (is_closed_outcome o) → IsDerivable theory entry.goal
  closed_is_derivable (outcome.Tree t) sound closed = (good.good, entry.justs, good.allowed, t, tree_proves t sound, nat_same (leaf_count_of t) closed)
  closed_is_derivable (outcome.Failure f) sound closed = absurd cc

  pub outcome_says : (o : Outcome Sequent) → SoundIn theory entry o → OutcomeSays o
  outcome_says o sound = record {
    valid = λ t e. tree_proves t (subst (SoundIn theory entry) e sound);
    low = λ t e. (subst (SoundIn theory entry) e sound).1;
    derivable = closed_is_derivable o sound;
  }

-- what the code's steps evaluate to
abbrev pub evaluate_in : Laws → Entry → Work Sequent → Outcome Sequent
evaluate_in theory entry = eval meaning_of (problem_of theory entry)

-- the outcome of a goal, by the code's steps
abbrev pub goal_outcome : Laws → Entry → Outcome Sequent
goal_outcome theory entry = evaluate_in theory entry (goal_work entry)

-- all step functions of the theory give a work on a good goal what the code's steps give
pub by_steps : StepLaw → (theory : Laws) → IsTheory theory → (entry : Entry) → IsGoodEntry theory entry → (steps : Steps) → IsStepFunction theory steps → (w : Work Sequent) → IsTrue (is_good w.goal)
    → evaluate_in theory entry w ≡ evaluate_by steps theory entry w
by_steps law theory is_theory entry good steps are w is =
    same_outcomes meaning_of (problem_of theory entry) (lawful theory) (record { fits = good.fits; allowed = good.allowed }) (meaning_with steps) w
    (record { step = λ j g ok h. (law theory j g (steps j g) is_theory ok h).1 (are j g ok h); same = λ a b. refl }) is

module _ (theory : Laws) (entry : Entry) (good : IsGoodEntry theory entry) where
  not_empty : (justs : ℕ) → IsTrue (fits_of justs entry.tacs) → 0 < length entry.tacs
  not_empty justs fits = let first : nat_lt 0 (length entry.tacs) ≡ true = (and_parts _ _ fits).0 in grind (arith, nat_tests, first)

  -- evaluation is sound
  pub sound : SoundIn theory entry (goal_outcome theory entry)
  sound =
      let problem = problem_of theory entry in
      let gives = eval_allowed meaning_of problem (record { fits = good.fits; allowed = good.allowed }) (goal_work entry) (not_empty (length entry.justs) good.fits) in
      sound_in (meaning_of theory) entry.justs 0 entry.tacs 0 (goal_work entry).left entry.fuel entry.goal (goal_outcome theory entry) gives

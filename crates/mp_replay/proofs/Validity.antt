-- The verdict is validity, and there is exactly one.
use Rattle.std.proofs.Common.{◌≡◌, ℕ, zero, suc, ◌+◌, List, Some, None, refl, ap, ◌∙◌, sym, inl, inr, arith}
use Rattle.std.specs.List.{AllByRecursion}
use Rattle.std.specs.Prelude.{◌⊎◌, ◌≢◌}
use Rattle.mp_logic.specs.declared.tree.Tree.{Tree}
use Rattle.mp_logic.specs.Meaning.{Meaning, IsLogic}
use Rattle.mp_logic.specs.Steps.{Outcome}
use Rattle.mp_logic.specs.Trees.{root_of, leaf_count_of, counted}
use Rattle.mp_logic.specs.Valid.{StepHolds, IsValid}
use Rattle.mp_replay.specs.Conditions.{CanReplay, IsByAllowed}
use Rattle.mp_replay.specs.Finding.{Finds}
use Rattle.mp_replay.specs.Laws.{OneVerdict, SomeVerdict, VerdictIsValidity}
use Rattle.mp_replay.specs.Nodes.{preorder_of}
use Rattle.mp_replay.specs.Verdicts.{IsFirstBad, IsFirstFault, IsVerdict}
use Rattle.mp_replay.specs.declared.verdict.BadCause.{BadCause}
use Rattle.mp_replay.specs.declared.verdict.BadCause.TheVariants as cause
use Rattle.mp_replay.specs.declared.verdict.Verdict.{Verdict}
use Rattle.mp_replay.specs.declared.verdict.Verdict.TheVariants as verdict
use Rattle.mp_replay.proofs.Deciding.{not_goal, one_first, none_bad, same_or_not, sound_or_first, SomeFirst}
use Rattle.mp_replay.proofs.NodeLists.{each_node, of_each_node}

module _ {G J : Type 0} (step : J → G → Outcome G) (justs : List J) (t : Tree G) (goal : G) where
  -- a tree with a bad node isn't valid
  fault_not_valid : (node : ℕ) (c : BadCause G) → IsFirstFault step justs t node c → ¬ (IsValid step justs t goal)
  fault_not_valid node c (place, first, e) valid = none_bad step justs (preorder_of t) place c (each_node (StepHolds step justs) t valid.1) first

  -- a tree that is called bad isn't valid for the goal
  pub bad_not_valid : (node : ℕ) (c : BadCause G) → IsVerdict step justs t goal (verdict.Bad node c) → ¬ (IsValid step justs t goal)
  bad_not_valid node cause.Goal (differ, e) valid = differ valid.0
  bad_not_valid node (cause.Refused why) (same, fault) valid = fault_not_valid node (cause.Refused why) fault valid
  bad_not_valid node (cause.Kids found due) (same, fault) valid = fault_not_valid node (cause.Kids found due) fault valid

  -- a tree has at most one first bad node, and it is bad by one cause
  one_fault : (n k : ℕ) (c d : BadCause G) → IsFirstFault step justs t n c → IsFirstFault step justs t k d → (n ≡ k) × (c ≡ d)
  one_fault n k c d (p, first, e) (q, other, f) =
      let both = one_first step justs (preorder_of t) p q c d first other in
      (e ∙ ap (λ n. counted (n + 1)) both.0 ∙ sym f, both.1)

  -- bad nodes of the same number and cause give the same verdict
  same_bad : (n k : ℕ) (c d : BadCause G) → (n ≡ k) × (c ≡ d) → verdict.Bad n c ≡ verdict.Bad k d
  same_bad n k c d (e, f) = cc

  -- a tree is called bad in one way
  one_bad : (n k : ℕ) (c d : BadCause G) → IsVerdict step justs t goal (verdict.Bad n c) → IsVerdict step justs t goal (verdict.Bad k d) → verdict.Bad n c ≡ verdict.Bad k d
  one_bad n k cause.Goal cause.Goal (a, e) (b, f) = cc
  one_bad n k cause.Goal (cause.Refused why) (a, e) (b, f) = absurd (a b)
  one_bad n k cause.Goal (cause.Kids found due) (a, e) (b, f) = absurd (a b)
  one_bad n k (cause.Refused why) cause.Goal (a, e) (b, f) = absurd (b a)
  one_bad n k (cause.Kids found due) cause.Goal (a, e) (b, f) = absurd (b a)
  one_bad n k (cause.Refused why) (cause.Refused why') (a, e) (b, f) = same_bad n k (cause.Refused why) (cause.Refused why') (one_fault n k (cause.Refused why) (cause.Refused why') e f)
  one_bad n k (cause.Refused why) (cause.Kids found due) (a, e) (b, f) = same_bad n k (cause.Refused why) (cause.Kids found due) (one_fault n k (cause.Refused why) (cause.Kids found due) e f)
  one_bad n k (cause.Kids found due) (cause.Refused why) (a, e) (b, f) = same_bad n k (cause.Kids found due) (cause.Refused why) (one_fault n k (cause.Kids found due) (cause.Refused why) e f)
  one_bad n k (cause.Kids found due) (cause.Kids found' due') (a, e) (b, f) = same_bad n k (cause.Kids found due) (cause.Kids found' due') (one_fault n k (cause.Kids found due) (cause.Kids found' due') e f)

  -- there is at most one verdict
  pub one : (v w : Verdict G) → IsVerdict step justs t goal v → IsVerdict step justs t goal w → v ≡ w
  one verdict.Closed verdict.Closed a b = refl
  one verdict.Closed (verdict.OpenLeaves k) a b = absurd (b.1 a.1)
  one verdict.Closed (verdict.Bad k d) a b = absurd (bad_not_valid k d b a.0)
  one (verdict.OpenLeaves n) verdict.Closed a b = absurd (a.1 b.1)
  one (verdict.OpenLeaves n) (verdict.OpenLeaves k) a b = ap verdict.OpenLeaves (a.2 ∙ sym b.2)
  one (verdict.OpenLeaves n) (verdict.Bad k d) a b = absurd (bad_not_valid k d b a.0)
  one (verdict.Bad n c) verdict.Closed a b = absurd (bad_not_valid n c a b.0)
  one (verdict.Bad n c) (verdict.OpenLeaves k) a b = absurd (bad_not_valid n c a b.0)
  one (verdict.Bad n c) (verdict.Bad k d) a b = one_bad n k c d a b

  -- a tree for the goal in which a walk finds nothing is valid
  pub valid_found : (now : ℕ) → root_of t ≡ goal → Finds step justs (preorder_of t) 0 None now → IsValid step justs t goal
  valid_found now same (sound, e) = (same, of_each_node (StepHolds step justs) t sound)

  -- what a walk from 0 finds in a tree for the goal is the verdict
  pub bad_found : (c : BadCause G) (now : ℕ) → root_of t ≡ goal → Finds step justs (preorder_of t) 0 (Some c) now → IsVerdict step justs t goal (verdict.Bad now c)
  bad_found cause.Goal now same (place, first, e) = absurd (not_goal step justs (preorder_of t) place first)
  bad_found (cause.Refused why) now same (place, first, e) = (same, (place, first, omega arith))
  bad_found (cause.Kids found due) now same (place, first, e) = (same, (place, first, omega arith))

module _ {G J : Type 0} (m : Meaning G J) where
  -- of a tree and a goal there is at most one verdict
  pub one_verdict : OneVerdict m
  one_verdict justs t goal v w a b = one m.step justs t goal v w a b

  -- each verdict on a tree and a goal says whether the tree is valid for the goal
  pub verdict_is_validity : VerdictIsValidity m
  verdict_is_validity justs t goal verdict.Closed h = record {
    closed = (λ e. h, λ valid. refl);
    leaves = λ n. (λ e. absurd cc, λ says. absurd (says.1 h.1));
    bad = (λ says. let e = says.2 in absurd cc, λ no. absurd (no h.0));
  }
  verdict_is_validity justs t goal (verdict.OpenLeaves k) h = record {
    closed = (λ e. absurd cc, λ says. absurd (h.1 says.1));
    leaves = λ n. (λ e. (h.0, h.1, let same : k ≡ n = cc in sym same ∙ h.2), λ says. ap verdict.OpenLeaves (h.2 ∙ sym says.2));
    bad = (λ says. let e = says.2 in absurd cc, λ no. absurd (no h.0));
  }
  verdict_is_validity justs t goal (verdict.Bad node c) h =
      let not_valid = bad_not_valid m.step justs t goal node c h in
      record {
        closed = (λ e. absurd cc, λ says. absurd (not_valid says.0));
        leaves = λ n. (λ e. absurd cc, λ says. absurd (not_valid says.0));
        bad = (λ says. not_valid, λ no. (node, c, refl));
      }

  module _ (lawful : IsLogic m) (justs : List J) (t : Tree G) (goal : G) where
    -- there is a verdict
    abbrev AVerdict : Type 0
    AVerdict = (v : Verdict G) × IsVerdict m.step justs t goal v

    -- a valid tree is closed or has open leaves
    of_count : (n : ℕ) → leaf_count_of t ≡ n → IsValid m.step justs t goal → AVerdict
    of_count zero e valid = (verdict.Closed, (valid, e))
    of_count (suc n) e valid = (verdict.OpenLeaves (counted (leaf_count_of t)), (valid, (λ none. omega arith), refl))

    -- a tree for the goal that has a first bad node is called bad
    of_fault : (place : ℕ) (c : BadCause G) → root_of t ≡ goal → IsFirstBad m.step justs (preorder_of t) place c → AVerdict
    of_fault place cause.Goal same first = absurd (not_goal m.step justs (preorder_of t) place first)
    of_fault place (cause.Refused why) same first = (verdict.Bad (counted (place + 1)) (cause.Refused why), (same, (place, first, refl)))
    of_fault place (cause.Kids found due) same first = (verdict.Bad (counted (place + 1)) (cause.Kids found due), (same, (place, first, refl)))

    -- the verdict on a tree for the goal, by its nodes
    of_nodes : root_of t ≡ goal → AllByRecursion (StepHolds m.step justs) (preorder_of t) ⊎ SomeFirst m lawful justs (preorder_of t) → AVerdict
    of_nodes same (inl sound) = of_count (leaf_count_of t) refl (same, of_each_node (StepHolds m.step justs) t sound)
    of_nodes same (inr (place, c, first)) = of_fault place c same first

    -- the verdict on a tree, by its goal
    of_root : CanReplay m justs t → (root_of t ≡ goal) ⊎ (root_of t ≢ goal) → AVerdict
    of_root can (inl same) = of_nodes same (sound_or_first m lawful justs (preorder_of t) (each_node (IsByAllowed m justs) t can.steps))
    of_root can (inr differ) = (verdict.Bad 1 cause.Goal, (differ, refl))

  -- of a tree that can be replayed and a goal there is a verdict
  pub some_verdict : IsLogic m → SomeVerdict m
  some_verdict lawful justs t goal can = of_root lawful justs t goal can (same_or_not m lawful (root_of t) goal)

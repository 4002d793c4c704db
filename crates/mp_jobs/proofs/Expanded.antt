-- What an expansion makes: a node with the shape of one, smaller than the work, in which nothing is claimed.
use Rattle.std.proofs.Common.{◌≡◌, ℕ, zero, suc, ◌+◌, ◌-◌, ◌≤◌, max, true, IsTrue, List, [], ◌∷◌, map, length, nat_lt, nat_le, refl, ap, sym, subst, ◌∙◌, Some, arith}
use Rattle.std.proofs.lemmas.Bool.{and_parts, lt-ltb}
use Rattle.std.proofs.lemmas.List.{length-map}
use Rattle.std.specs.declared.option.Option.{Option}
use Rattle.std.specs.Prelude.{slice_get}
use Rattle.std.specs.List.{AllByRecursion}
use Rattle.mp_logic.specs.Meaning.{Meaning, IsLogic}
use Rattle.mp_logic.specs.declared.tree.Tree.{Leaf}
use Rattle.mp_strategy.specs.declared.limits.TheConstants.{MOST_BRANCHES}
use Rattle.mp_strategy.specs.declared.problem.ProblemState.{ProblemState}
use Rattle.mp_strategy.specs.declared.tactic.Tac.{Tac}
use Rattle.mp_strategy.specs.declared.tactic.Tac.TheVariants as tac
use Rattle.mp_strategy.specs.declared.tactic.TacId.{TacId}
use Rattle.mp_strategy.specs.declared.work.Work.{Work}
use Rattle.mp_strategy.specs.declared.outcome.Kind.TheVariants as kind
use Rattle.mp_strategy.specs.declared.outcome.Outcome.{Outcome}
use Rattle.mp_strategy.specs.declared.outcome.Outcome.TheVariants as outcome
use Rattle.mp_strategy.specs.Fits.{parts_of, places, counts_fit}
use Rattle.mp_strategy.specs.Laws.{IsGood}
use Rattle.mp_strategy.specs.Problems.{IsProblem}
use Rattle.mp_strategy.specs.Works.{IsWork, work_of}
use Rattle.mp_strategy.specs.Strategies.{failure}
use Rattle.mp_strategy.proofs.LeafCounts.{count-Leaf}
use Rattle.mp_strategy.proofs.Unfolds.{IsBehind, is_within}
use Rattle.mp_jobs.specs.declared.node.Node.{Node, Done, Then, Check}
use Rattle.mp_jobs.specs.Costs.{Size, IsWithin, widest, weight_sum, repeat_by, repeat_size, sizes, size_row, entry_size, part_size, work_size, then_size_by}
use Rattle.mp_jobs.specs.Epochs.{total, claims_under, claims_step, under}
use Rattle.mp_jobs.specs.Expansion.{part_job, repeated, expansion_by, expansion}
use Rattle.mp_jobs.specs.Shapes.{Shape, makes_then, makes_check}
use Rattle.mp_jobs.specs.Sizes.{size_of, size_step, width_of}
use Rattle.mp_jobs.proofs.EntrySizes.{size_unfolds}
use Rattle.mp_jobs.proofs.Folds.{fold-Todo, fold-Done, fold-Then, fold-Else, fold-Race, fold-Check}
use Rattle.mp_jobs.proofs.GoodGrafts.{one_goal}
use Rattle.mp_jobs.proofs.ShapeSteps.{shape-Todo, shape-Done, shape-Then, shape-Else, shape-Race, shape-Check, back}
use Rattle.mp_jobs.proofs.StepOutcomes.{fine}

module _ {L G J : Type 0} (meaning : L → Meaning G J) (p : ProblemState L J) (lawful : IsLogic (meaning p.logic)) (is : IsProblem meaning p) where
  abbrev S : Node G → Size
  S = size_of meaning p

  abbrev H : Node G → Type 0
  H = Shape meaning p

  abbrev C : ℕ → Node G → ℕ
  C e = claims_under e

  -- a node that a work of this size becomes
  pub record Expanded (m : Node G) (b : Size) : Type 0 where
    pub shape : H m
    pub sizes : IsWithin 1 (S m) b
    pub none : (e : ℕ) → C e m ≡ 0

  part_work : (x : Work G) (a : TacId) → IsWork meaning p x → IsBehind x.tac.0 (length p.tacs) a.0 → IsWork meaning p (work_of p.tacs a x.fuel x.goal)
  part_work x a w b = record { tac = is_within x.tac.0 (length p.tacs) a.0 b; fuel = w.fuel; good = w.good }

  part_shape : (x : Work G) (a : TacId) → IsWork meaning p x → IsBehind x.tac.0 (length p.tacs) a.0 → H (part_job meaning p x a)
  part_shape x a w b = back _ _ (shape-Todo meaning p (work_of p.tacs a x.fuel x.goal)) (part_work x a w b)

  size_part : (x : Work G) (a : TacId) → S (part_job meaning p x a) ≡ part_size meaning p a.0
  size_part x a = fold-Todo (size_step meaning p) (work_of p.tacs a x.fuel x.goal)

  part_none : (x : Work G) (a : TacId) (e : ℕ) → C e (part_job meaning p x a) ≡ 0
  part_none x a e = fold-Todo (claims_step (under e)) (work_of p.tacs a x.fuel x.goal)

  done_made : (q : Outcome G) (b : Size) → IsGood (meaning p.logic) q → width_of q ≤ b.wide → 1 ≤ b.heavy → Expanded (Done q) b
  done_made q b g v h = record {
    shape = back _ _ (shape-Done meaning p q) g;
    sizes = subst (λ z. IsWithin 1 z b) (sym (fold-Done (size_step meaning p) q)) (record { wide = v; heavy = h });
    none = λ e. fold-Done (claims_step (under e)) q;
  }

  -- a Then node, from the size that it has by its strategy
  then_made : (x : Work G) (a : TacId) (t : Option Tac) (b : Size) → slice_get p.tacs x.tac.0 ≡ t → IsTrue (makes_then t x.left) → IsWork meaning p x → IsBehind x.tac.0 (length p.tacs) a.0
      → IsWithin 1 (then_size_by meaning p t x (part_size meaning p a.0)) b → Expanded (Then x (part_job meaning p x a)) b
  then_made x a t b q m w k s = record {
    shape = back _ _ (shape-Then meaning p x (part_job meaning p x a)) (w, subst (λ o. IsTrue (makes_then o x.left)) (sym q) m, part_shape x a w k);
    sizes = subst (λ z. IsWithin 1 z b) (sym (fold-Then (size_step meaning p) x (part_job meaning p x a) ∙ ap (λ o. then_size_by meaning p o x (S (part_job meaning p x a))) q ∙ ap (λ z. then_size_by meaning p t x z) (size_part x a))) s;
    none = λ e. fold-Then (claims_step (under e)) x (part_job meaning p x a) ∙ part_none x a e;
  }

  check_made : (x : Work G) (a : TacId) (t : Option Tac) → slice_get p.tacs x.tac.0 ≡ t → IsTrue (makes_check t) → IsWork meaning p x → IsBehind x.tac.0 (length p.tacs) a.0
      → Expanded (Check x (part_job meaning p x a)) (record { wide = (part_size meaning p a.0).wide; heavy = 2 + (part_size meaning p a.0).heavy })
  check_made x a t q m w k =
      let c = size_part x a in
      let u : (S (part_job meaning p x a)).wide ≡ (part_size meaning p a.0).wide = ap (λ (s : Size). s.wide) c in
      let v : (S (part_job meaning p x a)).heavy ≡ (part_size meaning p a.0).heavy = ap (λ (s : Size). s.heavy) c in
      record {
        shape = back _ _ (shape-Check meaning p x (part_job meaning p x a)) (w, subst (λ o. IsTrue (makes_check o)) (sym q) m, part_shape x a w k);
        sizes = subst (λ z. IsWithin 1 z (record { wide = (part_size meaning p a.0).wide; heavy = 2 + (part_size meaning p a.0).heavy })) (sym (fold-Check (size_step meaning p) x (part_job meaning p x a))) (record { wide = omega (arith, u); heavy = omega (arith, v) });
        none = λ e. fold-Check (claims_step (under e)) x (part_job meaning p x a) ∙ part_none x a e;
      }

  race_sizes : (x : Work G) (bs : List TacId) → map S (map (part_job meaning p x) bs) ≡ sizes (part_size meaning p) bs
  race_sizes x [] = refl
  race_sizes x (b ∷ bs) = λ i. size_part x b i ∷ race_sizes x bs i

  race_none : (x : Work G) (bs : List TacId) (e : ℕ) → total (map (C e) (map (part_job meaning p x) bs)) ≡ 0
  race_none x [] e = refl
  race_none x (b ∷ bs) e = let a = part_none x b e in let c = race_none x bs e in omega (arith, a, c)

  race_shapes : (x : Work G) (bs : List TacId) → IsWork meaning p x → AllByRecursion (IsBehind x.tac.0 (length p.tacs)) (places bs) → AllByRecursion H (map (part_job meaning p x) bs)
  race_shapes x [] w k = tt
  race_shapes x (b ∷ bs) w k = (part_shape x b w k.0, race_shapes x bs w k.1)

  repeat_made : (left : ℕ) (n : ℕ) (a : TacId) (x : Work G) → x.left ≡ left → slice_get p.tacs x.tac.0 ≡ Some (tac.Repeat n a) → IsWork meaning p x → AllByRecursion (IsBehind x.tac.0 (length p.tacs)) (a.0 ∷ [])
      → Expanded (repeated meaning p left x a) (repeat_size (part_size meaning p a.0) left)
  repeat_made zero n a x l q w k = let o = count-Leaf x.goal in done_made (outcome.Tree (Leaf x.goal)) _ (one_goal (λ g. IsTrue ((meaning p.logic).good g)) x.goal w.good) (omega (arith, o)) (omega arith)
  repeat_made (suc m) n a x l q w k =
      let less : x.left - 1 ≡ m = omega (arith, l) in
      let lt : nat_lt 0 x.left ≡ true = lt-ltb 0 x.left (omega (arith, l)) in
      let each : entry_size meaning p x.tac.0 (x.left - 1) ≡ repeat_size (part_size meaning p a.0) m = size_unfolds meaning p x.tac.0 (x.left - 1) (tac.Repeat n a) q k ∙ ap (repeat_size (part_size meaning p a.0)) less in
      then_made x a (Some (tac.Repeat n a)) (repeat_size (part_size meaning p a.0) (suc m)) q lt w k.0
      (subst (λ z. IsWithin 1 (repeat_by z (part_size meaning p a.0)) (repeat_size (part_size meaning p a.0) (suc m))) (sym each) (record { wide = omega arith; heavy = omega arith }))

  made_by : (t : Tac) (x : Work G) → slice_get p.tacs x.tac.0 ≡ Some t → IsWork meaning p x → AllByRecursion (IsBehind x.tac.0 (length p.tacs)) (parts_of t) → counts_fit t ≡ true
      → Expanded (expansion_by meaning p (Some t) x) (size_row (meaning p.logic).width t (part_size meaning p) x.left)
  made_by tac.Id x q w k b = let o = count-Leaf x.goal in done_made (outcome.Tree (Leaf x.goal)) _ (one_goal (λ g. IsTrue ((meaning p.logic).good g)) x.goal w.good) (omega (arith, o)) (omega arith)
  made_by tac.Fail x q w k b = done_made (failure kind.Failed x.tac.0 x.goal) _ w.good (omega arith) (omega arith)
  made_by (tac.Step j) x q w k b = let s = fine meaning p lawful is x.tac.0 j x.fuel x.goal w.good in done_made _ _ s.0 s.1 (omega arith)
  made_by (tac.Then a c) x q w k b = then_made x a _ _ q refl w k.0 (record { wide = omega arith; heavy = omega arith })
  made_by (tac.ThenL a bs) x q w k b = then_made x a _ _ q refl w k.0 (record { wide = omega arith; heavy = omega arith })
  made_by (tac.Else a c) x q w k b =
      let u = size_part x a in let v = size_part x c in
      let u1 : (S (part_job meaning p x a)).wide ≡ (part_size meaning p a.0).wide = ap (λ (s : Size). s.wide) u in
      let u2 : (S (part_job meaning p x a)).heavy ≡ (part_size meaning p a.0).heavy = ap (λ (s : Size). s.heavy) u in
      let v1 : (S (part_job meaning p x c)).wide ≡ (part_size meaning p c.0).wide = ap (λ (s : Size). s.wide) v in
      let v2 : (S (part_job meaning p x c)).heavy ≡ (part_size meaning p c.0).heavy = ap (λ (s : Size). s.heavy) v in
      record {
        shape = back _ _ (shape-Else meaning p (part_job meaning p x a) (part_job meaning p x c)) (part_shape x a w k.0, part_shape x c w k.1.0);
        sizes = subst (λ z. IsWithin 1 z (record { wide = max (part_size meaning p a.0).wide (part_size meaning p c.0).wide; heavy = 2 + ((part_size meaning p a.0).heavy + (part_size meaning p c.0).heavy) }))
            (sym (fold-Else (size_step meaning p) (part_job meaning p x a) (part_job meaning p x c))) (record { wide = omega (arith, u1, v1); heavy = omega (arith, u2, v2) });
        none = λ e. (let f = fold-Else (claims_step (under e)) (part_job meaning p x a) (part_job meaning p x c) in let y = part_none x a e in let z = part_none x c e in omega (arith, f, y, z));
      }
  made_by (tac.Race bs) x q w k b =
      let n : length (map (part_job meaning p x) bs) ≡ length bs = length-map bs (part_job meaning p x) in
      let u : widest (map S (map (part_job meaning p x) bs)) ≡ widest (sizes (part_size meaning p) bs) = ap widest (race_sizes x bs) in
      let v : weight_sum (map S (map (part_job meaning p x) bs)) ≡ weight_sum (sizes (part_size meaning p) bs) = ap weight_sum (race_sizes x bs) in
      record {
        shape = back _ _ (shape-Race meaning p (map (part_job meaning p x) bs)) (ap (λ i. nat_lt 0 i) n ∙ (and_parts (nat_lt 0 (length bs)) (nat_le (length bs) MOST_BRANCHES) b).0, race_shapes x bs w k);
        sizes = subst (λ z. IsWithin 1 z (record { wide = widest (sizes (part_size meaning p) bs); heavy = 2 + weight_sum (sizes (part_size meaning p) bs) }))
            (sym (fold-Race (size_step meaning p) (map (part_job meaning p x) bs))) (record { wide = omega (arith, u); heavy = omega (arith, v) });
        none = λ e. fold-Race (claims_step (under e)) (map (part_job meaning p x) bs) ∙ race_none x bs e;
      }
  made_by (tac.Repeat n a) x q w k b = repeat_made x.left n a x refl q w k
  made_by (tac.Progress a) x q w k b = check_made x a _ q refl w k.0
  made_by (tac.Complete a) x q w k b = check_made x a _ q refl w k.0

  pub expand_made : (t : Tac) (x : Work G) → slice_get p.tacs x.tac.0 ≡ Some t → IsWork meaning p x → AllByRecursion (IsBehind x.tac.0 (length p.tacs)) (parts_of t) → counts_fit t ≡ true → Expanded (expansion meaning p x) (work_size meaning p x)
  expand_made t x q w k b =
      subst (λ o. Expanded (expansion_by meaning p o x) (work_size meaning p x)) (sym q)
      (subst (λ z. Expanded (expansion_by meaning p (Some t) x) z) (sym (size_unfolds meaning p x.tac.0 x.left t q k)) (made_by t x q w k b))

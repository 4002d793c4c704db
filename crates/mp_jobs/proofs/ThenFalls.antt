-- A node whose first part is done gets lighter when it settles, and no wider.
use Rattle.std.proofs.Common.{◌≡◌, ℕ, ◌+◌, ◌-◌, ◌*◌, ◌≤◌, Bool, true, false, List, [], ◌∷◌, map, length, refl, ap, sym, subst, ◌∙◌, Some, None, arith}
use Rattle.std.specs.declared.option.Option.{Option}
use Rattle.std.specs.Prelude.{slice_get, zip}
use Rattle.mp_logic.specs.Meaning.{Meaning}
use Rattle.mp_logic.specs.declared.tree.Tree.{Tree, Leaf}
use Rattle.mp_logic.specs.Trees.{LeafAt, leaves_of, leaf_count_of}
use Rattle.mp_strategy.specs.declared.problem.ProblemState.{ProblemState}
use Rattle.mp_strategy.specs.declared.tactic.Tac.{Tac}
use Rattle.mp_strategy.specs.declared.tactic.Tac.TheVariants as tac
use Rattle.mp_strategy.specs.declared.tactic.TacId.{TacId}
use Rattle.mp_strategy.specs.declared.work.Work.{Work}
use Rattle.mp_strategy.specs.declared.outcome.Kind.TheVariants as kind
use Rattle.mp_strategy.specs.declared.outcome.Outcome.{Outcome}
use Rattle.mp_strategy.specs.declared.outcome.Outcome.TheVariants as outcome
use Rattle.mp_strategy.specs.Works.{work_of}
use Rattle.mp_strategy.specs.Strategies.{as_many, is_leaf, left_of, failure}
use Rattle.mp_strategy.proofs.LeafCounts.{leaf_count-leaves, count-Leaf}
use Rattle.mp_jobs.specs.declared.node.Node.{Node, Done, Then, Leaves}
use Rattle.mp_jobs.specs.Costs.{Size, IsWithin, width_sum, weight_each, then_by, repeat_by, list_by, sizes, entry_size, part_size, then_size_by}
use Rattle.mp_jobs.specs.Ends.{done_of}
use Rattle.mp_jobs.specs.Settlement.{once_done, then_next, leaf_job, listed_job, listed, again}
use Rattle.mp_jobs.specs.Sizes.{width_of, size_of, size_step}
use Rattle.mp_jobs.proofs.Carries.{within_by}
use Rattle.mp_jobs.proofs.Done.{is_done}
use Rattle.mp_jobs.proofs.DoneNodes.{done_size}
use Rattle.mp_jobs.proofs.Folds.{fold-Todo, fold-Done, fold-Leaves, fold-Then}

module _ {L G J : Type 0} (meaning : L → Meaning G J) (p : ProblemState L J) where
  abbrev S : Node G → Size
  S = size_of meaning p

  -- jobs of one strategy
  same_heavy : (b : TacId) (left f : ℕ) (ls : List (LeafAt G)) → weight_each (map S (map (leaf_job b left f) ls)) ≡ length ls * (1 + (entry_size meaning p b.0 left).heavy)
  same_heavy b left f [] = grind arith
  same_heavy b left f (l ∷ ls) =
      let a : (S (leaf_job b left f l)).heavy ≡ (entry_size meaning p b.0 left).heavy = ap (λ (s : Size). s.heavy) (fold-Todo (size_step meaning p) (record { tac = b; left = left; fuel = f - l.depth; goal = l.goal })) in
      let c = same_heavy b left f ls in
      grind arith

  same_wide : (b : TacId) (left f : ℕ) (ls : List (LeafAt G)) → width_sum (map S (map (leaf_job b left f) ls)) ≡ length ls * (entry_size meaning p b.0 left).wide
  same_wide b left f [] = grind arith
  same_wide b left f (l ∷ ls) =
      let a : (S (leaf_job b left f l)).wide ≡ (entry_size meaning p b.0 left).wide = ap (λ (s : Size). s.wide) (fold-Todo (size_step meaning p) (record { tac = b; left = left; fuel = f - l.depth; goal = l.goal })) in
      let c = same_wide b left f ls in
      grind arith

  listed_heavy : (f : ℕ) (bs : List TacId) (ls : List (LeafAt G)) → weight_each (map S (map (listed_job meaning p f) (zip bs ls))) ≤ weight_each (sizes (part_size meaning p) bs)
  listed_heavy f [] ls = omega arith
  listed_heavy f (b ∷ bs) [] = omega arith
  listed_heavy f (b ∷ bs) (l ∷ ls) =
      let a : (S (listed_job meaning p f (b, l))).heavy ≡ (part_size meaning p b.0).heavy = ap (λ (s : Size). s.heavy) (fold-Todo (size_step meaning p) (work_of p.tacs b (f - l.depth) l.goal)) in
      let c = listed_heavy f bs ls in
      omega (arith, a, c)

  listed_wide : (f : ℕ) (bs : List TacId) (ls : List (LeafAt G)) → width_sum (map S (map (listed_job meaning p f) (zip bs ls))) ≤ width_sum (sizes (part_size meaning p) bs)
  listed_wide f [] ls = omega arith
  listed_wide f (b ∷ bs) [] = omega arith
  listed_wide f (b ∷ bs) (l ∷ ls) =
      let a : (S (listed_job meaning p f (b, l))).wide ≡ (part_size meaning p b.0).wide = ap (λ (s : Size). s.wide) (fold-Todo (size_step meaning p) (work_of p.tacs b (f - l.depth) l.goal)) in
      let c = listed_wide f bs ls in
      omega (arith, a, c)

  -- the node, by its strategy and its first part's outcome
  node_size : (x : Work G) (f : Node G) (t : Option Tac) (o : Outcome G) → slice_get p.tacs x.tac.0 ≡ t → done_of f ≡ Some o → S (Then x f) ≡ then_size_by meaning p t x (record { wide = width_of o; heavy = 0 })
  node_size x f t o q r =
      fold-Then (size_step meaning p) x f
      ∙ ap (λ a. then_size_by meaning p a x (S f)) q
      ∙ ap (λ s. then_size_by meaning p t x s) (ap S (is_done f o r) ∙ fold-Done (size_step meaning p) o)

  leaves_size : (t : Tree G) (ks : List (Node G)) → S (Leaves t ks false) ≡ record { wide = width_sum (map S ks); heavy = 1 + weight_each (map S ks) }
  leaves_size t ks = fold-Leaves (size_step meaning p) t ks false

  falls_same : (b : TacId) (left f : ℕ) (t : Tree G) → IsWithin 1 (record { wide = width_sum (map S (map (leaf_job b left f) (leaves_of t))); heavy = 1 + weight_each (map S (map (leaf_job b left f) (leaves_of t))) })
      (then_by (entry_size meaning p b.0 left) (record { wide = leaf_count_of t; heavy = 0 }))
  falls_same b left f t =
      let n = leaf_count-leaves t in
      let h = same_heavy b left f (leaves_of t) in
      let v = same_wide b left f (leaves_of t) in
      let x : length (leaves_of t) * (1 + (entry_size meaning p b.0 left).heavy) ≡ leaf_count_of t * (1 + (entry_size meaning p b.0 left).heavy) = ap (λ k. k * (1 + (entry_size meaning p b.0 left).heavy)) n in
      let y : length (leaves_of t) * (entry_size meaning p b.0 left).wide ≡ leaf_count_of t * (entry_size meaning p b.0 left).wide = ap (λ k. k * (entry_size meaning p b.0 left).wide) n in
      record { wide = omega (arith, v, y); heavy = omega (arith, h, x) }

  listed_falls : (c : Bool) (x : Work G) (bs : List TacId) (t : Tree G) → IsWithin 1 (S (listed meaning p c x bs t)) (list_by (sizes (part_size meaning p) bs) (record { wide = leaf_count_of t; heavy = 0 }))
  listed_falls true x bs t =
      let h = listed_heavy x.fuel bs (leaves_of t) in
      let v = listed_wide x.fuel bs (leaves_of t) in
      within_by 1 _ _ _ _ (leaves_size t _) refl (record { wide = v; heavy = omega (arith, h) })
  listed_falls false x bs t = within_by 1 _ _ _ _ (done_size meaning p (failure kind.WrongCount x.tac.0 x.goal)) refl (record { wide = omega arith; heavy = omega arith })

  again_falls : (c : Bool) (x : Work G) (t : Tree G) → IsWithin 1 (S (again meaning p c x t)) (repeat_by (entry_size meaning p x.tac.0 (x.left - 1)) (record { wide = leaf_count_of t; heavy = 0 }))
  again_falls true x t = let o = count-Leaf x.goal in within_by 1 _ _ _ _ (done_size meaning p (outcome.Tree (Leaf x.goal))) refl (record { wide = omega (arith, o); heavy = omega arith })
  again_falls false x t =
      let s = falls_same x.tac (x.left - 1) x.fuel t in
      let a = s.wide in let b = s.heavy in
      within_by 1 _ _ _ _ (leaves_size t _) refl (record { wide = omega (arith, a); heavy = b })

  falls_by : (t : Option Tac) (o : Outcome G) (x : Work G) (m : Node G) → then_next meaning p t x o ≡ Some m → IsWithin 1 (S m) (then_size_by meaning p t x (record { wide = width_of o; heavy = 0 }))
  falls_by None o x m e = absurd (cc)
  falls_by (Some tac.Id) o x m e = absurd (cc)
  falls_by (Some tac.Fail) o x m e = absurd (cc)
  falls_by (Some (tac.Step j)) o x m e = absurd (cc)
  falls_by (Some (tac.Else y z)) o x m e = absurd (cc)
  falls_by (Some (tac.Race bs)) o x m e = absurd (cc)
  falls_by (Some (tac.Progress y)) o x m e = absurd (cc)
  falls_by (Some (tac.Complete y)) o x m e = absurd (cc)
  falls_by (Some (tac.Then y b)) (outcome.Failure d) x m e =
      let is : Done (outcome.Failure d) ≡ m = cc in within_by 1 _ _ _ _ (ap S (sym is) ∙ done_size meaning p (outcome.Failure d)) refl (record { wide = omega arith; heavy = omega arith })
  falls_by (Some (tac.Then y b)) (outcome.Tree t) x m e =
      let left : ℕ = left_of (slice_get p.tacs b.0) in
      let is : Leaves t (map (leaf_job b left x.fuel) (leaves_of t)) false ≡ m = cc in
      within_by 1 _ _ _ _ (ap S (sym is) ∙ leaves_size t _) refl (falls_same b left x.fuel t)
  falls_by (Some (tac.ThenL y bs)) (outcome.Failure d) x m e =
      let is : Done (outcome.Failure d) ≡ m = cc in within_by 1 _ _ _ _ (ap S (sym is) ∙ done_size meaning p (outcome.Failure d)) refl (record { wide = omega arith; heavy = omega arith })
  falls_by (Some (tac.ThenL y bs)) (outcome.Tree t) x m e =
      let is : listed meaning p (as_many bs t) x bs t ≡ m = cc in subst (λ n. IsWithin 1 (S n) (list_by (sizes (part_size meaning p) bs) (record { wide = leaf_count_of t; heavy = 0 }))) is (listed_falls (as_many bs t) x bs t)
  falls_by (Some (tac.Repeat n y)) (outcome.Failure d) x m e =
      let is : Done (outcome.Tree (Leaf x.goal)) ≡ m = cc in let o = count-Leaf x.goal in
      within_by 1 _ _ _ _ (ap S (sym is) ∙ done_size meaning p (outcome.Tree (Leaf x.goal))) refl (record { wide = omega (arith, o); heavy = omega arith })
  falls_by (Some (tac.Repeat n y)) (outcome.Tree t) x m e =
      let is : again meaning p (is_leaf t) x t ≡ m = cc in subst (λ n. IsWithin 1 (S n) (repeat_by (entry_size meaning p x.tac.0 (x.left - 1)) (record { wide = leaf_count_of t; heavy = 0 }))) is (again_falls (is_leaf t) x t)

  on_by : (r : Option (Outcome G)) (x : Work G) (f m : Node G) → done_of f ≡ r → once_done r (then_next meaning p (slice_get p.tacs x.tac.0) x) ≡ Some m → IsWithin 1 (S m) (S (Then x f))
  on_by None x f m r e = absurd (cc)
  on_by (Some o) x f m r e = subst (λ z. IsWithin 1 (S m) z) (sym (node_size x f (slice_get p.tacs x.tac.0) o refl r)) (falls_by (slice_get p.tacs x.tac.0) o x m e)

  pub then_falls : (x : Work G) (f m : Node G) → once_done (done_of f) (then_next meaning p (slice_get p.tacs x.tac.0) x) ≡ Some m → IsWithin 1 (S m) (S (Then x f))
  then_falls x f m e = on_by (done_of f) x f m refl e

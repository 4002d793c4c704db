-- Of the kids of a node that is settled and not done one is live.
use Rattle.std.proofs.Common.{◌≡◌, Bool, true, false, IsTrue, ◌||◌, ◌&&◌, List, [], ◌∷◌, map, length, refl, ap, sym, subst, ◌∙◌, Some, None, arith}
use Rattle.std.proofs.lemmas.Bool.{lt-ltb}
use Rattle.std.specs.Option.{option_map}
use Rattle.std.specs.declared.option.Option.{Option}
use Rattle.std.specs.Prelude.{nat_lt}
use Rattle.std.specs.List.{AllByRecursion, list_any}
use Rattle.mp_logic.specs.Meaning.{Meaning}
use Rattle.mp_logic.specs.declared.tree.Tree.{Tree}
use Rattle.mp_strategy.specs.declared.problem.ProblemState.{ProblemState}
use Rattle.mp_strategy.specs.declared.outcome.Outcome.{Outcome}
use Rattle.mp_strategy.specs.declared.outcome.Outcome.TheVariants as outcome
use Rattle.mp_jobs.specs.declared.node.Node.{Node, Leaves}
use Rattle.mp_jobs.specs.Ends.{done_of, is_failure}
use Rattle.mp_jobs.specs.Finding.{is_live}
use Rattle.mp_jobs.specs.Settlement.{cut_kids, failing_by, failing, trees_by, trees_of, whole_next, leaves_next, tree_by, first_tree, all_failed, last_of, when, race_next, settle_rule}
use Rattle.mp_jobs.specs.Shapes.{LastFails, KidsFit, Shape}
use Rattle.mp_jobs.specs.Walks.{Rule, first_change, kids_change}
use Rattle.mp_jobs.proofs.NotReady.{none_map, or_none, each_none}

module _ {L G J : Type 0} (meaning : L → Meaning G J) (p : ProblemState L J) where
  abbrev rule : Rule G
  rule = settle_rule meaning p

  abbrev H : Node G → Type 0
  H = Shape meaning p

  abbrev Live : Node G → Type 0
  Live n = H n → first_change rule n ≡ None → done_of n ≡ None → is_live n ≡ true

  abbrev any_live : List (Node G) → Bool
  any_live ks = list_any (λ b. b) (map is_live ks)

  -- no tree and no failure among kids of which none is live
  kids_fail : (ks : List (Node G)) (r : Option (Outcome G)) (k : Node G) → done_of k ≡ r → tree_by r k (first_tree ks) ≡ None → (done_of k ≡ None → ⊥) → (first_tree ks ≡ None → all_failed ks ≡ true) → (is_failure (done_of k) && all_failed ks) ≡ true
  kids_fail ks None k q e n h = absurd (n q)
  kids_fail ks (Some (outcome.Tree t)) k q e n h = absurd (cc)
  kids_fail ks (Some (outcome.Failure d)) k q e n h = subst (λ r. (is_failure r && all_failed ks) ≡ true) (sym q) (h e)

  dead : (k : Node G) → H k → first_change rule k ≡ None → Live k → is_live k ≡ false → done_of k ≡ None → ⊥
  dead k s n h l r = let e = h s n r in absurd (cc)

  or_dead : (a b : Bool) → (a || b) ≡ false → (a ≡ false) × (b ≡ false)
  or_dead false b e = (refl, e)
  or_dead true b e = absurd (cc)

  abbrev Kids : List (Node G) → Type 0
  Kids ks = AllByRecursion Live ks

  all_fail : (ks : List (Node G)) → AllByRecursion H ks → AllByRecursion (λ k. first_change rule k ≡ None) ks → Kids ks → any_live ks ≡ false → first_tree ks ≡ None → all_failed ks ≡ true
  all_fail [] s n h l e = refl
  all_fail (k ∷ ks) s n h l e =
      let d = or_dead (is_live k) (any_live ks) l in
      kids_fail ks (done_of k) k refl e (dead k s.0 n.0 h.0 d.0) (all_fail ks s.1 n.1 h.1 d.1)

  has_last : (ks : List (Node G)) → IsTrue (nat_lt 0 (length ks)) → last_of ks ≡ None → ⊥
  has_last [] p e = absurd (cc)
  has_last (k ∷ []) p e = absurd (cc)
  has_last (k ∷ l ∷ ks) p e = has_last (l ∷ ks) (lt-ltb 0 (length (l ∷ ks)) (omega arith)) e

  pub race_live : (b : Bool) (ks : List (Node G)) → any_live ks ≡ b → IsTrue (nat_lt 0 (length ks)) → AllByRecursion H ks → kids_change rule ks ≡ None → Kids ks → race_next ks ≡ None → any_live ks ≡ true
  race_live true ks q p s n h e = q
  race_live false ks q p s n h e =
      let o = or_none (first_tree ks) (when (all_failed ks) (last_of ks)) e in
      let f = all_fail ks s (each_none rule ks n) h q o.0 in
      absurd (has_last ks p (subst (λ c. when c (last_of ks) ≡ None) f o.1))

  -- kids of Leaves: all are trees, where none failed
  trees_next : (ks : List (Node G)) (r : Option (Outcome G)) (k : Node G) → done_of k ≡ r → failing_by r k (failing ks) ≡ None → (done_of k ≡ None → ⊥) → (failing ks ≡ None → (ts : List (Tree G)) × (trees_of ks ≡ Some ts)) → (ts : List (Tree G)) × (trees_by (done_of k) (trees_of ks) ≡ Some ts)
  trees_next ks None k q e n h = absurd (n q)
  trees_next ks (Some (outcome.Failure d)) k q e n h = absurd (cc)
  trees_next ks (Some (outcome.Tree t)) k q e n h =
      let rest = h e in (t ∷ rest.0, ap (λ r. trees_by r (trees_of ks)) q ∙ ap (option_map (λ ts. t ∷ ts)) rest.1)

  all_trees : (ks : List (Node G)) → AllByRecursion H ks → AllByRecursion (λ k. first_change rule k ≡ None) ks → Kids ks → any_live ks ≡ false → failing ks ≡ None → (ts : List (Tree G)) × (trees_of ks ≡ Some ts)
  all_trees [] s n h l e = ([], refl)
  all_trees (k ∷ ks) s n h l e =
      let d = or_dead (is_live k) (any_live ks) l in
      trees_next ks (done_of k) k refl e (dead k s.0 n.0 h.0 d.0) (all_trees ks s.1 n.1 h.1 d.1)

  -- a last kid that failed is no tree
  no_last : (ks : List (Node G)) (ts : List (Tree G)) → trees_of ks ≡ Some ts → LastFails (map (λ k. done_of k) ks) → ⊥
  no_last [] ts e f = f
  no_last (k ∷ []) ts e f = last_by (done_of k) e f where
    last_by : (r : Option (Outcome G)) → trees_by r (Some []) ≡ Some ts → IsTrue (is_failure r) → ⊥
    last_by None e f = absurd (cc)
    last_by (Some (outcome.Tree t)) e f = absurd (cc)
    last_by (Some (outcome.Failure d)) e f = absurd (cc)
  no_last (k ∷ l ∷ ks) ts e f = more_by (done_of k) (trees_of (l ∷ ks)) refl e (λ xs q. no_last (l ∷ ks) xs q f) where
    more_by : (r : Option (Outcome G)) (o : Option (List (Tree G))) → trees_of (l ∷ ks) ≡ o → trees_by r o ≡ Some ts → ((xs : List (Tree G)) → trees_of (l ∷ ks) ≡ Some xs → ⊥) → ⊥
    more_by None o q e h = absurd (cc)
    more_by (Some (outcome.Failure d)) o q e h = absurd (cc)
    more_by (Some (outcome.Tree t)) None q e h = absurd (cc)
    more_by (Some (outcome.Tree t)) (Some xs) q e h = h xs q

  whole_live : (t : Tree G) (ks : List (Node G)) (c : Bool) (ts : List (Tree G)) → trees_of ks ≡ Some ts → KidsFit t (map (λ k. done_of k) ks) c → whole_next t c (trees_of ks) ≡ None → ⊥
  whole_live t ks true ts q f e = no_last ks ts q f
  whole_live t ks false ts q f e = let g : whole_next t false (Some ts) ≡ None = sym (ap (whole_next t false) q) ∙ e in absurd (cc)

  pub leaves_live : (b : Bool) (t : Tree G) (ks : List (Node G)) (c : Bool) → any_live ks ≡ b → KidsFit t (map (λ k. done_of k) ks) c → AllByRecursion H ks → kids_change rule ks ≡ None → Kids ks → leaves_next t ks c ≡ None → any_live ks ≡ true
  leaves_live true t ks c q f s n h e = q
  leaves_live false t ks c q f s n h e =
      let a = none_map (λ ms. Leaves t ms true) (cut_kids ks) _ e in
      let o = or_none (failing ks) (whole_next t c (trees_of ks)) a.1 in
      let ts = all_trees ks s (each_none rule ks n) h q o.0 in
      absurd (whole_live t ks c ts.0 ts.1 f o.1)

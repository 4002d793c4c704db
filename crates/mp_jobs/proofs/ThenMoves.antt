-- What a settlement of a Then node keeps.
use Rattle.std.proofs.Common.{◌≡◌, ℕ, Bool, true, false, IsTrue, List, [], ◌∷◌, map, length, refl, sym, subst, ◌∙◌, Some, None, inl, inr, arith}
use Rattle.std.specs.declared.option.Option.{Option}
use Rattle.std.specs.List.{AllByRecursion}
use Rattle.std.specs.Prelude.{slice_get}
use Rattle.mp_logic.specs.Meaning.{Meaning}
use Rattle.mp_logic.specs.Trees.{leaf_count_of}
use Rattle.mp_logic.specs.declared.tree.Tree.{Tree}
use Rattle.mp_strategy.specs.declared.problem.ProblemState.{ProblemState}
use Rattle.mp_strategy.specs.declared.work.Work.{Work}
use Rattle.mp_strategy.specs.declared.outcome.Outcome.{Outcome}
use Rattle.mp_strategy.specs.declared.outcome.Outcome.TheVariants as outcome
use Rattle.mp_strategy.specs.Strategies.{Given}
use Rattle.mp_jobs.specs.declared.node.Node.{Node, Todo, Done, Then, Leaves}
use Rattle.mp_jobs.specs.Costs.{Size, IsWithin}
use Rattle.mp_jobs.specs.Ends.{done_of}
use Rattle.mp_jobs.specs.Epochs.{claims_under}
use Rattle.mp_jobs.specs.Kept.{Kept}
use Rattle.mp_jobs.specs.Settlement.{once_done, then_next}
use Rattle.mp_jobs.specs.Shapes.{Shape, IsGoodTree}
use Rattle.mp_jobs.specs.Sizes.{size_of}
use Rattle.mp_jobs.specs.Yields.{LeavesGive, Yields}
use Rattle.std.specs.Prelude.{◌-◌, ◌<◌, zip}
use Rattle.std.proofs.lemmas.Bool.{eqb-true}
use Rattle.mp_logic.specs.Trees.{LeafAt, leaves_of, EachLeaf}
use Rattle.mp_logic.specs.declared.tree.Tree.{Leaf}
use Rattle.mp_strategy.specs.declared.tactic.Tac.{Tac}
use Rattle.mp_strategy.specs.declared.tactic.Tac.TheVariants as tac
use Rattle.mp_strategy.specs.declared.tactic.TacId.{TacId}
use Rattle.mp_strategy.specs.declared.outcome.Kind.TheVariants as kind
use Rattle.mp_strategy.specs.Fits.{parts_of, places}
use Rattle.mp_strategy.specs.Laws.{IsGood}
use Rattle.mp_strategy.specs.Problems.{IsProblem}
use Rattle.mp_strategy.specs.Strategies.{Listed, as_many, GoesOn, is_leaf, left_of, failure}
use Rattle.mp_strategy.specs.Works.{IsWork, work_of}
use Rattle.mp_strategy.proofs.LeafCounts.{leaf_count-leaves}
use Rattle.mp_strategy.proofs.Unfolds.{IsBehind, is_within, parts_here}
use Rattle.mp_jobs.specs.Settlement.{listed, again}
use Rattle.mp_jobs.specs.Yields.{EntryGives, PartGives, ThenGives}
use Rattle.mp_jobs.proofs.BecomesDone.{becomes_done}
use Rattle.mp_jobs.proofs.DoneNodes.{yields_own, good_own, done_size}
use Rattle.mp_jobs.proofs.GoodGrafts.{each_goal_leaf, one_goal}
use Rattle.mp_jobs.proofs.LeafJobs.{leaf_works, listed_works, leaves_yield, listed_yield, planted_kept}
use Rattle.mp_jobs.proofs.Less.{IsLess}
use Rattle.mp_jobs.proofs.ShapeSteps.{shape-Then, into}
use Rattle.mp_jobs.proofs.ThenFalls.{then_falls}
use Rattle.mp_jobs.proofs.YieldSteps.{yields-Then}

length_zip : {A B : Type 0} (xs : List A) (ys : List B) → length xs ≡ length ys → length (zip xs ys) ≡ length ys
length_zip [] [] e = refl
length_zip [] (y ∷ ys) e = absurd (omega (arith, e))
length_zip (x ∷ xs) [] e = absurd (omega (arith, e))
length_zip (x ∷ xs) (y ∷ ys) e = let k : length xs ≡ length ys = omega (arith, e) in let h = length_zip xs ys k in omega (arith, h)

module _ {L G J : Type 0} (meaning : L → Meaning G J) (p : ProblemState L J) where
  abbrev Y : Node G → Given G
  Y = Yields meaning p

  abbrev S : Node G → Size
  S = size_of meaning p

  abbrev H : Node G → Type 0
  H = Shape meaning p

  abbrev C : ℕ → Node G → ℕ
  C e = claims_under e

  abbrev K : Node G → Node G → Type 0
  K m n = Kept meaning p 1 (λ e. 0) m n

  abbrev Opens : Tree G → Type 0
  Opens t = EachLeaf (λ g. IsTrue ((meaning p.logic).good g)) t

  abbrev Falls : Node G → Node G → Type 0
  Falls m n = IsWithin 1 (S m) (S n)

  opens : (t : Tree G) → IsGoodTree meaning p t → Opens t
  opens t g = each_goal_leaf (λ g. IsTrue ((meaning p.logic).good g)) t g

  each_within : (here : ℕ) (bs : List TacId) → AllByRecursion (IsBehind here (length p.tacs)) (places bs) → AllByRecursion (λ (b : TacId). b.0 < length p.tacs) bs
  each_within here [] h = tt
  each_within here (b ∷ bs) h = (is_within here (length p.tacs) b.0 h.0, each_within here bs h.1)

  -- a Then node whose first part is done
  module _ (w : Work G) (f : Node G) (t : Option Tac) (at : slice_get p.tacs w.tac.0 ≡ t) where
    row_back : (o : Outcome G) → ThenGives meaning p t w (Y f) o → Y (Then w f) o
    row_back o y = subst (λ a. a o) (sym (yields-Then meaning p w f)) (subst (λ a. ThenGives meaning p a w (Y f) o) (sym at) y)

    then_done : (q : Outcome G) (m : Node G) → Done q ≡ m → IsGood (meaning p.logic) q → ThenGives meaning p t w (Y f) q → Falls m (Then w f) → K m (Then w f)
    then_done q m is g y s =
        subst (λ x. K x (Then w f)) is
        (becomes_done meaning p (Then w f) q g (row_back q y) (subst (λ z. IsWithin 1 z (S (Then w f))) (done_size meaning p q) (subst (λ x. Falls x (Then w f)) (sym is) s)))

  -- what goes on with each leaf
  then_planted : {X : Type 0} (job : X → Work G) (xs : List X) (w : Work G) (f m : Node G) (t : Option Tac) (u : Tree G) → slice_get p.tacs w.tac.0 ≡ t → Leaves u (map (λ x. Todo (job x)) xs) false ≡ m → IsGoodTree meaning p u
      → AllByRecursion (λ x. IsWork meaning p (job x)) xs → length xs ≡ leaf_count_of u → IsLess (LeavesGive Y u (map (λ x. Todo (job x)) xs) false) (ThenGives meaning p t w (Y f)) → Falls m (Then w f) → K m (Then w f)
  then_planted job xs w f m t u at is g works many less s =
      subst (λ x. K x (Then w f)) is
      (planted_kept meaning p job (Then w f) u xs g works many (λ o z. row_back w f t at o (less o z)) (subst (λ x. Falls x (Then w f)) (sym is) s))

  listed_by : (b : Bool) (a : TacId) (bs : List TacId) (w : Work G) (f m : Node G) (t : Tree G) → as_many bs t ≡ b → slice_get p.tacs w.tac.0 ≡ Some (tac.ThenL a bs) → done_of f ≡ Some (outcome.Tree t) → listed meaning p b w bs t ≡ m
      → IsWork meaning p w → IsGoodTree meaning p t → AllByRecursion (λ (b : TacId). b.0 < length p.tacs) bs → Falls m (Then w f) → K m (Then w f)
  listed_by true a bs w f m t c at r is ok g lt s =
      let many : length bs ≡ leaf_count_of t = eqb-true (length bs) (leaf_count_of t) c in
      let n : length bs ≡ length (leaves_of t) = many ∙ sym (leaf_count-leaves t) in
      then_planted (λ (x : TacId × LeafAt G). work_of p.tacs x.0 (w.fuel - x.1.depth) x.1.goal) (zip bs (leaves_of t)) w f m (Some (tac.ThenL a bs)) t at is g (listed_works meaning p bs w.fuel t lt ok.fuel (opens t g))
      (length_zip bs (leaves_of t) n ∙ leaf_count-leaves t)
      (λ o z. inr (t, yields_own meaning p f (outcome.Tree t) r, subst (λ b. Listed b (PartGives meaning p) w.tac.0 bs w.fuel w.goal t o) (sym c) (listed_yield meaning p bs w.fuel (leaves_of t) t o z))) s
  listed_by false a bs w f m t c at r is ok g lt s =
      then_done w f (Some (tac.ThenL a bs)) at (failure kind.WrongCount w.tac.0 w.goal) m is ok.good
      (inr (t, yields_own meaning p f (outcome.Tree t) r, subst (λ b. Listed b (PartGives meaning p) w.tac.0 bs w.fuel w.goal t (failure kind.WrongCount w.tac.0 w.goal)) (sym c) refl)) s

  again_by : (b : Bool) (n : ℕ) (a : TacId) (w : Work G) (f m : Node G) (t : Tree G) → is_leaf t ≡ b → slice_get p.tacs w.tac.0 ≡ Some (tac.Repeat n a) → done_of f ≡ Some (outcome.Tree t) → again meaning p b w t ≡ m
      → IsWork meaning p w → IsGoodTree meaning p t → Falls m (Then w f) → K m (Then w f)
  again_by true n a w f m t c at r is ok g s =
      then_done w f (Some (tac.Repeat n a)) at (outcome.Tree (Leaf w.goal)) m is (one_goal (λ g. IsTrue ((meaning p.logic).good g)) w.goal ok.good)
      (inr (t, yields_own meaning p f (outcome.Tree t) r, subst (λ b. GoesOn b (EntryGives meaning p w.tac.0 (w.left - 1)) w.fuel w.goal t (outcome.Tree (Leaf w.goal))) (sym c) refl)) s
  again_by false n a w f m t c at r is ok g s =
      then_planted (λ (leaf : LeafAt G). record { tac = w.tac; left = w.left - 1; fuel = w.fuel - leaf.depth; goal = leaf.goal }) (leaves_of t) w f m (Some (tac.Repeat n a)) t at is g
      (leaf_works meaning p w.tac (w.left - 1) w.fuel t ok.tac ok.fuel (opens t g)) (leaf_count-leaves t)
      (λ o z. inr (t, yields_own meaning p f (outcome.Tree t) r, subst (λ b. GoesOn b (EntryGives meaning p w.tac.0 (w.left - 1)) w.fuel w.goal t o) (sym c) (leaves_yield meaning p w.tac (w.left - 1) t w.fuel o z))) s

  then_by : (t : Option Tac) (r : Option (Outcome G)) (w : Work G) (f m : Node G) → slice_get p.tacs w.tac.0 ≡ t → done_of f ≡ r → once_done r (then_next meaning p t w) ≡ Some m
      → ((x : Tac) → t ≡ Some x → AllByRecursion (IsBehind w.tac.0 (length p.tacs)) (parts_of x)) → H (Then w f) → Falls m (Then w f) → K m (Then w f)
  then_by t None w f m at r e parts h s = absurd (cc)
  then_by None (Some o) w f m at r e parts h s = absurd (cc)
  then_by (Some tac.Id) (Some o) w f m at r e parts h s = absurd (cc)
  then_by (Some tac.Fail) (Some o) w f m at r e parts h s = absurd (cc)
  then_by (Some (tac.Step j)) (Some o) w f m at r e parts h s = absurd (cc)
  then_by (Some (tac.Else x z)) (Some o) w f m at r e parts h s = absurd (cc)
  then_by (Some (tac.Race bs)) (Some o) w f m at r e parts h s = absurd (cc)
  then_by (Some (tac.Progress x)) (Some o) w f m at r e parts h s = absurd (cc)
  then_by (Some (tac.Complete x)) (Some o) w f m at r e parts h s = absurd (cc)
  then_by (Some (tac.Then a b)) (Some (outcome.Failure d)) w f m at r e parts h s =
      let k = into _ _ (shape-Then meaning p w f) h in
      then_done w f (Some (tac.Then a b)) at (outcome.Failure d) m (cc) (good_own meaning p f (outcome.Failure d) r k.2) (inl (d, yields_own meaning p f (outcome.Failure d) r, refl)) s
  then_by (Some (tac.Then a b)) (Some (outcome.Tree t)) w f m at r e parts h s =
      let left : ℕ = left_of (slice_get p.tacs b.0) in
      let k = into _ _ (shape-Then meaning p w f) h in
      let g : IsGoodTree meaning p t = good_own meaning p f (outcome.Tree t) r k.2 in
      then_planted (λ (leaf : LeafAt G). record { tac = b; left = left; fuel = w.fuel - leaf.depth; goal = leaf.goal }) (leaves_of t) w f m (Some (tac.Then a b)) t at (cc) g
      (leaf_works meaning p b left w.fuel t (is_within w.tac.0 (length p.tacs) b.0 (parts (tac.Then a b) refl).1.0) k.0.fuel (opens t g)) (leaf_count-leaves t)
      (λ o z. inr (t, yields_own meaning p f (outcome.Tree t) r, leaves_yield meaning p b left t w.fuel o z)) s
  then_by (Some (tac.ThenL a bs)) (Some (outcome.Failure d)) w f m at r e parts h s =
      let k = into _ _ (shape-Then meaning p w f) h in
      then_done w f (Some (tac.ThenL a bs)) at (outcome.Failure d) m (cc) (good_own meaning p f (outcome.Failure d) r k.2) (inl (d, yields_own meaning p f (outcome.Failure d) r, refl)) s
  then_by (Some (tac.ThenL a bs)) (Some (outcome.Tree t)) w f m at r e parts h s =
      let k = into _ _ (shape-Then meaning p w f) h in
      listed_by (as_many bs t) a bs w f m t refl at r (cc) k.0 (good_own meaning p f (outcome.Tree t) r k.2) (each_within w.tac.0 bs (parts (tac.ThenL a bs) refl).1) s
  then_by (Some (tac.Repeat n a)) (Some (outcome.Failure d)) w f m at r e parts h s =
      let k = into _ _ (shape-Then meaning p w f) h in
      then_done w f (Some (tac.Repeat n a)) at (outcome.Tree (Leaf w.goal)) m (cc) (one_goal (λ g. IsTrue ((meaning p.logic).good g)) w.goal k.0.good) (inl (d, yields_own meaning p f (outcome.Failure d) r, refl)) s
  then_by (Some (tac.Repeat n a)) (Some (outcome.Tree t)) w f m at r e parts h s =
      let k = into _ _ (shape-Then meaning p w f) h in
      again_by (is_leaf t) n a w f m t refl at r (cc) k.0 (good_own meaning p f (outcome.Tree t) r k.2) s

  pub then_kept : IsProblem meaning p → (w : Work G) (f m : Node G) → once_done (done_of f) (then_next meaning p (slice_get p.tacs w.tac.0) w) ≡ Some m → H (Then w f) → K m (Then w f)
  then_kept is w f m e h =
      then_by (slice_get p.tacs w.tac.0) (done_of f) w f m refl refl e (λ x at. parts_here (length p.justs) p.tacs w.tac.0 x is.fits at) h (then_falls meaning p w f m e)

-- Each node is sound or bad, and each list of nodes has a first bad one or none.
use Rattle.std.proofs.Common.{◌≡◌, ℕ, suc, Bool, true, false, List, [], ◌∷◌, ◌++◌, length, map, Some, Ok, Err, IsTrue, refl, ap, ◌∙◌, sym, subst, inl, inr}
use Rattle.std.specs.List.{AllByRecursion}
use Rattle.std.specs.Prelude.{◌⊎◌, ◌≢◌, slice_get}
use Rattle.mp_logic.specs.declared.tree.Tree.{Tree}
use Rattle.mp_logic.specs.declared.tree.Tree.TheOpen as layer
use Rattle.mp_logic.specs.declared.tree.JustId.{JustId}
use Rattle.mp_logic.specs.Meaning.{Meaning, IsLogic}
use Rattle.mp_logic.specs.Steps.{Outcome}
use Rattle.mp_logic.specs.Trees.{root_of}
use Rattle.mp_logic.specs.Valid.{StepHolds}
use Rattle.mp_replay.specs.Conditions.{IsByAllowed}
use Rattle.mp_replay.specs.Nodes.{Node}
use Rattle.mp_replay.specs.Verdicts.{IsBad, IsFirstBad}
use Rattle.mp_replay.specs.declared.verdict.BadCause.{BadCause}
use Rattle.mp_replay.specs.declared.verdict.BadCause.TheVariants as cause

-- ## At most one

module _ {G J : Type 0} (step : J → G → Outcome G) (justs : List J) where
  -- a sound node isn't bad
  pub not_both : (node : Node G) (c : BadCause G) → StepHolds step justs node → IsBad step justs node c → ⊥
  not_both (layer.Leaf g) c h bad = bad
  not_both (layer.Step g just kids) cause.Goal h bad = bad
  not_both (layer.Step g just kids) (cause.Refused why) (j, is, makes) (k, at, refused) = cc
  not_both (layer.Step g just kids) (cause.Kids found due) (j, is, makes) (k, at, gives, roots, differ) = differ (cc)

  -- a bad node is bad by one cause
  one_cause : (node : Node G) (c d : BadCause G) → IsBad step justs node c → IsBad step justs node d → c ≡ d
  one_cause (layer.Leaf g) c d a b = absurd a
  one_cause (layer.Step g just kids) cause.Goal d a b = absurd a
  one_cause (layer.Step g just kids) (cause.Refused why) cause.Goal a b = absurd b
  one_cause (layer.Step g just kids) (cause.Refused why) (cause.Refused why') (j, is, refused) (k, at, refused') = cc
  one_cause (layer.Step g just kids) (cause.Refused why) (cause.Kids found due) (j, is, refused) (k, at, gives, roots, differ) = absurd cc
  one_cause (layer.Step g just kids) (cause.Kids found due) cause.Goal a b = absurd b
  one_cause (layer.Step g just kids) (cause.Kids found due) (cause.Refused why) (j, is, gives, roots, differ) (k, at, refused) = absurd cc
  one_cause (layer.Step g just kids) (cause.Kids found due) (cause.Kids found' due') (j, is, gives, roots, differ) (k, at, gives', roots', differ') = cc

  -- two splits of a list at a bad node, each behind sound ones, are at the same place and by one cause
  one_split : (xs ys : List (Node G)) (n m : Node G) (later after : List (Node G)) (c d : BadCause G) → xs ++ n ∷ later ≡ ys ++ m ∷ after → AllByRecursion (StepHolds step justs) xs → AllByRecursion (StepHolds step justs) ys → IsBad step justs n c → IsBad step justs m d → (length xs ≡ length ys) × (c ≡ d)
  one_split [] [] n m later after c d e h k a b = let same : n ≡ m = cc in (refl, one_cause m c d (subst (λ x. IsBad step justs x c) same a) b)
  one_split [] (y ∷ ys) n m later after c d e h k a b = let same : n ≡ y = cc in absurd (not_both y c k.0 (subst (λ x. IsBad step justs x c) same a))
  one_split (x ∷ xs) [] n m later after c d e h k a b = let same : m ≡ x = cc in absurd (not_both x d h.0 (subst (λ x. IsBad step justs x d) same b))
  one_split (x ∷ xs) (y ∷ ys) n m later after c d e h k a b =
      let tail : xs ++ n ∷ later ≡ ys ++ m ∷ after = cc in
      let both = one_split xs ys n m later after c d tail h.1 k.1 a b in
      (ap (λ n. suc n) both.0, both.1)

  -- a list of nodes has at most one first bad one, and it is bad by one cause
  pub one_first : (nodes : List (Node G)) (p q : ℕ) (c d : BadCause G) → IsFirstBad step justs nodes p c → IsFirstBad step justs nodes q d → (p ≡ q) × (c ≡ d)
  one_first nodes p q c d a b =
      let both = one_split a.before b.before a.node b.node a.after b.after c d (sym a.split ∙ b.split) a.sound b.sound a.bad b.bad in
      (sym a.counts ∙ both.0 ∙ b.counts, both.1)

  -- where each node of a list is sound, none in it is bad
  split_sound : (xs : List (Node G)) (n : Node G) (later : List (Node G)) (c : BadCause G) → AllByRecursion (StepHolds step justs) (xs ++ n ∷ later) → IsBad step justs n c → ⊥
  split_sound [] n later c h bad = not_both n c h.0 bad
  split_sound (x ∷ xs) n later c h bad = split_sound xs n later c h.1 bad

  -- where each node is sound, there is no first bad one
  pub none_bad : (nodes : List (Node G)) (p : ℕ) (c : BadCause G) → AllByRecursion (StepHolds step justs) nodes → IsFirstBad step justs nodes p c → ⊥
  none_bad nodes p c h a = split_sound a.before a.node a.after c (subst (AllByRecursion (StepHolds step justs)) a.split h) a.bad

  -- the goal that was asked is no cause at a node
  bad_not_goal : (node : Node G) → IsBad step justs node cause.Goal → ⊥
  bad_not_goal (layer.Leaf g) bad = bad
  bad_not_goal (layer.Step g just kids) bad = bad

  -- a node isn't bad by the goal that was asked
  pub not_goal : (nodes : List (Node G)) (p : ℕ) → IsFirstBad step justs nodes p cause.Goal → ⊥
  not_goal nodes p a = bad_not_goal a.node a.bad

-- ## At least one

module _ {G J : Type 0} (m : Meaning G J) (lawful : IsLogic m) where
  -- two goals are equal or not, by the test
  by_test : (a b : G) (t : Bool) → m.same a b ≡ t → (a ≡ b) ⊎ (a ≢ b)
  by_test a b true e = inl ((lawful.same_is a b).0 (subst IsTrue (sym e) refl))
  by_test a b false e = inr (λ same. let h : m.same a b ≡ true = (lawful.same_is a b).1 same in cc)

  -- two goals are equal or not
  pub same_or_not : (a b : G) → (a ≡ b) ⊎ (a ≢ b)
  same_or_not a b = by_test a b (m.same a b) refl

  -- two lists of goals are equal or not, by their first goals and the rest
  goals_cons : (a b : G) (gs hs : List G) → (a ≡ b) ⊎ (a ≢ b) → (gs ≡ hs) ⊎ (gs ≢ hs) → (a ∷ gs ≡ b ∷ hs) ⊎ (a ∷ gs ≢ b ∷ hs)
  goals_cons a b gs hs (inl e) (inl f) = inl (cc)
  goals_cons a b gs hs (inl e) (inr f) = inr (λ h. f (cc))
  goals_cons a b gs hs (inr e) r = inr (λ h. e (cc))

  -- two lists of goals are equal or not
  goals_same_or_not : (gs hs : List G) → (gs ≡ hs) ⊎ (gs ≢ hs)
  goals_same_or_not [] [] = inl refl
  goals_same_or_not [] (b ∷ hs) = inr (λ h. cc)
  goals_same_or_not (a ∷ gs) [] = inr (λ h. cc)
  goals_same_or_not (a ∷ gs) (b ∷ hs) = goals_cons a b gs hs (same_or_not a b) (goals_same_or_not gs hs)

  module _ (justs : List J) where
    -- a node is a leaf or a justified step
    abbrev Sound : Node G → Type 0
    Sound = StepHolds m.step justs

    -- something is wrong with a node
    abbrev SomeBad : Node G → Type 0
    SomeBad node = (c : BadCause G) × IsBad m.step justs node c

    -- a step that gives subgoals is sound or bad, by the kids' goals
    by_kids : (g : G) (just : JustId) (kids : List (Tree G)) (j : J) (due : List G) → slice_get justs just.0 ≡ Some j → m.step j g ≡ Ok due → (map root_of kids ≡ due) ⊎ (map root_of kids ≢ due) → Sound (layer.Step g just kids) ⊎ SomeBad (layer.Step g just kids)
    by_kids g just kids j due is e (inl same) = inl (j, is, e ∙ ap Ok (sym same))
    by_kids g just kids j due is e (inr differ) = inr (cause.Kids (map root_of kids) due, (j, is, e, refl, differ))

    -- a step is sound or bad, by what it gives
    by_answer : (g : G) (just : JustId) (kids : List (Tree G)) (j : J) → slice_get justs just.0 ≡ Some j → (r : Outcome G) → m.step j g ≡ r → Sound (layer.Step g just kids) ⊎ SomeBad (layer.Step g just kids)
    by_answer g just kids j is (Ok due) e = by_kids g just kids j due is e (goals_same_or_not (map root_of kids) due)
    by_answer g just kids j is (Err why) e = inr (cause.Refused why, (j, is, e))

    -- a node whose justification is in the list is sound or bad
    sound_or_bad : (node : Node G) → IsByAllowed m justs node → Sound node ⊎ SomeBad node
    sound_or_bad (layer.Leaf g) h = inl tt
    sound_or_bad (layer.Step g just kids) (j, is, may) = by_answer g just kids j is (m.step j g) refl

    -- a list of nodes has a first bad one
    abbrev pub SomeFirst : List (Node G) → Type 0
    SomeFirst nodes = (place : ℕ) × (c : BadCause G) × IsFirstBad m.step justs nodes place c

    -- the first bad node of a list is its first one, or one of the rest
    first_cons : (node : Node G) (nodes : List (Node G)) → Sound node ⊎ SomeBad node → AllByRecursion Sound nodes ⊎ SomeFirst nodes → AllByRecursion Sound (node ∷ nodes) ⊎ SomeFirst (node ∷ nodes)
    first_cons node nodes (inr (c, bad)) r = inr (0, c, record { before = []; node = node; after = nodes; split = refl; counts = refl; sound = tt; bad = bad })
    first_cons node nodes (inl h) (inl k) = inl (h, k)
    first_cons node nodes (inl h) (inr (place, c, first)) =
        inr (
          suc place,
          c,
          record {
            before = node ∷ first.before;
            node = first.node;
            after = first.after;
            split = ap (λ ns. node ∷ ns) first.split;
            counts = ap (λ n. suc n) first.counts;
            sound = (h, first.sound);
            bad = first.bad;
          },
        )

    -- of a list of nodes each one is sound, or there is a first bad one
    pub sound_or_first : (nodes : List (Node G)) → AllByRecursion (IsByAllowed m justs) nodes → AllByRecursion Sound nodes ⊎ SomeFirst nodes
    sound_or_first [] h = inl tt
    sound_or_first (node ∷ nodes) h = first_cons node nodes (sound_or_bad node h.0) (sound_or_first nodes h.1)

-- Walks over nodes, part by part.
use Rattle.std.proofs.Common.{◌≡◌, ℕ, suc, ◌+◌, ◌<◌, ◌≤◌, ◌^◌, List, [], ◌∷◌, ◌++◌, length, drop, get_or, Option, Some, None, refl, ap, ◌∙◌, sym, subst, append_assoc, length-append, drop-cons, add-one, arith}
use Rattle.std.proofs.lemmas.List.{drop_all}
use Rattle.std.specs.List.{flat_map}
use Rattle.mp_logic.specs.declared.tree.Tree.{Tree, Step}
use Rattle.mp_logic.specs.declared.tree.Tree.TheOpen as layer
use Rattle.mp_logic.specs.declared.tree.JustId.{JustId}
use Rattle.mp_logic.specs.Steps.{Outcome}
use Rattle.mp_logic.specs.Trees.{counted}
use Rattle.mp_logic.specs.Valid.{StepHolds}
use Rattle.mp_replay.specs.Finding.{Finds}
use Rattle.mp_replay.specs.Nodes.{Node, preorder_of}
use Rattle.mp_replay.specs.Verdicts.{IsBad}
use Rattle.mp_replay.specs.declared.verdict.BadCause.{BadCause}
use Rattle.mp_replay.proofs.NodeLists.{all_append, preorder_of-Step}

module _ {G J : Type 0} (step : J → G → Outcome G) (justs : List J) where
  -- a walk that begins at a bad node finds it
  pub finds_here : (node : Node G) (rest : List (Node G)) (seen now : ℕ) (c : BadCause G) → IsBad step justs node c → now ≡ counted (seen + 1) → Finds step justs (node ∷ rest) seen (Some c) now
  finds_here node rest seen now c bad e = (0, record { before = []; node = node; after = rest; split = refl; counts = refl; sound = tt; bad = bad }, omega arith)

  -- a walk over one sound node finds nothing
  pub finds_none : (node : Node G) (seen now : ℕ) → StepHolds step justs node → now ≡ counted (seen + 1) → Finds step justs (node ∷ []) seen None now
  finds_none node seen now holds e = ((holds, tt), omega arith)

  -- what is found is found whatever nodes come after
  pub finds_first : (xs ys : List (Node G)) (seen now : ℕ) (c : BadCause G) → Finds step justs xs seen (Some c) now → Finds step justs (xs ++ ys) seen (Some c) now
  finds_first xs ys seen now c (place, first, e) = (
    place,
    record {
      before = first.before;
      node = first.node;
      after = first.after ++ ys;
      split = ap (λ zs. zs ++ ys) first.split ∙ append_assoc first.before (first.node ∷ first.after) ys;
      counts = first.counts;
      sound = first.sound;
      bad = first.bad;
    },
    e,
  )

  -- where nothing is found, the walk goes on over the nodes that come after
  pub finds_rest : (xs ys : List (Node G)) (seen mid : ℕ) → Finds step justs xs seen None mid → (found : Option (BadCause G)) (now : ℕ) → Finds step justs ys mid found now → Finds step justs (xs ++ ys) seen found now
  finds_rest xs ys seen mid (sound, e) None now (others, f) =
      (all_append (StepHolds step justs) xs ys sound others, omega (arith, length-append xs ys))
  finds_rest xs ys seen mid (sound, e) (Some c) now (place, first, f) = (
    length xs + place,
    record {
      before = xs ++ first.before;
      node = first.node;
      after = first.after;
      split = ap (λ zs. xs ++ zs) first.split ∙ sym (append_assoc xs first.before (first.node ∷ first.after));
      counts = length-append xs first.before ∙ ap (λ n. length xs + n) first.counts;
      sound = all_append (StepHolds step justs) xs first.before sound first.sound;
      bad = first.bad;
    },
    omega arith,
  )

  -- whatever a walk over the later nodes finds, counting on from a number, is what the whole walk finds
  abbrev pub GoesOn : List (Node G) → ℕ → List (Node G) → ℕ → Type 0
  GoesOn later mid nodes seen = (found : Option (BadCause G)) (now : ℕ) → Finds step justs later mid found now → Finds step justs nodes seen found now

  module _ (g : G) (just : JustId) (kids : List (Tree G)) (t : Tree G) (seen mid : ℕ) (is : t ≡ Step g just kids) where
    -- the nodes of the tree: the step, and those of its kids
    nodes : preorder_of t ≡ layer.Step g just kids ∷ flat_map preorder_of kids
    nodes = ap preorder_of is ∙ preorder_of-Step g just kids

    -- a bad step is found first
    pub begins_bad : (c : BadCause G) → IsBad step justs (layer.Step g just kids) c → mid ≡ counted (seen + 1) → Finds step justs (preorder_of t) seen (Some c) mid
    begins_bad c bad e = subst (λ ns. Finds step justs ns seen (Some c) mid) (sym nodes) (finds_here (layer.Step g just kids) (flat_map preorder_of kids) seen mid c bad e)

    -- after a step that holds the nodes of its kids are left
    pub begins : StepHolds step justs (layer.Step g just kids) → mid ≡ counted (seen + 1) → GoesOn (flat_map preorder_of kids) mid (preorder_of t) seen
    begins holds e found now later =
        subst (λ ns. Finds step justs ns seen found now) (sym nodes)
        (finds_rest (layer.Step g just kids ∷ []) (flat_map preorder_of kids) seen mid (finds_none (layer.Step g just kids) seen mid holds e) found now later)

  module _ (kid : Tree G) (kids rest : List (Tree G)) (is : kids ≡ kid ∷ rest) (nodes : List (Node G)) (seen mid now : ℕ) (on : GoesOn (flat_map preorder_of kids) mid nodes seen) where
    -- the nodes of the kids: those of the first one, and those of the rest
    first_nodes : flat_map preorder_of kids ≡ preorder_of kid ++ flat_map preorder_of rest
    first_nodes = ap (λ ks. flat_map preorder_of ks) is

    -- where nothing is found in a kid, the walk goes on over those after it
    pub goes_on_after : Finds step justs (preorder_of kid) mid None now → GoesOn (flat_map preorder_of rest) now nodes seen
    goes_on_after none found after later =
        on found after (subst (λ ns. Finds step justs ns mid found after) (sym first_nodes) (finds_rest (preorder_of kid) (flat_map preorder_of rest) mid now none found after later))

    -- what is found in a kid is found
    pub finds_in_kid : (c : BadCause G) → Finds step justs (preorder_of kid) mid (Some c) now → Finds step justs nodes seen (Some c) now
    finds_in_kid c some = on (Some c) now (subst (λ ns. Finds step justs ns mid (Some c) now) (sym first_nodes) (finds_first (preorder_of kid) (flat_map preorder_of rest) mid now c some))

  -- where no kid is left, nothing is found
  pub finds_no_more : (kids : List (Tree G)) (i : ℕ) (nodes : List (Node G)) (seen mid : ℕ) → length kids ≤ i → mid < 2 ^ 64 → GoesOn (flat_map preorder_of (drop i kids)) mid nodes seen → Finds step justs nodes seen None mid
  finds_no_more kids i nodes seen mid past fits on =
      on None mid (subst (λ ks. Finds step justs (flat_map preorder_of ks) mid None mid) (sym (drop_all i kids past)) (tt, omega arith))

-- the items from i on are item i and those after it
pub drop_first : {A : Type 0} (xs : List A) (i : ℕ) (x : A) → i < length xs → x ≡ get_or xs i x → drop i xs ≡ x ∷ drop (i + 1) xs
drop_first xs i x lt is = drop-cons xs i x lt ∙ ap (λ y. y ∷ drop (suc i) xs) (sym is) ∙ ap (λ n. x ∷ drop n xs) (sym (add-one i))

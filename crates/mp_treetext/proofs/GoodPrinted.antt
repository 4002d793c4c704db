-- A block without static faults can be checked.
use Rattle.std.proofs.Common.{◌≡◌, ◌+◌, ◌<◌, ◌≤◌, ◌++◌, ℕ, List, [], ◌∷◌, length, Bool, true, false, nat_lt, Option, None, Some, if◌then◌else◌, refl, arith}
use Rattle.std.specs.Prelude.{IsTrue, not, ⊤}
use Rattle.std.specs.List.{AllByRecursion, flat_map, list_all}
use Rattle.std.proofs.lemmas.Bool.{and_from}
use Rattle.mp_logic.specs.declared.tree.JustId.{JustId}
use Rattle.mp_logic.specs.declared.tree.Tree.{Tree, Tree-F}
use Rattle.mp_logic.specs.declared.tree.Tree.TheFolds.{every-Tree}
use Rattle.mp_logic.specs.Trees.{goal_at}
use Rattle.mp_logic.proofs.Every.{every_leaf, every_step}
use Rattle.mp_term.specs.declared.sequent.Sequent.{Sequent}
use Rattle.mp_theory.specs.Allowed.{is_allowed, is_good}
use Rattle.mp_theory.specs.Tables.{IsTheory, Laws}
use Rattle.mp_words.specs.declared.fail.TextWhy.TheVariants as why
use Rattle.mp_words.specs.Faults.{fault_if}
use Rattle.mp_words.specs.Ranges.{number_faults}
use Rattle.mp_words.proofs.NoFaults.{nil_parts}
use Rattle.mp_termtext.specs.declared.raw.RawBound.{RawBound}
use Rattle.mp_termtext.specs.Statics.{sequent_faults}
use Rattle.mp_termtext.specs.Values.{sequent_value}
use Rattle.mp_steptext.specs.declared.raw.RawStep.{RawStep}
use Rattle.mp_steptext.proofs.AllowedSteps.{step_allowed}
use Rattle.mp_treetext.specs.declared.raw.RawBlock.{RawBlock}
use Rattle.mp_treetext.specs.declared.raw.RawState.{RawState}
use Rattle.mp_treetext.specs.declared.raw.RawState.TheVariants as state
use Rattle.mp_treetext.specs.declared.raw.RawTreeLine.{RawTreeLine}
use Rattle.mp_treetext.specs.declared.roots.Line.{Line}
use Rattle.mp_treetext.specs.declared.roots.Root.{Root}
use Rattle.mp_treetext.specs.Printed.{EachGoodPrinted, IsByOne, IsGoodPrinted, IsGoodProof}
use Rattle.mp_treetext.specs.Statics.{block_faults, content_faults, is_count, missing_tree_faults, written_faults, open_lines, state_faults, tree_lines_faults}
use Rattle.mp_treetext.specs.Values.{block_value, file_value, just_number, justs_of, kids_of, lines_of, next_number, others_of, printed_of, roots_of, step_justs, tree_of, tree_with}
use Rattle.mp_treetext.proofs.Faultless.{block_parts, contents_faultless}
use Rattle.mp_treetext.proofs.GoodSequents.{sequent_good}

-- what holds of each line holds of each layer of the trees
module _ (Q : Tree-F Sequent (Tree Sequent) → Type 0) (P : Sequent → Option JustId → Type 0) (leaf : (g : Sequent) → P g None → Q (Tree-F.Leaf g))
    (step : (g : Sequent) (just : JustId) (kids : List (Tree Sequent)) → P g (Some just) → Q (Tree-F.Step g just kids)) where
  abbrev Holds : Tree Sequent → Type 0
  Holds = every-Tree Sequent Q

  abbrev InLines : List Line → Type 0
  InLines [] = ⊤
  InLines (l ∷ ls) = P l.goal l.just × InLines ls

  abbrev InRoots : List Root → Type 0
  InRoots [] = ⊤
  InRoots (r ∷ rs) = Holds r.tree × InRoots rs

  kids_hold : (d : ℕ) (rs : List Root) → InRoots rs → AllByRecursion Holds (kids_of d rs)
  kids_hold d [] h = tt
  kids_hold d (r ∷ rs) h = by (nat_lt d r.depth) (kids_hold d rs h.1)
    where
      by : (b : Bool) → AllByRecursion Holds (kids_of d rs) → AllByRecursion Holds (if b then r.tree ∷ kids_of d rs else [])
      by true k = (h.0, k)
      by false k = tt

  others_hold : (d : ℕ) (rs : List Root) → InRoots rs → InRoots (others_of d rs)
  others_hold d [] h = tt
  others_hold d (r ∷ rs) h = by (nat_lt d r.depth) (others_hold d rs h.1)
    where
      by : (b : Bool) → InRoots (others_of d rs) → InRoots (if b then others_of d rs else r ∷ rs)
      by true k = k
      by false k = h

  tree_holds : (goal : Sequent) (just : Option JustId) (kids : List (Tree Sequent)) → P goal just → AllByRecursion Holds kids → Holds (tree_with goal just kids)
  tree_holds goal None kids p h = every_leaf Q goal (leaf goal p)
  tree_holds goal (Some just) kids p h = every_step Q goal just kids h (step goal just kids p)

  roots_hold : (ls : List Line) → InLines ls → InRoots (roots_of ls)
  roots_hold [] h = tt
  roots_hold (l ∷ ls) h =
      let rs = roots_hold ls h.1 in
      (tree_holds l.goal l.just (kids_of l.depth (roots_of ls)) h.0 (kids_hold l.depth (roots_of ls) rs), others_hold l.depth (roots_of ls) rs)

-- each goal is good
abbrev HasGood : Sequent → Option JustId → Type 0
HasGood g just = IsTrue (is_good g)

-- a step is by one of so many justifications
abbrev IsBelow : ℕ → Sequent → Option JustId → Type 0
IsBelow count g None = ⊤
IsBelow count g (Some just) = just.0 < count

abbrev GoodLayer : Tree-F Sequent (Tree Sequent) → Type 0
GoodLayer layer = IsTrue (is_good (goal_at layer))

abbrev GoodLines : List Line → Type 0
GoodLines = InLines GoodLayer HasGood (λ g p. p) (λ g just kids p. p)

abbrev BelowLines : ℕ → List Line → Type 0
BelowLines count = InLines (IsByOne count) (IsBelow count) (λ g p. tt) (λ g just kids p. p)

module _ (t : Laws) (source : List ℕ) where
  lines_good : (n : ℕ) (ls : List RawTreeLine) → flat_map (content_faults t) ls ≡ [] → GoodLines (lines_of source n ls)
  lines_good n [] h = tt
  lines_good n (l ∷ ls) h =
      let both = nil_parts (content_faults t l) (flat_map (content_faults t) ls) h in
      (sequent_good l.goal (nil_parts (written_faults t l.step) (sequent_faults l.goal) both.0).1, lines_good (next_number n l.step) ls both.1)

  lines_below : (count n : ℕ) (ls : List RawTreeLine) → n + length (justs_of t ls) ≤ count → BelowLines count (lines_of source n ls)
  lines_below count n [] h = tt
  lines_below count n (l ∷ ls) h = (number l.step h, lines_below count (next_number n l.step) ls (first l.step h))
    where
      first : (s : Option (RawStep RawBound)) → n + length (step_justs t s ++ justs_of t ls) ≤ count → next_number n s + length (justs_of t ls) ≤ count
      first None k = k
      first (Some s) k = omega (arith, k)

      number : (s : Option (RawStep RawBound)) → n + length (step_justs t s ++ justs_of t ls) ≤ count → IsBelow count (sequent_value l.goal) (just_number n s)
      number None k = tt
      number (Some s) k = omega (arith, k)

  module _ (is : IsTheory t) where
    justs_allowed : (ls : List RawTreeLine) → flat_map (content_faults t) ls ≡ [] → list_all (is_allowed t) (justs_of t ls) ≡ true
    justs_allowed [] h = refl
    justs_allowed (l ∷ ls) h = by l.step (nil_parts (written_faults t l.step) (sequent_faults l.goal) both.0).0 (justs_allowed ls both.1)
      where
        both : (content_faults t l ≡ []) × (flat_map (content_faults t) ls ≡ [])
        both = nil_parts (content_faults t l) (flat_map (content_faults t) ls) h

        by : (s : Option (RawStep RawBound)) → written_faults t s ≡ [] → list_all (is_allowed t) (justs_of t ls) ≡ true → list_all (is_allowed t) (step_justs t s ++ justs_of t ls) ≡ true
        by None e k = k
        by (Some s) e k = and_from _ _ (step_allowed t is s e) k

    proof_good : (at : ℕ) (ls : List RawTreeLine) → missing_tree_faults source at ls ≡ [] → tree_lines_faults t source None ls ≡ [] → IsGoodProof t (justs_of t ls) (tree_of source ls)
    proof_good at [] m h = absurd cc
    proof_good at (l ∷ ls) m h =
        let said = contents_faultless t source None (l ∷ ls) h in
        let count = length (justs_of t (l ∷ ls)) in
        record {
          allowed = justs_allowed (l ∷ ls) said;
          goals = (roots_hold GoodLayer HasGood (λ g p. p) (λ g just kids p. p) (lines_of source 0 (l ∷ ls)) (lines_good 0 (l ∷ ls) said)).0;
          steps = (roots_hold (IsByOne count) (IsBelow count) (λ g p. tt) (λ g just kids p. p) (lines_of source 0 (l ∷ ls)) (lines_below count 0 (l ∷ ls) (omega arith))).0;
        }

    block_good : (b : RawBlock) → block_faults t source b ≡ [] → IsGoodPrinted t (block_value t source b)
    block_good b h = by b.goal.state parts.0
      where
        parts : (state_faults source b.goal b.goal.state b.lines ≡ []) × (tree_lines_faults t source None b.lines ≡ [])
        parts = block_parts t source b h

        by : (s : RawState) → state_faults source b.goal s b.lines ≡ [] → IsGoodPrinted t (printed_of t source s b.lines)
        by state.Closed e =
            proof_good b.goal.name.at b.lines (nil_parts (fault_if (nat_lt 0 (open_lines b.lines)) b.goal.at why.CountDiffers) (missing_tree_faults source b.goal.name.at b.lines) e).1 parts.1
        by (state.Open n) e =
            proof_good b.goal.name.at b.lines
            (nil_parts (fault_if (not (is_count n.value (open_lines b.lines))) b.goal.at why.CountDiffers) (missing_tree_faults source b.goal.name.at b.lines) e).1 parts.1
        by (state.Failed f) e = sequent_good f.goal (nil_parts (number_faults 1 4096 f.tac) (sequent_faults f.goal) e).1

    pub blocks_good : (bs : List RawBlock) → flat_map (block_faults t source) bs ≡ [] → EachGoodPrinted t (file_value t source bs)
    blocks_good [] h = tt
    blocks_good (b ∷ bs) h =
        let both = nil_parts (block_faults t source b) (flat_map (block_faults t source) bs) h in
        (block_good b both.0, blocks_good bs both.1)

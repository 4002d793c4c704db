-- What a tree file without static faults keeps.
use Rattle.std.proofs.Common.{◌≡◌, ◌<◌, ◌++◌, ℕ, zero, suc, List, [], ◌∷◌, length, get_or, not, Option, None, Some, refl, ap, sym, ◌∙◌, arith}
use Rattle.std.specs.List.{flat_map}
use Rattle.mp_logic.specs.declared.sym.Sym.{Sym}
use Rattle.mp_theory.specs.Tables.{Laws}
use Rattle.mp_words.specs.declared.raw.RawName.{RawName}
use Rattle.mp_words.specs.declared.fail.TextWhy.TheVariants as why
use Rattle.mp_words.specs.Faults.{fault_if}
use Rattle.mp_words.proofs.NoFaults.{nil_parts}
use Rattle.mp_treetext.specs.declared.raw.RawBlock.{RawBlock}
use Rattle.mp_treetext.specs.declared.raw.RawFailure.{RawFailure}
use Rattle.mp_treetext.specs.declared.raw.RawState.TheVariants as state
use Rattle.mp_treetext.specs.declared.raw.RawTreeLine.{RawTreeLine}
use Rattle.mp_treetext.specs.declared.statics.Stand.{Stand}
use Rattle.mp_treetext.specs.Statics.{block_faults, block_names, content_faults, failure_faults, file_faults, is_due, order_faults, stand_faults, stand_of, state_faults, tree_lines_faults, unknown_goal_faults}

-- where no item has anything, this one has nothing
pub nil_at : {X A : Type 0} (f : X → List A) (xs : List X) (i : ℕ) (x : X) → i < length xs → x ≡ get_or xs i x → flat_map f xs ≡ [] → f x ≡ []
nil_at f [] i x lt is h = absurd (omega (arith, lt))
nil_at f (y ∷ ys) zero x lt is h = ap f is ∙ (nil_parts (f y) (flat_map f ys) h).0
nil_at f (y ∷ ys) (suc i) x lt is h = nil_at f ys i x (omega (arith, lt)) is (nil_parts (f y) (flat_map f ys) h).1

joined_nil : {A : Type 0} (xs ys : List A) → xs ≡ [] → ys ≡ [] → xs ++ ys ≡ []
joined_nil [] ys e f = f
joined_nil (x ∷ xs) ys e f = absurd cc

-- what lines say has no fault, if they have none
pub contents_faultless : (t : Laws) (source : List ℕ) (before : Option Stand) (ls : List RawTreeLine) → tree_lines_faults t source before ls ≡ [] → flat_map (content_faults t) ls ≡ []
contents_faultless t source before [] h = refl
contents_faultless t source before (l ∷ ls) h =
    let both = nil_parts (stand_faults source before l ++ content_faults t l) (tree_lines_faults t source (Some (stand_of source l)) ls) h in
    joined_nil (content_faults t l) (flat_map (content_faults t) ls) (nil_parts (stand_faults source before l) (content_faults t l) both.0).1
    (contents_faultless t source (Some (stand_of source l)) ls both.1)

-- a block without faults: its goal line has none, and its lines have none
pub block_parts : (t : Laws) (source : List ℕ) (b : RawBlock) → block_faults t source b ≡ [] → (state_faults source b.goal b.goal.state b.lines ≡ []) × (tree_lines_faults t source None b.lines ≡ [])
block_parts t source b h = nil_parts (state_faults source b.goal b.goal.state b.lines) (tree_lines_faults t source None b.lines) h

-- a failure in a block without faults has none
pub failure_part : (t : Laws) (source : List ℕ) (b : RawBlock) (f : RawFailure) → b.goal.state ≡ state.Failed f → block_faults t source b ≡ [] → failure_faults f ≡ []
failure_part t source b f e h = sym (ap (λ s. state_faults source b.goal s b.lines) e) ∙ (block_parts t source b h).0

-- there are as many blocks as goals, each with its name
names_fit : (end : ℕ) (due : List Sym) (ns : List RawName) → order_faults end due ns ≡ [] → length ns ≡ length due
names_fit end [] [] h = refl
names_fit end (g ∷ gs) [] h = absurd cc
names_fit end [] (n ∷ ns) h = absurd cc
names_fit end (g ∷ gs) (n ∷ ns) h =
    let both = nil_parts (fault_if (not (is_due (g ∷ gs) n)) n.at why.WrongGoal) (order_faults end gs ns) h in
    ap (λ k. suc k) (names_fit end gs ns both.1)

length-names : (bs : List RawBlock) → length (block_names bs) ≡ length bs
length-names [] = refl
length-names (b ∷ bs) = ap (λ k. suc k) (length-names bs)

-- the parts of a file without faults
pub record FileKeeps (t : Laws) (goals : List Sym) (source : List ℕ) (bs : List RawBlock) : Type 0 where
  pub blocks : flat_map (block_faults t source) bs ≡ []
  pub many : length bs ≡ length goals

pub file_keeps : (t : Laws) (goals : List Sym) (source : List ℕ) (bs : List RawBlock) → file_faults t goals source bs ≡ [] → FileKeeps t goals source bs
file_keeps t goals source bs h =
    let ns = block_names bs in
    let both = nil_parts (flat_map (unknown_goal_faults goals) ns ++ order_faults (length source) goals ns) (flat_map (block_faults t source) bs) h in
    let names = nil_parts (flat_map (unknown_goal_faults goals) ns) (order_faults (length source) goals ns) both.0 in
    record { blocks = both.1; many = sym (length-names bs) ∙ names_fit (length source) goals ns names.1 }

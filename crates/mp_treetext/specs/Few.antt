-- How many lines trees have.
use Rattle.std.specs.Prelude.{ℕ, ◌≤◌, List, [], ◌∷◌, length, ⊤}
use Rattle.mp_treetext.specs.declared.raw.RawBlock.{RawBlock}

-- each of the blocks has at most so many lines of a tree
abbrev pub EachFew : ℕ → List RawBlock → Type 0
EachFew n [] = ⊤
EachFew n (b ∷ bs) = (length b.lines ≤ n) × EachFew n bs

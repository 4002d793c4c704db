-- Trees that lines make, from the last line on.
use Rattle.std.proofs.Common.{◌≡◌, ◌++◌, List, [], ◌∷◌, refl, ap}
use Rattle.mp_treetext.specs.declared.roots.Line.{Line}
use Rattle.mp_treetext.specs.declared.roots.Root.{Root}
use Rattle.mp_treetext.specs.Values.{put_line, roots_of}

-- the trees that lines make before trees
abbrev pub roots_onto : List Root → List Line → List Root
roots_onto rs [] = rs
roots_onto rs (l ∷ ls) = put_line l (roots_onto rs ls)

-- the last line stands before the trees first
pub onto_last : (rs : List Root) (ls : List Line) (l : Line) → roots_onto rs (ls ++ l ∷ []) ≡ roots_onto (put_line l rs) ls
onto_last rs [] l = refl
onto_last rs (k ∷ ls) l = ap (put_line k) (onto_last rs ls l)

pub onto_none : (ls : List Line) → roots_onto [] ls ≡ roots_of ls
onto_none [] = refl
onto_none (l ∷ ls) = ap (put_line l) (onto_none ls)

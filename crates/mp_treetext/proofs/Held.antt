-- The least fault of the lines of a tree, from one line to the next.
use Rattle.std.proofs.Common.{◌≡◌, ◌+◌, ◌<◌, ℕ, List, Option, Some, refl, ap, sym, ◌∙◌, drop, length, get_or}
use Rattle.mp_theory.specs.Tables.{Laws}
use Rattle.mp_words.specs.declared.fail.TextErr.{TextErr}
use Rattle.mp_words.specs.Faults.{least_from}
use Rattle.mp_words.proofs.FaultParts.{two_parts}
use Rattle.mp_words.proofs.Walks.{left_cons}
use Rattle.mp_treetext.specs.declared.raw.RawTreeLine.{RawTreeLine}
use Rattle.mp_treetext.specs.declared.statics.Stand.{Stand}
use Rattle.mp_treetext.specs.Statics.{stand_of, tree_line_faults, tree_lines_faults}

pub line_next : (t : Laws) (source : List ℕ) (before after : Option Stand) (ls : List RawTreeLine) (i : ℕ) (l : RawTreeLine) (held next whole : Option TextErr)
    → i < length ls → l ≡ get_or ls i l → next ≡ least_from held (tree_line_faults t source before l) → after ≡ Some (stand_of source l)
    → least_from held (tree_lines_faults t source before (drop i ls)) ≡ whole → least_from next (tree_lines_faults t source after (drop (i + 1) ls)) ≡ whole
line_next t source before after ls i l held next whole lt is found stands prev =
    let rest = tree_lines_faults t source (Some (stand_of source l)) (drop (i + 1) ls) in
    ap (λ b. least_from next (tree_lines_faults t source b (drop (i + 1) ls))) stands
    ∙ two_parts held next (least_from next rest) (tree_line_faults t source before l) rest found refl
    ∙ ap (λ ys. least_from held (tree_lines_faults t source before ys)) (sym (left_cons ls i l lt is)) ∙ prev

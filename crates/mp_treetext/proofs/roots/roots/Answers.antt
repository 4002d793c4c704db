use Rattle.std.proofs.Common.{ap, sym, ◌∙◌, reverse}
use Rattle.mp_treetext.proofs.RootFacts.{onto_last, onto_none, roots_onto}
use Rattle.mp_treetext.proofs.roots.roots.Goals as goal

pub loop-line-init : goal.loop-line-init
loop-line-init c = ap (λ rs. roots_onto (reverse rs) c.args.lines) c.new-roots.ensures.items ∙ onto_none c.args.lines

pub loop-line-preserved : goal.loop-line-preserved
loop-line-preserved c =
    ap (λ rs. roots_onto rs c.pop.new.self) c.in_ok-put_line.ensures
    ∙ sym (onto_last (reverse c.loop-line.roots.items) c.pop.new.self c.in-Some.line)
    ∙ ap (roots_onto (reverse c.loop-line.roots.items)) (sym c.in-Some.ensures)
    ∙ c.loop-line.invariant

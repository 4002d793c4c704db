use Rattle.std.proofs.Common.{◌≡◌, ℕ, IsTrue, sym, ◌∙◌}
use Rattle.mp_delay.specs.Moves.{moved, moved_term, levels_fit, levels_fit_by}
use Rattle.mp_delay.proofs.DelayLaws.{composed_is, composed_fits, none_fits, kept_moved}
use Rattle.mp_delay.proofs.FitLaws.{fit-moved}
use Rattle.mp_delay.proofs.MoveLaws.{relevel-none}
use Rattle.mp_delay.proofs.delayed.Delayed.moved_by.Goals as goal

pub invariant_of-result : goal.invariant_of-result
invariant_of-result c =
    let same = rw (c.as_slice.ensures, c.in-Some.is) at c.in_ok-moves.ensures in
    let fits = rw (← c.self.view_is) at c.requires.fits in
    rw c.in_ok-copy.ensures (composed_fits c.self.inside.moves c.args.moves.now c.in-Some.moves same c.self.inside.body fits)

pub returns-in-Some : goal.returns-in-Some
returns-in-Some c =
    let same = rw (c.as_slice.ensures, c.in-Some.is) at c.in_ok-moves.ensures in
    rw (c.in_ok-copy.ensures, ← c.self.view_is) (composed_is c.self.inside.moves c.args.moves.now c.in-Some.moves same c.self.inside.body)

pub make-requires : goal.make-requires
make-requires c = rw (c.in_ok-made.ensures, fit-moved) c.requires.fits

pub of-requires : goal.of-requires
of-requires c =
    rw (c.in_ok-made-2.ensures, c.in_ok-made.ensures, ← c.self.view_is)
    (kept_moved (moved c.args.moves.now) c.kept_weight.result (moved_term c.self.inside.moves c.self.inside.body)
    (kept_moved (moved c.self.inside.moves) c.kept_weight.result c.self.inside.body c.kept_weight.ensures))

pub returns : goal.returns
returns c = rw (c.of.ensures, c.new.ensures, relevel-none, c.in_ok-made-2.ensures, c.in_ok-made.ensures)

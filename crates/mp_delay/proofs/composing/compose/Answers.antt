use Rattle.std.proofs.Common.{◌∙◌}
use Rattle.mp_delay.specs.Composing.{composed}
use Rattle.mp_delay.proofs.ComposeLaws.{moved-composed}
use Rattle.mp_delay.proofs.TidyLaws.{moved-tidied}
use Rattle.mp_delay.proofs.composing.compose.Goals as goal

pub returns : goal.returns
returns c =
    let is = rw c.in-Some.is at c.in_ok-both.ensures in
    λ i. rw (c.in_ok-moves.ensures, c.as_slice.ensures, is)
    (moved-tidied (composed c.args.first.now c.args.second.now) i ∙ moved-composed c.args.second.now c.requires c.args.first.now i)

use Rattle.mp_delay.specs.Moves.{moved}
use Rattle.mp_delay.proofs.Measures.{relevel-measures}
use Rattle.mp_delay.proofs.delayed.Delayed.depth.Goals as goal

pub returns : goal.returns
returns c =
    let kept = relevel-measures (moved c.self.inside.moves) c.self.inside.body in
    rw (← c.self.view_is, kept.1) c.weight.ensures.depth

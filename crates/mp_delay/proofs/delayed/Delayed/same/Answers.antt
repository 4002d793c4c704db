use Rattle.mp_delay.specs.Moves.{moved, moved_term}
use Rattle.mp_delay.proofs.DelayLaws.{as_large}
use Rattle.mp_delay.proofs.EqualLaws.{term-tells, none-tells}
use Rattle.mp_delay.proofs.delayed.Delayed.same.Goals as goal

pub returns-then-may_be_as_large_as : goal.returns-then-may_be_as_large_as
returns-then-may_be_as_large_as c =
    let a = c.self.inside in
    let b = c.other.inside in
    rw (← c.self.view_is, ← c.other.view_is)
    (term-tells c.same_moved.result (moved_term a.moves a.body) (moved_term b.moves b.body)
    (rw (c.as_slice.ensures, c.term.ensures, c.as_slice-then-may_be_as_large_as.ensures, c.term-then-may_be_as_large_as.ensures) at c.same_moved.ensures))

pub returns-else-may_be_as_large_as : goal.returns-else-may_be_as_large_as
returns-else-may_be_as_large_as c =
    let a = c.self.inside in
    let b = c.other.inside in
    rw (← c.self.view_is, ← c.other.view_is)
    (none-tells c.may_be_as_large_as.result (moved_term a.moves a.body) (moved_term b.moves b.body) c.if-may_be_as_large_as.false
    (λ e. c.may_be_as_large_as.ensures c.if-may_be_as_large_as.false (as_large (moved a.moves) (moved b.moves) a.body b.body e)))

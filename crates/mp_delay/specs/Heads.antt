-- The term that the outermost layer of a delayed term stands for.
use Rattle.std.specs.Prelude.{map}
use Rattle.mp_term.specs.declared.term.Term.{Term}
use Rattle.mp_term.specs.declared.term.Term as term
use Rattle.mp_term.specs.declared.term.Bound.{Bound}
use Rattle.mp_delay.specs.declared.head.DelayedBound.{DelayedBound}
use Rattle.mp_delay.specs.declared.head.Head.{Head}
use Rattle.mp_delay.specs.declared.head.Head.TheVariants as head

-- the bound subterm that a delayed one stands for
abbrev pub bound_of : DelayedBound → Bound
bound_of b = record { binders = b.binders; body = b.body }

-- the term with this outermost layer
abbrev pub term_of : Head → Term
term_of (head.Var level) = term.Var level
term_of (head.Op op params subs) = term.Op op params (map bound_of subs)

use Rattle.std.proofs.Common.{◌≡◌, drop}
use Rattle.std.specs.List.{list_all}
use Rattle.mp_schema.specs.Conditions.{below}
use Rattle.mp_schema.proofs.rewrite.is_rewrite_closed.Given as goal

abbrev pub invariant-loop-cond : goal.invariant-loop-cond
invariant-loop-cond l = list_all (λ p. below p 0) (drop l.cond-index l.conds) ≡ list_all (λ p. below p 0) l.conds

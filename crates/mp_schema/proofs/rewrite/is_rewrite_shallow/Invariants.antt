use Rattle.std.proofs.Common.{◌≡◌, drop}
use Rattle.std.specs.List.{list_all}
use Rattle.mp_schema.specs.Limits.{is_shallow_pattern}
use Rattle.mp_schema.proofs.rewrite.is_rewrite_shallow.Given as goal

abbrev pub invariant-loop-cond : goal.invariant-loop-cond
invariant-loop-cond l = list_all is_shallow_pattern (drop l.cond-index l.conds) ≡ list_all is_shallow_pattern l.conds

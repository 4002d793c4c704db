use Rattle.std.proofs.Common.{◌≡◌, drop}
use Rattle.std.specs.List.{list_all}
use Rattle.mp_schema.specs.Limits.{is_small_pattern}
use Rattle.mp_schema.proofs.rewrite.is_rewrite_small.Given as goal

abbrev pub invariant-loop-cond : goal.invariant-loop-cond
invariant-loop-cond l = list_all is_small_pattern (drop l.cond-index l.conds) ≡ list_all is_small_pattern l.conds

use Rattle.std.proofs.Common.{◌≡◌, drop}
use Rattle.std.specs.List.{list_all}
use Rattle.mp_schema.specs.Limits.{few_of}
use Rattle.mp_schema.proofs.rewrite.is_rewrite_few.Given as goal

abbrev pub invariant-loop-cond : goal.invariant-loop-cond
invariant-loop-cond l = list_all few_of (drop l.cond-index l.conds) ≡ list_all few_of l.conds

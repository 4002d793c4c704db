use Rattle.std.proofs.Common.{◌≡◌, drop, map}
use Rattle.mp_schema.specs.Instances.{all_pass}
use Rattle.mp_schema.specs.Limits.{few_of, few_of_bound}
use Rattle.mp_schema.proofs.measures.+few.Given as goal

abbrev pub invariant-are_few_arguments-loop-arg : goal.invariant-are_few_arguments-loop-arg
invariant-are_few_arguments-loop-arg l = all_pass (map few_of (drop l.arg-index l.args)) ≡ all_pass (map few_of l.args)

abbrev pub invariant-are_few_bodies-loop-sub : goal.invariant-are_few_bodies-loop-sub
invariant-are_few_bodies-loop-sub l = all_pass (map few_of_bound (drop l.sub-index l.subs)) ≡ all_pass (map few_of_bound l.subs)

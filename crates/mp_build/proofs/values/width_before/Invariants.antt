use Rattle.std.proofs.Common.{◌≡◌, ◌+◌, drop, map, length, sum}
use Rattle.mp_schema.specs.Sequents.{wide_of}
use Rattle.mp_schema.specs.Values.{instance_of, kept_of}
use Rattle.mp_build.proofs.values.width_before.Given as goal

abbrev pub invariant-loop-name : goal.invariant-loop-name
invariant-loop-name l =
    l.total + sum (map (λ c. length (kept_of l.inst.ctxs c)) (drop l.name-index l.ctxs)) ≡ wide_of (instance_of l.inst) l.ctxs

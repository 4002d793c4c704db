use Rattle.std.proofs.Common.{◌≡◌, ℕ, min, drop, map}
use Rattle.mp_term.specs.Terms.{all_at_scope}
use Rattle.mp_schema.specs.Conditions.{below, below_bound}
use Rattle.mp_schema.proofs.levels.+closed.Given as goal

abbrev pub invariant-are_bodies_closed-loop-sub : goal.invariant-are_bodies_closed-loop-sub
invariant-are_bodies_closed-loop-sub l =
    (n : ℕ) → min n 4294967296 ≡ l.levels → all_at_scope n (map below_bound (drop l.sub-index l.subs)) ≡ all_at_scope n (map below_bound l.subs)

abbrev pub invariant-are_arguments_closed-loop-arg : goal.invariant-are_arguments_closed-loop-arg
invariant-are_arguments_closed-loop-arg l =
    (n : ℕ) → min n 4294967296 ≡ l.levels → all_at_scope n (map below (drop l.arg-index l.args)) ≡ all_at_scope n (map below l.args)

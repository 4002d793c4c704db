use Rattle.std.proofs.Common.{◌≡◌, ◌++◌, ◌+◌, ◌-◌, length, map, drop, IsTrue}
use Rattle.mp_schema.specs.Conditions.{seen, Seen, all_variables}
use Rattle.mp_schema.specs.Conditions.{argument}
use Rattle.mp_match.specs.Places.{ground_of, levels_at}
use Rattle.mp_match.proofs.levels.levels_of.Given as goal

abbrev pub invariant-loop-arg : goal.invariant-loop-arg
invariant-loop-arg l =
    IsTrue (all_variables (length l.place.named + (l.scope - l.place.next)) (map seen (drop l.arg-index l.arg-items))) ×
    (l.levels ++ map (λ (a : Seen). argument (levels_at l.place l.scope) a.level) (map seen (drop l.arg-index l.arg-items))
    ≡ ground_of l.place l.names ++ map (λ (a : Seen). argument (levels_at l.place l.scope) a.level) (map seen l.arg-items))

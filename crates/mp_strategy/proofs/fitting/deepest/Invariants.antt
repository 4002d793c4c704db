use Rattle.std.proofs.Common.{◌≡◌, ◌≤◌, IsTrue, drop, map, max, nat_lt, slice_index}
use Rattle.std.specs.List.{list_all}
use Rattle.mp_logic.specs.Lists.{greatest}
use Rattle.mp_strategy.specs.Fits.{places}
use Rattle.mp_strategy.proofs.fitting.deepest.Given as goal

abbrev pub invariant-loop-part : goal.invariant-loop-part
invariant-loop-part l =
    record {
      value : max l.most (greatest (map (slice_index l.depths) (places (drop l.part-index l.parts)))) ≡ greatest (map (slice_index l.depths) (places l.parts));
      shallow : l.most ≤ 64;
      within : IsTrue (list_all (λ place. nat_lt place 4096) (places (drop l.part-index l.parts)));
    }

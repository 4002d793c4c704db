use Rattle.std.proofs.Common.{◌≡◌, ◌≤◌, ◌<◌, ◌^◌, take, length}
use Rattle.mp_termtext.specs.Statics.{place_in}
use Rattle.mp_termtext.proofs.scope.place_in.Given as goal

abbrev pub decreases-loop-at : goal.decreases-loop-at
decreases-loop-at l = l.at

-- the name isn't among those behind
abbrev pub invariant-loop-at : goal.invariant-loop-at
invariant-loop-at l = record {
  within : l.at ≤ length l.env;
  below : l.at < 2 ^ 63;
  behind : place_in (take l.at l.env) l.name ≡ place_in l.env l.name;
}

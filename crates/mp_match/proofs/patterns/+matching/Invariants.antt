use Rattle.mp_match.proofs.Bodies.{Walked}
use Rattle.mp_match.proofs.patterns.+matching.Given as goal

abbrev pub invariant-match_subs-loop-i : goal.invariant-match_subs-loop-i
invariant-match_subs-loop-i l = Walked l.place l.scope l.subs l.bodies l.initial.found l.found l.i

use Rattle.std.proofs.Common.{◌≡◌, drop}
use Rattle.mp_match.specs.Matching.{params_found}
use Rattle.mp_match.proofs.patterns.match_params.Given as goal

abbrev pub invariant-loop-i : goal.invariant-loop-i
invariant-loop-i l = params_found (drop l.i l.pats) (drop l.i l.values) l.found ≡ params_found l.pats l.values l.initial.found

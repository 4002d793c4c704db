use Rattle.std.proofs.Common.{◌≡◌, drop}
use Rattle.mp_term.specs.Limits.{in_scopes_from}
use Rattle.mp_term.proofs.sequent.sequent_in_scope.Given as goal

abbrev pub invariant-loop-hyp : goal.invariant-loop-hyp
invariant-loop-hyp l = (l.scope ≡ l.hyp-index) × (in_scopes_from l.scope (drop l.hyp-index l.hyp-items) ≡ in_scopes_from 0 l.hyp-items)

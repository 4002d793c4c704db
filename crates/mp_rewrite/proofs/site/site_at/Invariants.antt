use Rattle.std.proofs.Common.{◌≡◌, ◌<◌, ◌^◌, drop}
use Rattle.mp_term.specs.Subst.{widest_of}
use Rattle.mp_rewrite.specs.Addresses.{subterm_at}
use Rattle.mp_rewrite.proofs.site.site_at.Given as goal

abbrev pub invariant-loop-number : goal.invariant-loop-number
invariant-loop-number l =
    (widest_of l.site.term.now l.site.scope < 2 ^ 31) × (subterm_at (drop l.number-index l.address) l.site.scope l.site.term.now ≡ subterm_at l.address l.fn.scope l.fn.t)

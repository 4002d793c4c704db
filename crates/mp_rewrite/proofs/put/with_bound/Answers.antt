use Rattle.std.proofs.Common.{◌+◌, refl, arith, rules}
use Rattle.std.proofs.lemmas.Grind.{common_steps}
use Rattle.mp_rewrite.specs.Addresses.{with_body}
use Rattle.mp_rewrite.proofs.Lists.{changed-made, taken-rest}
use Rattle.mp_rewrite.proofs.put.with_bound.Goals as goal

pub returns : goal.returns
returns c =
    changed-made (with_body (λ old. c.args.body)) c.args.subs.now c.args.number c.index-subs-number.result _ c.push_bounds.new.copies c.push.new.self c.push_bounds-2.new.copies c.requires
    c.index-subs-number.is refl (grind (arith, common_steps)) (search rules) (rw (taken-rest c.args.subs.now (c.args.number + 1)) at c.in_ok-push_bounds-2.ensures)

use Rattle.std.proofs.Common.{◌+◌, arith, rules}
use Rattle.std.proofs.lemmas.Grind.{common_steps}
use Rattle.mp_rewrite.specs.Addresses.{put_at}
use Rattle.mp_rewrite.proofs.Lists.{changed-past, changed-made, taken-rest}
use Rattle.mp_rewrite.proofs.put.with_hyp.Goals as goal

pub returns-then-number-hyps : goal.returns-then-number-hyps
returns-then-number-hyps c =
    rw (changed-past (put_at c.args.address.now c.args.new) c.args.hyps.now c.args.number (search rules)) c.copy_terms.ensures

pub returns : goal.returns
returns c =
    changed-made (put_at c.args.address.now c.args.new) c.args.hyps.now c.args.number c.index-hyps-number.result c.in_ok-changed.changed c.push_terms.new.copies c.push.new.self
    c.push_terms-2.new.copies (search rules) (search rules) (search rules) (grind (arith, common_steps)) (search rules) (rw (taken-rest c.args.hyps.now (c.args.number + 1)) at c.in_ok-push_terms-2.ensures)

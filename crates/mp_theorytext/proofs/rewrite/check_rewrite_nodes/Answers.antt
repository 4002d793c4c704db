use Rattle.std.proofs.Common.{refl, ◌∙◌}
use Rattle.mp_theorytext.proofs.FaultWalks.{rewrite_nodes}
use Rattle.mp_theorytext.proofs.rewrite.check_rewrite_nodes.Goals as goal

pub returns : goal.returns
returns c =
    let none = c.new-env.ensures.items in
    let still = c.in_ok-held.ensures.env ∙ none in
    rewrite_nodes c.args.raw.now c.as_slice-conds.result.now c.new-env.result.items c.check_argument_nodes.new.env.items c.check_nodes.new.env.items c.args.held c.in_ok-held.held c.in_ok-held-2.held c.in_ok-found.found c.as_slice-conds.ensures none still
    (c.in_ok-held-2.ensures.env ∙ still) (c.in_ok-held.ensures.fault 1 refl) (c.in_ok-held-2.ensures.fault 1 refl) (c.in_ok-found.ensures.fault 1 refl)

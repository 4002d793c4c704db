use Rattle.std.proofs.Common.{arith}
use Rattle.mp_schematext.proofs.FaultWalks.{unframed}
use Rattle.mp_schematext.proofs.statics.check_frame.Goals as goal

pub returns-else-contexts-eq2 : goal.returns-else-contexts-eq2
returns-else-contexts-eq2 c = unframed c.args.raw.now c.args.contexts.now c.args.held c.check_third-held.result c.requires (λ e. absurd (omega (arith, e))) c.check_third-held.ensures

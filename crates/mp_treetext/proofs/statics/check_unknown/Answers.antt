use Rattle.std.proofs.Common.{None, Some, ◌∙◌}
use Rattle.mp_treetext.proofs.Unknown.{unknown_by}
use Rattle.mp_treetext.proofs.statics.check_unknown.Goals as goal

pub returns-in-Some : goal.returns-in-Some
returns-in-Some c goals met = unknown_by c.args.held c.args.names.now goals c.args.name (Some c.in-Some.field-0) met c.in-Some.ensures

pub returns-in-None : goal.returns-in-None
returns-in-None c goals met = c.sooner_of.ensures ∙ unknown_by c.args.held c.args.names.now goals c.args.name None met c.in-None.ensures

-- What a walk that gathers uses or holes needs.
use Rattle.std.proofs.lemmas.Grind.{common_steps}
use Rattle.std.proofs.Common.{append_assoc}
use Rattle.mp_patterntext.proofs.RawLayers.{raw_bound_holes-is, raw_holes-Meta, raw_holes-Op, raw_holes-Var, uses_in-Meta, uses_in-Op, uses_in-Var, uses_in_bound-is}

pub ruleset gathering_uses = (common_steps, append_assoc, uses_in-Var, uses_in-Op, uses_in-Meta, uses_in_bound-is)

pub ruleset gathering_holes = (common_steps, append_assoc, raw_holes-Var, raw_holes-Op, raw_holes-Meta, raw_bound_holes-is)

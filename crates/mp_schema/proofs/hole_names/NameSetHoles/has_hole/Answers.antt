use Rattle.std.proofs.Common.{◌∙◌, ap}
use Rattle.std.specs.Option.{is_some}
use Rattle.mp_names.proofs.Places.{placed_met}
use Rattle.mp_schema.proofs.HoleNames.{has_met}
use Rattle.mp_schema.proofs.hole_names.NameSetHoles.has_hole.Goals as goal

pub returns : goal.returns
returns c =
    c.is_some.ensures ∙ ap is_some c.place.ensures ∙ placed_met c.args.self.now c.args.name.0 ∙ has_met c.args.self.now c.args.name

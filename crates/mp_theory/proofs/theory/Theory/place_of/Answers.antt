use Rattle.std.proofs.Common.{◌∙◌}
use Rattle.mp_theory.proofs.Entries.{place_by_key}
use Rattle.mp_theory.proofs.theory.Theory.place_of.Goals as goal

pub returns-in-Some-clause-place : goal.returns-in-Some-clause-place
returns-in-Some-clause-place c = c.in-Some.ensures.index ∙ place_by_key c.self.inside.laws.entries c.args.self.now c.args.name.0 c.self.invariant.2 c.self.view_is

pub returns-in-None-clause-place : goal.returns-in-None-clause-place
returns-in-None-clause-place c = c.in-None.ensures.index ∙ place_by_key c.self.inside.laws.entries c.args.self.now c.args.name.0 c.self.invariant.2 c.self.view_is

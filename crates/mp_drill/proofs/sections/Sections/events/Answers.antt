use Rattle.std.proofs.Common.{ap, slice_get, sym, ◌∙◌}
use Rattle.std.specs.Option.{option_and_then}
use Rattle.mp_drill.specs.Sections.{events_of}
use Rattle.mp_drill.proofs.FirstSections.{events_at, events_in}
use Rattle.mp_drill.proofs.sections.Sections.events.Goals as goal

pub returns-in_default : goal.returns-in_default
returns-in_default c =
    let ss = c.self.inside.sections in
    let at = events_at ss c.self.inside.names c.args.goal c.self.invariant.0 ∙ ap (λ p. events_in (option_and_then (slice_get ss) p)) (sym c.in_default.ensures) in
    c.self.invariant.1 ∙ sym at ∙ ap (λ xs. events_of xs c.args.goal) c.self.view_is

pub returns-in-Some-get : goal.returns-in-Some-get
returns-in-Some-get c =
    let ss = c.self.inside.sections in
    let at = events_at ss c.self.inside.names c.args.goal c.self.invariant.0 ∙ ap (λ p. events_in (option_and_then (slice_get ss) p)) (sym c.in-Some.ensures) in
    ap events_in c.in-Some-get.ensures ∙ sym at ∙ ap (λ xs. events_of xs c.args.goal) c.self.view_is

pub returns-in-None : goal.returns-in-None
returns-in-None c =
    let ss = c.self.inside.sections in
    let at = events_at ss c.self.inside.names c.args.goal c.self.invariant.0 ∙ ap (λ p. events_in (option_and_then (slice_get ss) p)) (sym c.in-Some.ensures) in
    c.self.invariant.1 ∙ ap events_in c.in-None.ensures ∙ sym at ∙ ap (λ xs. events_of xs c.args.goal) c.self.view_is

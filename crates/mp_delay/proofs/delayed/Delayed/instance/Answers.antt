use Rattle.std.proofs.Common.{◌≡◌, ◌∙◌, ap}
use Rattle.mp_term.specs.Subst.{sub_of}
use Rattle.mp_term.proofs.ScopeLaws.{scope_substituted}
use Rattle.mp_delay.specs.Moves.{moved, moved_term}
use Rattle.mp_delay.specs.Instances.{variables_and, put_into}
use Rattle.mp_delay.specs.Made.{made_or}
use Rattle.mp_delay.proofs.DelayLaws.{none_fits}
use Rattle.mp_delay.proofs.FitLaws.{fit-scoped}
use Rattle.mp_delay.proofs.InstanceLaws.{length-put, put-whole, can-whole, put-scoped}
use Rattle.mp_delay.proofs.MoveLaws.{relevel-none}
use Rattle.mp_delay.proofs.delayed.Delayed.instance.Goals as goal

pub fill-requires-clause-can : goal.fill-requires-clause-can
fill-requires-clause-can c =
    let i = c.self.inside in
    let s = variables_and c.args.moves.now c.args.count c.args.args.now in
    let long = length-put c.args.moves.now c.args.count c.args.args.now (moved i.moves) c.args.scope 0 0 in
    rw (c.as_slice.ensures, c.term.ensures)
    (can-whole (moved i.moves) s c.args.scope i.body (rw (long, c.self.view_is) c.requires.scoped) (rw (long, c.self.view_is) c.requires.narrow)
    (rw c.self.view_is c.requires.made_narrow))

pub invariant_of-result : goal.invariant_of-result
invariant_of-result c =
    let i = c.self.inside in
    let m = c.args.scope in
    let s = variables_and c.args.moves.now c.args.count c.args.args.now in
    let long = length-put c.args.moves.now c.args.count c.args.args.now (moved i.moves) m 0 0 in
    let step : put_into (moved c.as_slice.result.now) s m 0 c.term.result.now ≡ sub_of (moved_term i.moves i.body) s m =
    rw (c.as_slice.ensures, c.term.ensures) (put-whole (moved i.moves) s m i.body) in
    let is = c.in_ok-made.ensures ∙ step ∙ ap (λ t. sub_of t s m) c.self.view_is in
    let scoped = scope_substituted s m c.args.self.now (put-scoped c.args.moves.now c.args.count c.args.args.now m c.requires.below c.requires.args_scoped) (rw long c.requires.scoped) in
    rw (c.new.ensures, none_fits, c.in_ok-remade.ensures, ← c.term.ensures, is) (fit-scoped (sub_of c.args.self.now s m) m scoped c.requires.made_narrow)

pub returns : goal.returns
returns c =
    let i = c.self.inside in
    let m = c.args.scope in
    let s = variables_and c.args.moves.now c.args.count c.args.args.now in
    let step : put_into (moved c.as_slice.result.now) s m 0 c.term.result.now ≡ sub_of (moved_term i.moves i.body) s m =
    rw (c.as_slice.ensures, c.term.ensures) (put-whole (moved i.moves) s m i.body) in
    let is = c.in_ok-made.ensures ∙ step ∙ ap (λ t. sub_of t s m) c.self.view_is in
    rw (c.new.ensures, relevel-none, c.in_ok-remade.ensures, ← c.term.ensures) is

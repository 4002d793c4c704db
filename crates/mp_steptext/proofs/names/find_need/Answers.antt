use Rattle.std.proofs.Common.{ap, sym, ◌∙◌, slice_get}
use Rattle.std.specs.Option.{option_and_then}
use Rattle.mp_steptext.proofs.MetNames.{item_at, need_at}
use Rattle.mp_steptext.proofs.names.find_need.Goals as goal

pub returns-in_err-place : goal.returns-in_err-place
returns-in_err-place c =
    let needs = c.args.needs.now in
    let place = sym c.place.ensures ∙ c.in_err-place.was in
    rw c.from_residual.ensures (sym (need_at needs c.args.names.now c.args.name c.requires ∙ ap (option_and_then (slice_get needs)) place))

pub returns : goal.returns
returns c =
    let needs = c.args.needs.now in
    let place = sym c.place.ensures ∙ c.in_ok-place.was in
    item_at needs c.in_ok-place.place c.get.result c.get.ensures.lookup ∙ sym (need_at needs c.args.names.now c.args.name c.requires ∙ ap (option_and_then (slice_get needs)) place)

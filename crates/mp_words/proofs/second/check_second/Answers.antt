use Rattle.std.proofs.Common.{ap, ◌∙◌}
use Rattle.mp_names.specs.Sets.{is_met, with_met}
use Rattle.mp_words.specs.declared.raw.RawName.{RawName}
use Rattle.mp_words.specs.Faults.{fault_if, least_from}
use Rattle.mp_words.specs.Seconds.{second_faults}
use Rattle.mp_words.proofs.Seconds.{seconds_next}
use Rattle.mp_words.proofs.second.check_second.Goals as goal

pub loop-item-preserved : goal.loop-item-preserved
loop-item-preserved g c =
    let l = c.loop-item in
    let x = c.item-item.result in
    let same = c.named-name.ensures in
    seconds_next g.X.Named.named c.args.why c.args.items.now l.held c.sooner_if-held.result (least_from c.args.held (second_faults g.X.Named.named c.args.why c.args.items.now)) l.seen c.meet.new.self l.item-index x c.loop-item-test.true c.item-item.is l.invariant
    (c.in_ok-known.ensures.met ∙ ap (λ (n : RawName). with_met l.seen n.name.0) same)
    (c.sooner_if-held.ensures ∙ ap (λ b. least_from l.held (fault_if b c.named-name.result.at c.args.why)) c.in_ok-known.ensures.known ∙ ap (λ (n : RawName). least_from l.held (fault_if (is_met l.seen n.name.0) n.at c.args.why)) same)

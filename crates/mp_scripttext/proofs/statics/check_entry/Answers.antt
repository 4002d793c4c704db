use Rattle.mp_scripttext.proofs.Sights.{entry_seen}
use Rattle.mp_scripttext.proofs.statics.check_entry.Goals as goal

pub returns : goal.returns
returns c =
    entry_seen c.args.theory.now c.args.raw.now c.args.held c.check_written_number-held.result c.in_ok-held.held c.check_shape.result c.in_ok-seen.seen c.check_written_number-held.ensures c.in_ok-held.ensures c.in_ok-seen.ensures c.check_shape.ensures

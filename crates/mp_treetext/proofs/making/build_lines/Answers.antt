use Rattle.mp_termtext.specs.Statics.{sequent_faults}
use Rattle.mp_words.proofs.NoFaults.{nil_parts}
use Rattle.mp_treetext.specs.Statics.{content_faults, written_faults}
use Rattle.mp_treetext.proofs.Faultless.{nil_at}
use Rattle.mp_treetext.proofs.making.build_lines.Goals as goal

pub push_step-requires-clause-faultless : goal.push_step-requires-clause-faultless
push_step-requires-clause-faultless c =
    let t = c.args.theory.now in
    let l = c.raw-item.result in
    (nil_parts (written_faults t l.step) (sequent_faults l.goal) (nil_at (content_faults t) c.args.raws.now c.loop-raw.raw-index l c.loop-raw-test.true c.raw-item.is c.requires.faultless)).0

pub build_sequent-requires : goal.build_sequent-requires
build_sequent-requires c =
    let t = c.args.theory.now in
    let l = c.raw-item.result in
    (nil_parts (written_faults t l.step) (sequent_faults l.goal) (nil_at (content_faults t) c.args.raws.now c.loop-raw.raw-index l c.loop-raw-test.true c.raw-item.is c.requires.faultless)).1

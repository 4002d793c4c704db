use Rattle.mp_scripttext.proofs.GoodEntries.{entry_keeps}
use Rattle.mp_scripttext.proofs.making.build_entry.Goals as goal

pub build_sequent-requires : goal.build_sequent-requires
build_sequent-requires c = (entry_keeps c.args.theory.now c.args.raw.now c.requires).goal

pub plan_of-requires-clause-faultless : goal.plan_of-requires-clause-faultless
plan_of-requires-clause-faultless c = (entry_keeps c.args.theory.now c.args.raw.now c.requires).strategy

pub plan_of-requires-clause-few : goal.plan_of-requires-clause-few
plan_of-requires-clause-few c = (entry_keeps c.args.theory.now c.args.raw.now c.requires).few

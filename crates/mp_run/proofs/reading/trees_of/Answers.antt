use Rattle.mp_treetext.specs.Reading.{ReadsTrees}
use Rattle.mp_report.specs.declared.refusal.FileKind.TheVariants.{Trees}
use Rattle.mp_run.specs.Commands.{Named}
use Rattle.mp_run.proofs.FilesRead.{read_says, read_refused}
use Rattle.mp_run.proofs.reading.trees_of.Goals as goal

pub returns-in-Ok-clause-calls : goal.returns-in-Ok-clause-calls
returns-in-Ok-clause-calls g c =
    read_says g.H.Shelf.reads Trees (Named c.args.name.now) (ReadsTrees c.args.theory.now c.args.goals.now c.args.names.now) c.args.shelf.now c.read_file.new.shelf c.in_ok-source.source c.as_slice.result.now c.in-Ok.blocks c.read_trees.new.names c.in_ok-source.ensures.calls c.as_slice.ensures c.in-Ok.ensures.reads

pub returns-clause-calls : goal.returns-clause-calls
returns-clause-calls g c =
    read_refused g.H.Shelf.reads Trees (Named c.args.name.now) (ReadsTrees c.args.theory.now c.args.goals.now c.args.names.now) c.args.shelf.now c.read_file.new.shelf c.in_ok-source.source c.as_slice.result.now c.read_trees.new.names c.in-Err.fail c.stop_of.result c.in_ok-source.ensures.calls c.as_slice.ensures
    c.in-Err.ensures.reads c.stop_of.ensures

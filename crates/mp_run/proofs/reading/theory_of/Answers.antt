use Rattle.std.proofs.Common.{Ok, Err, subst}
use Rattle.mp_theory.specs.Tables.{Laws, no_laws}
use Rattle.mp_theorytext.specs.Reading.{ReadsTheory}
use Rattle.mp_report.specs.declared.refusal.FileKind.TheVariants.{Theory}
use Rattle.mp_run.specs.Commands.{Named}
use Rattle.mp_run.proofs.FilesRead.{read_says, read_refused}
use Rattle.mp_run.proofs.reading.theory_of.Goals as goal

pub returns-in-Ok-clause-calls : goal.returns-in-Ok-clause-calls
returns-in-Ok-clause-calls g c =
    read_says g.H.Shelf.reads Theory (Named c.args.name.now) (ReadsTheory no_laws c.args.names.now) c.args.shelf.now c.read_file.new.shelf c.in_ok-source.source c.as_slice.result.now c.in-Ok.theory c.read_theory.new.names c.in_ok-source.ensures.calls c.as_slice.ensures
    (subst (λ (t : Laws). ReadsTheory t c.args.names.now c.as_slice.result.now (Ok c.in-Ok.theory) c.read_theory.new.names) c.new-none.ensures c.in-Ok.ensures.reads)

pub returns-in-Ok-clause-theory : goal.returns-in-Ok-clause-theory
returns-in-Ok-clause-theory g c =
    c.read_theories_are_theories.ensures no_laws c.in-Ok.theory c.args.names.now c.read_theory.new.names c.as_slice.result.now c.theory_laws.ensures.theories.0 (subst (λ (t : Laws). ReadsTheory t c.args.names.now c.as_slice.result.now (Ok c.in-Ok.theory) c.read_theory.new.names) c.new-none.ensures c.in-Ok.ensures.reads)

pub returns-clause-calls : goal.returns-clause-calls
returns-clause-calls g c =
    read_refused g.H.Shelf.reads Theory (Named c.args.name.now) (ReadsTheory no_laws c.args.names.now) c.args.shelf.now c.read_file.new.shelf c.in_ok-source.source c.as_slice.result.now c.read_theory.new.names c.in-Err.fail c.stop_of.result c.in_ok-source.ensures.calls c.as_slice.ensures
    (subst (λ (t : Laws). ReadsTheory t c.args.names.now c.as_slice.result.now (Err c.in-Err.fail) c.read_theory.new.names) c.new-none.ensures c.in-Err.ensures.reads) c.stop_of.ensures

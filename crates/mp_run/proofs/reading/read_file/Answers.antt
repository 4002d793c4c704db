use Rattle.std.proofs.Common.{ℕ, ◌≤◌, length, Ok, Err, refl, subst}
use Rattle.mp_ports.specs.declared.ports.ReadErr.{ReadErr}
use Rattle.mp_ports.specs.declared.ports.ReadErr.TheVariants as err
use Rattle.mp_run.proofs.FilesRead.{read_made, refuses}
use Rattle.mp_run.proofs.reading.read_file.Goals as goal

pub returns-in-Ok-clause-calls : goal.returns-in-Ok-clause-calls
returns-in-Ok-clause-calls g c =
    read_made g.H.Shelf.reads c.args.shelf.now c.read.new.self c.args.kind c.args.name.now c.limit_of.result (Ok c.in-Ok.text) _ c.limit_of.ensures c.in-Ok.ensures refl

pub returns-in-Ok-clause-bound : goal.returns-in-Ok-clause-bound
returns-in-Ok-clause-bound g c =
    subst (λ (n : ℕ). length c.in-Ok.text ≤ n) c.limit_of.ensures
    (g.met.H.Shelf.bound c.args.shelf.now c.read.new.self (record { name = c.args.name.now; limit = c.limit_of.result; answer = Ok c.in-Ok.text }) c.in-Ok.ensures)

pub returns-in-Err-TooLong-clause-calls : goal.returns-in-Err-TooLong-clause-calls
returns-in-Err-TooLong-clause-calls g c =
    read_made g.H.Shelf.reads c.args.shelf.now c.read.new.self c.args.kind c.args.name.now c.limit_of.result (Err err.TooLong) _ c.limit_of.ensures
    (subst (λ (e : ReadErr). g.H.Shelf.reads c.args.shelf.now c.read.new.self (record { name = c.args.name.now; limit = c.limit_of.result; answer = Err e })) c.in-Err-TooLong.field-0-is c.in-Err-TooLong.ensures)
    (refuses c.args.kind c.too_long.result c.too_long.ensures)

pub returns-in-Err-Failed-clause-calls : goal.returns-in-Err-Failed-clause-calls
returns-in-Err-Failed-clause-calls g c =
    read_made g.H.Shelf.reads c.args.shelf.now c.read.new.self c.args.kind c.args.name.now c.limit_of.result (Err err.Failed) _ c.limit_of.ensures
    (subst (λ (e : ReadErr). g.H.Shelf.reads c.args.shelf.now c.read.new.self (record { name = c.args.name.now; limit = c.limit_of.result; answer = Err e })) c.in-Err-Failed.field-0-is c.in-Err-Failed.ensures)
    refl

pub returns-in-Err-NoMemory-clause-calls : goal.returns-in-Err-NoMemory-clause-calls
returns-in-Err-NoMemory-clause-calls g c =
    read_made g.H.Shelf.reads c.args.shelf.now c.read.new.self c.args.kind c.args.name.now c.limit_of.result (Err err.NoMemory) _ c.limit_of.ensures
    (subst (λ (e : ReadErr). g.H.Shelf.reads c.args.shelf.now c.read.new.self (record { name = c.args.name.now; limit = c.limit_of.result; answer = Err e })) c.in-Err-NoMemory.field-0-is c.in-Err-NoMemory.ensures)
    refl

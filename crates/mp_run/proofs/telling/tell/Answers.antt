use Rattle.std.proofs.Common.{[], ◌∷◌, Ok, Err, refl}
use Rattle.mp_run.specs.Sessions.{put_of}
use Rattle.mp_run.proofs.telling.tell.Goals as goal

pub returns-in-Ok : goal.returns-in-Ok
returns-in-Ok g c = (put_of c.args.line.now (Ok c.in-Ok.field-0) ∷ [], (c.put.new.self, c.in-Ok.ensures, refl), (Ok c.in-Ok.field-0, refl, refl))

pub returns-in-Err : goal.returns-in-Err
returns-in-Err g c = (put_of c.args.line.now (Err c.in-Err.field-0) ∷ [], (c.put.new.self, c.in-Err.ensures, refl), (Err c.in-Err.field-0, refl, (refl, refl)))

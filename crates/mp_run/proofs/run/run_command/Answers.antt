use Rattle.std.proofs.Common.{Ok, Err}
use Rattle.mp_run.specs.Loaded.{said_of}
use Rattle.mp_run.proofs.run.run_command.Goals as goal

pub returns-in-Ok : goal.returns-in-Ok
returns-in-Ok g c =
    let h = c.in-Ok.ensures.calls in
    let k = c.put_loaded.ensures in
    (h.0, k.0, h.1, k.1, (Ok (said_of c.in-Ok.loaded), h.2, k.2))

pub returns-in-Err : goal.returns-in-Err
returns-in-Err g c =
    let h = c.in-Err.ensures.calls in
    let k = c.tell_stop.ensures in
    (h.0, k.0, h.1, k.1, (Err c.in-Err.stop, h.2, k.2))

use Rattle.std.proofs.Common.{List, ℕ, Result, Ok, Err, refl, sym, subst}
use Rattle.mp_logic.specs.declared.memory.NoMemory.{NoMemory}
use Rattle.mp_run.specs.declared.goals.Next.TheVariants as next
use Rattle.mp_run.specs.declared.piece.Piece.{Piece}
use Rattle.mp_run.specs.declared.status.Status.TheVariants as status
use Rattle.mp_run.specs.Loaded.{PutsMade}
use Rattle.mp_run.specs.Sessions.{put_of}
use Rattle.mp_run.proofs.goals.put_piece.Goals as goal

pub returns-in-Ok-put : goal.returns-in-Ok-put
returns-in-Ok-put g c =
    subst (λ (made : Result Piece NoMemory). PutsMade g.K.Sink.puts made c.args.before c.args.out.now c.put.new.self c.next_after.result) (sym c.in-Ok.is)
    (Ok c.in-Ok-put.field-0, subst (λ (bytes : List ℕ). g.K.Sink.puts c.args.out.now c.put.new.self (put_of bytes (Ok c.in-Ok-put.field-0))) c.as_slice.ensures c.in-Ok-put.ensures, c.next_after.ensures)

pub returns : goal.returns
returns g c =
    subst (λ (made : Result Piece NoMemory). PutsMade g.K.Sink.puts made c.args.before c.args.out.now c.put.new.self (next.Ends status.WriteFault)) (sym c.in-Ok.is)
    (Err c.in-Err.field-0, subst (λ (bytes : List ℕ). g.K.Sink.puts c.args.out.now c.put.new.self (put_of bytes (Err c.in-Err.field-0))) c.as_slice.ensures c.in-Err.ensures, refl)

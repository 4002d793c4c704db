use Rattle.std.proofs.Common.{◌≡◌, length, arith}
use Rattle.std.proofs.lemmas.Bool.Decides.{nat_tests}
use Rattle.mp_delay.proofs.MoveLaws.{relevel_empty}
use Rattle.mp_delay.proofs.making.make.Goals as goal

pub returns-then-is_empty : goal.returns-then-is_empty
returns-then-is_empty c =
    let none : length c.args.moves.now ≡ 0 = grind (arith, nat_tests, c.is_empty.ensures, c.if-is_empty.true) in
    rw (relevel_empty c.args.moves.now c.args.t.now none) c.copy.ensures

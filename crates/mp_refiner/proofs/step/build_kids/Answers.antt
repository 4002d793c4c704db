use Rattle.std.proofs.Common.{rules}
use Rattle.mp_schema.specs.Sequents.{seq}
use Rattle.mp_schema.specs.Values.{instance_of}
use Rattle.mp_refiner.proofs.Kids.{Made-fails}
use Rattle.mp_refiner.proofs.step.build_kids.Goals as goal

pub returns-in-Err-TooLarge : goal.returns-in-Err-TooLarge
returns-in-Err-TooLarge c =
    let large = rw c.in-Err-TooLarge.field-0-is at c.in-Err-TooLarge.ensures in
    let v = instance_of c.args.inst.now in
    Made-fails (seq v) c.args.premises.now c.loop-premise.kids c.loop-premise.premise-index c.premise-item.result (search rules) c.premise-item.is large c.loop-premise.invariant

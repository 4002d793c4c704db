use Rattle.mp_schema.specs.Sequents.{seq}
use Rattle.mp_schema.specs.Values.{instance_of}
use Rattle.mp_refiner.proofs.Kids.{Made}
use Rattle.mp_refiner.proofs.step.build_kids.Given as goal

abbrev pub invariant-loop-premise : goal.invariant-loop-premise
invariant-loop-premise l = Made (seq (instance_of l.inst)) l.premises l.kids l.premise-index

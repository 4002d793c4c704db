use Rattle.std.proofs.Common.{◌≡◌, drop}
use Rattle.mp_refiner.specs.Ready.{AreNew}
use Rattle.mp_refiner.specs.Steps.{given_all}
use Rattle.mp_refiner.proofs.step.give_all.Given as goal

abbrev pub invariant-loop-place : goal.invariant-loop-place
invariant-loop-place l = record {
  left : given_all (drop l.place l.needs) (drop l.place l.given) l.inst ≡ given_all l.needs l.given l.fn.inst;
  ctxs : l.inst.ctxs ≡ l.fn.inst.ctxs;
  new : AreNew l.inst.metas (drop l.place l.needs);
}

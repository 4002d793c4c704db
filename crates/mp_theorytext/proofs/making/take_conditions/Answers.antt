use Rattle.std.proofs.Common.{◌∷◌, [], List, arith, refl, subst}
use Rattle.std.proofs.lemmas.Grind.{common_steps}
use Rattle.mp_patterntext.specs.declared.raw.RawPattern.{RawPattern}
use Rattle.mp_patterntext.specs.Buildable.{AreFaultless}
use Rattle.mp_patterntext.proofs.Narrow.{first_argument}
use Rattle.mp_theorytext.proofs.making.take_conditions.Goals as goal

pub take_pattern-requires : goal.take_pattern-requires
take_pattern-requires c =
    let p = c.in-Some.raw in
    record { faultless = (first_argument (p ∷ c.next.new.self) 0 p [] [] (omega arith) refl refl (subst (λ (ps : List RawPattern). AreFaultless ps []) c.in-Some.ensures c.loop-raw.invariant.faultless)).0 }

pub loop-raw-preserved : goal.loop-raw-preserved
loop-raw-preserved c =
    let p = c.in-Some.raw in
    record {
      faultless = (first_argument (p ∷ c.next.new.self) 0 p [] [] (omega arith) refl refl (subst (λ (ps : List RawPattern). AreFaultless ps []) c.in-Some.ensures c.loop-raw.invariant.faultless)).1;
      made = grind (arith, common_steps);
    }

use Rattle.std.proofs.Common.{◌∷◌, List, arith, refl, subst}
use Rattle.std.proofs.lemmas.Grind.{common_steps}
use Rattle.mp_schematext.specs.declared.raw.RawSchema.{RawSchema}
use Rattle.mp_schematext.specs.Buildable.{AreFaultlessPremises}
use Rattle.mp_schematext.proofs.Narrow.{first_premise}
use Rattle.mp_theorytext.proofs.making.take_premises.Goals as goal

pub take_schema-requires : goal.take_schema-requires
take_schema-requires c =
    let s = c.in-Some.raw in
    record { faultless = (first_premise (s ∷ c.next.new.self) 0 s (omega arith) refl (subst (λ (ss : List RawSchema). AreFaultlessPremises ss) c.in-Some.ensures c.loop-raw.invariant.faultless)).0 }

pub loop-raw-preserved : goal.loop-raw-preserved
loop-raw-preserved c =
    let s = c.in-Some.raw in
    record {
      faultless = (first_premise (s ∷ c.next.new.self) 0 s (omega arith) refl (subst (λ (ss : List RawSchema). AreFaultlessPremises ss) c.in-Some.ensures c.loop-raw.invariant.faultless)).1;
      made = grind (arith, common_steps);
    }

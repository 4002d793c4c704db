-- Works that the test finds equal are equal.
use Rattle.std.proofs.Common.{◌≡◌, ◌==◌, true}
use Rattle.std.proofs.lemmas.Bool.{and_parts, eqb-true}
use Rattle.mp_logic.specs.Meaning.{Meaning, IsLogic}
use Rattle.mp_strategy.specs.declared.work.Work.{Work}
use Rattle.mp_jobs.specs.Jobs.{same_work}

pub exact : {G J : Type 0} (m : Meaning G J) → IsLogic m → (a b : Work G) → same_work m.same a b ≡ true → a ≡ b
exact m lawful a b e =
    let p = and_parts (a.tac.0 == b.tac.0) _ e in
    let q = and_parts (a.left == b.left) _ p.1 in
    let r = and_parts (a.fuel == b.fuel) (m.same a.goal b.goal) q.1 in
    let t : a.tac.0 ≡ b.tac.0 = eqb-true a.tac.0 b.tac.0 p.0 in
    let l : a.left ≡ b.left = eqb-true a.left b.left q.0 in
    let f : a.fuel ≡ b.fuel = eqb-true a.fuel b.fuel r.0 in
    let g : a.goal ≡ b.goal = (lawful.same_is a.goal b.goal).0 r.1 in
    λ i. record { tac = record { 0 = t i }; left = l i; fuel = f i; goal = g i }

use Rattle.std.proofs.Common.{sym, ◌∙◌, arith}
use Rattle.mp_logic.specs.declared.sym.Sym.{Sym}
use Rattle.mp_termtext.proofs.Scopes.{found_at, not_at}
use Rattle.mp_termtext.proofs.scope.place_in.Goals as goal

pub returns-then-eq-clause-place : goal.returns-then-eq-clause-place
returns-then-eq-clause-place c =
    let zero_sym : Sym = record { 0 = 0 } in
    found_at c.args.env.now c.args.name zero_sym c.loop-at.at c.loop-at-test.true c.loop-at.invariant.within (sym c.eq.ensures ∙ c.if-eq.true) c.loop-at.invariant.behind

pub loop-at-preserved : goal.loop-at-preserved
loop-at-preserved c =
    let zero_sym : Sym = record { 0 = 0 } in
    record {
      within = (let w = c.loop-at.invariant.within in omega (arith, w));
      below = (let w = c.loop-at.invariant.below in omega (arith, w));
      behind = not_at c.args.env.now c.args.name zero_sym c.loop-at.at c.loop-at-test.true c.loop-at.invariant.within (sym c.eq.ensures ∙ c.if-eq.false) c.loop-at.invariant.behind;
    }

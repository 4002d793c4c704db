-- Where the variables of the contexts that a match finds lie in the goal.
use Rattle.std.specs.Prelude.{◌≡◌, ◌<◌, ◌≤◌, List, length, false, nat_eq, None, IsTrue, All}
use Rattle.std.specs.List.{IsDistinct}
use Rattle.mp_logic.specs.declared.sym.Sym.{Sym}
use Rattle.mp_term.specs.declared.sequent.Sequent.{Sequent}
use Rattle.mp_schema.specs.declared.instance.Inst.{Inst}
use Rattle.mp_schema.specs.declared.schema.Schema.{Schema}
use Rattle.mp_schema.specs.Conditions.{nothing_before, past_all, has, is_known}
use Rattle.mp_schema.specs.Values.{find_ctx, kept_of, variables_of}

-- the variables of the schema's contexts are distinct hypotheses of the goal, and other names have none
pub record IsSpread (i : Inst) (s : Schema) (goal : Sequent) : Type 0 where
  pub distinct : (names : List Sym) → IsTrue (is_known (past_all s.items nothing_before).contexts names) → IsDistinct nat_eq (variables_of i.ctxs names)
  pub below : (names : List Sym) → All (λ l. l < length goal.hyps) (variables_of i.ctxs names)
  pub few : (name : Sym) → length (kept_of i.ctxs name) ≤ length goal.hyps
  pub others : (name : Sym) → has (past_all s.items nothing_before).contexts name ≡ false → find_ctx i.ctxs name ≡ None

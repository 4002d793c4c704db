-- A value that is given for a second-order variable which the goal doesn't determine.
use Rattle.std.specs.Prelude.{◌≡◌, ℕ, ◌+◌, ◌<◌, List, [], ◌∷◌, ◌++◌, length, IsTrue, Option, Some}
use Rattle.std.specs.Option.{option_map}
use Rattle.mp_logic.specs.declared.sym.Sym.{Sym}
use Rattle.mp_term.specs.declared.term.Term.{Term}
use Rattle.mp_term.specs.Subst.{unrenamed, IsRenaming, occurs_in, is_listed, upto}
use Rattle.mp_schema.specs.declared.instance.CtxVal.{CtxVal}
use Rattle.mp_schema.specs.declared.instance.MetaVal.{MetaVal}
use Rattle.mp_schema.specs.declared.instance.Inst.{Inst}
use Rattle.mp_schema.specs.Values.{instance_of, variables_of}

-- the variables of a given body that a value may use: those of its contexts in the goal, and its arguments, whose levels
-- follow 200 hypotheses
abbrev pub given_levels : List CtxVal → List Sym → ℕ → List ℕ
given_levels ctxs names arity = variables_of ctxs names ++ upto 200 arity

-- the instance with one more value
abbrev pub with_value : Inst → Sym → ℕ → Term → Inst
with_value i name scope value = let x : MetaVal = record { name = name; scope = scope; body = value } in record i { metas = i.metas ++ x ∷ [] }

-- the instance with the value that gives the body; None if the body has another variable
abbrev pub given_to : Inst → Sym → List Sym → ℕ → Term → Option Inst
given_to i name ctxs arity body =
    let levels = given_levels i.ctxs ctxs arity in option_map (with_value i name (length levels)) (unrenamed levels (200 + arity) body)

-- the instance got one more value, and no other one gives the body
pub record IsGiven (old : Inst) (name : Sym) (ctxs : List Sym) (arity : ℕ) (body : Term) (new : Inst) : Type 0 where
  pub value : Term
  pub added : new ≡ with_value old name (length (given_levels old.ctxs ctxs arity)) value
  pub here : (instance_of new).values.meta name ≡ value
  pub renaming : IsRenaming (given_levels old.ctxs ctxs arity) (200 + arity) body (Some value)

-- each hypothesis that the body names is one of these variables
abbrev pub NamesOnly : List ℕ → Term → Type 0
NamesOnly variables body = (i : ℕ) → i < 200 → IsTrue (occurs_in i body) → IsTrue (is_listed i variables)

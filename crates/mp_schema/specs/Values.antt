-- The instance that a list of values stands for.
use Rattle.std.specs.Prelude.{ℕ, List, [], ◌∷◌, map, length, nat_eq, if◌then◌else◌, Option, Some, None, unwrap_or, pos}
use Rattle.mp_logic.specs.declared.sym.Sym.{Sym}
use Rattle.mp_term.specs.declared.term.Param.{Param}
use Rattle.mp_term.specs.declared.term.Param.TheVariants.{Num}
use Rattle.mp_term.specs.declared.term.Term.{Term, Var}
use Rattle.mp_schema.specs.declared.instance.CtxVal.{CtxVal}
use Rattle.mp_schema.specs.declared.instance.MetaVal.{MetaVal}
use Rattle.mp_schema.specs.declared.instance.ParamVal.{ParamVal}
use Rattle.mp_schema.specs.declared.instance.Inst.{Inst}
use Rattle.mp_schema.specs.Instances.{Values}
use Rattle.mp_term.specs.Subst.{upto}
use Rattle.mp_schema.specs.Sequents.{Instance}
use Rattle.mp_logic.specs.Lists.{joined}

-- the first value of this name
abbrev pub find_meta : List MetaVal → Sym → Option MetaVal
find_meta [] name = None
find_meta (x ∷ xs) name = if nat_eq x.name.0 name.0 then Some x else find_meta xs name

-- the first parameter of this name
abbrev pub find_param : List ParamVal → Sym → Option Param
find_param [] name = None
find_param (x ∷ xs) name = if nat_eq x.name.0 name.0 then Some x.value else find_param xs name

-- the first value of a context of this name
abbrev pub find_ctx : List CtxVal → Sym → Option CtxVal
find_ctx [] name = None
find_ctx (x ∷ xs) name = if nat_eq x.name.0 name.0 then Some x else find_ctx xs name

-- a value for a name that has none
abbrev pub body_or : Option MetaVal → Term
body_or None = Var 0
body_or (Some x) = x.body

-- the hypotheses that are kept; none if there is no value
abbrev pub kept_or : Option CtxVal → List Term
kept_or None = []
kept_or (Some x) = x.hyps

-- the level of the first variable; 0 if there is no value
abbrev pub first_or : Option CtxVal → ℕ
first_or None = 0
first_or (Some x) = x.first

-- the term of each second-order variable, and the parameter of each hole
abbrev pub values_of : List MetaVal → List ParamVal → Values
values_of metas params = record { meta = λ name. body_or (find_meta metas name); param = λ name. unwrap_or (find_param params name) (Num (pos 0)) }

-- the hypotheses of each context
abbrev pub kept_of : List CtxVal → Sym → List Term
kept_of ctxs name = kept_or (find_ctx ctxs name)

-- the level of each context's first variable in the goal
abbrev pub first_variable_of : List CtxVal → Sym → ℕ
first_variable_of ctxs name = first_or (find_ctx ctxs name)

-- the instance that is found
abbrev pub instance_of : Inst → Instance
instance_of i = record { ambient = i.ambient; values = values_of i.metas i.params; kept = kept_of i.ctxs }

-- the variables of the contexts in the goal, one context after the other
abbrev pub variables_of : List CtxVal → List Sym → List ℕ
variables_of ctxs names = joined (map (λ c. upto (first_variable_of ctxs c) (length (kept_of ctxs c))) names)

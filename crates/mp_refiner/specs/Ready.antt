-- What the parts of a step ask: giving values to needs, and building premises.
use Rattle.std.specs.Prelude.{◌≡◌, ⊤, ◌^◌, ◌<◌, ◌≤◌, List, [], ◌∷◌, All, IsTrue, nat_eq, false, None}
use Rattle.std.specs.List.{IsDistinct}
use Rattle.mp_schema.specs.declared.instance.CtxVal.{CtxVal}
use Rattle.mp_schema.specs.declared.instance.MetaVal.{MetaVal}
use Rattle.mp_schema.specs.declared.schema.Schema.{Schema}
use Rattle.mp_schema.specs.Conditions.{is_placed}
use Rattle.mp_schema.specs.Sequents.{Instance, schema_fits}
use Rattle.mp_schema.specs.Values.{variables_of, find_meta}
use Rattle.mp_build.specs.Rooms.{schema_room}
use Rattle.mp_theory.specs.declared.rule.Need.{Need}
use Rattle.mp_theory.specs.Needs.{is_needed}

-- the need has at most 8 arguments, and the variables of its contexts in the goal are distinct and below 200
pub record IsUsable (ctxs : List CtxVal) (need : Need) : Type 0 where
  pub few : need.arity ≤ 8
  pub distinct : IsDistinct nat_eq (variables_of ctxs need.ctxs)
  pub below : All (λ level. level < 200) (variables_of ctxs need.ctxs)

-- no two of the needs have one name, and none has a value yet
abbrev pub AreNew : List MetaVal → List Need → Type 0
AreNew metas [] = ⊤
AreNew metas (n ∷ ns) = (find_meta metas n.name ≡ None) × (is_needed ns n.name ≡ false) × AreNew metas ns

-- a premise that may be built: it is well placed, each value is in its scope, and no scope on the way is too wide
pub record IsReady (v : Instance) (premise : Schema) : Type 0 where
  pub placed : IsTrue (is_placed premise)
  pub fitting : IsTrue (schema_fits v premise)
  pub narrow : schema_room v premise < 2 ^ 31

-- Laws of instances, each as one statement: their scopes, their binders, and the room that they take.
use Rattle.std.specs.Prelude.{◌≡◌, ℕ, ◌<◌, ◌≤◌, ◌^◌, List, [], length, IsTrue, All}
use Rattle.mp_logic.specs.declared.sym.Sym.{Sym}
use Rattle.mp_term.specs.declared.term.Term.{Term}
use Rattle.mp_term.specs.Terms.{depth_of, in_scope_of}
use Rattle.mp_term.specs.Limits.{few_binders_of, sequent_in_scope_of, sequent_few_binders_of}
use Rattle.mp_schema.specs.declared.instance.CtxVal.{CtxVal}
use Rattle.mp_schema.specs.declared.instance.MetaVal.{MetaVal}
use Rattle.mp_schema.specs.declared.instance.Inst.{Inst}
use Rattle.mp_schema.specs.declared.pattern.Pattern.{Pattern}
use Rattle.mp_schema.specs.declared.schema.Schema.{Schema}
use Rattle.mp_schema.specs.Conditions.{below, lists_known, is_placed}
use Rattle.mp_schema.specs.Instances.{Values, Ground, Wide, inst_of, fits}
use Rattle.mp_schema.specs.Limits.{few_of, few_of_schema, is_shallow_pattern, is_shallow_schema}
use Rattle.mp_schema.specs.Sequents.{Instance, wide_of, seq, schema_fits}
use Rattle.mp_schema.specs.Values.{instance_of}
use Rattle.mp_build.specs.Built.{term_of}
use Rattle.mp_build.specs.Rooms.{room, schema_room}

-- ## Scopes

-- a sequent that is made is in scope: each hypothesis in that of those before it, the conclusion in that of all
abbrev pub SequentIsInScope : Type 0
SequentIsInScope = (v : Instance) (s : Schema) → v.ambient ≡ 0 → IsTrue (is_placed s) → IsTrue (schema_fits v s) → IsTrue (sequent_in_scope_of (seq v s))

-- a term that is made is in the ambient scope
abbrev pub TermIsInScope : Type 0
TermIsInScope =
    (v : Instance) (p : Pattern) → IsTrue (below p 0) → IsTrue (lists_known [] p) → IsTrue (fits (wide_of v) v.values p) →
    IsTrue (in_scope_of (term_of v p) v.ambient)

-- ## Binders

-- each subterm of each value has at most 8 binders
pub record HasFewBinders (v : Instance) : Type 0 where
  pub metas : (name : Sym) → IsTrue (few_binders_of (v.values.meta name))
  pub kept : (name : Sym) → All (λ t. IsTrue (few_binders_of t)) (v.kept name)

-- if values and schema have few binders, so has the sequent that is made
abbrev pub SequentHasFewBinders : Type 0
SequentHasFewBinders = (v : Instance) (s : Schema) → HasFewBinders v → IsTrue (few_of_schema s) → IsTrue (sequent_few_binders_of (seq v s))

-- if values and pattern have few binders, so has the term that is made
abbrev pub TermHasFewBinders : Type 0
TermHasFewBinders = (v : Instance) (p : Pattern) → HasFewBinders v → IsTrue (few_of p) → IsTrue (few_binders_of (term_of v p))

-- ## Room

-- a term as a goal within the limits has it: few binders, and no deeper than 200
pub record IsTameTerm (t : Term) : Type 0 where
  pub few : IsTrue (few_binders_of t)
  pub shallow : depth_of t ≤ 200

-- values as goals within the limits give them
pub record IsTame (v : Instance) : Type 0 where
  pub ambient : v.ambient ≤ 10000
  pub metas : (name : Sym) → IsTameTerm (v.values.meta name)
  pub many : (name : Sym) → length (v.kept name) ≤ 200
  pub kept : (name : Sym) → All IsTameTerm (v.kept name)

-- entries make tame values, if each of their terms is tame, and no context has more than 200 hypotheses
pub record HasTameEntries (i : Inst) : Type 0 where
  pub ambient : i.ambient ≤ 10000
  pub metas : All (λ (x : MetaVal). IsTameTerm x.body) i.metas
  pub many : All (λ (x : CtxVal). length x.hyps ≤ 200) i.ctxs
  pub kept : All (λ (x : CtxVal). All IsTameTerm x.hyps) i.ctxs

-- an instance with tame entries is tame
abbrev pub TameEntries : Type 0
TameEntries = (i : Inst) → HasTameEntries i → IsTame (instance_of i)

-- tame values have few binders
abbrev pub TameValues : Type 0
TameValues = (v : Instance) → IsTame v → HasFewBinders v

-- if the values are tame and the schema is within its limits, no scope in making the sequent reaches 2^31
abbrev pub SchemaIsNarrow : Type 0
SchemaIsNarrow = (v : Instance) (s : Schema) → IsTame v → IsTrue (few_of_schema s) → IsTrue (is_shallow_schema s) → schema_room v s < 2 ^ 31

-- if the values are tame and the pattern is within its limits, no scope in making the term reaches 2^31
abbrev pub PatternIsNarrow : Type 0
PatternIsNarrow = (v : Instance) (p : Pattern) → IsTame v → IsTrue (few_of p) → IsTrue (is_shallow_pattern p) → room (wide_of v) v.values p v.ambient < 2 ^ 31

-- ## Patterns without contexts

-- an instance of a pattern that lists no context asks only for the ambient variables
abbrev pub PlainInstance : Type 0
PlainInstance =
    (before other : Ground) (v : Values) (p : Pattern) → IsTrue (lists_known [] p) → before [] ≡ other [] →
    (env : List Term) (m : ℕ) → inst_of before v p env m ≡ inst_of other v p env m

-- values fit a pattern without lists of contexts over any contexts, if the ambient scope is the same
abbrev pub PlainFits : Type 0
PlainFits = (wide other : Wide) (v : Values) (p : Pattern) → IsTrue (lists_known [] p) → wide [] ≡ other [] → fits wide v p ≡ fits other v p

-- The instances of a pattern or a schema that give a term or a goal.
use Rattle.std.specs.Prelude.{◌≡◌, ℕ, List, [], ◌∷◌, length, Bool, true, false, IsTrue, IsSome, Option, Some, None}
use Rattle.mp_logic.specs.declared.sym.Sym.{Sym}
use Rattle.mp_term.specs.declared.term.Param.{Param}
use Rattle.mp_term.specs.declared.term.Term.{Term}
use Rattle.mp_term.specs.declared.sequent.Sequent.{Sequent}
use Rattle.mp_schema.specs.declared.instance.CtxVal.{CtxVal}
use Rattle.mp_schema.specs.declared.instance.MetaVal.{MetaVal}
use Rattle.mp_schema.specs.declared.instance.Inst.{Inst}
use Rattle.mp_schema.specs.declared.pattern.Pattern.{Pattern}
use Rattle.mp_schema.specs.declared.schema.Schema.{Schema}
use Rattle.mp_schema.specs.Instances.{Ground, inst_of, fits}
use Rattle.mp_term.specs.Subst.{upto}
use Rattle.mp_schema.specs.Conditions.{has, context_names, has_two_contexts, is_conclusion}
use Rattle.mp_schema.specs.Occurrences.{In, Occurrence, occurrences_in_schema, holes_in_schema}
use Rattle.mp_schema.specs.Sequents.{Instance, first_spot, behind_all, seq, schema_fits}
use Rattle.mp_schema.specs.Values.{find_meta, find_param, find_ctx, first_variable_of, instance_of}

-- the instance has the values that are found
pub record Agrees (v : Instance) (i : Inst) : Type 0 where
  pub ambient : v.ambient ≡ i.ambient
  pub ctxs : (name : Sym) (x : CtxVal) → find_ctx i.ctxs name ≡ Some x → v.kept name ≡ x.hyps
  pub metas : (name : Sym) (x : MetaVal) → find_meta i.metas name ≡ Some x → v.values.meta name ≡ x.body
  pub params : (name : Sym) (p : Param) → find_param i.params name ≡ Some p → v.values.param name ≡ p

-- the instances have the same value of this name, which is a context's or a second-order variable's
abbrev pub SameValue : Instance → Instance → Bool → Sym → Type 0
SameValue v w true name = v.kept name ≡ w.kept name
SameValue v w false name = v.values.meta name ≡ w.values.meta name

-- the instances have the same values where these names occur, and the same parameters of these holes
pub record AgreeOn (v w : Instance) (os : List Occurrence) (holes : List Sym) : Type 0 where
  pub values : (o : Occurrence) → In o os → SameValue v w o.is_context o.name
  pub params : (name : Sym) → In name holes → v.values.param name ≡ w.values.param name

-- ## Goals

-- the first of these contexts, if there is one, has so many hypotheses
abbrev pub FirstHas : Instance → List Sym → ℕ → Type 0
FirstHas v [] n = Unit {0}
FirstHas v (c ∷ contexts) n = length (v.kept c) ≡ n

-- if a size is given, the first context has it, if there is one
abbrev pub HasFirst : Instance → Schema → Option ℕ → Type 0
HasFirst v s None = Unit {0}
HasFirst v s (Some n) = FirstHas v (context_names s) n

-- the instance makes the schema this goal, and its first context has the size that is given
pub record GivesGoal (s : Schema) (first : Option ℕ) (goal : Sequent) (v : Instance) : Type 0 where
  pub ambient : v.ambient ≡ 0
  pub fit : IsTrue (schema_fits v s)
  pub sized : HasFirst v s first
  pub same : seq v s ≡ goal

-- two instances that make a conclusion one goal agree on each of its names, if its first context's size is given where it has
-- two contexts
abbrev pub OneInstance : Type 0
OneInstance =
    (s : Schema) (first : Option ℕ) (goal : Sequent) (v w : Instance) → IsTrue (is_conclusion s) → (IsTrue (has_two_contexts s) → IsSome first) →
    GivesGoal s first goal v → GivesGoal s first goal w → AgreeOn v w (occurrences_in_schema s) (holes_in_schema s)

-- each context's first variable is at the level at which the context begins
abbrev pub Begins : Inst → Schema → Type 0
Begins i s = (name : Sym) → IsTrue (has (context_names s) name) → first_variable_of i.ctxs name ≡ (behind_all (instance_of i) s.items first_spot).pos name

-- the values of an instance that makes the schema this goal, which are those of every such instance; None where there is
-- none
abbrev pub IsInstance : Schema → Option ℕ → Sequent → Option Inst → Type 0
IsInstance s first goal None = (v : Instance) → GivesGoal s first goal v → ⊥
IsInstance s first goal (Some i) = GivesGoal s first goal (instance_of i) × Begins i s × ((v : Instance) → GivesGoal s first goal v → Agrees v i)

-- ## Terms

-- the variables that a value has before its arguments, if there are no contexts
abbrev pub ambient_only : ℕ → Ground
ambient_only a names = upto 0 a

-- the instance makes the pattern this term, of this scope
pub record GivesTerm (scope : ℕ) (p : Pattern) (t : Term) (v : Instance) : Type 0 where
  pub ambient : v.ambient ≡ scope
  pub fit : IsTrue (fits (λ names. scope) v.values p)
  pub same : inst_of (ambient_only scope) v.values p [] scope ≡ t

-- the values of an instance that makes the pattern this term, which are those of every such instance; None where there
-- is none
abbrev pub IsTermInstance : ℕ → Pattern → Term → Option Inst → Type 0
IsTermInstance scope p t None = (v : Instance) → GivesTerm scope p t v → ⊥
IsTermInstance scope p t (Some i) = GivesTerm scope p t (instance_of i) × ((v : Instance) → GivesTerm scope p t v → Agrees v i)

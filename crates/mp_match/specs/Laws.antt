-- The laws of matching that a prover's steps stand on.
use Rattle.std.specs.Prelude.{◌≡◌, ℕ, ◌<◌, ◌^◌, ◌↔◌, List, [], IsTrue, IsSome, IfSome, Option, None}
use Rattle.mp_logic.specs.declared.sym.Sym.{Sym}
use Rattle.mp_term.specs.declared.term.Term.{Term}
use Rattle.mp_term.specs.declared.sequent.Sequent.{Sequent}
use Rattle.mp_term.specs.Terms.{in_scope_of}
use Rattle.mp_term.specs.Limits.{sequent_in_scope_of}
use Rattle.mp_schema.specs.declared.instance.Inst.{Inst}
use Rattle.mp_schema.specs.declared.pattern.Pattern.{Pattern}
use Rattle.mp_schema.specs.declared.schema.Schema.{Schema}
use Rattle.mp_schema.specs.Instances.{Ground, inst_of}
use Rattle.mp_schema.specs.Sequents.{Instance, seq}
use Rattle.mp_schema.specs.Conditions.{seen, lists_known, is_conclusion, is_placed, has_two_contexts}
use Rattle.mp_schema.specs.Values.{find_meta}
use Rattle.mp_match.specs.Covering.{is_covered, schema_covered}
use Rattle.mp_match.specs.Giving.{with_value}
use Rattle.mp_match.specs.Matches.{term_match}
use Rattle.mp_schema.specs.Solutions.{Agrees, IsTermInstance, IsInstance}
use Rattle.mp_match.specs.Walks.{match_of}
use Rattle.mp_term.specs.Subst.{widest_in_sequent}

-- a match is the instance, and has a value for each name
abbrev pub MatchesAreInstances : Type 0
MatchesAreInstances =
    (s : Schema) (first : Option ℕ) (goal : Sequent) → IsTrue (is_conclusion s) → (IsSome first ↔ IsTrue (has_two_contexts s)) → IsTrue (sequent_in_scope_of goal) →
    widest_in_sequent goal < 2 ^ 31 → IsInstance s first goal (match_of s first goal) × IfSome (match_of s first goal) (λ i. IsTrue (schema_covered i s))

-- an instance of a pattern is what matching finds
abbrev pub TermMatchesAreInstances : Type 0
TermMatchesAreInstances =
    (redex : Pattern) (scope : ℕ) (t : Term) → IsTrue ((seen redex).fine 0) → IsTrue (lists_known [] redex) → IsTrue (in_scope_of t scope) →
    IsTermInstance scope redex t (term_match redex scope t) × IfSome (term_match redex scope t) (λ i. IsTrue (is_covered i redex))

-- instances that have the same values make a pattern that is covered the same term
abbrev pub AgreeingTerms : Type 0
AgreeingTerms =
    (i : Inst) (v w : Instance) → Agrees v i → Agrees w i → (p : Pattern) → IsTrue (is_covered i p) →
    (front : Ground) (env : List Term) (m : ℕ) → inst_of front v.values p env m ≡ inst_of front w.values p env m

-- instances that agree with what is found make a schema that is covered the same sequent
abbrev pub AgreeingSequents : Type 0
AgreeingSequents =
    (i : Inst) (v w : Instance) → Agrees v i → Agrees w i → (s : Schema) → IsTrue (is_placed s) → IsTrue (schema_covered i s) → seq v s ≡ seq w s

-- an instance that has a value beside those that are found has all of them
abbrev pub AgreesWithOneMore : Type 0
AgreesWithOneMore =
    (i : Inst) (v : Instance) (name : Sym) (scope : ℕ) (value : Term) → find_meta i.metas name ≡ None →
    (Agrees v (with_value i name scope value)) ↔ (Agrees v i × (v.values.meta name ≡ value))

-- What the match of a goal finds.
use Rattle.std.proofs.Common.{◌≡◌, ℕ, ◌<◌, ◌^◌, Bool, true, false, Option, Some, None, refl, subst}
use Rattle.std.specs.Prelude.{◌↔◌, IsTrue, IsSome, is_some, IfSome}
use Rattle.mp_term.specs.declared.sequent.Sequent.{Sequent}
use Rattle.mp_term.specs.Limits.{sequent_in_scope_of}
use Rattle.mp_schema.specs.declared.instance.Inst.{Inst}
use Rattle.mp_schema.specs.declared.schema.Schema.{Schema}
use Rattle.mp_schema.specs.Conditions.{is_conclusion, has_two_contexts}
use Rattle.mp_logic.specs.Lists.{same_bool}
use Rattle.mp_schema.specs.Sequents.{Instance}
use Rattle.mp_match.specs.Covering.{schema_covered}
use Rattle.mp_schema.specs.Solutions.{GivesGoal, IsInstance}
use Rattle.mp_match.specs.Spread.{IsSpread}
use Rattle.mp_match.specs.Walks.{match_of}
use Rattle.mp_term.specs.Subst.{widest_in_sequent}
use Rattle.mp_match.proofs.Laws.{matches_are_instances}
use Rattle.mp_match.proofs.SequentSpread.{match_spreads}

-- ## What matching asks

pub sized_where_two : (first : Option ℕ) (two : Bool) → same_bool (is_some first) two ≡ true → IsSome first ↔ IsTrue two
sized_where_two None true e = absurd cc
sized_where_two None false e = (λ k. k, λ k. k)
sized_where_two (Some n) two e = (λ k. e, λ k. refl)

-- ## What it finds

-- the instance that a match finds
pub record IsMatch (s : Schema) (first : Option ℕ) (goal : Sequent) (i : Inst) : Type 0 where
  pub whole : IsInstance s first goal (Some i)
  pub covers : schema_covered i s ≡ true
  pub spread : IsSpread i s goal

module _ (s : Schema) (first : Option ℕ) (goal : Sequent) (conclusion : IsTrue (is_conclusion s)) (two : IsSome first ↔ IsTrue (has_two_contexts s))
    (scoped : IsTrue (sequent_in_scope_of goal)) (narrow : widest_in_sequent goal < 2 ^ 31) where
  pub no_match : match_of s first goal ≡ None → (v : Instance) → GivesGoal s first goal v → ⊥
  no_match e = subst (IsInstance s first goal) e (matches_are_instances s first goal conclusion two scoped narrow).0

  pub some_match : (i : Inst) → match_of s first goal ≡ Some i → IsMatch s first goal i
  some_match i is =
      let found = matches_are_instances s first goal conclusion two scoped narrow in
      record {
        whole = subst (IsInstance s first goal) is found.0;
        covers = subst (λ o. IfSome o (λ j. IsTrue (schema_covered j s))) is found.1;
        spread = match_spreads s first goal conclusion two scoped narrow i is;
      }

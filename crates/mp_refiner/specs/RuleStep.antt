-- What a rule says of a goal, in terms of instances.
use Rattle.std.specs.Prelude.{◌≡◌, ℕ, ◌+◌, List, [], ◌∷◌, ◌++◌, map, IsTrue, Option, ⊤}
use Rattle.std.specs.List.{list_all}
use Rattle.mp_term.specs.declared.term.Term.{Var}
use Rattle.mp_term.specs.declared.sequent.Sequent.{Sequent}
use Rattle.mp_term.specs.Terms.{in_scope_of}
use Rattle.mp_term.specs.Subst.{sub_of, upto}
use Rattle.mp_schema.specs.declared.schema.Schema.{Schema}
use Rattle.mp_schema.specs.Sequents.{Instance, seq, schema_fits, ground_at, wide_of, behind_all, first_spot}
use Rattle.mp_schema.specs.Solutions.{GivesGoal}
use Rattle.mp_theory.specs.declared.rule.Need.{Need}
use Rattle.mp_theory.specs.declared.rule.Rule.{Rule}
use Rattle.mp_theory.specs.declared.just.Given.{Given}

-- the variables that a given term may use: those of the need's contexts in the goal, and then the need's arguments
abbrev pub given_variables : Instance → Schema → Need → List ℕ
given_variables v concl need = ground_at v (behind_all v concl.items first_spot).pos need.ctxs ++ upto 200 need.arity

-- the need's value is the one that gives the given term, with these variables for its own
pub record Meets (v : Instance) (concl : Schema) (need : Need) (given : Given) : Type 0 where
  pub fits : IsTrue (in_scope_of (v.values.meta need.name) (wide_of v need.ctxs + need.arity))
  pub gives : sub_of (v.values.meta need.name) (map Var (given_variables v concl need)) (200 + need.arity) ≡ given.body

-- each need's value gives its given term, in the order of the needs
abbrev pub MeetsAll : Instance → Schema → List Need → List Given → Type 0
MeetsAll v concl [] [] = ⊤
MeetsAll v concl [] (g ∷ gs) = ⊥
MeetsAll v concl (n ∷ ns) [] = ⊥
MeetsAll v concl (n ∷ ns) (g ∷ gs) = Meets v concl n g × MeetsAll v concl ns gs

-- by some instance the rule's conclusion is the goal, the needs are as given, and the premises, in order, are the kids; its
-- values use no more variables than each place of a premise has; if there are two contexts, the first one has as many hypotheses
-- as the step says
pub record RuleStep (rule : Rule) (first : Option ℕ) (given : List Given) (goal : Sequent) (kids : List Sequent) : Type 0 where
  pub instance : Instance
  pub match : GivesGoal rule.concl first goal instance
  pub meets : MeetsAll instance rule.concl rule.needs given
  pub fits : IsTrue (list_all (schema_fits instance) rule.premises)
  pub kids_are : kids ≡ map (seq instance) rule.premises

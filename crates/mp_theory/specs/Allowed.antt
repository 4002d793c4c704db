-- Which goals and which justifications a theory's steps are tried on.
use Rattle.std.specs.Prelude.{ℕ, ◌+◌, List, [], ◌∷◌, Bool, true, false, nat_eq, nat_le, ◌&&◌, Option, Some, None, is_some}
use Rattle.mp_term.specs.declared.sequent.Sequent.{Sequent}
use Rattle.mp_term.specs.Terms.{depth_of, in_scope_of}
use Rattle.mp_term.specs.Limits.{within_limits_of, sequent_in_scope_of, sequent_few_binders_of, few_binders_of}
use Rattle.mp_schema.specs.Conditions.{has_two_contexts}
use Rattle.mp_theory.specs.declared.rule.Need.{Need}
use Rattle.mp_theory.specs.declared.rule.Rule.{Rule}
use Rattle.mp_theory.specs.declared.just.Given.{Given}
use Rattle.mp_theory.specs.declared.just.Just.{Just}
use Rattle.mp_theory.specs.declared.just.Just.TheVariants as just
use Rattle.mp_theory.specs.Needs.{needs_of}
use Rattle.mp_theory.specs.Tables.{Laws, rule_at, rewrite_at, is_faultless}
use Rattle.mp_logic.specs.Lists.{same_bool}

-- each term is in its scope, no subterm has more than 8 binders, and the sequent is within the limits
abbrev pub is_good : Sequent → Bool
is_good s = sequent_in_scope_of s && sequent_few_binders_of s && within_limits_of s

-- the given term is for this need: its name and number of arguments, in scope, no deeper than 200, and with at most 8
-- binders a subterm
abbrev pub is_for : Need → Given → Bool
is_for need given =
    nat_eq need.name.0 given.name.0 && nat_eq need.arity given.arity && in_scope_of given.body (200 + need.arity) && nat_le (depth_of given.body) 200
    && few_binders_of given.body

-- each need is given once, in the order of the needs
abbrev pub are_for : List Need → List Given → Bool
are_for [] [] = true
are_for [] (g ∷ gs) = false
are_for (n ∷ ns) [] = false
are_for (n ∷ ns) (g ∷ gs) = is_for n g && are_for ns gs

-- the rule is there and may be a theory's, and the size and the given terms are as it asks
abbrev pub is_allowed_at : Option Rule → Option ℕ → List Given → Bool
is_allowed_at None first given = false
is_allowed_at (Some rule) first given =
    is_faultless rule && same_bool (is_some first) (has_two_contexts rule.concl) && are_for (needs_of rule.premises rule.concl) given

-- the justification names a law of its kind: of a rule it says the size of the first context exactly where the rule's
-- conclusion has two, and gives what the rule needs; of a rewrite any place and any address are allowed
abbrev pub is_allowed : Laws → Just → Bool
is_allowed t (just.Rule place first given) = is_allowed_at (rule_at t place) first given
is_allowed t (just.Rewrite at place address) = is_some (rewrite_at t at)

-- Steps that give terms: their static rules, and the justifications that they stand for.
use Rattle.std.specs.Prelude.{ℕ, length, List, Option, None, Some}
use Rattle.mp_term.specs.declared.limits.TheConstants.{MOST_HYPOTHESES}
use Rattle.mp_term.specs.declared.term.Term.{Term, Var}
use Rattle.mp_theory.specs.declared.rule.Need.{Need}
use Rattle.mp_theory.specs.declared.just.Given.{Given}
use Rattle.mp_theory.specs.declared.just.Just.{Just}
use Rattle.mp_theory.specs.declared.just.Just.TheVariants as just
use Rattle.mp_theory.specs.Tables.{Laws}
use Rattle.mp_words.specs.declared.word.Word.{Word}
use Rattle.mp_words.specs.declared.fail.TextErr.{TextErr}
use Rattle.mp_words.specs.Grammars.{Grammar}
use Rattle.mp_termtext.specs.declared.raw.RawBound.{RawBound}
use Rattle.mp_termtext.specs.Grammar.{bound}
use Rattle.mp_termtext.specs.Statics.{bound_term_faults, names_of}
use Rattle.mp_termtext.specs.Values.{value_of}
use Rattle.mp_steptext.specs.declared.raw.RawStep.{RawStep}
use Rattle.mp_steptext.specs.declared.body.StepValue.{StepValue}
use Rattle.mp_steptext.specs.declared.body.StepValue.TheVariants as value
use Rattle.mp_steptext.specs.Grammar.{step}
use Rattle.mp_steptext.specs.Statics.{step_faults}
use Rattle.mp_steptext.specs.Values.{step_value}

-- the number of binders of a term that is given
abbrev pub term_arity : RawBound → ℕ
term_arity b = length b.binders

-- the faults of a term that is given and begins at this byte: `x1` to `x200` are free, and its binders come after them
abbrev pub given_term_faults : ℕ → RawBound → List TextErr
given_term_faults at b = bound_term_faults MOST_HYPOTHESES at b

-- the term that is given: its binders are the variables from 200 on
abbrev pub term_body : Option RawBound → Term
term_body None = Var 0
term_body (Some b) = value_of MOST_HYPOTHESES b.body (names_of b.binders)

-- what a term gives for a need
abbrev pub given_term : Need → Option RawBound → Given
given_term need b = record { name = need.name; arity = need.arity; body = term_body b }

-- a step, with terms for its needs
abbrev pub step_with_terms : Grammar Word (RawStep RawBound)
step_with_terms = step bound

-- the static faults of a step that gives terms
abbrev pub term_step_faults : Laws → RawStep RawBound → List TextErr
term_step_faults = step_faults term_arity given_term_faults

-- a justification by the value of a step
abbrev pub just_by : StepValue Given → Just
just_by (value.Rule rule first given) = just.Rule rule first given
just_by (value.Rewrite rewrite place address) = just.Rewrite rewrite place address

-- the justification of a step
abbrev pub just_of : Laws → RawStep RawBound → Just
just_of t s = just_by (step_value given_term t s)

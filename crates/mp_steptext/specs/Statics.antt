-- The static rules of steps as they are written, in a theory.
use Rattle.std.specs.Prelude.{ℕ, ◌+◌, ◌++◌, List, [], ◌∷◌, Option, None, Some, not, nat_eq, is_none, is_some, if◌then◌else◌, slice_get}
use Rattle.std.specs.List.{flat_map}
use Rattle.mp_logic.specs.declared.sym.Sym.{Sym}
use Rattle.mp_schema.specs.Conditions.{has_two_contexts}
use Rattle.mp_term.specs.declared.limits.TheConstants.{MOST_DEPTH, MOST_HYPOTHESES, MOST_NODES}
use Rattle.mp_theory.specs.declared.rule.Rule.{Rule}
use Rattle.mp_theory.specs.declared.rule.Need.{Need}
use Rattle.mp_theory.specs.Tables.{Laws, place_of_rewrite, rule_named}
use Rattle.mp_words.specs.declared.raw.RawNumber.{RawNumber}
use Rattle.mp_words.specs.declared.fail.TextErr.{TextErr}
use Rattle.mp_words.specs.declared.fail.TextWhy.TheVariants as why
use Rattle.mp_words.specs.Faults.{fault, fault_at_any, fault_if}
use Rattle.mp_words.specs.Ranges.{number_faults, written_number_faults}
use Rattle.mp_words.specs.Seconds.{second_faults}
use Rattle.mp_steptext.specs.declared.raw.RawGiven.{RawGiven}
use Rattle.mp_steptext.specs.declared.raw.RawPlace.{RawPlace}
use Rattle.mp_steptext.specs.declared.raw.RawPlace.TheVariants as raw_place
use Rattle.mp_steptext.specs.declared.raw.RawRewriteStep.{RawRewriteStep}
use Rattle.mp_steptext.specs.declared.raw.RawRuleStep.{RawRuleStep}
use Rattle.mp_steptext.specs.declared.raw.RawStep.{RawStep}
use Rattle.mp_steptext.specs.declared.raw.RawStep.TheVariants as raw

-- the first need of this name
abbrev pub need_of : List Need → Sym → Option Need
need_of [] name = None
need_of (n ∷ ns) name = if nat_eq n.name.0 name.0 then Some n else need_of ns name

module _ {R : Type 0} where
  -- the first of this name that is given
  abbrev pub given_of : List (RawGiven R) → Sym → Option (RawGiven R)
  given_of [] name = None
  given_of (g ∷ gs) name = if nat_eq g.name.name.0 name.0 then Some g else given_of gs name

  -- `at` stands exactly where the rule's conclusion has two contexts
  abbrev pub place_faults : Rule → RawRuleStep R → Option RawNumber → List TextErr
  place_faults rule s None = fault_if (has_two_contexts rule.concl) s.rule.at why.AtNeeded
  place_faults rule s (Some n) = fault_if (not (has_two_contexts rule.concl)) n.at why.AtRefused

  -- the need is given
  abbrev pub missing_faults : RawRuleStep R → Need → List TextErr
  missing_faults s need = fault_if (not (is_some (given_of s.given need.name))) s.rule.at why.MissingWith

-- a hypothesis is 1 to 200
abbrev pub hypothesis_faults : RawPlace → List TextErr
hypothesis_faults raw_place.Concl = []
hypothesis_faults (raw_place.Hyp n) = number_faults 1 MOST_HYPOTHESES n

-- each number of an address is 1 to 20,000, and there are at most 200; the fault of more is at the first one too many
abbrev pub address_faults : List RawNumber → List TextErr
address_faults ns = flat_map (number_faults 1 MOST_NODES) ns ++ fault_at_any (λ n. n.at) why.BadNumber (slice_get ns MOST_DEPTH)

-- the faults of a step by a rewrite: its numbers are in their ranges, and the theory has a rewrite of its name
abbrev pub rewrite_step_faults : Laws → RawRewriteStep → List TextErr
rewrite_step_faults t s = hypothesis_faults s.place ++ address_faults s.address ++ fault_if (is_none (place_of_rewrite t s.rewrite.name)) s.rewrite.at why.UnknownName

-- how many binders a body has, and its static faults where it begins at a byte
module _ {R : Type 0} (arity : R → ℕ) (faults : ℕ → R → List TextErr) where
  -- the name is a need's, and the body has as many binders as the need has arguments
  abbrev pub need_faults : Option Need → RawGiven R → List TextErr
  need_faults None g = fault g.name.at why.ExtraWith
  need_faults (Some need) g = fault_if (not (nat_eq need.arity (arity g.body))) g.name.at why.BadArity

  -- the faults of what is given by these needs
  abbrev pub given_faults : List Need → RawGiven R → List TextErr
  given_faults needs g = need_faults (need_of needs g.name.name) g

  -- the faults of all that is given by these needs: those of each one, and a second one of its name
  abbrev pub all_given_faults : List Need → List (RawGiven R) → List TextErr
  all_given_faults needs gs = flat_map (given_faults needs) gs ++ second_faults (λ g. g.name) why.TwiceWith gs

  -- the faults of what is given by itself
  abbrev pub body_faults : RawGiven R → List TextErr
  body_faults g = faults g.at g.body

  -- the step fits the rule of its name, which the theory has
  abbrev pub named_rule_faults : Option Rule → RawRuleStep R → List TextErr
  named_rule_faults None s = fault s.rule.at why.UnknownName
  named_rule_faults (Some rule) s = place_faults rule s s.place ++ flat_map (missing_faults s) rule.needs ++ all_given_faults rule.needs s.given

  -- the faults of a step by a rule: its place is 1 to 201, what is given has no fault by itself, and it fits its rule
  abbrev pub rule_step_faults : Laws → RawRuleStep R → List TextErr
  rule_step_faults t s = written_number_faults 1 (MOST_HYPOTHESES + 1) s.place ++ flat_map body_faults s.given ++ named_rule_faults (rule_named t s.rule.name) s

  -- the faults of a step
  abbrev pub step_faults : Laws → RawStep R → List TextErr
  step_faults t (raw.Rule s) = rule_step_faults t s
  step_faults t (raw.Rewrite s) = rewrite_step_faults t s

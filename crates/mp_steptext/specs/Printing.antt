-- The one text of a step.
use Rattle.std.specs.Prelude.{ℕ, ◌+◌, ◌++◌, List, [], ◌∷◌, map, Option, Some, None, codes}
use Rattle.std.specs.Fmt.{decimal}
use Rattle.mp_names.specs.Table.{text_of}
use Rattle.mp_term.specs.declared.limits.TheConstants.{MOST_HYPOTHESES}
use Rattle.mp_termtext.specs.Printing.{binders_text, list_text, term_text}
use Rattle.mp_theory.specs.declared.just.Given.{Given}
use Rattle.mp_theory.specs.declared.just.Just.{Just}
use Rattle.mp_theory.specs.declared.just.Just.TheVariants as just
use Rattle.mp_theory.specs.declared.place.Place.{Place}
use Rattle.mp_theory.specs.declared.place.Place.TheVariants as place
use Rattle.mp_theory.specs.declared.rewrite.Rewrite.{Rewrite}
use Rattle.mp_theory.specs.declared.rule.Rule.{Rule}
use Rattle.mp_theory.specs.Tables.{Laws, rewrite_at, rule_at}

-- a rule's name; nothing if there is no such rule
abbrev pub rule_text : List (List ℕ) → Option Rule → List ℕ
rule_text names (Some rule) = text_of names rule.name.0
rule_text names None = []

-- a rewrite's name; nothing if there is no such rewrite
abbrev pub rewrite_text : List (List ℕ) → Option Rewrite → List ℕ
rewrite_text names (Some rewrite) = text_of names rewrite.name.0
rewrite_text names None = []

-- where the first context ends: the number of the first hypothesis after it, counted from 1; nothing if a step doesn't say it
abbrev pub first_text : Option ℕ → List ℕ
first_text None = []
first_text (Some first) = codes " at " ++ decimal (first + 1)

-- what is given, in order; nothing if there is none
abbrev pub all_given_text : {G : Type 0} → (G → List ℕ) → List G → List ℕ
all_given_text given_text given = list_text (codes " with [") (codes "]") (map given_text given)

-- a step by a rule: the rule's name, where the first context ends, and what is given
abbrev pub rule_step_text : {G : Type 0} → (List (List ℕ) → G → List ℕ) → List (List ℕ) → Option Rule → Option ℕ → List G → List ℕ
rule_step_text given_text names rule first given = codes "rule " ++ rule_text names rule ++ first_text first ++ all_given_text (given_text names) given

-- the term of the goal that is rewritten in; hypotheses are counted from 1
abbrev pub place_text : Place → List ℕ
place_text place.Concl = codes "concl"
place_text (place.Hyp i) = codes "hyp " ++ decimal (i + 1)

-- the number of a subterm, counted from 1
abbrev pub subterm_text : ℕ → List ℕ
subterm_text i = decimal (i + 1)

-- an address between brackets, which also stand where it has no number
abbrev pub address_text : List ℕ → List ℕ
address_text [] = codes " []"
address_text (i ∷ is) = list_text (codes " [") (codes "]") (map subterm_text (i ∷ is))

-- a step by a rewrite: the rewrite's name, the term of the goal, and the address of the subterm
abbrev pub rewrite_step_text : List (List ℕ) → Option Rewrite → Place → List ℕ → List ℕ
rewrite_step_text names rewrite place address = codes "rw " ++ rewrite_text names rewrite ++ codes " " ++ place_text place ++ address_text address

-- a given term after its need's name and its binders; 200 variables are in scope before these
abbrev pub given_text : List (List ℕ) → Given → List ℕ
given_text names given =
    text_of names given.name.0 ++ codes " := " ++ binders_text MOST_HYPOTHESES given.arity ++ term_text names given.body (MOST_HYPOTHESES + given.arity)

-- a step by a justification
abbrev pub just_text : List (List ℕ) → Laws → Just → List ℕ
just_text names theory (just.Rule rule first given) = rule_step_text given_text names (rule_at theory rule) first given
just_text names theory (just.Rewrite rewrite place address) = rewrite_step_text names (rewrite_at theory rewrite) place address

use Rattle.mp_theory.proofs.Laws.{rules_of_theories, places_of_names, names_of_places, added_rules_stand, rewrites_of_theories, places_of_rewrites, names_of_rewrites, added_rewrites_stand, taken_names, theories_grow, width_is_enough}
use Rattle.mp_theory.proofs.look_ups.theory_laws.Goals as goal

pub returns-clause-rules : goal.returns-clause-rules
returns-clause-rules c = λ t place rule is e. rules_of_theories t place rule is e

pub returns-clause-places : goal.returns-clause-places
returns-clause-places c = λ t place rule is e. places_of_names t place rule is e

pub returns-clause-names : goal.returns-clause-names
returns-clause-names c = λ t name place e. names_of_places t name place e

pub returns-clause-stand : goal.returns-clause-stand
returns-clause-stand c = λ t name premises concl. added_rules_stand t name premises concl

pub returns-clause-rewrites : goal.returns-clause-rewrites
returns-clause-rewrites c = λ t place rewrite is e. rewrites_of_theories t place rewrite is e

pub returns-clause-rewrite_places : goal.returns-clause-rewrite_places
returns-clause-rewrite_places c = λ t place rewrite is e. places_of_rewrites t place rewrite is e

pub returns-clause-rewrite_names : goal.returns-clause-rewrite_names
returns-clause-rewrite_names c = λ t name place e. names_of_rewrites t name place e

pub returns-clause-rewrites_stand : goal.returns-clause-rewrites_stand
returns-clause-rewrites_stand c = λ t name conds redex contractum. added_rewrites_stand t name conds redex contractum

pub returns-clause-taken : goal.returns-clause-taken
returns-clause-taken c = taken_names

pub returns-clause-theories : goal.returns-clause-theories
returns-clause-theories c = theories_grow

pub returns-clause-width : goal.returns-clause-width
returns-clause-width c = λ t place. width_is_enough t place

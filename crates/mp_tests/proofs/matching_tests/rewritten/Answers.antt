use Rattle.std.proofs.Common.{◌≡◌, ◌∙◌, ◌<◌, ap, is_some, None, sym, arith, rules}
use Rattle.mp_schema.specs.Faults.{rewrite_fault_of}
use Rattle.mp_schema.specs.Values.{instance_of}
use Rattle.mp_tests.proofs.Rewriting.{none_from, redex_fine, redex_plain, contractum_closed, contractum_plain, contractum_fits, contractum_narrow}
use Rattle.mp_tests.proofs.matching_tests.rewritten.Goals as goal

pub match_term-requires-clause-fine : goal.match_term-requires-clause-fine
match_term-requires-clause-fine c =
    let none : rewrite_fault_of c.new.result c.args.redex.now c.args.contractum.now ≡ None =
    none_from (rewrite_fault_of c.new.result c.args.redex.now c.args.contractum.now) (ap is_some (sym c.rewrite_fault-2.ensures) ∙ sym c.is_some.ensures ∙ c.if-is_some.false) in
    redex_fine c.faultless_laws.ensures.rewrites c.new.result c.args.redex.now c.args.contractum.now none

pub match_term-requires-clause-no_contexts : goal.match_term-requires-clause-no_contexts
match_term-requires-clause-no_contexts c =
    let none : rewrite_fault_of c.new.result c.args.redex.now c.args.contractum.now ≡ None =
    none_from (rewrite_fault_of c.new.result c.args.redex.now c.args.contractum.now) (ap is_some (sym c.rewrite_fault-2.ensures) ∙ sym c.is_some.ensures ∙ c.if-is_some.false) in
    redex_plain c.faultless_laws.ensures.rewrites c.new.result c.args.redex.now c.args.contractum.now none

pub build_term-requires-clause-closed : goal.build_term-requires-clause-closed
build_term-requires-clause-closed c =
    let none : rewrite_fault_of c.new.result c.args.redex.now c.args.contractum.now ≡ None =
    none_from (rewrite_fault_of c.new.result c.args.redex.now c.args.contractum.now) (ap is_some (sym c.rewrite_fault-2.ensures) ∙ sym c.is_some.ensures ∙ c.if-is_some.false) in
    contractum_closed c.faultless_laws.ensures.rewrites c.new.result c.args.redex.now c.args.contractum.now none

pub build_term-requires-clause-plain : goal.build_term-requires-clause-plain
build_term-requires-clause-plain c =
    let none : rewrite_fault_of c.new.result c.args.redex.now c.args.contractum.now ≡ None =
    none_from (rewrite_fault_of c.new.result c.args.redex.now c.args.contractum.now) (ap is_some (sym c.rewrite_fault-2.ensures) ∙ sym c.is_some.ensures ∙ c.if-is_some.false) in
    contractum_plain c.faultless_laws.ensures.rewrites c.new.result c.args.redex.now c.args.contractum.now none

pub build_term-requires-clause-fitting : goal.build_term-requires-clause-fitting
build_term-requires-clause-fitting c =
    let none : rewrite_fault_of c.new.result c.args.redex.now c.args.contractum.now ≡ None =
    none_from (rewrite_fault_of c.new.result c.args.redex.now c.args.contractum.now) (ap is_some (sym c.rewrite_fault-2.ensures) ∙ sym c.is_some.ensures ∙ c.if-is_some.false) in
    let gives = (rw c.in-Some.is at c.in-Ok.ensures.instance).0 in
    contractum_fits c.faultless_laws.ensures.rewrites c.new.result c.args.redex.now c.args.contractum.now none
    c.fitting_laws.ensures.conditions c.build_laws.ensures.plain_fits c.args.scope c.args.t.now (instance_of c.in-Some.inst) gives

pub build_term-requires-clause-narrow : goal.build_term-requires-clause-narrow
build_term-requires-clause-narrow c =
    let none : rewrite_fault_of c.new.result c.args.redex.now c.args.contractum.now ≡ None =
    none_from (rewrite_fault_of c.new.result c.args.redex.now c.args.contractum.now) (ap is_some (sym c.rewrite_fault-2.ensures) ∙ sym c.is_some.ensures ∙ c.if-is_some.false) in
    let gives = (rw c.in-Some.is at c.in-Ok.ensures.instance).0 in
    contractum_narrow c.faultless_laws.ensures.rewrites c.new.result c.args.redex.now c.args.contractum.now none
    c.build_laws.ensures.entries c.build_laws.ensures.pattern_room c.in-Some.inst (let e = gives.ambient in let small : c.args.scope < 1000 = search rules in omega (arith, e, small)) (search rules) (search rules)

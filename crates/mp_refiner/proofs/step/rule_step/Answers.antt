use Rattle.mp_refiner.proofs.Asked.{asked}
use Rattle.mp_refiner.proofs.Stepping.{match_made, none_answer, bad_answer, usable_needs, new_needs, closed_new, ready_premises, step_answer}
use Rattle.mp_refiner.proofs.step.rule_step.Goals as goal

pub match_sequent-requires-clause-conclusion : goal.match_sequent-requires-clause-conclusion
match_sequent-requires-clause-conclusion c =
    (asked c.args.rule.now c.args.first c.args.given.now c.args.goal.now c.requires.allowed c.requires.good).rule.conclusion

pub match_sequent-requires-clause-narrow : goal.match_sequent-requires-clause-narrow
match_sequent-requires-clause-narrow c = (asked c.args.rule.now c.args.first c.args.given.now c.args.goal.now c.requires.allowed c.requires.good).narrow

pub give_all-requires-clause-usable : goal.give_all-requires-clause-usable
give_all-requires-clause-usable c =
    let r = c.args.rule.now in
    let g = c.args.given.now in
    let q = c.args.goal.now in
    usable_needs r c.args.first g q c.requires.rule c.requires.allowed c.requires.good c.in-Some.inst
    (match_made r.concl c.args.first q c.in-Ok.matched c.in-Some.inst c.in-Some.is c.in-Ok.ensures.instance c.in-Ok.ensures.covers c.in-Ok.ensures.spread) c.as_slice.result.now c.as_slice.ensures

pub give_all-requires-clause-new : goal.give_all-requires-clause-new
give_all-requires-clause-new c =
    let r = c.args.rule.now in
    let g = c.args.given.now in
    let q = c.args.goal.now in
    new_needs r c.args.first g q c.requires.rule c.requires.allowed c.requires.good c.in-Some.inst
    (match_made r.concl c.args.first q c.in-Ok.matched c.in-Some.inst c.in-Some.is c.in-Ok.ensures.instance c.in-Ok.ensures.covers c.in-Ok.ensures.spread) c.as_slice.result.now c.as_slice.ensures

pub build_kids-requires-clause-closed : goal.build_kids-requires-clause-closed
build_kids-requires-clause-closed c =
    let r = c.args.rule.now in
    let g = c.args.given.now in
    let q = c.args.goal.now in
    closed_new r c.args.first g q c.requires.rule c.requires.allowed c.requires.good c.in-Some.inst
    (match_made r.concl c.args.first q c.in-Ok.matched c.in-Some.inst c.in-Some.is c.in-Ok.ensures.instance c.in-Ok.ensures.covers c.in-Ok.ensures.spread) c.as_slice.result.now c.as_slice.ensures
    c.give_all.new.inst c.as_slice-2.result.now c.as_slice-2.ensures c.in-Ok-true.field-0 c.in-Ok-true.ensures c.in-Ok-true.field-0-test

pub build_kids-requires-clause-ready : goal.build_kids-requires-clause-ready
build_kids-requires-clause-ready c =
    let r = c.args.rule.now in
    let g = c.args.given.now in
    let q = c.args.goal.now in
    ready_premises r c.args.first g q c.requires.rule c.requires.allowed c.requires.good c.in-Some.inst
    (match_made r.concl c.args.first q c.in-Ok.matched c.in-Some.inst c.in-Some.is c.in-Ok.ensures.instance c.in-Ok.ensures.covers c.in-Ok.ensures.spread) c.as_slice.result.now c.as_slice.ensures
    c.give_all.new.inst c.as_slice-2.result.now c.as_slice-2.ensures c.in-Ok-true.field-0 c.in-Ok-true.ensures c.in-Ok-true.field-0-test
    c.as_slice-in-Ok-true.result.now c.as_slice-in-Ok-true.ensures

pub returns-in-Ok-true : goal.returns-in-Ok-true
returns-in-Ok-true c =
    let r = c.args.rule.now in
    let g = c.args.given.now in
    let q = c.args.goal.now in
    step_answer r c.args.first g q c.requires.rule c.requires.allowed c.requires.good c.in-Some.inst
    (match_made r.concl c.args.first q c.in-Ok.matched c.in-Some.inst c.in-Some.is c.in-Ok.ensures.instance c.in-Ok.ensures.covers c.in-Ok.ensures.spread) c.as_slice.result.now c.as_slice.ensures
    c.give_all.new.inst c.as_slice-2.result.now c.as_slice-2.ensures c.in-Ok-true.field-0 c.in-Ok-true.ensures c.in-Ok-true.field-0-test
    c.as_slice-in-Ok-true.result.now c.as_slice-in-Ok-true.ensures c.build_kids.result c.build_kids.ensures

pub returns-in-Ok-false : goal.returns-in-Ok-false
returns-in-Ok-false c =
    let r = c.args.rule.now in
    let g = c.args.given.now in
    let q = c.args.goal.now in
    bad_answer r c.args.first g q c.requires.rule c.requires.allowed c.requires.good c.in-Some.inst
    (match_made r.concl c.args.first q c.in-Ok.matched c.in-Some.inst c.in-Some.is c.in-Ok.ensures.instance c.in-Ok.ensures.covers c.in-Ok.ensures.spread) c.as_slice.result.now c.as_slice.ensures
    c.give_all.new.inst c.as_slice-2.result.now c.as_slice-2.ensures c.in-Ok-false.field-0 c.in-Ok-false.ensures c.in-Ok-false.field-0-test

pub returns-in_default-matched : goal.returns-in_default-matched
returns-in_default-matched c =
    let r = c.args.rule.now in
    let g = c.args.given.now in
    let q = c.args.goal.now in
    none_answer r c.args.first g q c.requires.rule c.requires.allowed c.requires.good c.in-Ok.matched c.in_default-matched.is c.in-Ok.ensures.instance

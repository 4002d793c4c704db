use Rattle.mp_rewrite.proofs.Instances.{fine, redex_plain}
use Rattle.mp_rewrite.proofs.Stepping.{term_narrow, site_good, site_narrow, no_match, contractum_ready, conditions_ready, kids_answer, large_answer}
use Rattle.mp_rewrite.proofs.step.apply.Goals as goal

pub site_at-requires : goal.site_at-requires
site_at-requires c =
    term_narrow c.args.rewrite.now c.args.place.now c.args.address.now c.args.goal.now c.requires.rewrite c.requires.good c.steps-address.result.now c.steps-address.ensures c.hyps_before.result.now c.hyps_before.ensures c.in-Some.t.now c.in-Some.ensures

pub match_term-requires-clause-fine : goal.match_term-requires-clause-fine
match_term-requires-clause-fine c =
    fine c.args.rewrite.now.conds c.args.rewrite.now.redex c.args.rewrite.now.contractum c.requires.rewrite

pub match_term-requires-clause-no_contexts : goal.match_term-requires-clause-no_contexts
match_term-requires-clause-no_contexts c =
    redex_plain c.args.rewrite.now.conds c.args.rewrite.now.redex c.args.rewrite.now.contractum c.requires.rewrite

pub match_term-requires-clause-scoped : goal.match_term-requires-clause-scoped
match_term-requires-clause-scoped c =
    (site_good c.args.rewrite.now c.args.place.now c.args.address.now c.args.goal.now c.requires.rewrite c.requires.good c.steps-address.result.now c.steps-address.ensures c.hyps_before.result.now c.hyps_before.ensures c.in-Some.t.now c.in-Some.ensures
    (record { term = c.in-Some-site_at.site.term.now; scope = c.in-Some-site_at.site.scope }) c.in-Some-site_at.ensures).scoped

pub match_term-requires-clause-narrow : goal.match_term-requires-clause-narrow
match_term-requires-clause-narrow c =
    site_narrow c.args.rewrite.now c.args.place.now c.args.address.now c.args.goal.now c.requires.rewrite c.requires.good c.steps-address.result.now c.steps-address.ensures c.hyps_before.result.now c.hyps_before.ensures c.in-Some.t.now c.in-Some.ensures
    (record { term = c.in-Some-site_at.site.term.now; scope = c.in-Some-site_at.site.scope }) c.in-Some-site_at.ensures

pub returns-in_default-matched : goal.returns-in_default-matched
returns-in_default-matched c =
    no_match c.args.rewrite.now c.args.place.now c.args.address.now c.args.goal.now c.requires.rewrite c.requires.good c.steps-address.result.now c.steps-address.ensures c.hyps_before.result.now c.hyps_before.ensures c.in-Some.t.now c.in-Some.ensures
    (record { term = c.in-Some-site_at.site.term.now; scope = c.in-Some-site_at.site.scope }) c.in-Some-site_at.ensures c.is_barred.result c.is_barred.ensures c.if-is_barred.false
    c.in-Ok.matched c.in_default-matched.is c.in-Ok.ensures.instance

pub build_kids-requires-clause-contractum : goal.build_kids-requires-clause-contractum
build_kids-requires-clause-contractum c =
    contractum_ready c.args.rewrite.now c.args.place.now c.args.address.now c.args.goal.now c.requires.rewrite c.requires.good c.steps-address.result.now c.steps-address.ensures c.hyps_before.result.now c.hyps_before.ensures c.in-Some.t.now c.in-Some.ensures
    (record { term = c.in-Some-site_at.site.term.now; scope = c.in-Some-site_at.site.scope }) c.in-Some-site_at.ensures c.is_barred.result c.is_barred.ensures c.if-is_barred.false
    c.in-Ok.matched c.in-Some-matched.inst c.in-Some-matched.is c.in-Ok.ensures.instance

pub build_kids-requires-clause-conditions : goal.build_kids-requires-clause-conditions
build_kids-requires-clause-conditions c =
    conditions_ready c.args.rewrite.now c.args.place.now c.args.address.now c.args.goal.now c.requires.rewrite c.requires.good c.steps-address.result.now c.steps-address.ensures c.hyps_before.result.now c.hyps_before.ensures c.in-Some.t.now c.in-Some.ensures
    (record { term = c.in-Some-site_at.site.term.now; scope = c.in-Some-site_at.site.scope }) c.in-Some-site_at.ensures c.is_barred.result c.is_barred.ensures c.if-is_barred.false
    c.in-Ok.matched c.in-Some-matched.inst c.in-Some-matched.is c.in-Ok.ensures.instance

pub returns-in-Ok-build_kids : goal.returns-in-Ok-build_kids
returns-in-Ok-build_kids c =
    kids_answer c.args.rewrite.now c.args.place.now c.args.address.now c.args.goal.now c.requires.rewrite c.requires.good c.steps-address.result.now c.steps-address.ensures c.hyps_before.result.now c.hyps_before.ensures c.in-Some.t.now c.in-Some.ensures
    (record { term = c.in-Some-site_at.site.term.now; scope = c.in-Some-site_at.site.scope }) c.in-Some-site_at.ensures c.is_barred.result c.is_barred.ensures c.if-is_barred.false
    c.in-Ok.matched c.in-Some-matched.inst c.in-Some-matched.is c.in-Ok.ensures.instance c.in-Ok-build_kids.kids c.in-Ok-build_kids.ensures.0 c.in-Ok-build_kids.ensures.1

pub returns-in-Err-TooLarge : goal.returns-in-Err-TooLarge
returns-in-Err-TooLarge c =
    large_answer c.args.rewrite.now c.args.place.now c.args.address.now c.args.goal.now c.requires.rewrite c.requires.good c.steps-address.result.now c.steps-address.ensures c.hyps_before.result.now c.hyps_before.ensures c.in-Some.t.now c.in-Some.ensures
    (record { term = c.in-Some-site_at.site.term.now; scope = c.in-Some-site_at.site.scope }) c.in-Some-site_at.ensures c.is_barred.result c.is_barred.ensures c.if-is_barred.false
    c.in-Ok.matched c.in-Some-matched.inst c.in-Some-matched.is c.in-Ok.ensures.instance (rw c.in-Err-TooLarge.field-0-is at c.in-Err-TooLarge.ensures)

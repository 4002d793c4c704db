use Rattle.std.proofs.Common.{sym, ◌≡◌, Some, None, arith}
use Rattle.mp_term.proofs.Renaming.{few_levels}
use Rattle.mp_schema.specs.Values.{find_meta}
use Rattle.mp_match.proofs.Steps.{meta_none, meta_known, meta_new}
use Rattle.mp_match.proofs.patterns.match_meta.Goals as goal

pub len-requires : goal.len-requires
len-requires c = let few = few_levels c.args.levels.now c.args.scope c.requires.distinct c.requires.below in omega (arith, few)

pub returns-in-None : goal.returns-in-None
returns-in-None c =
    meta_none c.args.levels.now c.args.scope c.args.t.now c.requires.distinct c.requires.below c.requires.scoped c.args.name c.args.found.now
    (rw c.in-None.is at c.in_ok-unrename.ensures.inverse)

pub returns-in-Some-get : goal.returns-in-Some-get
returns-in-Some-get c =
    let there : find_meta c.args.found.now.metas c.args.name ≡ Some c.in-Some-get.value.now = sym c.in-Some-get.ensures in
    meta_known c.args.levels.now c.args.scope c.args.t.now c.requires.distinct c.requires.below c.requires.scoped c.args.name c.args.found.now
    c.in-Some.body c.in-Some-get.value.now c.same.result
    (rw c.in-Some.is at c.in_ok-unrename.ensures.inverse) there c.same.ensures

pub returns-in_ok-push-in-None-get : goal.returns-in_ok-push-in-None-get
returns-in_ok-push-in-None-get c =
    let none : find_meta c.args.found.now.metas c.args.name ≡ None = sym c.in-None-get.ensures in
    let e = meta_new c.args.levels.now c.args.scope c.args.t.now c.requires.distinct c.requires.below c.requires.scoped c.args.name c.args.found.now
    c.in-Some.body (rw c.in-Some.is at c.in_ok-unrename.ensures.inverse) none in
    rw (c.in_ok-push-in-None-get.ensures.ok, c.len.ensures) e

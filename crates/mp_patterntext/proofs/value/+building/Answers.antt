use Rattle.std.proofs.Common.{◌≡◌, ◌<◌, ◌++◌, ℕ, List, None, rules, refl, ap, sym, ◌∙◌, arith}
use Rattle.std.specs.Prelude.{unwrap_or}
use denote.Param.Weighed.{at_most, most}
use Rattle.mp_logic.specs.declared.sym.Sym.{Sym}
use Rattle.mp_words.specs.declared.raw.RawName.{RawName}
use Rattle.mp_termtext.specs.Statics.{level_of, names_of}
use Rattle.mp_patterntext.specs.declared.raw.RawParamPat.{RawParamPat}
use Rattle.mp_patterntext.specs.declared.raw.RawPatternBound.{RawPatternBound}
use Rattle.mp_patterntext.specs.declared.raw.RawPattern.{Meta, Op, RawPattern, the_lemmas}
use Rattle.mp_patterntext.specs.Scopes.{level_in}
use Rattle.mp_patterntext.specs.Values.{bound_of, pattern_of}
use Rattle.mp_patterntext.proofs.Narrow.{bound_faultless, first_argument, first_bound, level_fits, meta_faultless, op_faultless}
use Rattle.mp_patterntext.proofs.ValueWalks.{values_built}
use Rattle.mp_patterntext.proofs.raw.RawPatternBound.TheLaws as bound_size
use Rattle.mp_patterntext.proofs.raw.RawPattern.TheLaws as pattern_size
use Rattle.mp_patterntext.proofs.value.+building.Goals as goal

body_strictly : (b : RawPatternBound) → pattern_size.the_size b.body < bound_size.the_size b
body_strictly b = search (rules, the_lemmas)

subs_below : (n : Sym) (ps : List RawParamPat) (ks : List RawPatternBound) (l : ℕ) → most bound_size.the_size ks < pattern_size.the_size (Op n ps ks l)
subs_below n ps ks l = search (rules, the_lemmas)

args_below : (n : Sym) (cs : List RawName) (xs : List RawPattern) (l : ℕ) → most pattern_size.the_size xs < pattern_size.the_size (Meta n cs xs l)
args_below n cs xs l = search (rules, the_lemmas)

pub build_args-build_pattern-requires : goal.build_args-build_pattern-requires
build_args-build_pattern-requires t c =
    let x = c.arg-item.result in
    let m = rw (sym c.arg-item.is) at (at_most pattern_size.the_size c.args.args.now c.loop-arg.arg-index x c.loop-arg-test.true) in
    (omega (arith, m, c.decreases), (first_argument c.args.args.now c.loop-arg.arg-index x c.args.env.now.items c.loop-arg.env.items c.loop-arg-test.true c.arg-item.is c.loop-arg.invariant.kept c.loop-arg.invariant.faultless).0)

pub build_args-loop-arg-preserved : goal.build_args-loop-arg-preserved
build_args-loop-arg-preserved t c =
    let xs = c.args.args.now in
    let i = c.loop-arg.arg-index in
    let x = c.arg-item.result in
    let env = c.args.env.now.items in
    record {
      kept = ◌∙◌ {A = List Sym} c.in_ok-pattern.ensures.env c.loop-arg.invariant.kept;
      faultless = (first_argument xs i x env c.loop-arg.env.items c.loop-arg-test.true c.arg-item.is c.loop-arg.invariant.kept c.loop-arg.invariant.faultless).1;
      built = values_built pattern_of xs i x c.in_ok-pattern.pattern c.loop-arg.built c.push.new.self _ env c.loop-arg.env.items c.loop-arg-test.true c.arg-item.is c.loop-arg.invariant.kept c.in_ok-pattern.ensures.value c.in_default.ensures.ok c.loop-arg.invariant.built;
    }

pub build_bound-overflow_cast-result : goal.build_bound-overflow_cast-result
build_bound-overflow_cast-result t c =
    let few = (bound_faultless c.args.raw.now c.args.env.now.items _ refl c.requires.faultless).1 in
    let count = c.len.ensures in
    omega (arith, few, count)

pub build_bound-build_pattern-requires : goal.build_bound-build_pattern-requires
build_bound-build_pattern-requires t c =
    let s = body_strictly c.args.raw.now in
    let env = c.args.env.now.items in
    let now = c.in_ok-push_names.ensures ∙ ap (λ bs. env ++ names_of bs) c.as_slice.ensures in
    (omega (arith, s, c.decreases), (bound_faultless c.args.raw.now env c.push_names.new.env.items now c.requires.faultless).0)

pub build_bounds-build_bound-requires : goal.build_bounds-build_bound-requires
build_bounds-build_bound-requires t c =
    let k = c.sub-item.result in
    let m = rw (sym c.sub-item.is) at (at_most bound_size.the_size c.args.subs.now c.loop-sub.sub-index k c.loop-sub-test.true) in
    (omega (arith, m, c.decreases), (first_bound c.args.subs.now c.loop-sub.sub-index k c.args.env.now.items c.loop-sub.env.items c.loop-sub-test.true c.sub-item.is c.loop-sub.invariant.kept c.loop-sub.invariant.faultless).0)

pub build_bounds-loop-sub-preserved : goal.build_bounds-loop-sub-preserved
build_bounds-loop-sub-preserved t c =
    let ks = c.args.subs.now in
    let i = c.loop-sub.sub-index in
    let k = c.sub-item.result in
    let env = c.args.env.now.items in
    record {
      kept = ◌∙◌ {A = List Sym} c.in_ok-bound.ensures.env c.loop-sub.invariant.kept;
      faultless = (first_bound ks i k env c.loop-sub.env.items c.loop-sub-test.true c.sub-item.is c.loop-sub.invariant.kept c.loop-sub.invariant.faultless).1;
      built = values_built bound_of ks i k c.in_ok-bound.bound c.loop-sub.built c.push.new.self _ env c.loop-sub.env.items c.loop-sub-test.true c.sub-item.is c.loop-sub.invariant.kept c.in_ok-bound.ensures.value c.in_default.ensures.ok c.loop-sub.invariant.built;
    }

pub build_pattern-overflow_cast-result : goal.build_pattern-overflow_cast-result
build_pattern-overflow_cast-result t c =
    let env = c.args.env.now.items in
    let fits = level_fits c.args.raw.now c.in-Var.name c.in-Var.at env c.in-Var.is c.requires.faultless in
    let level : c.unwrap_or-level.result ≡ unwrap_or (level_in env c.in-Var.name) 0 = c.unwrap_or-level.ensures ∙ ap (λ o. unwrap_or o 0) (c.level_of.ensures ∙ ap (λ ns. level_of 0 ns c.in-Var.name None) c.as_slice.ensures.value) in
    omega (arith, fits, level)

pub build_pattern-build_bounds-requires : goal.build_pattern-build_bounds-requires
build_pattern-build_bounds-requires t c =
    let x = c.in-Op in
    let w : most bound_size.the_size c.as_slice-in-Op.result.now < pattern_size.the_size c.args.raw.now = rw (x.is, c.as_slice-in-Op.ensures) (subs_below x.name x.params x.subs x.at) in
    (omega (arith, w, c.decreases), op_faultless c.args.raw.now x.name x.params x.subs c.as_slice-in-Op.result.now x.at c.args.env.now.items x.is c.as_slice-in-Op.ensures c.requires.faultless)

pub build_pattern-build_args-requires : goal.build_pattern-build_args-requires
build_pattern-build_args-requires t c =
    let x = c.in-Meta in
    let w : most pattern_size.the_size c.as_slice-in-Meta-2.result.now < pattern_size.the_size c.args.raw.now = rw (x.is, c.as_slice-in-Meta-2.ensures) (args_below x.name x.ctxs x.args x.at) in
    (omega (arith, w, c.decreases), meta_faultless c.args.raw.now x.name x.ctxs x.args c.as_slice-in-Meta-2.result.now x.at c.args.env.now.items x.is c.as_slice-in-Meta-2.ensures c.requires.faultless)

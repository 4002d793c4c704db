use Rattle.std.proofs.Common.{◌≡◌, ◌<◌, ℕ, List, rules, refl, ap, sym, ◌∙◌, map, arith, subst}
use Rattle.std.proofs.lemmas.Grind.{common_steps}
use denote.Param.Weighed.{at_most, most}
use Rattle.mp_logic.specs.declared.sym.Sym.{Sym}
use Rattle.mp_termtext.specs.declared.raw.RawParam.{RawParam}
use Rattle.mp_termtext.specs.declared.raw.RawBound.{RawBound}
use Rattle.mp_termtext.specs.declared.raw.RawTerm.{Op, the_lemmas}
use Rattle.mp_termtext.proofs.raw.RawBound.TheLaws as bound_size
use Rattle.mp_termtext.proofs.raw.RawTerm.TheLaws as raw_size
use Rattle.mp_term.specs.declared.term.Term as term
use Rattle.mp_termtext.specs.Statics.{level_of}
use Rattle.std.specs.Prelude.{unwrap_or}
use Rattle.mp_termtext.specs.Values.{AreFaultless, bound_value_of, each_subterm_value, value_of}
use Rattle.mp_termtext.proofs.Faultless.{body_faultless, first_faultless, level_fits, subs_faultless}
use Rattle.mp_termtext.proofs.RawLayers.{value-Op}
use Rattle.mp_termtext.proofs.ValueSteps.{values_next}
use Rattle.mp_termtext.proofs.value.+building.Goals as goal

pub build_bound-overflow_cast-result : goal.build_bound-overflow_cast-result
build_bound-overflow_cast-result t c =
    let few = (body_faultless c.args.free c.args.raw.now c.args.env.now.items _ refl c.requires.faultless).1 in
    let count = c.len.ensures in
    omega (arith, few, count)

pub build_term-overflow_cast-result : goal.build_term-overflow_cast-result
build_term-overflow_cast-result t c =
    let env = c.args.env.now.items in
    let fits = level_fits c.args.free c.args.raw.now c.in-Var.name c.in-Var.numbered c.in-Var.at env c.in-Var.is c.requires.free c.requires.faultless in
    let level : c.unwrap_or-level.result ≡ unwrap_or (level_of c.args.free env c.in-Var.name c.in-Var.numbered) 0 =
    c.unwrap_or-level.ensures ∙ ap (λ o. unwrap_or o 0) (c.level_of.ensures ∙ ap (λ ns. level_of c.args.free ns c.in-Var.name c.in-Var.numbered) c.as_slice.ensures.value) in
    omega (arith, fits, level)

pub build_term-loop-sub-init : goal.build_term-loop-sub-init
build_term-loop-sub-init t c =
    let env = c.args.env.now.items in
    let subs = subs_faultless c.args.free c.args.raw.now c.in-Op.name c.in-Op.params c.in-Op.subs c.in-Op.at env c.in-Op.is c.requires.faultless in
    record {
      kept = refl;
      faultless = subst (λ ks. AreFaultless c.args.free ks env) (sym c.as_slice-sub-items.ensures) subs;
      built = grind (arith, common_steps);
    }

subs_below : (n : Sym) (ps : List RawParam) (ks : List RawBound) (l : ℕ) → most bound_size.the_size ks < raw_size.the_size (Op n ps ks l)
subs_below n ps ks l = search (rules, the_lemmas)

pub build_term-build_bound-requires : goal.build_term-build_bound-requires
build_term-build_bound-requires t c =
    let both = first_faultless c.args.free c.as_slice-sub-items.result.now c.loop-sub.sub-index c.sub-item.result c.args.env.now.items c.loop-sub.env.items c.loop-sub-test.true c.sub-item.is c.loop-sub.invariant.kept c.loop-sub.invariant.faultless in
    let m = rw (sym c.sub-item.is) at (at_most bound_size.the_size c.as_slice-sub-items.result.now c.loop-sub.sub-index c.sub-item.result c.loop-sub-test.true) in
    let w : most bound_size.the_size c.as_slice-sub-items.result.now < raw_size.the_size c.args.raw.now = rw (c.in-Op.is, c.as_slice-sub-items.ensures) (subs_below c.in-Op.name c.in-Op.params c.in-Op.subs c.in-Op.at) in
    (omega (arith, m, w, c.decreases), (c.requires.free, both.0))

pub build_term-loop-sub-preserved : goal.build_term-loop-sub-preserved
build_term-loop-sub-preserved t c =
    let ks = c.as_slice-sub-items.result.now in
    let i = c.loop-sub.sub-index in
    let env = c.args.env.now.items in
    record {
      kept = c.in_ok-bound-in-Op.ensures.env ∙ c.loop-sub.invariant.kept;
      faultless = (first_faultless c.args.free ks i c.sub-item.result env c.loop-sub.env.items c.loop-sub-test.true c.sub-item.is c.loop-sub.invariant.kept c.loop-sub.invariant.faultless).1;
      built = values_next c.args.free ks i c.sub-item.result c.in_ok-bound-in-Op.bound c.loop-sub.built c.push.new.self _ env c.loop-sub.env.items c.loop-sub-test.true c.sub-item.is c.loop-sub.invariant.kept c.in_ok-bound-in-Op.ensures.value c.in_default.ensures.ok c.loop-sub.invariant.built;
    }

pub build_term-returns-in_ok-subs-in-Op-clause-value : goal.build_term-returns-in_ok-subs-in-Op-clause-value
build_term-returns-in_ok-subs-in-Op-clause-value t c =
    let free = c.args.free in
    let env = c.args.env.now.items in
    let n = c.in-Op.name in
    let built : c.loop-sub.built ≡ each_subterm_value (map (bound_value_of free) c.in-Op.subs) env = grind (arith, common_steps) in
    let whole = c.in_ok-subs-in-Op.ensures ∙ built in
    ap (λ vs. term.Op n vs c.in_ok-subs-in-Op.subs) c.in_ok-params-in-Op.ensures ∙ ap (λ bs. term.Op n (map (λ p. p.value) c.in-Op.params) bs) whole ∙ sym (value-Op free n c.in-Op.params c.in-Op.subs c.in-Op.at env) ∙ ap (λ r. value_of free r env) (sym c.in-Op.is)

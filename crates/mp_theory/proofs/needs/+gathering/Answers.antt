use Rattle.std.proofs.Common.{rules, ◌≡◌, ◌<◌, ◌++◌, ◌∷◌, List, [], length, map, sym, arith}
use denote.Param.Weighed.{most}
use Rattle.mp_logic.specs.declared.sym.Sym.{Sym}
use Rattle.mp_schema.proofs.pattern.PBound.TheLaws.{the_size}
use Rattle.mp_schema.proofs.pattern.Pattern.TheLaws as pattern_size
use Rattle.mp_schema.specs.declared.pattern.ParamPat.{ParamPat}
use Rattle.mp_schema.specs.declared.pattern.PBound.{PBound}
use Rattle.mp_schema.specs.declared.pattern.Pattern.{Pattern, Op, Meta, the_lemmas}
use Rattle.mp_theory.specs.Needs.{all_uses, uses_of}
use Rattle.mp_theory.proofs.FewUses.{few_bodies, few_arguments}
use Rattle.mp_theory.proofs.Gathered.{then_ok, use_held}
use Rattle.mp_theory.proofs.Uses.{uses_of-Meta}
use Rattle.mp_theory.proofs.needs.+gathering.Goals as goal

bodies_below : (o : Sym) (ps : List ParamPat) (subs : List PBound) → most the_size subs < pattern_size.the_size (Op o ps subs)
bodies_below o ps subs = search (rules, the_lemmas)

args_below : (n : Sym) (cs : List Sym) (args : List Pattern) → most pattern_size.the_size args < pattern_size.the_size (Meta n cs args)
args_below n cs args = search (rules, the_lemmas)

pub gather_pattern-gather_bodies-requires : goal.gather_pattern-gather_bodies-requires
gather_pattern-gather_bodies-requires t c =
    let x = c.in-Op in
    let w : most the_size c.as_slice.result.now < pattern_size.the_size c.args.pattern.now = rw (x.is, c.as_slice.ensures) (bodies_below x.op x.params x.subs) in
    (omega (arith, w, c.decreases), rw c.as_slice.ensures (few_bodies x.op x.params x.subs (rw x.is at c.requires)))

pub gather_pattern-overflow_cast-len : goal.gather_pattern-overflow_cast-len
gather_pattern-overflow_cast-len t c =
    let few = (few_arguments c.in-Meta.name c.in-Meta.ctxs c.in-Meta.args (rw c.in-Meta.is at c.requires)).0 in
    let is = c.len.ensures in
    record { fits = omega arith }

pub gather_pattern-gather_arguments-requires : goal.gather_pattern-gather_arguments-requires
gather_pattern-gather_arguments-requires t c =
    let x = c.in-Meta in
    let w : most pattern_size.the_size c.as_slice-in-Meta.result.now < pattern_size.the_size c.args.pattern.now = rw (x.is, c.as_slice-in-Meta.ensures) (args_below x.name x.ctxs x.args) in
    (omega (arith, w, c.decreases), rw c.as_slice-in-Meta.ensures (few_arguments x.name x.ctxs x.args (rw x.is at c.requires)).1)

pub gather_pattern-returns-in_ok-join-in-Meta-clause-held : goal.gather_pattern-returns-in_ok-join-in-Meta-clause-held
gather_pattern-returns-in_ok-join-in-Meta-clause-held t c =
    let x = c.in-Meta in
    let rest = all_uses (map uses_of c.as_slice-in-Meta.result.now) in
    let uses : uses_of c.args.pattern.now ≡ record { name = x.name; ctxs = x.ctxs; arity = c.len.result } ∷ all_uses (map uses_of c.as_slice-in-Meta.result.now)
    = rw (x.is, c.len.ensures, c.as_slice-in-Meta.ensures) (uses_of-Meta x.name x.ctxs x.args) in
    then_ok c.gather_arguments.result _ _
    (use_held c.args.met.now c.join.new.met c.args.held.now c.join.new.held c.gather_arguments.new.held (record { name = x.name; ctxs = x.ctxs; arity = c.len.result }) rest (uses_of c.args.pattern.now)
    uses c.in_ok-join-in-Meta.ensures.held c.in_ok-join-in-Meta.ensures.met) c.gather_arguments.ensures.held

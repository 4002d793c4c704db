use Rattle.std.proofs.Common.{◌≡◌, ◌-◌, length, length-drop, ap, ◌∙◌, arith}
use Rattle.std.proofs.lemmas.Result.{IfOk-weaker}
use Rattle.mp_words.specs.declared.word.Mark.TheVariants as mark
use Rattle.mp_words.specs.Fronts.{is_mark}
use Rattle.mp_words.proofs.Steps.{fails_on, row_more, row_start, shorter_behind, stuck_at}
use Rattle.mp_termtext.specs.Grammar.{bound_by, bounds_by, params, subs_by, term}
use Rattle.mp_termtext.proofs.TermSteps.{in_params, in_subs, no_name, operator_is, reads_as, shorter_name, subs_behind, variable_is}
use Rattle.mp_termtext.proofs.syntax.+parsing.Goals as goal

pub parse_term-returns-in-Some-clause-reads : goal.parse_term-returns-in-Some-clause-reads
parse_term-returns-in-Some-clause-reads t c = variable_is c.in-Some.read.0 c.args.words.now c.in-Some.read.1.now c.in-Some.ensures.0 c.in-Some.ensures.1

pub parse_term-returns-in_default-name_at-clause-reads : goal.parse_term-returns-in_default-name_at-clause-reads
parse_term-returns-in_default-name_at-clause-reads t c =
    let ts = c.args.words.now in
    stuck_at (term ts) ts c.stuck.result c.stuck.ensures (no_name ts c.in_default.ensures c.in_default-name_at.ensures)

pub parse_term-returns-in-Err-clause-reads : goal.parse_term-returns-in-Err-clause-reads
parse_term-returns-in-Err-clause-reads t c =
    let ts = c.args.words.now in
    let name = c.in-Some-name_at in
    let us = name.rest.now in
    fails_on (params us) (term ts) (λ rest h. in_params name.field-0-0 ts us c.in_default.ensures name.ensures.0 name.ensures.1 rest h) c.in-Err.fail c.in-Err.ensures.reads

pub parse_term-returns-in-Err-parse_subs-clause-reads : goal.parse_term-returns-in-Err-parse_subs-clause-reads
parse_term-returns-in-Err-parse_subs-clause-reads t c =
    let ts = c.args.words.now in
    let name = c.in-Some-name_at in
    let vs = c.in-Ok.read.1.now in
    fails_on (subs_by term vs) (term ts) (λ rest h. in_subs name.field-0-0 ts name.rest.now c.in_default.ensures name.ensures.0 name.ensures.1 c.in-Ok.read.0 vs c.in-Ok.ensures.reads rest h) c.in-Err-parse_subs.fail c.in-Err-parse_subs.ensures.reads

pub parse_term-returns-in-Ok-parse_subs-clause-reads : goal.parse_term-returns-in-Ok-parse_subs-clause-reads
parse_term-returns-in-Ok-parse_subs-clause-reads t c =
    let name = c.in-Some-name_at in
    operator_is name.field-0-0 c.args.words.now name.rest.now c.in_default.ensures name.ensures.0 name.ensures.1 c.in-Ok.read.0 c.in-Ok.read.1.now c.in-Ok.ensures.reads c.in-Ok-parse_subs.subs c.in-Ok-parse_subs.rest.now c.in-Ok-parse_subs.ensures.reads

pub parse_term-returns-in-Ok-parse_subs-clause-shorter : goal.parse_term-returns-in-Ok-parse_subs-clause-shorter
parse_term-returns-in-Ok-parse_subs-clause-shorter t c =
    let name = c.in-Some-name_at in
    shorter_name name.field-0-0 c.args.words.now name.rest.now c.in-Ok.read.1.now c.in-Ok-parse_subs.rest.now name.ensures.0 name.ensures.1 c.in-Ok.ensures.within c.in-Ok-parse_subs.ensures.within

pub parse_subs-returns-in-Some-clause-reads : goal.parse_subs-returns-in-Some-clause-reads
parse_subs-returns-in-Some-clause-reads t c =
    let ts = c.args.words.now in
    let us = c.in-Some.inner.now in
    reads_as _ (subs_by term) (bounds_by term) ts us (subs_behind ts us c.in-Some.ensures.0 c.in-Some.ensures.1) c.parse_bounds.result c.parse_bounds.ensures.reads

pub parse_subs-returns-in-Some-clause-within : goal.parse_subs-returns-in-Some-clause-within
parse_subs-returns-in-Some-clause-within t c =
    let ts = c.args.words.now in
    let behind : length c.in-Some.inner.now ≡ length ts - 1 = ap length c.in-Some.ensures.1 ∙ length-drop 1 ts in
    IfOk-weaker c.parse_bounds.result _ _ (λ x h. omega (arith, h, behind)) c.parse_bounds.ensures.shorter

pub parse_bounds-loop-read-init : goal.parse_bounds-loop-read-init
parse_bounds-loop-read-init t c = record {
  left = row_start (bound_by term) (is_mark mark.Semicolon) (is_mark mark.CloseBrace) c.new-subs.result c.args.words.now c.new-subs.ensures;
  within = omega arith;
}

pub parse_bounds-loop-read-preserved : goal.parse_bounds-loop-read-preserved
parse_bounds-loop-read-preserved t c =
    let at = c.loop-read.at.now in
    let us = c.in-Ok.read.1.now in
    let next = c.in-Some-mark.next.now in
    let less = shorter_behind (is_mark mark.Semicolon) us next at c.in-Some-mark.ensures.0 c.in-Some-mark.ensures.1 c.in-Ok.ensures.shorter in
    record {
      left = row_more (bound_by term) (is_mark mark.Semicolon) (is_mark mark.CloseBrace) c.loop-read.subs at c.args.words.now c.push.new.self c.in-Ok.read.0 us next c.loop-read.invariant.left c.in-Ok-push.ensures.ok c.in-Ok.ensures.reads c.in_default.ensures c.in-Some-mark.ensures.0 c.in-Some-mark.ensures.1 less;
      within = (let before = c.loop-read.invariant.within in omega (arith, less, before));
    }

use Rattle.std.proofs.Common.{[], arith, ◌∙◌}
use Rattle.std.proofs.lemmas.Result.{IfOk-weaker}
use Rattle.mp_words.specs.Fronts.{capital_variable_at, is_mark, name_at}
use Rattle.mp_words.proofs.Steps.{fails_on, row_more, row_start, shorter_behind, stuck_at}
use Rattle.mp_patterntext.specs.Grammar.{arguments_by, pattern_bound_by, pattern_bounds_by, contexts, param_pats, pattern, raw_meta, raw_operator, pattern_subs_by}
use Rattle.mp_patterntext.proofs.PatternSteps.{drop_short, form_first, form_none, form_read, form_second, operator_is, reads_behind, second_order_is, shorter_form, variable_is}
use Rattle.mp_words.specs.declared.word.Mark.TheVariants as mark
use Rattle.mp_patterntext.proofs.pattern.+parsing.Goals as goal

pub parse_pattern-returns-in-Some-clause-reads : goal.parse_pattern-returns-in-Some-clause-reads
parse_pattern-returns-in-Some-clause-reads t c = variable_is c.in-Some.read.0 c.args.words.now c.in-Some.read.1.now c.in-Some.ensures.0 c.in-Some.ensures.1

pub parse_args-loop-read-init : goal.parse_args-loop-read-init
parse_args-loop-read-init t c = record {
  left = row_start pattern (is_mark mark.Semicolon) (is_mark mark.CloseBracket) c.new-args.result c.args.words.now c.new-args.ensures;
  within = omega arith;
}

pub parse_args-loop-read-preserved : goal.parse_args-loop-read-preserved
parse_args-loop-read-preserved t c =
    let at = c.loop-read.at.now in
    let us = c.in-Ok.read.1.now in
    let next = c.in-Some-mark.next.now in
    let less = shorter_behind (is_mark mark.Semicolon) us next at c.in-Some-mark.ensures.0 c.in-Some-mark.ensures.1 c.in-Ok.ensures.shorter in
    record {
      left = row_more pattern (is_mark mark.Semicolon) (is_mark mark.CloseBracket) c.loop-read.args at c.args.words.now c.push.new.self c.in-Ok.read.0 us next c.loop-read.invariant.left c.in-Ok-push.ensures.ok c.in-Ok.ensures.reads c.in_default.ensures c.in-Some-mark.ensures.0 c.in-Some-mark.ensures.1 less;
      within = (let before = c.loop-read.invariant.within in omega (arith, less, before));
    }

pub parse_bounds-loop-read-init : goal.parse_bounds-loop-read-init
parse_bounds-loop-read-init t c = record {
  left = row_start (pattern_bound_by pattern) (is_mark mark.Semicolon) (is_mark mark.CloseBrace) c.new-subs.result c.args.words.now c.new-subs.ensures;
  within = omega arith;
}

pub parse_bounds-loop-read-preserved : goal.parse_bounds-loop-read-preserved
parse_bounds-loop-read-preserved t c =
    let at = c.loop-read.at.now in
    let us = c.in-Ok.read.1.now in
    let next = c.in-Some-mark.next.now in
    let less = shorter_behind (is_mark mark.Semicolon) us next at c.in-Some-mark.ensures.0 c.in-Some-mark.ensures.1 c.in-Ok.ensures.shorter in
    record {
      left = row_more (pattern_bound_by pattern) (is_mark mark.Semicolon) (is_mark mark.CloseBrace) c.loop-read.subs at c.args.words.now c.push.new.self c.in-Ok.read.0 us next c.loop-read.invariant.left c.in-Ok-push.ensures.ok c.in-Ok.ensures.reads c.in_default.ensures c.in-Some-mark.ensures.0 c.in-Some-mark.ensures.1 less;
      within = (let before = c.loop-read.invariant.within in omega (arith, less, before));
    }

pub parse_pattern-returns-in-Err-clause-reads : goal.parse_pattern-returns-in-Err-clause-reads
parse_pattern-returns-in-Err-clause-reads t c =
    let ts = c.args.words.now in
    let n = c.in-Some-capital_variable_at.field-0-0 in
    let us = c.in-Some-capital_variable_at.rest.now in
    let first = c.in-Some-capital_variable_at.ensures in
    fails_on (contexts us) (pattern ts) (λ rest h. second_order_is ts c.in_default.ensures n first.0 ∙ form_first raw_meta capital_variable_at contexts (arguments_by pattern) ts n us first.0 first.1 rest h) c.in-Err.fail c.in-Err.ensures.reads

pub parse_pattern-returns-in-Ok-parse_arguments-clause-reads : goal.parse_pattern-returns-in-Ok-parse_arguments-clause-reads
parse_pattern-returns-in-Ok-parse_arguments-clause-reads t c =
    let ts = c.args.words.now in
    let n = c.in-Some-capital_variable_at.field-0-0 in
    let us = c.in-Some-capital_variable_at.rest.now in
    let first = c.in-Some-capital_variable_at.ensures in
    second_order_is ts c.in_default.ensures n first.0
    ∙ form_read raw_meta capital_variable_at contexts (arguments_by pattern) ts n us first.0 first.1 c.in-Ok.read.0 c.in-Ok.read.1.now c.in-Ok.ensures.reads c.in-Ok-parse_arguments.args c.in-Ok-parse_arguments.rest.now c.in-Ok-parse_arguments.ensures.reads

pub parse_pattern-returns-in-Ok-parse_arguments-clause-shorter : goal.parse_pattern-returns-in-Ok-parse_arguments-clause-shorter
parse_pattern-returns-in-Ok-parse_arguments-clause-shorter t c =
    let first = c.in-Some-capital_variable_at.ensures in
    shorter_form capital_variable_at c.in-Some-capital_variable_at.field-0-0 c.args.words.now c.in-Some-capital_variable_at.rest.now c.in-Ok.read.1.now c.in-Ok-parse_arguments.rest.now first.0 first.1 c.in-Ok.ensures.within c.in-Ok-parse_arguments.ensures.within

pub parse_pattern-returns-in-Err-parse_arguments-clause-reads : goal.parse_pattern-returns-in-Err-parse_arguments-clause-reads
parse_pattern-returns-in-Err-parse_arguments-clause-reads t c =
    let ts = c.args.words.now in
    let n = c.in-Some-capital_variable_at.field-0-0 in
    let us = c.in-Some-capital_variable_at.rest.now in
    let vs = c.in-Ok.read.1.now in
    let first = c.in-Some-capital_variable_at.ensures in
    fails_on (arguments_by pattern vs) (pattern ts)
    (λ rest h. second_order_is ts c.in_default.ensures n first.0 ∙ form_second raw_meta capital_variable_at contexts (arguments_by pattern) ts n us first.0 first.1 c.in-Ok.read.0 vs c.in-Ok.ensures.reads rest h) c.in-Err-parse_arguments.fail
    c.in-Err-parse_arguments.ensures.reads

pub parse_pattern-returns-in_default-name_at-clause-reads : goal.parse_pattern-returns-in_default-name_at-clause-reads
parse_pattern-returns-in_default-name_at-clause-reads t c =
    let ts = c.args.words.now in
    stuck_at (pattern ts) ts c.stuck.result c.stuck.ensures
    (operator_is ts c.in_default.ensures c.in_default-capital_variable_at.ensures ∙ form_none raw_operator name_at param_pats (pattern_subs_by pattern) ts c.in_default-name_at.ensures)

pub parse_pattern-returns-in-Err-parse_param_pats-clause-reads : goal.parse_pattern-returns-in-Err-parse_param_pats-clause-reads
parse_pattern-returns-in-Err-parse_param_pats-clause-reads t c =
    let ts = c.args.words.now in
    let us = c.in-Some-name_at.rest.now in
    let first = c.in-Some-name_at.ensures in
    fails_on (param_pats us) (pattern ts)
    (λ rest h. operator_is ts c.in_default.ensures c.in_default-capital_variable_at.ensures ∙ form_first raw_operator name_at param_pats (pattern_subs_by pattern) ts c.in-Some-name_at.field-0-0 us first.0 first.1 rest h) c.in-Err-parse_param_pats.fail
    c.in-Err-parse_param_pats.ensures.reads

pub parse_pattern-returns-in-Ok-parse_subs-clause-reads : goal.parse_pattern-returns-in-Ok-parse_subs-clause-reads
parse_pattern-returns-in-Ok-parse_subs-clause-reads t c =
    let ts = c.args.words.now in
    let first = c.in-Some-name_at.ensures in
    let read = c.in-Ok-parse_param_pats.read in
    operator_is ts c.in_default.ensures c.in_default-capital_variable_at.ensures
    ∙ form_read raw_operator name_at param_pats (pattern_subs_by pattern) ts c.in-Some-name_at.field-0-0 c.in-Some-name_at.rest.now first.0 first.1 read.0 read.1.now c.in-Ok-parse_param_pats.ensures.reads c.in-Ok-parse_subs.subs c.in-Ok-parse_subs.rest.now
    c.in-Ok-parse_subs.ensures.reads

pub parse_pattern-returns-in-Ok-parse_subs-clause-shorter : goal.parse_pattern-returns-in-Ok-parse_subs-clause-shorter
parse_pattern-returns-in-Ok-parse_subs-clause-shorter t c =
    let first = c.in-Some-name_at.ensures in
    shorter_form name_at c.in-Some-name_at.field-0-0 c.args.words.now c.in-Some-name_at.rest.now c.in-Ok-parse_param_pats.read.1.now c.in-Ok-parse_subs.rest.now first.0 first.1 c.in-Ok-parse_param_pats.ensures.within c.in-Ok-parse_subs.ensures.within

pub parse_pattern-returns-in-Err-parse_subs-clause-reads : goal.parse_pattern-returns-in-Err-parse_subs-clause-reads
parse_pattern-returns-in-Err-parse_subs-clause-reads t c =
    let ts = c.args.words.now in
    let us = c.in-Some-name_at.rest.now in
    let first = c.in-Some-name_at.ensures in
    let read = c.in-Ok-parse_param_pats.read in
    fails_on (pattern_subs_by pattern read.1.now) (pattern ts)
    (λ rest h. operator_is ts c.in_default.ensures c.in_default-capital_variable_at.ensures ∙ form_second raw_operator name_at param_pats (pattern_subs_by pattern) ts c.in-Some-name_at.field-0-0 us first.0 first.1 read.0 read.1.now c.in-Ok-parse_param_pats.ensures.reads rest h)
    c.in-Err-parse_subs.fail c.in-Err-parse_subs.ensures.reads

pub parse_subs-returns-in-Some-clause-reads : goal.parse_subs-returns-in-Some-clause-reads
parse_subs-returns-in-Some-clause-reads t c =
    reads_behind _ (is_mark mark.OpenBrace) [] (pattern_bounds_by pattern) c.args.words.now c.in-Some.inner.now c.in-Some.ensures.0 c.in-Some.ensures.1 c.parse_bounds.result c.parse_bounds.ensures.reads

pub parse_subs-returns-in-Some-clause-within : goal.parse_subs-returns-in-Some-clause-within
parse_subs-returns-in-Some-clause-within t c =
    let short = drop_short c.args.words.now c.in-Some.inner.now c.in-Some.ensures.1 in
    IfOk-weaker c.parse_bounds.result _ _ (λ x h. omega (arith, short, h)) c.parse_bounds.ensures.shorter

use Rattle.mp_words.proofs.Steps.{fails_on}
use Rattle.mp_schematext.specs.Grammar.{premises, rule, schema}
use Rattle.mp_schematext.proofs.RuleSteps.{rule_read, shorter_rule, stuck_conclusion, stuck_premises}
use Rattle.mp_schematext.proofs.rule.RawRuleReader.read.Goals as goal

pub returns-in-Err-listed-clause-reads : goal.returns-in-Err-listed-clause-reads
returns-in-Err-listed-clause-reads c =
    let ts = c.args.words.now in
    let vs = c.in-Some.rest.now in
    fails_on (premises vs) (rule ts) (stuck_premises ts c.in-Ok.read.1.now vs c.in-Ok.read.0 c.in-Ok.ensures.reads c.in-Some.ensures.0 c.in-Some.ensures.1) c.in-Err-listed.fail c.in-Err-listed.ensures.reads

pub returns-in-Ok-read-clause-reads : goal.returns-in-Ok-read-clause-reads
returns-in-Ok-read-clause-reads c =
    let listed = c.in-Ok-listed.read in
    rule_read c.args.words.now c.in-Ok.read.1.now c.in-Some.rest.now c.in-Ok.read.0 c.in-Ok.ensures.reads c.in-Some.ensures.0 c.in-Some.ensures.1 listed.0 listed.1.now c.in-Ok-listed.ensures.reads c.in-Ok-read.concl c.in-Ok-read.rest.now c.in-Ok-read.ensures.reads

pub returns-in-Ok-read-clause-shorter : goal.returns-in-Ok-read-clause-shorter
returns-in-Ok-read-clause-shorter c =
    shorter_rule c.args.words.now c.in-Ok.read.1.now c.in-Some.rest.now c.in-Ok-listed.read.1.now c.in-Ok-read.rest.now c.in-Some.ensures.1 c.in-Ok.ensures.shorter c.in-Ok-listed.ensures.shorter c.in-Ok-read.ensures.shorter

pub returns-in-Err-read-clause-reads : goal.returns-in-Err-read-clause-reads
returns-in-Err-read-clause-reads c =
    let ts = c.args.words.now in
    let listed = c.in-Ok-listed.read in
    fails_on (schema listed.1.now) (rule ts)
    (stuck_conclusion ts c.in-Ok.read.1.now c.in-Some.rest.now c.in-Ok.read.0 c.in-Ok.ensures.reads c.in-Some.ensures.0 c.in-Some.ensures.1 listed.0 listed.1.now c.in-Ok-listed.ensures.reads) c.in-Err-read.fail c.in-Err-read.ensures.reads

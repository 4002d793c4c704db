use Rattle.std.proofs.Common.{◌≡◌, ◌-◌, length, length-drop, refl, sym, ap, ◌∙◌, true, arith}
use Rattle.mp_words.specs.declared.word.Mark.TheVariants as mark
use Rattle.mp_words.specs.Fronts.{is_mark}
use Rattle.mp_words.proofs.Steps.{fails_on, row_more, shorter_behind}
use Rattle.mp_scripttext.specs.Grammar.{begins_link, chain, link, strategy}
use Rattle.mp_scripttext.proofs.StrategySteps.{chain_begins, chain_done, chain_goes_on, chain_no_link, strategy_begins, strategy_done, strategy_goes_on, strategy_no_chain, strategy_no_other}
use Rattle.mp_scripttext.proofs.strategy.+parsing.Goals as goal

pub parse_chain-loop-alloc-init : goal.parse_chain-loop-alloc-init
parse_chain-loop-alloc-init t c = record {
  left = chain_begins c.in-Ok.read.0 c.new-links.result c.args.words.now c.in-Ok.read.1.now c.new-links.ensures c.in-Ok.ensures.reads;
  within = c.in-Ok.ensures.shorter;
}

pub parse_chain-returns-in-Err-parse_link-clause-reads : goal.parse_chain-returns-in-Err-parse_link-clause-reads
parse_chain-returns-in-Err-parse_link-clause-reads t c =
    let at = c.loop-alloc.at.now in
    let ts = c.args.words.now in
    let ahead : begins_link at ≡ true = sym c.link_ahead.ensures ∙ c.loop-alloc-test.true in
    fails_on (link at) (chain ts) (λ rest h. chain_no_link _ c.loop-alloc.links at ts c.loop-alloc.invariant.left rest ahead h) c.in-Err-parse_link.fail c.in-Err-parse_link.ensures.reads

pub parse_chain-loop-alloc-preserved : goal.parse_chain-loop-alloc-preserved
parse_chain-loop-alloc-preserved t c =
    let at = c.loop-alloc.at.now in
    let us = c.in-Ok-parse_link.read.1.now in
    let ahead : begins_link at ≡ true = sym c.link_ahead.ensures ∙ c.loop-alloc-test.true in
    let less = c.in-Ok-parse_link.ensures.shorter in
    record {
      left = chain_goes_on _ c.loop-alloc.links at c.args.words.now c.loop-alloc.invariant.left c.push.new.self c.in-Ok-parse_link.read.0 us c.in-Ok-push.ensures.ok ahead c.in-Ok-parse_link.ensures.reads less;
      within = (let before = c.loop-alloc.invariant.within in omega (arith, less, before));
    }

pub parse_chain-returns-clause-reads : goal.parse_chain-returns-clause-reads
parse_chain-returns-clause-reads t c =
    chain_done _ c.loop-alloc.links c.loop-alloc.at.now c.args.words.now c.loop-alloc.invariant.left c.front-place.result c.front-place.ensures (sym c.link_ahead.ensures ∙ c.loop-alloc-test.false)

pub parse_strategies-loop-read-preserved : goal.parse_strategies-loop-read-preserved
parse_strategies-loop-read-preserved t c =
    let at = c.loop-read.at.now in
    let us = c.in-Ok.read.1.now in
    let next = c.in-Some-mark.next.now in
    let less = shorter_behind (is_mark mark.Semicolon) us next at c.in-Some-mark.ensures.0 c.in-Some-mark.ensures.1 c.in-Ok.ensures.shorter in
    record {
      left = row_more strategy (is_mark mark.Semicolon) (is_mark mark.CloseBracket) c.loop-read.items at c.args.words.now c.push.new.self c.in-Ok.read.0 us next c.loop-read.invariant.left c.in-Ok-push.ensures.ok c.in-Ok.ensures.reads c.in_default.ensures c.in-Some-mark.ensures.0 c.in-Some-mark.ensures.1 less;
      within = (let before = c.loop-read.invariant.within in omega (arith, less, before));
    }

pub parse_strategy-returns-in-Err-clause-reads : goal.parse_strategy-returns-in-Err-clause-reads
parse_strategy-returns-in-Err-clause-reads t c =
    let ts = c.args.words.now in
    fails_on (chain ts) (strategy ts) (λ rest h. strategy_no_chain ts rest h) c.in-Err.fail c.in-Err.ensures.reads

pub parse_strategy-loop-rest-init : goal.parse_strategy-loop-rest-init
parse_strategy-loop-rest-init t c = record {
  left = strategy_begins c.in-Ok.read.0 c.args.words.now c.in-Ok.read.1.now c.in-Ok.ensures.reads;
  within = c.in-Ok.ensures.shorter;
}

pub parse_strategy-returns-in-Err-parse_chain-clause-reads : goal.parse_strategy-returns-in-Err-parse_chain-clause-reads
parse_strategy-returns-in-Err-parse_chain-clause-reads t c =
    let at = c.loop-rest.at.now in
    let ts = c.args.words.now in
    let us = c.in-Some.rest.now in
    fails_on (chain us) (strategy ts) (λ rest h. strategy_no_other c.loop-rest.strategy at ts c.loop-rest.invariant.left us c.in-Some.ensures.0 c.in-Some.ensures.1 rest h) c.in-Err-parse_chain.fail c.in-Err-parse_chain.ensures.reads

pub parse_strategy-loop-rest-preserved : goal.parse_strategy-loop-rest-preserved
parse_strategy-loop-rest-preserved t c =
    let at = c.loop-rest.at.now in
    let us = c.in-Some.rest.now in
    let vs = c.in-Ok-parse_chain.read.1.now in
    let behind : length us ≡ length at - 1 = ap length c.in-Some.ensures.1 ∙ length-drop 1 at in
    let shorter = c.in-Ok-parse_chain.ensures.shorter in
    record {
      left = strategy_goes_on c.loop-rest.strategy at c.args.words.now c.loop-rest.invariant.left us c.in-Some.ensures.0 c.in-Some.ensures.1 _ c.in-Ok-parse_chain.read.0 vs refl refl c.in-Ok-push.ensures.ok c.in-Ok-parse_chain.ensures.reads (omega (arith, behind, shorter));
      within = (let before = c.loop-rest.invariant.within in omega (arith, behind, shorter, before));
    }

pub parse_strategy-returns-clause-reads : goal.parse_strategy-returns-clause-reads
parse_strategy-returns-clause-reads t c = strategy_done c.loop-rest.strategy c.loop-rest.at.now c.args.words.now c.loop-rest.invariant.left c.in_default.ensures

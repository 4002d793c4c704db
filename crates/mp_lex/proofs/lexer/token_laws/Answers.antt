use Rattle.mp_lex.proofs.FirstFault.{before_fault}
use Rattle.mp_lex.proofs.Passes.{found_all}
use Rattle.mp_lex.proofs.TokenLaws.{all_longest, between, few, kinds, order, spans}
use Rattle.mp_lex.proofs.lexer.token_laws.Goals as goal

pub returns-clause-tokens : goal.returns-clause-tokens
returns-clause-tokens c source ts e = record {
  spans = spans source ts e;
  kinds = kinds source ts e;
  longest = all_longest source ts e;
  order = order source ts e;
  between = between source ts e;
  few = few source ts e;
}

pub returns-clause-fault : goal.returns-clause-fault
returns-clause-fault c source at why e = before_fault source at why e

pub returns-clause-found : goal.returns-clause-found
returns-clause-found c source ts e = found_all source ts e

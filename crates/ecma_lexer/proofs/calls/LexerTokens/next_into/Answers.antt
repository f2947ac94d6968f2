use Rattle.ecma_lexer.specs.Lexer.{state_in}
use Rattle.ecma_lexer.proofs.MachineLemmas.{puts_fall}
use Rattle.ecma_lexer.proofs.calls.LexerTokens.next_into.Goals as goal

pub returns-clause-falls : goal.returns-clause-falls
returns-clause-falls c = puts_fall (state_in c.args.self.now) (state_in c.next_into.new.self) c.next_into.new.ahead c.next_into.result c.next_into.ensures.step

use Rattle.ecma_lexer.specs.Lexer.{state_in}
use Rattle.ecma_lexer.proofs.MachineLemmas.{falls}
use Rattle.ecma_lexer.proofs.calls.LexerTokens.next.Goals as goal

pub returns-clause-falls : goal.returns-clause-falls
returns-clause-falls c = falls (state_in c.args.self.now) (state_in c.next.new.self) c.next.result c.next.ensures.step

use Rattle.base_token.specs.TokenViews.{token_view}
use Rattle.lex_token.specs.Lexemes.{text_in}
use Rattle.lex_token.proofs.SpelledLemmas.{no_word}
use Rattle.lex_token.proofs.lexeme.Lexeme.is_escaped_reserved.Goals as goal

pub returns-in-None : goal.returns-in-None
returns-in-None c = no_word c.args.context (text_in (token_view c.args.self.now.token).content) c.args.self.now.escaped c.in-None.ensures

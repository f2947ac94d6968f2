-- That token contexts which a lexer lends are others once the loan is over.
use mir.Syntax.{named}
use Rattle.std.specs.Prelude.{[]}
use Rattle.std.specs.Borrow.{Lends, MutBor, Fml}
use Rattle.lex_source.specs.Lending.{with_open}
use Rattle.lex_source.specs.declared.contexts.TokenContexts.{TokenContexts}
use Rattle.lex_source.specs.contracts.contexts.TokenContexts.{the_row as contexts_row}
use Rattle.ecma_lexer.specs.declared.lexer.Lexer.{Lexer}
use Rattle.ecma_lexer.specs.contracts.lexer.Lexer.{the_row as lexer_row}

-- the lexer with other token contexts, and all else as it is
abbrev pub lexer_with_open : Lexer → TokenContexts → Lexer
lexer_with_open x contexts = record x { settings = with_open x.settings contexts }

abbrev pub LendsContexts : MutBor Lexer → MutBor TokenContexts → Fml
LendsContexts s r = Lends (lexer_row (record { mir = named 1; lft = [] })) contexts_row s r (lexer_with_open s.now)

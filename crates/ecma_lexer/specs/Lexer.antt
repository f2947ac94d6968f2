-- What contracts see of a lexer.
use Rattle.std.specs.Prelude.{◌≡◌, Bool}
use Rattle.lex_comments.specs.declared.store.Comments.{Comments}
use Rattle.lex_source.specs.Settings.{settings_in}
use Rattle.lex_step_laws.specs.States.{State}
use Rattle.ecma_lexer.specs.declared.lexer.Lexer as code

-- a lexer at one moment
abbrev pub state_in : code.Lexer → State
state_in x = record { tokens = x.text; settings = settings_in x.settings }

-- whether memory ran out in it
abbrev pub is_full : code.Lexer → Bool
is_full x = x.full

-- whether it keeps comments
abbrev pub keeps_comments : code.Lexer → Bool
keeps_comments x = x.keeps

-- those that it kept so far
abbrev pub comments_in : code.Lexer → Comments
comments_in x = x.comments

-- What a lexer keeps beside its state stays: the comments, whether they are kept, and whether memory ran out.
pub record SameKept (old new : code.Lexer) : Type 0 where
  pub comments : comments_in new ≡ comments_in old
  pub keeps : keeps_comments new ≡ keeps_comments old
  pub full : is_full new ≡ is_full old

-- What a lexer looks ahead with.
use Rattle.lex_source.specs.Settings.{scout_of}
use Rattle.lex_step_laws.specs.States.{State}

-- the same text, with what the next two tokens depend on
abbrev pub scout_in : State → State
scout_in s = record s { settings = scout_of s.settings }

-- What a parser tells of the escapes of words: the statement of the law.
use Rattle.std.specs.Prelude.{◌≡◌, ◌≤◌, ℕ, Bool, List}
use Rattle.lex_pieces.specs.Places.{bytes}
use Rattle.lex_token.specs.declared.goal.LexicalGoal.{LexicalGoal}
use Rattle.lex_token.specs.Lexemes.{SpecLexeme, IsLexeme}
use Rattle.lex_step_laws.specs.States.{spot_at}
use Rattle.parse_state.specs.Cursors.{is_escaped}

-- A parser tells a word that is spelled with an escape by its span, which is longer than its text. It tells what the text has.
abbrev pub EscapesTold : Type 0
EscapesTold = (goal : LexicalGoal) (end : ℕ) (line_break : Bool) (text : List ℕ) (x : SpecLexeme) (rest : List ℕ) → bytes text ≤ end → IsLexeme goal text x rest
    → is_escaped (spot_at end line_break x.token text rest) ≡ x.escaped

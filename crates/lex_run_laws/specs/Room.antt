-- How many tokens may still come where no slash is read again.
use Rattle.std.specs.Prelude.{ℕ, ◌+◌, ◌*◌, length, Option, Some}
use Rattle.lex_token.specs.declared.goal.LexicalGoal.{LexicalGoal}
use Rattle.lex_token.specs.declared.goal.LexicalGoal.TheVariants.{TemplateTail}
use Rattle.lex_step_laws.specs.States.{Last, Fault, State, template_goal}

-- Two for each character left, since the characters of a template may be none; and one more where these come next.
abbrev pub room_under : Option LexicalGoal → ℕ → ℕ
room_under (Some TemplateTail) n = 2 * n + 1
room_under _ n = 2 * n

abbrev pub room_by : Last → Option LexicalGoal → ℕ → ℕ
room_by Fault goal n = 0
room_by _ goal n = room_under goal n

abbrev pub room : State → ℕ
room s = room_by s.tokens.last (template_goal s.settings.contexts s.tokens.last) (length s.tokens.left)

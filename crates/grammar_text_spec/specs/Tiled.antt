-- Tokens in their places that tile a text (ECMA-262, clause 12): trivia, a token under the lexical goal of its place, trivia, and so on to the end.
use Rattle.std.specs.Prelude.{◌≡◌, ◌⊎◌, ℕ, ◌+◌, Bool, true, false, ◌==◌, nat_le, if◌then◌else◌, List, [], ◌∷◌}
use Rattle.lex_pieces.specs.Places.{bytes}
use Rattle.lex_pieces.specs.Trivia.{IsSkipped, IsHashbang, NoHashbang}
use Rattle.lex_pieces.specs.declared.trivia.Goal.{Goal}
use Rattle.lex_pieces.specs.declared.trivia.Goal.TheVariants.{Script, Module}
use Rattle.lex_token.specs.declared.goal.LexicalGoal.{LexicalGoal}
use Rattle.lex_token.specs.declared.goal.LexicalGoal.TheVariants.{Div, RegExp, TemplateTail, TemplateEnd}
use Rattle.lex_token.specs.Lexemes.{SpecLexeme, IsLexeme}
use Rattle.lex_step_laws.specs.States.{shebang, spot_at}
use Rattle.grammar_spec.specs.Tokens.Input.{PlacedToken, regexp_goal, template_goal, template_end_goal}

-- the lexical goal of a place (clause 12)
abbrev pub goal_at : ℕ → LexicalGoal
goal_at g = if g == regexp_goal then RegExp else (if g == template_goal then TemplateTail else (if g == template_end_goal then TemplateEnd else Div))

-- the goal symbol of the whole text (clause 16), by which comments of the HTML form are told (B.1.1)
abbrev pub whole : Bool → Goal
whole modules = if modules then Module else Script

-- What stands before a token: all the trivia that is there, with a mark of whether it breaks the line; nothing among a template's characters and
-- before what ends them (12.2 to 12.4, 12.9.6).
abbrev pub IsBeforeBy : Bool → Goal → Bool → List ℕ → Bool → List ℕ → Type 0
IsBeforeBy true goal first text line_break from = (text ≡ from) × (line_break ≡ false)
IsBeforeBy false goal first text line_break from = IsSkipped goal first text line_break from

abbrev pub IsBefore : ℕ → Goal → Bool → List ℕ → Bool → List ℕ → Type 0
IsBefore g goal first text line_break from = IsBeforeBy (nat_le template_goal g) goal first text line_break from

-- A token in its place, with what stands before it; the text goes on with the rest, and ends at the place `end`. The token, its line break, its
-- place, and whether it is a word with an escape are those of the text.
abbrev pub IsTile : ℕ → Goal → Bool → List ℕ → PlacedToken → List ℕ → Type 0
IsTile end goal first text p rest = (line_break : Bool) × (from : List ℕ) × (x : SpecLexeme) × IsBefore p.goal goal first text line_break from
    × IsLexeme (goal_at p.goal) from x rest × (p.spot ≡ spot_at end line_break x.token from rest) × (p.escaped ≡ x.escaped)

-- such tokens up to the end of the text, before which trivia may stand
abbrev pub AreTiles : ℕ → Goal → Bool → List ℕ → List PlacedToken → Type 0
AreTiles end goal first text [] = (line_break : Bool) × IsSkipped goal first text line_break []
AreTiles end goal first text (p ∷ ps) = (rest : List ℕ) × IsTile end goal first text p rest × AreTiles end goal false rest ps

-- a hashbang (12.5), which stands at the very start
abbrev pub IsHashbangTile : ℕ → List ℕ → PlacedToken → List ℕ → Type 0
IsHashbangTile end text p rest = (own : List ℕ) × IsHashbang text own rest × (p.spot ≡ spot_at end false (shebang own).token text rest) × (p.escaped ≡ false)

abbrev pub AfterHashbang : ℕ → Goal → List ℕ → List PlacedToken → Type 0
AfterHashbang end goal text [] = ⊥
AfterHashbang end goal text (p ∷ ps) = (rest : List ℕ) × IsHashbangTile end text p rest × AreTiles end goal false rest ps

-- The tokens tile the text, whose characters begin at a place.
abbrev pub Tile : ℕ → Bool → List ℕ → List PlacedToken → Type 0
Tile start modules text ps = (NoHashbang text × AreTiles (start + bytes text) (whole modules) true text ps) ⊎ AfterHashbang (start + bytes text) (whole modules) text ps

-- Tokens and trivia that tile a text (ECMA-262, clause 12): trivia, a token, trivia and so on, up to its end.
use Rattle.std.specs.Prelude.{◌≡◌, ◌⊎◌, ℕ, Bool, false, List, [], ◌∷◌}
use Rattle.base_token.specs.Tokens.{Spot}
use Rattle.lex_pieces.specs.Trivia.{IsHashbang, IsSkipped}
use Rattle.lex_pieces.specs.declared.trivia.Goal.{Goal}
use Rattle.lex_token.specs.declared.goal.LexicalGoal.{LexicalGoal}
use Rattle.lex_token.specs.Lexemes.{SpecLexeme, IsLexeme}
use Rattle.lex_step_laws.specs.States.{shebang, spot_at}

-- Between two tokens stands nothing, or the whole run of trivia; and whether it breaks the line.
abbrev pub IsBetween : List ℕ → Bool → List ℕ → Type 0
IsBetween text line_break rest = ((text ≡ rest) × (line_break ≡ false))
    ⊎ ((goal : Goal) × (first : Bool) × IsSkipped goal first text line_break rest)

-- A token stands here, under some goal, or a hashbang.
abbrev pub IsHere : List ℕ → SpecLexeme → List ℕ → Type 0
IsHere text x rest = ((goal : LexicalGoal) × IsLexeme goal text x rest)
    ⊎ ((own : List ℕ) × IsHashbang text own rest × (x ≡ shebang own))

-- What stands between, and behind it a token in its place, which takes all up to the rest. The text runs to the place `end`.
abbrev pub IsTile : ℕ → List ℕ → Spot → List ℕ → Type 0
IsTile end text spot rest = (line_break : Bool) × (from : List ℕ) × (x : SpecLexeme) × IsBetween text line_break from × IsHere from x rest
    × (spot ≡ spot_at end line_break x.token from rest)

-- Such tiles, one after the other.
abbrev pub AreTiles : ℕ → List ℕ → List Spot → List ℕ → Type 0
AreTiles end text [] rest = text ≡ rest
AreTiles end text (spot ∷ spots) rest = (next : List ℕ) × IsTile end text spot next × AreTiles end next spots rest

-- They take the whole text, up to what stands behind the last token.
abbrev pub Tile : ℕ → List ℕ → List Spot → Type 0
Tile end text spots = (rest : List ℕ) × AreTiles end text spots rest × ((line_break : Bool) × IsBetween rest line_break [])

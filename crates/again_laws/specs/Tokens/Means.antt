-- What a text means as a token, and what is known of tokens that were read from a text.
use Rattle.std.specs.Prelude.{◌≡◌, ◌⊎◌, ℕ, Bool, true, false, List, [], ◌∷◌}
use Rattle.std.specs.Str.{chars}
use lib.Utf8.{scalars}
use Rattle.base_token.specs.Tokens.{Content}
use Rattle.lex_source.specs.Machine.{told}
use Rattle.lex_token.specs.declared.goal.LexicalGoal.{LexicalGoal}
use Rattle.lex_token.specs.Lexemes.{SpecLexeme, IsLexeme}
use Rattle.lex_step_laws.specs.States.{shebang}
use Rattle.grammar_spec.specs.Tokens.Input.{PlacedToken}
use Rattle.again_laws.specs.Tokens.Says.{IsOwn}

-- Under a lexical goal the text is a token of this kind, with this content, and spelled with an escape or not.
abbrev pub Means : LexicalGoal → List ℕ → ℕ → Content → Bool → Type 0
Means goal own kind content escaped = (x : SpecLexeme) × IsOwn goal (chars own) x
    × (kind ≡ (told x.token).kind) × (content ≡ (told x.token).content) × (escaped ≡ x.escaped)

-- A table has the texts of tokens by their kinds: each text is a token of its kind, without an escape.
abbrev pub TellsKinds : LexicalGoal → (ℕ → List ℕ) → Type 0
TellsKinds goal table = (k kind : ℕ) (content : Content) (escaped : Bool) → Means goal (table k) kind content escaped → (kind ≡ k) × (escaped ≡ false)

-- The token stands at the front of some text of scalar values, under some goal.
abbrev pub IsRead : PlacedToken → Type 0
IsRead p = (goal : LexicalGoal) × (from : List ℕ) × (x : SpecLexeme) × (behind : List ℕ) × (scalars from ≡ true)
    × IsLexeme goal from x behind × (p.spot.token ≡ told x.token) × (p.escaped ≡ x.escaped)

-- a hashbang of such a text (12.5)
abbrev pub IsHashbangRead : PlacedToken → Type 0
IsHashbangRead p = (own : List ℕ) × (scalars own ≡ true) × (p.spot.token ≡ told (shebang own).token)

-- Each of the tokens was read.
abbrev pub Known : List PlacedToken → Type 0
Known [] = Unit {0}
Known (p ∷ ps) = (IsRead p ⊎ IsHashbangRead p) × Known ps

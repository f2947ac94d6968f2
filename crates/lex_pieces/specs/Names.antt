-- Names (12.7), with escapes.
use Rattle.std.specs.Prelude.{◌≡◌, ◌≢◌, ℕ, Bool, true, false, ◌||◌, ◌⊎◌, List, [], ◌∷◌, ◌++◌, if◌then◌else◌, ◌==◌, encode_utf8_all}
use Rattle.std.specs.Char.{IsScalar}
use Rattle.base_token.specs.declared.error.Error.{Error}
use Rattle.base_token.specs.declared.error.SyntaxError.TheVariants.{ExpectedUnicodeEscape, InvalidIdentChar, InvalidUnicodeEscape}
use Rattle.lex_pieces.specs.Characters.{is_name_start, is_name_part}
use Rattle.lex_pieces.specs.Escapes.{IsDigits, IsEscape}
use Rattle.lex_pieces.specs.Places.{IsAt}
use Rattle.lex_pieces.specs.Runs.{Each, Ends}

-- what a name begins with, and what it goes on with
abbrev pub is_name_char : Bool → ℕ → Bool
is_name_char first c = if first then is_name_start c else is_name_part c

-- one character of a name, bare (IdentifierStartChar, IdentifierPartChar) or by an escape that stands for such a character
abbrev pub IsNameChar : Bool → List ℕ → ℕ → List ℕ → Type 0
IsNameChar first text c rest = (is_name_char first c ≡ true) × ((text ≡ c ∷ rest) ⊎ (IsScalar c × IsEscape text c rest))

abbrev pub is_nil : List ℕ → Bool
is_nil [] = true
is_nil (c ∷ cs) = false

-- These characters of a name are spelled at the front. The mark says that the first begins it.
abbrev pub Spell : Bool → List ℕ → List ℕ → List ℕ → Type 0
Spell first text [] rest = text ≡ rest
Spell first text (c ∷ cs) rest = (next : List ℕ) × IsNameChar first text c next × Spell false next cs rest

-- what a name goes on with, or a backslash
abbrev pub is_continuing : ℕ → Bool
is_continuing c = is_name_part c || c == 92

-- what a name begins with, or a backslash
abbrev pub is_opening : ℕ → Bool
is_opening c = is_name_start c || c == 92

-- a whole name (IdentifierName), by its characters without escapes
abbrev pub IsName : List ℕ → List ℕ → List ℕ → Type 0
IsName text name rest = (name ≢ []) × Spell true text name rest × Ends is_continuing rest

-- What is wrong at a backslash of a name: no escape begins there, with the backslash's own span; `\u` without digits, with the span of the
-- two; or an escape of what is no character that may stand there, with its whole span.
abbrev pub IsBad : ℕ → Bool → List ℕ → Error → Type 0
IsBad end first text e = (to : List ℕ) × IsAt end text to e.span
    × (((e.kind ≡ ExpectedUnicodeEscape) × (text ≡ 92 ∷ to) × ((rest : List ℕ) → to ≢ 117 ∷ rest))
    ⊎ (((e.kind ≡ InvalidUnicodeEscape) × (text ≡ 92 ∷ 117 ∷ to) × ((v : ℕ) (rest : List ℕ) → IsDigits to v rest → ⊥))
    ⊎ ((e.kind ≡ InvalidIdentChar) × ((v : ℕ) × IsEscape text v to × (IsScalar v → is_name_char first v ≡ true → ⊥)))))

-- after some characters of a name comes a bad backslash
abbrev pub IsFaultWithin : ℕ → Bool → List ℕ → Error → Type 0
IsFaultWithin end first text e = (cs : List ℕ) × (mid : List ℕ) × Spell first text cs mid × IsBad end (if is_nil cs then first else false) mid e

abbrev pub IsNameFault : ℕ → List ℕ → Error → Type 0
IsNameFault end text e = IsFaultWithin end true text e

abbrev pub NoName : List ℕ → Type 0
NoName text = (name : List ℕ) (rest : List ℕ) → IsName text name rest → ⊥

-- At most one name stands at the front of a text.
abbrev pub OneName : List ℕ → Type 0
OneName text = (a b r s : List ℕ) → IsName text a r → IsName text b s → (a ≡ b) × (r ≡ s)

-- a backslash behind characters that a name goes on with
abbrev pub HasEscape : List ℕ → Type 0
HasEscape text = (front : List ℕ) × (more : List ℕ) × (text ≡ front ++ 92 ∷ more) × Each is_name_part front

-- ---- the parts of a name

-- the characters of a name up to its first escape
abbrev pub IsBareFront : List ℕ → List ℕ → List ℕ → Type 0
IsBareFront text own rest = (text ≡ own ++ rest) × Spell true text own rest × Ends is_name_part rest × Each is_name_part own × (own ≡ [] → (more : List ℕ) × (rest ≡ 92 ∷ more))

-- the bytes of a name after a front of it
abbrev pub IsUnescaped : List ℕ → List ℕ → List ℕ → List ℕ → Type 0
IsUnescaped own text bytes rest = (cs : List ℕ) × (bytes ≡ encode_utf8_all (own ++ cs)) × Spell (is_nil own) text cs rest × Ends is_continuing rest

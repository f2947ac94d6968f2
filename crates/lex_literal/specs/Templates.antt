-- Pieces of templates (ECMA-262, 12.9.6): from behind a back quote or a closing brace up to a back quote or `${`.
use Rattle.std.specs.Prelude.{◌≡◌, ◌≢◌, ℕ, Bool, true, false, not, ◌&&◌, ◌||◌, ◌⊎◌, ◌==◌, List, [], ◌∷◌, ◌++◌, Option, Some, None, Result, Ok, Err, MatchResult, if◌then◌else◌}
use Rattle.std.specs.Char.Escape.{encode_utf16}
use Rattle.std.specs.List.{flat_map, list_any}
use Rattle.std.specs.Str.{chars}
use Rattle.base_token.specs.declared.error.Error.{Error}
use Rattle.base_token.specs.declared.error.SyntaxError.TheVariants.{Memory, UnterminatedTpl, LegacyOctal}
use Rattle.lex_literal.specs.declared.escape.Escape.{Escape}
use Rattle.lex_literal.specs.declared.escape.Escape.TheVariants.{Legacy}
use Rattle.lex_literal.specs.declared.template.Ending.{Ending}
use Rattle.lex_literal.specs.declared.template.Ending.TheVariants.{BackQuote, Substitution}
use Rattle.lex_literal.specs.declared.template.TemplatePiece.{TemplatePiece}
use Rattle.lex_literal.specs.Escapes.{begins, is_line_feed, IsEscape, NoEscape, bad_escape}
use Rattle.lex_pieces.specs.Places.{IsAt}
use Rattle.lex_literal.specs.Units.{escape_units, is_legacy}

-- TemplateCharacter: one that stands for itself, a line break that stands for LF, an escape, or a backslash and a
-- character with which no escape of templates begins (the rest of a NotEscapeSequence are characters of their own)
pub data Part : Type 0 where
  Bare : ℕ → Part
  Break : Part
  Escaped : Escape → Part
  Bad : ℕ → Part

-- neither a back quote nor a backslash nor CR
abbrev pub is_bare : ℕ → Bool
is_bare c = not (c == 96 || (c == 92 || c == 13))

abbrev pub is_brace : ℕ → Bool
is_brace c = c == 123

-- The text begins with this part, up to the rest.
abbrev pub Stands : Part → List ℕ → List ℕ → Type 0
Stands (Bare c) text r = (text ≡ c ∷ r) × (is_bare c ≡ true) × (c ≡ 36 → begins is_brace r ≡ false)
Stands Break text r = (text ≡ 13 ∷ 10 ∷ r) ⊎ ((text ≡ 13 ∷ r) × (begins is_line_feed r ≡ false))
Stands (Escaped e) text r = (m : List ℕ) × (text ≡ 92 ∷ m) × IsEscape e m r × (is_legacy e ≡ false)
Stands (Bad c) text r = (text ≡ 92 ∷ c ∷ r) × ((e : Escape) (s : List ℕ) → IsEscape e (c ∷ r) s → is_legacy e ≡ true)

-- It begins with these.
abbrev pub Parts : List Part → List ℕ → List ℕ → Type 0
Parts [] text r = text ≡ r
Parts (p ∷ ps) text r = (m : List ℕ) × Stands p text m × Parts ps m r

-- TV: the code units that a part stands for
abbrev pub part_units : Part → List ℕ
part_units (Bare c) = encode_utf16 c
part_units Break = 10 ∷ []
part_units (Escaped e) = escape_units e
part_units (Bad c) = []

abbrev pub is_bad : Part → Bool
is_bad (Bad c) = true
is_bad _ = false

-- the cooked units, and none where an escape is bad
abbrev pub cooked : List Part → Option (List ℕ)
cooked ps = if list_any is_bad ps then None else Some (flat_map part_units ps)

-- What ends a piece, and the rest behind it.
abbrev pub Ends : Ending → List ℕ → List ℕ → Type 0
Ends BackQuote text r = text ≡ 96 ∷ r
Ends Substitution text r = text ≡ 36 ∷ 123 ∷ r

-- These parts stand at the front of the text; then comes what ends the piece, and the rest.
abbrev pub IsPiece : List Part → Ending → List ℕ → List ℕ → Type 0
IsPiece ps ending text r = (m : List ℕ) × Parts ps text m × Ends ending m r

-- The text begins with a piece of this own text, of these cooked units, up to the rest behind what ends it.
abbrev pub SpellsPiece : List ℕ → Option (List ℕ) → Ending → List ℕ → List ℕ → Type 0
SpellsPiece own units ending text r = (ps : List Part) × (m : List ℕ) × Parts ps text m × Ends ending m r × (text ≡ own ++ m)
    × (units ≡ cooked ps)

-- No piece stands at the front of the text.
abbrev pub NoPiece : List ℕ → Type 0
NoPiece text = (ps : List Part) (ending : Ending) (r : List ℕ) → IsPiece ps ending text r → ⊥

-- The fault of a bad escape, whose backslash stands before t: it is no escape, or one of B.1.2.
abbrev pub IsBadEscape : ℕ → List ℕ → Error → Type 0
IsBadEscape end t e =
    (NoEscape t × (e.kind ≡ (bad_escape t).0) × IsAt end (92 ∷ t) (bad_escape t).1 e.span)
    ⊎ ((n : ℕ) × (r : List ℕ) × IsEscape (Legacy n) t r × (e.kind ≡ LegacyOctal) × IsAt end (92 ∷ t) r e.span)

-- The fault of the first bad escape of a piece.
abbrev pub IsFirstBad : ℕ → List ℕ → Error → Type 0
IsFirstBad end text e = (ps : List Part) × (c : ℕ) × (t : List ℕ) × Parts ps text (92 ∷ c ∷ t) × (list_any is_bad ps ≡ false)
    × IsBadEscape end (c ∷ t) e

-- What is known of a text from what reading a piece of a template answered.
abbrev pub ReadsPiece : ℕ → List ℕ → Result TemplatePiece Error → Type 0
ReadsPiece end text (Ok t) = MatchResult t.cooked
    (λ units. SpellsPiece (chars t.raw.now) (Some units) t.ending text (chars t.rest.now))
    (λ e. SpellsPiece (chars t.raw.now) None t.ending text (chars t.rest.now) × IsFirstBad end text e)
ReadsPiece end text (Err e) = e.kind ≢ Memory → NoPiece text × (e.kind ≡ UnterminatedTpl) × IsAt end text [] e.span

-- At most one piece stands at a front.
abbrev pub OnePiece : Type 0
OnePiece = (own other : List ℕ) (units others : Option (List ℕ)) (a b : Ending) (text r s : List ℕ)
    → SpellsPiece own units a text r → SpellsPiece other others b text s → (own ≡ other) × (units ≡ others) × (a ≡ b) × (r ≡ s)

-- ---- the raw text

-- TRV: the own text with LF for each CR LF and each other CR
abbrev pub line_feeds : List ℕ → List ℕ
line_feeds [] = []
line_feeds (c ∷ cs) = if c == 13 then (if begins is_line_feed cs then line_feeds cs else 10 ∷ line_feeds cs) else c ∷ line_feeds cs

-- the bytes of a raw text that was made, or of the own text where none was
abbrev pub raw_bytes : List ℕ → Option (List ℕ) → List ℕ
raw_bytes own None = own
raw_bytes own (Some made) = made

abbrev pub is_return : ℕ → Bool
is_return c = c == 13

-- ---- runs

-- the bare characters at the front, and what follows them
abbrev pub bare_run : List ℕ → List ℕ
bare_run [] = []
bare_run (c ∷ cs) = if is_bare c && not (c == 36 && begins is_brace cs) then c ∷ bare_run cs else []

abbrev pub after_bare : List ℕ → List ℕ
after_bare [] = []
after_bare (c ∷ cs) = if is_bare c && not (c == 36 && begins is_brace cs) then after_bare cs else c ∷ cs

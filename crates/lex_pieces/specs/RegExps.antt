-- Regular expressions (12.9.5).
use Rattle.std.specs.Prelude.{◌≡◌, ◌≢◌, ℕ, Bool, true, false, not, ◌&&◌, List, [], ◌∷◌, ◌++◌, Option, None, Some, if◌then◌else◌, ◌==◌}
use Rattle.base_token.specs.declared.error.Error.{Error}
use Rattle.base_token.specs.declared.error.SyntaxError.TheVariants.{UnterminatedRegExp}
use Rattle.lex_pieces.specs.Characters.{is_among, is_name_part}
use Rattle.lex_pieces.specs.Classes.{is_line_char}
use Rattle.lex_pieces.specs.Places.{IsAt}
use Rattle.lex_pieces.specs.Runs.{Ends, IsRun}

-- a character that stands for itself, or one after a backslash
pub data Mark : Type 0 where
  Bare : ℕ → Mark
  Escaped : ℕ → Mark

-- a part of a body: one character, or a class with its characters
pub data Part : Type 0 where
  One : Mark → Part
  Class : List Mark → Part

-- a character of a class that stands for itself (RegularExpressionClassChar)
abbrev pub is_class_char : ℕ → Bool
is_class_char c = is_line_char c && not (is_among (92 ∷ 93 ∷ []) c)

-- A character outside a class that stands for itself (RegularExpressionChar). A body begins with no star (RegularExpressionFirstChar).
abbrev pub is_body_char : Bool → ℕ → Bool
is_body_char first c = is_line_char c && (not (is_among (47 ∷ 91 ∷ 92 ∷ []) c) && not (first && c == 42))

-- a character in a class
abbrev pub InClass : Mark → Type 0
InClass (Bare c) = is_class_char c ≡ true
InClass (Escaped c) = is_line_char c ≡ true

-- the characters of a class (RegularExpressionClassChars)
abbrev pub EachInClass : List Mark → Type 0
EachInClass [] = Unit {0}
EachInClass (m ∷ ms) = InClass m × EachInClass ms

-- a part; what follows a backslash is no line terminator (RegularExpressionBackslashSequence)
abbrev pub IsPart : Bool → Part → Type 0
IsPart first (One (Bare c)) = is_body_char first c ≡ true
IsPart first (One (Escaped c)) = is_line_char c ≡ true
IsPart first (Class ms) = EachInClass ms

-- The parts of a body. The mark says that the first begins it.
abbrev pub EachPart : Bool → List Part → Type 0
EachPart first [] = Unit {0}
EachPart first (p ∷ ps) = IsPart first p × EachPart false ps

-- the spelling of a character, of characters, of a part and of parts, and then other characters
abbrev pub spelled : Mark → List ℕ → List ℕ
spelled (Bare c) cs = c ∷ cs
spelled (Escaped c) cs = 92 ∷ c ∷ cs

abbrev pub spelled_all : List Mark → List ℕ → List ℕ
spelled_all [] cs = cs
spelled_all (m ∷ ms) cs = spelled m (spelled_all ms cs)

abbrev pub spelled_part : Part → List ℕ → List ℕ
spelled_part (One m) cs = spelled m cs
spelled_part (Class ms) cs = 91 ∷ spelled_all ms (93 ∷ cs)

abbrev pub spelled_parts : List Part → List ℕ → List ℕ
spelled_parts [] cs = cs
spelled_parts (p ∷ ps) cs = spelled_part p (spelled_parts ps cs)

-- a body (RegularExpressionBody)
abbrev pub IsBody : List ℕ → Type 0
IsBody body = (ps : List Part) × (ps ≢ []) × EachPart true ps × (body ≡ spelled_parts ps [])

-- The text is a regular expression of this body and these flags, and then the rest. The flags are as many as there are (RegularExpressionFlags).
abbrev pub IsRegExp : List ℕ → List ℕ → List ℕ → List ℕ → Type 0
IsRegExp text body flags rest = IsBody body
    × ((after : List ℕ) × (text ≡ 47 ∷ body ++ 47 ∷ after) × IsRun is_name_part after flags rest)

abbrev pub NoRegExp : List ℕ → Type 0
NoRegExp text = (body flags rest : List ℕ) → IsRegExp text body flags rest → ⊥

-- what makes a slash before it open a comment
abbrev pub is_comment_mark : ℕ → Bool
is_comment_mark c = is_among (42 ∷ 47 ∷ []) c

-- a slash that opens no comment
abbrev pub IsOpenSlash : List ℕ → Type 0
IsOpenSlash text = (inner : List ℕ) × (text ≡ 47 ∷ inner) × Ends is_comment_mark inner

-- what is wrong where such a slash begins no regular expression: the text from there up to the end of the line
abbrev pub IsRegExpFault : ℕ → List ℕ → Error → Type 0
IsRegExpFault end text e = (e.kind ≡ UnterminatedRegExp) × IsOpenSlash text
    × ((line : List ℕ) × (rest : List ℕ) × IsRun is_line_char text line rest × IsAt end text rest e.span)

-- At most one regular expression stands at the front of a text.
abbrev pub OneRegExp : List ℕ → Type 0
OneRegExp text = (b d f g r s : List ℕ) → IsRegExp text b f r → IsRegExp text d g s → (b ≡ d) × (f ≡ g) × (r ≡ s)

-- ---- the same as functions

-- what follows a slash that opens no comment
abbrev pub past_slash : List ℕ → Option (List ℕ)
past_slash [] = None
past_slash (c ∷ []) = if c == 47 then Some [] else None
past_slash (c ∷ (d ∷ ds)) = if c == 47 then (if is_comment_mark d then None else Some (d ∷ ds)) else None

-- whether a class is open after the character
abbrev pub class_after : Bool → ℕ → Bool
class_after k c = if c == 91 then true else (if c == 93 then false else k)

-- What follows the slash that ends a body. The marks say that a backslash stands before the first character, and that a class is open.
abbrev pub past_body : Bool → Bool → List ℕ → Option (List ℕ)
past_body true k [] = None
past_body true k (c ∷ cs) = if is_line_char c then past_body false k cs else None
past_body false k [] = None
past_body false k (c ∷ cs) =
    if is_line_char c then
    (if c == 92 then past_body true k cs
    else (if c == 47 && not k then Some cs
    else past_body false (class_after k c) cs))
    else None

-- Some characters of a body, up to the rest of it. The marks say that a class is open before them, and after them.
pub record Goes (k : Bool) (cs : List ℕ) (l : Bool) (rest : List ℕ) : Type 0 where
  pub front : List ℕ
  pub whole : cs ≡ front ++ rest
  pub past : past_body false k cs ≡ past_body false l rest

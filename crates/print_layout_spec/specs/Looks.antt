-- What a layout is made of: pieces before whatever follows, by the settings of a look.
use Rattle.std.specs.Prelude.{ℕ, ◌-◌, Bool, true, false, not, ◌||◌, List, [], ◌∷◌, ◌++◌, None, codes}
use Rattle.base_token.specs.declared.place.BytePos.{BytePos}
use Rattle.base_token.specs.declared.place.Span.{Span}
use Rattle.print_layout_spec.specs.declared.look.Look.{Look}
use Rattle.print_pages_spec.specs.Pieces.{Piece, Text, Brace, Blank, Line, Deeper, Back, Semicolon, Commit, Mark}

-- What texts are together: one token that none of them is alone, or tokens that touch one another (clause 12).
pub data Meaning : Type 0 where
  -- a regular expression, by its body and its flags (12.9.5)
  regular_expression : List ℕ → List ℕ → Meaning
  -- characters of a template, and what ends them: a back quote or `${` (12.9.6)
  template_characters : List ℕ → Meaning
  template_end : List ℕ → Meaning
  -- a hashbang, by what stands behind `#!` (12.5)
  hashbang_comment : List ℕ → Meaning
  -- punctuators and words with nothing between them
  touching : List (List ℕ) → Meaning

-- what a part writes
pub data Laid : Type 0 where
  nothing : Laid
  one : Piece → Laid
  meant : Meaning → Laid
  -- a name of a variable, a label or a specifier, with the place where it was read
  named : BytePos → List ℕ → Laid
  both : Laid → Laid → Laid
  -- what can't be printed, which ends the list: nothing behind it is written
  refused : Laid

-- one part, and then another
infixr 35 ◌·◌
abbrev pub ◌·◌ : Laid → Laid → Laid
f · g = both f g

abbrev pub joined : List (List ℕ) → List ℕ
joined [] = []
joined (own ∷ others) = own ++ joined others

-- the texts that are written, one piece each: those of tokens that touch are one
abbrev pub texts_of : Meaning → List (List ℕ)
texts_of (regular_expression body flags) = codes "/" ∷ body ∷ codes "/" ∷ flags ∷ []
texts_of (template_characters own) = own ∷ []
texts_of (template_end own) = own ∷ []
texts_of (hashbang_comment own) = codes "#!" ∷ own ∷ []
texts_of (touching own) = joined own ∷ []

abbrev pub texts_before : List (List ℕ) → List Piece → List Piece
texts_before [] rest = rest
texts_before (own ∷ others) rest = Text None own ∷ texts_before others rest

-- the pieces, before those that follow
abbrev pub listed : Laid → List Piece → List Piece
listed nothing rest = rest
listed (one x) rest = x ∷ rest
listed (meant m) rest = texts_before (texts_of m) rest
listed (named pos own) rest = Commit ∷ Mark pos ∷ Text None own ∷ rest
listed (both f g) rest = listed f (listed g rest)
listed refused rest = []

-- whether something in it can't be printed
abbrev pub is_refused : Laid → Bool
is_refused nothing = false
is_refused (one x) = false
is_refused (meant m) = false
is_refused (named pos own) = false
is_refused (both f g) = is_refused f || is_refused g
is_refused refused = true

abbrev pub text : List ℕ → Laid
text bytes = one (Text None bytes)

abbrev pub brace : Laid
brace = one (Brace None)

abbrev pub blank : Laid
blank = one Blank

abbrev pub line_always : Laid
line_always = one Line

-- a semicolon that may go, and one that must stay
abbrev pub semi : Laid
semi = one (Semicolon None)

abbrev pub semi_kept : Laid
semi_kept = text (codes ";")

-- a semicolon that waits is written here
abbrev pub commit : Laid
commit = one Commit

abbrev pub when : Bool → Laid → Laid
when true f = f
when false f = nothing

-- ---- what formatting alone writes

abbrev pub formats : Look → Bool
formats look = not look.style.minify

abbrev pub gap : Look → Laid
gap look = when (formats look) blank

abbrev pub line : Look → Laid
line look = when (formats look) line_always

abbrev pub deeper : Look → Laid
deeper look = when (formats look) (one Deeper)

abbrev pub back : Look → Laid
back look = when (formats look) (one Back)

-- a blank that keeps two words apart, or that formatting writes
abbrev pub gap_or : Look → Bool → Laid
gap_or look word = when (word || formats look) blank

-- ---- marks: where a node starts, where it ends, and where its last character stands

abbrev pub start : Span → Laid
start span = one (Mark span.lo)

abbrev pub end : Span → Laid
end span = one (Mark span.hi)

abbrev pub last : Span → Laid
last span = one (Mark (record { 0 = span.hi.0 - 1 }))

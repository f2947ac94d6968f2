-- A layout whose texts are UTF-8.
use Rattle.std.proofs.Common.{◌≡◌, ℕ, Bool, true, false, ◌&&◌, if◌then◌else◌, List, [], ◌∷◌, Option, refl}
use Rattle.std.specs.Str.{IsUtf8}
use Rattle.std.proofs.lemmas.Bool.{and_parts}
use Rattle.base_token.specs.declared.place.Span.{Span}
use Rattle.print_pages_spec.specs.Pieces.{Piece, Text, Brace, Blank, Line, Deeper, Back, Semicolon, Commit, Mark}
use Rattle.print_pages_spec.specs.Utf8.{IsUtf8Piece, AreUtf8Pieces}
use Rattle.print_layout_spec.specs.Looks.{Laid, nothing, one, meant, named, both, refused, texts_of, texts_before, listed, when}
use Rattle.again_laws.proofs.tokens.Ascii.{ascii, is_ascii}

abbrev pub AreUtf8 : List (List ℕ) → Type 0
AreUtf8 [] = Unit {0}
AreUtf8 (own ∷ others) = IsUtf8 own × AreUtf8 others

-- each of its texts is
abbrev pub AllUtf8 : Laid → Type 0
AllUtf8 nothing = Unit {0}
AllUtf8 (one x) = IsUtf8Piece x
AllUtf8 (meant m) = AreUtf8 (texts_of m)
AllUtf8 (named pos own) = IsUtf8 own
AllUtf8 (both f g) = AllUtf8 f × AllUtf8 g
AllUtf8 refused = Unit {0}

pub record Textual (f : Laid) : Type 0 where
  pub so : AllUtf8 f

-- ---- its pieces

texts_listed : (texts : List (List ℕ)) (rest : List Piece) → AreUtf8 texts → AreUtf8Pieces rest → AreUtf8Pieces (texts_before texts rest)
texts_listed [] rest u r = r
texts_listed (own ∷ others) rest u r = (u.0, texts_listed others rest u.1 r)

pub pieces_listed : (f : Laid) (rest : List Piece) → AllUtf8 f → AreUtf8Pieces rest → AreUtf8Pieces (listed f rest)
pieces_listed nothing rest u r = r
pieces_listed (one x) rest u r = (u, r)
pieces_listed (meant m) rest u r = texts_listed (texts_of m) rest u r
pieces_listed (named pos own) rest u r = (tt, (tt, (u, r)))
pieces_listed (both f g) rest u r = pieces_listed f (listed g rest) u.0 (pieces_listed g rest u.1 r)
pieces_listed refused rest u r = tt

-- ---- fixed layouts, whose texts are ASCII

abbrev is_fixed_piece : Piece → Bool
is_fixed_piece (Text span bytes) = is_ascii bytes
is_fixed_piece x = true

abbrev are_fixed : List (List ℕ) → Bool
are_fixed [] = true
are_fixed (own ∷ others) = is_ascii own && are_fixed others

abbrev is_fixed : Laid → Bool
is_fixed nothing = true
is_fixed (one x) = is_fixed_piece x
is_fixed (meant m) = are_fixed (texts_of m)
is_fixed (named pos own) = is_ascii own
is_fixed (both f g) = is_fixed f && is_fixed g
is_fixed refused = true

piece_fixed : (x : Piece) → is_fixed_piece x ≡ true → IsUtf8Piece x
piece_fixed (Text span bytes) e = (ascii bytes e).utf8
piece_fixed (Brace span) e = tt
piece_fixed Blank e = tt
piece_fixed Line e = tt
piece_fixed Deeper e = tt
piece_fixed Back e = tt
piece_fixed (Semicolon span) e = tt
piece_fixed Commit e = tt
piece_fixed (Mark pos) e = tt

texts_fixed : (texts : List (List ℕ)) → are_fixed texts ≡ true → AreUtf8 texts
texts_fixed [] e = tt
texts_fixed (own ∷ others) e = let p = and_parts (is_ascii own) (are_fixed others) e in ((ascii own p.0).utf8, texts_fixed others p.1)

all_fixed : (f : Laid) → is_fixed f ≡ true → AllUtf8 f
all_fixed nothing e = tt
all_fixed (one x) e = piece_fixed x e
all_fixed (meant m) e = texts_fixed (texts_of m) e
all_fixed (named pos own) e = (ascii own e).utf8
all_fixed (both f g) e = let p = and_parts (is_fixed f) (is_fixed g) e in (all_fixed f p.0, all_fixed g p.1)
all_fixed refused e = tt

pub ok : {f : Laid} → is_fixed f ≡ true → Textual f
ok {f} e = record { so = all_fixed f e }

pub piece : {x : Piece} → is_fixed_piece x ≡ true → Textual (one x)
piece {x} e = record { so = piece_fixed x e }

-- ---- one behind another, and by a test

infixr 35 ◌▸◌
pub ◌▸◌ : {f g : Laid} → Textual f → Textual g → Textual (both f g)
a ▸ b = record { so = (a.so, b.so) }

-- a text of its own
pub given : {span : Option Span} {bytes : List ℕ} → IsUtf8 bytes → Textual (one (Text span bytes))
given u = record { so = u }

pub when_text : {f : Laid} (b : Bool) → Textual f → Textual (when b f)
when_text true x = x
when_text false x = ok refl

pub if_text : {f g : Laid} (b : Bool) → Textual f → Textual g → Textual (if b then f else g)
if_text true x y = x
if_text false x y = y

-- a fixed piece that a test asks for
pub maybe : (b : Bool) (x : Piece) → is_fixed_piece x ≡ true → Textual (when b (one x))
maybe b x e = when_text b (piece e)

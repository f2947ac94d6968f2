-- The text that is written, by its characters.
use Rattle.std.specs.Prelude.{◌≡◌, List, [], ◌∷◌, ℕ, map}
use Rattle.std.specs.Str.{chars, IsUtf8}
use Rattle.print_notes.specs.Slots.{LaidToken, Remark, Looks}
use Rattle.print_notes.specs.Woven as spec

-- ---- texts by their characters

abbrev pub token_chars : LaidToken → LaidToken
token_chars t = record t { before = chars t.before; own = chars t.own; indent = chars t.indent }

abbrev pub remark_chars : Remark → Remark
remark_chars r = record r { text = chars r.text }

abbrev pub looks_chars : Looks → Looks
looks_chars l = record l { line_end = chars l.line_end; step = chars l.step }

-- ---- texts are UTF-8

pub record IsTokenText (t : LaidToken) : Type 0 where
  pub before : IsUtf8 t.before
  pub own : IsUtf8 t.own
  pub indent : IsUtf8 t.indent

abbrev pub AreTokenTexts : List LaidToken → Type 0
AreTokenTexts [] = Unit {0}
AreTokenTexts (t ∷ ts) = IsTokenText t × AreTokenTexts ts

abbrev pub AreRemarkTexts : List Remark → Type 0
AreRemarkTexts [] = Unit {0}
AreRemarkTexts (r ∷ rs) = IsUtf8 r.text × AreRemarkTexts rs

pub record IsLookText (l : Looks) : Type 0 where
  pub line_end : IsUtf8 l.line_end
  pub step : IsUtf8 l.step

-- Of texts that are UTF-8 the text that is written is, and its characters are those that are written of their characters.
abbrev pub CharactersWoven : Type 0
CharactersWoven = (l : Looks) (lead : List ℕ) (ts : List LaidToken) (tail : List ℕ) (rs : List Remark)
    → IsLookText l → IsUtf8 lead → AreTokenTexts ts → IsUtf8 tail → AreRemarkTexts rs
    → IsUtf8 (spec.woven l lead ts tail rs) × (chars (spec.woven l lead ts tail rs) ≡ spec.woven (looks_chars l) (chars lead) (map token_chars ts) (chars tail) (map remark_chars rs))

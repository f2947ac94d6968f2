-- Where a byte of a text lies, by its line and its column. A text is a list of characters.
use Rattle.std.specs.Prelude.{ℕ, ◌+◌, ◌-◌, List, [], ◌∷◌, ◌++◌, if◌then◌else◌, ◌==◌, nat_le}
use Rattle.std.specs.Char.{len_utf8}
use Rattle.base_token.specs.declared.place.LineCol.{LineCol}
use Rattle.print_writers.specs.Lines.{ends_line, units}

-- the characters that end at or before an offset in bytes, and those after them
abbrev pub front : ℕ → List ℕ → List ℕ
front at [] = []
front at (c ∷ cs) = if nat_le (len_utf8 c) at then c ∷ front (at - len_utf8 c) cs else []

abbrev pub back : ℕ → List ℕ → List ℕ
back at [] = []
back at (c ∷ cs) = if nat_le (len_utf8 c) at then back (at - len_utf8 c) cs else c ∷ cs

-- how many of the characters xs end a line, where ys follow
abbrev pub line_ends : List ℕ → List ℕ → ℕ
line_ends [] ys = 0
line_ends (x ∷ xs) ys = (if ends_line x (xs ++ ys) then 1 else 0) + line_ends xs ys

-- the characters at the end of xs of which none ends a line, where ys follow: all after the last line end
abbrev pub last_line : List ℕ → List ℕ → List ℕ
last_line [] ys = []
last_line (x ∷ xs) ys = if line_ends (x ∷ xs) ys == 0 then x ∷ xs else last_line xs ys

-- The place after these characters, before those that follow. Lines and columns count from 0.
abbrev pub place_between : List ℕ → List ℕ → LineCol
place_between xs ys = record { line = line_ends xs ys; col = units (last_line xs ys) }

-- The place of a byte of a text. A byte inside a character has that character's place, and one past the end has the end's.
abbrev pub place_of : List ℕ → ℕ → LineCol
place_of text at = place_between (front at text) (back at text)

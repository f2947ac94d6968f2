-- Laws of lines and columns: their statements.
use Rattle.std.specs.Prelude.{◌≡◌, ℕ, Bool, false, ◌&&◌, List, [], ◌∷◌, ◌++◌, ◌==◌, length, Some, encode_utf8_all}
use Rattle.base_token.specs.declared.place.LineCol.{LineCol}
use Rattle.print_writers.specs.Lines.{begins_with_lf, after_text}
use Rattle.print_pages_spec.specs.Lines.Lines.{place_between, place_of}

-- whether the last character is CR
abbrev pub ends_with_cr : List ℕ → Bool
ends_with_cr [] = false
ends_with_cr (c ∷ []) = c == 13
ends_with_cr (c ∷ d ∷ cs) = ends_with_cr (d ∷ cs)

-- whether CR LF, which is one end of a line, is cut between these characters and those
abbrev pub is_cut : List ℕ → List ℕ → Bool
is_cut xs ys = ends_with_cr xs && begins_with_lf ys

-- Where the characters ds end, counted on from the place before them, is the place between them and what follows, unless CR LF is cut there.
abbrev pub PlacesGoOn : Type 0
PlacesGoOn = (xs ds ys : List ℕ) (p : LineCol) → is_cut ds ys ≡ false → after_text (place_between xs (ds ++ ys)) ds ≡ Some p → p ≡ place_between (xs ++ ds) ys

-- The place of the byte behind some characters is the place between them and what follows.
abbrev pub FrontsEnd : Type 0
FrontsEnd = (xs ys : List ℕ) → place_of (xs ++ ys) (length (encode_utf8_all xs)) ≡ place_between xs ys

-- How untagged templates are written (ECMA-262, 12.9.6): a piece of one, by its raw text.
use Rattle.std.specs.Prelude.{ℕ, zero, suc, Bool, false, not, ◌&&◌, ◌||◌, ◌==◌, nat_lt, nat_le, if◌then◌else◌, List, [], ◌∷◌, ◌++◌}
use Rattle.std.specs.List.{list_all}
use Rattle.std.specs.Str.Parse.{digits_value}
use Rattle.lex_literal.specs.Escapes.{begins, is_decimal, is_hex}
use Rattle.lex_literal.specs.Templates.{is_brace, line_feeds}
use Rattle.print_spelling.specs.declared.form.Form.{Form}
use Rattle.print_spelling.specs.declared.form.Form.TheVariants.{Bare, Letter, Nul, Hex, Four, Braced}
use Rattle.print_spelling.specs.declared.style.Style.{Style}
use Rattle.print_spelling.specs.Forms.{written}
use Rattle.print_spelling.specs.declared.template.part.Part.{Part}
use Rattle.print_spelling.specs.declared.template.part.Part.TheVariants.{Pair, Digits, Last, Nothing, Hexed, Code}

-- ---- the parts of a raw text, whose line ends are LF

-- a code that `\x` and two digits write: NUL and what is printed as if bare, but for a dollar, a backslash and a back
-- quote, which stay; others by two digits
abbrev pub is_kept_code : ℕ → Bool
is_kept_code v = v == 0x24 || (v == 0x5C || v == 0x60)

abbrev pub is_printed : ℕ → Bool
is_printed v = v == 0 || (nat_le 0x20 v && nat_lt v 0x7F)

abbrev pub hex_part : ℕ → ℕ → ℕ → Part
hex_part a b v = if is_kept_code v then Digits a b else (if is_printed v then Code v else Hexed v)

-- behind `\x`
abbrev pub behind_x : List ℕ → Part
behind_x [] = Pair 120
behind_x (a ∷ []) = Pair 120
behind_x (a ∷ (b ∷ cs)) = if is_hex a && is_hex b then hex_part a b (digits_value 16 (a ∷ b ∷ [])) else Pair 120

abbrev pub begins_digits : List ℕ → Bool
begins_digits [] = false
begins_digits (a ∷ []) = false
begins_digits (a ∷ (b ∷ cs)) = is_hex a && is_hex b

-- line and paragraph separator
abbrev pub is_separator : ℕ → Bool
is_separator c = c == 0x2028 || c == 0x2029

-- what stays behind a backslash: LF, a backslash, a back quote, and `b`, `f`, `r`, `u`, `v`
abbrev pub stays : ℕ → Bool
stays d = d == 10 || (d == 92 || (d == 96 || (d == 98 || (d == 102 || (d == 114 || (d == 117 || d == 118))))))

-- behind a backslash: this character, before these
abbrev pub escaped : ℕ → List ℕ → Part
escaped d cs =
    if d == 120 then behind_x cs
    else (if d == 110 then Code 10
    else (if d == 116 then Code 9
    else (if d == 48 then Code 0
    else (if is_separator d then Nothing
    else (if stays d then Pair d
    else (if d == 36 && begins is_brace cs then Pair d
    else Code d))))))

abbrev pub behind_backslash : List ℕ → Part
behind_backslash [] = Last
behind_backslash (d ∷ cs) = escaped d cs

-- the part that a character begins, before these
abbrev pub part_at : ℕ → List ℕ → Part
part_at c cs = if c == 92 then behind_backslash cs else Code c

-- how many more characters it has
abbrev pub escape_more : List ℕ → ℕ
escape_more [] = 0
escape_more (d ∷ cs) = if d == 120 && begins_digits cs then 3 else 1

abbrev pub part_more : ℕ → List ℕ → ℕ
part_more c cs = if c == 92 then escape_more cs else 0

-- the parts behind so many characters
abbrev pub parts : ℕ → List ℕ → List Part
parts n [] = []
parts zero (c ∷ cs) = part_at c cs ∷ parts (part_more c cs) cs
parts (suc n) (c ∷ cs) = parts n cs

-- ---- how a part is written

-- a bare character, by whether it stands behind a bare dollar and before a digit
abbrev pub form_of : Style → Bool → Bool → ℕ → Form
form_of style dollar digit c =
    if c == 0 then (if digit then Hex else Nul)
    else (if c == 8 then Letter 98
    else (if c == 11 then Letter 118
    else (if c == 12 then Letter 102
    else (if c == 123 && dollar then Letter 123
    else (if nat_lt c 0x7F then Bare
    else (if nat_lt c 0x100 then Hex
    else (if is_separator c || c == 0xFEFF then Four
    else (if style.ascii_only then Braced
    else Bare))))))))

-- a part, before a text
abbrev pub part_text : Style → Bool → Bool → Part → List ℕ → List ℕ
part_text style dollar digit (Pair d) m = 92 ∷ d ∷ m
part_text style dollar digit (Digits a b) m = 92 ∷ 120 ∷ a ∷ b ∷ m
part_text style dollar digit Last m = 92 ∷ m
part_text style dollar digit Nothing m = m
part_text style dollar digit (Hexed v) m = written Hex v m
part_text style dollar digit (Code c) m = written (form_of style dollar digit c) c m

-- whether the first part that writes something is a decimal digit
abbrev pub digit_first : List Part → Bool
digit_first [] = false
digit_first (Pair d ∷ ps) = false
digit_first (Digits a b ∷ ps) = false
digit_first (Last ∷ ps) = false
digit_first (Nothing ∷ ps) = digit_first ps
digit_first (Hexed v ∷ ps) = false
digit_first (Code c ∷ ps) = is_decimal c

-- whether the text behind a part ends with a bare dollar
abbrev pub dollar_behind : Bool → Part → Bool
dollar_behind dollar (Pair d) = false
dollar_behind dollar (Digits a b) = false
dollar_behind dollar Last = false
dollar_behind dollar Nothing = dollar
dollar_behind dollar (Hexed v) = false
dollar_behind dollar (Code c) = c == 36

-- the parts, before a text
abbrev pub parts_text : Style → Bool → List Part → List ℕ → List ℕ
parts_text style dollar [] m = m
parts_text style dollar (p ∷ ps) m = part_text style dollar (digit_first ps) p (parts_text style (dollar_behind dollar p) ps m)

-- ---- a piece of a template

abbrev pub is_ascii : ℕ → Bool
is_ascii c = nat_lt c 128

-- whether a piece stands as it was read: formatted, where ASCII is not asked for or there
abbrev pub keeps_raw : Style → List ℕ → Bool
keeps_raw style raw = not style.minify && (not style.ascii_only || list_all is_ascii raw)

-- a piece of an untagged template, by its raw text, before a text: its line ends are LF
abbrev pub template_text : Style → List ℕ → List ℕ → List ℕ
template_text style raw m = if keeps_raw style raw then line_feeds raw ++ m else parts_text style false (parts zero (line_feeds raw)) m

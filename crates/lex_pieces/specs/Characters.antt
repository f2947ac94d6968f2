-- The classes of characters (ECMA-262, 11.1 and 12.2 to 12.9). A character is its code.
use Rattle.std.specs.Prelude.{ℕ, Bool, false, ◌&&◌, ◌||◌, List, [], ◌∷◌, ◌==◌, nat_le}
use Rattle.unicode_ident.specs.Ident.{is_xid_start, is_xid_continue}

abbrev pub is_between : ℕ → ℕ → ℕ → Bool
is_between low high c = nat_le low c && nat_le c high

abbrev pub is_among : List ℕ → ℕ → Bool
is_among [] c = false
is_among (x ∷ xs) c = c == x || is_among xs c

-- WhiteSpace (12.2): TAB, VT, FF, the zero width no-break space and the spaces of Unicode
abbrev pub white_space : List ℕ
white_space = 0x9 ∷ 0xB ∷ 0xC ∷ 0x20 ∷ 0xA0 ∷ 0x1680
    ∷ 0x2000 ∷ 0x2001 ∷ 0x2002 ∷ 0x2003 ∷ 0x2004 ∷ 0x2005 ∷ 0x2006 ∷ 0x2007 ∷ 0x2008 ∷ 0x2009 ∷ 0x200A
    ∷ 0x202F ∷ 0x205F ∷ 0x3000 ∷ 0xFEFF ∷ []

-- LineTerminator (12.3): LF, CR, and the separators of lines and of paragraphs
abbrev pub line_terminators : List ℕ
line_terminators = 0xA ∷ 0xD ∷ 0x2028 ∷ 0x2029 ∷ []

abbrev pub is_white_space : ℕ → Bool
is_white_space c = is_among white_space c

abbrev pub is_line_terminator : ℕ → Bool
is_line_terminator c = is_among line_terminators c

-- the line terminators of ASCII
abbrev pub is_line_break : ℕ → Bool
is_line_break c = c == 0xA || c == 0xD

-- IdentifierStartChar (12.7), with XID_Start in the place of ID_Start
abbrev pub is_name_start : ℕ → Bool
is_name_start c = is_xid_start c || (c == 36 || c == 95)

-- IdentifierPartChar (12.7), with XID_Continue in the place of ID_Continue
abbrev pub is_name_part : ℕ → Bool
is_name_part c = is_xid_continue c || (c == 36 || (c == 95 || (c == 0x200C || c == 0x200D)))

-- DecimalDigit, and the digits of the other radices (12.9.3)
abbrev pub is_decimal_digit : ℕ → Bool
is_decimal_digit c = is_between 48 57 c

abbrev pub is_octal_digit : ℕ → Bool
is_octal_digit c = is_between 48 55 c

abbrev pub is_hex_digit : ℕ → Bool
is_hex_digit c = is_decimal_digit c || (is_between 65 70 c || is_between 97 102 c)

-- The characters of which a run may be read, and the bytes that tell them.
use Rattle.std.specs.Prelude.{ℕ, Bool, not, ◌&&◌, ◌||◌, ◌==◌, nat_lt}
use Rattle.lex_pieces.specs.declared.runs.Class.{Class}
use Rattle.lex_pieces.specs.declared.runs.Class.TheVariants.{NamePart, WhiteSpace, Line, NoStar, RegExp}
use Rattle.lex_pieces.specs.Characters.{is_name_part, is_white_space, is_line_terminator}

-- what a comment of one line has (12.4, SingleLineCommentChar)
abbrev pub is_line_char : ℕ → Bool
is_line_char c = not (is_line_terminator c)

-- what ends no comment of several lines (12.4, MultiLineNotAsteriskChar)
abbrev pub is_no_star : ℕ → Bool
is_no_star c = not (c == 42)

-- what has a meaning in the body of a regular expression (12.9.5): `/`, `[`, a backslash and `]`
abbrev pub is_reg_exp_mark : ℕ → Bool
is_reg_exp_mark c = c == 47 || (c == 91 || (c == 92 || c == 93))

-- what stands for itself in such a body, in a class and outside
abbrev pub is_reg_exp_char : ℕ → Bool
is_reg_exp_char c = is_line_char c && not (is_reg_exp_mark c)

-- the characters of the class
abbrev pub member : Class → ℕ → Bool
member NamePart = is_name_part
member WhiteSpace = is_white_space
member Line = is_line_char
member NoStar = is_no_star
member RegExp = is_reg_exp_char

abbrev pub is_name_byte : ℕ → Bool
is_name_byte b = nat_lt b 128 && is_name_part b

abbrev pub is_space_byte : ℕ → Bool
is_space_byte b = nat_lt b 128 && is_white_space b

-- no line terminator begins with the byte
abbrev pub is_line_byte : ℕ → Bool
is_line_byte b = not (b == 0xA || b == 0xD || b == 0xE2)

abbrev pub is_reg_exp_byte : ℕ → Bool
is_reg_exp_byte b = is_line_byte b && not (is_reg_exp_mark b)

-- The bytes that a scan passes: where it passes the first byte of a character, the character is of the class and all its bytes pass.
abbrev pub plain : Class → ℕ → Bool
plain NamePart = is_name_byte
plain WhiteSpace = is_space_byte
plain Line = is_line_byte
plain NoStar = is_no_star
plain RegExp = is_reg_exp_byte

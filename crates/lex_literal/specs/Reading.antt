-- How the functions of the crate read, as functions on lists: what each of them answers.
use Rattle.std.specs.Prelude.{ℕ, ◌+◌, ◌*◌, Bool, not, ◌&&◌, ◌==◌, if◌then◌else◌, List, [], ◌∷◌, Option, Some, None}
use Rattle.std.specs.Char.{digit_value}
use Rattle.std.specs.Str.Parse.{digits_value}
use Rattle.lex_pieces.specs.Characters.{is_line_terminator}
use Rattle.lex_pieces.specs.Runs.{run, after}
use Rattle.lex_literal.specs.declared.escape.Escape.{Escape}
use Rattle.lex_literal.specs.declared.escape.Escape.TheVariants.{Continuation, Code, Legacy}
use Rattle.lex_literal.specs.Escapes.{is_decimal, is_hex, is_octal, is_low_octal, is_eight_or_nine, begins, single, is_code}
use Rattle.lex_literal.specs.Templates.{is_brace}

-- what an escape answers: its meaning and what follows it
abbrev pub Found : Type 0
Found = Option (Escape × List ℕ)

infixl 10 ◌>>=◌
abbrev pub ◌>>=◌ : {A B : Type 0} → Option A → (A → Option B) → Option B
None >>= f = None
(Some x) >>= f = f x

-- a hexadecimal digit behind those of n: what all of them write, and what follows
unfoldable pub next_hex : ℕ → List ℕ → Option (ℕ × List ℕ)
next_hex n [] = None
next_hex n (c ∷ cs) = if is_hex c then Some (n * 16 + digit_value c, cs) else None

-- behind `x`
unfoldable pub hex_escape : List ℕ → Found
hex_escape cs = next_hex 0 cs >>= λ a. next_hex a.0 a.1 >>= λ b. Some (Code b.0, b.1)

-- behind `u`, where no brace comes
unfoldable pub four_hex : List ℕ → Found
four_hex cs = next_hex 0 cs >>= λ a. next_hex a.0 a.1 >>= λ b. next_hex b.0 b.1 >>= λ c. next_hex c.0 c.1 >>= λ d. Some (Code d.0, d.1)

-- the code point that digits write
abbrev pub code_of : List ℕ → Option ℕ
code_of ds = if is_code ds then Some (digits_value 16 ds) else None

-- behind the digits between braces
abbrev pub closed : ℕ → List ℕ → Found
closed n [] = None
closed n (c ∷ cs) = if c == 125 then Some (Code n, cs) else None

-- behind `u{`
unfoldable pub braced : List ℕ → Found
braced cs = code_of (run is_hex cs) >>= λ n. closed n (after is_hex cs)

-- behind `u`
unfoldable pub unicode_escape : List ℕ → Found
unicode_escape [] = None
unicode_escape (c ∷ cs) = if c == 123 then braced cs else four_hex (c ∷ cs)

-- one more octal digit behind those of n, if it comes
unfoldable pub next_octal : ℕ → List ℕ → ℕ × List ℕ
next_octal n [] = (n, [])
next_octal n (c ∷ cs) = if is_octal c then (n * 8 + digit_value c, cs) else (n, c ∷ cs)

-- and another, behind a first digit that allows it
abbrev pub last_octal : Bool → ℕ × List ℕ → ℕ × List ℕ
last_octal low x = if low then next_octal x.0 x.1 else x

-- behind the octal digit a
unfoldable pub octal_digits : ℕ → List ℕ → ℕ × List ℕ
octal_digits a cs = last_octal (is_low_octal a) (next_octal (digit_value a) cs)

-- behind the octal digit a
unfoldable pub octal_escape : ℕ → List ℕ → Escape × List ℕ
octal_escape a cs =
    if a == 48 && not (begins is_decimal cs) then (Code 0, cs) else (Legacy (octal_digits a cs).0, (octal_digits a cs).1)

-- behind CR
abbrev pub past_line_feed : List ℕ → List ℕ
past_line_feed [] = []
past_line_feed (c ∷ cs) = if c == 10 then cs else c ∷ cs

-- behind a backslash and this character
unfoldable pub escape_by : ℕ → List ℕ → Found
escape_by c cs =
    if c == 120 then hex_escape cs
    else (if c == 117 then unicode_escape cs
    else (if is_octal c then Some (octal_escape c cs)
    else (if is_eight_or_nine c then Some (Legacy c, cs)
    else (if c == 13 then Some (Continuation, past_line_feed cs)
    else (if is_line_terminator c then Some (Continuation, cs)
    else Some (Code (single c), cs))))))

abbrev pub escape_at : List ℕ → Found
escape_at [] = None
escape_at (c ∷ cs) = escape_by c cs

-- behind a dollar before no brace
abbrev pub lone_dollar : List ℕ → Option (List ℕ)
lone_dollar [] = None
lone_dollar (c ∷ cs) = if c == 36 && not (begins is_brace cs) then Some cs else None

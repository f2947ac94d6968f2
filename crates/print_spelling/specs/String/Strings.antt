-- How strings are written (ECMA-262, 12.9.4).
use Rattle.std.specs.Prelude.{◌≡◌, ℕ, Bool, true, false, not, ◌&&◌, ◌||◌, ◌==◌, nat_lt, nat_le, if◌then◌else◌, List, [], ◌∷◌, ◌++◌, Option, Some, None, is_some, codes, bytes_eq, length, filter}
use Rattle.std.specs.Char.{to_ascii_lowercase}
use Rattle.std.specs.List.{list_all, list_any}
use Rattle.lex_literal.specs.Escapes.{begins, is_decimal}
use Rattle.lex_literal.specs.Strings.{SpellsString}
use Rattle.print_spelling.specs.declared.form.Form.{Form}
use Rattle.print_spelling.specs.declared.form.Form.TheVariants.{Bare, Letter, Nul, Hex, Four, Pair, Braced}
use Rattle.print_spelling.specs.declared.style.Style.{Style}
use Rattle.print_spelling.specs.Forms.{written}
use Rattle.print_spelling.specs.Styles.{is_below_es5, is_up_to_es5}
use Rattle.print_spelling.specs.declared.string.quoted.Behind.{Behind}
use Rattle.print_spelling.specs.declared.string.quoted.Behind.TheVariants.{Other, Less, Dash, Dashes}
use Rattle.print_spelling.specs.String.CodePoints.{AreUnits, code_points}

-- ---- what a script in a page may not hold: `</script` before `>`, a blank or TAB, `<!--` and `-->`

-- what follows a word in small letters, which stands there in any case
abbrev pub past_word : List ℕ → List ℕ → Option (List ℕ)
past_word [] cs = Some cs
past_word (l ∷ ls) [] = None
past_word (l ∷ ls) (c ∷ cs) = if to_ascii_lowercase c == l then past_word ls cs else None

abbrev pub begins_some : (ℕ → Bool) → Option (List ℕ) → Bool
begins_some p None = false
begins_some p (Some cs) = begins p cs

abbrev pub is_tag_end : ℕ → Bool
is_tag_end c = c == 62 || (c == 32 || c == 9)

-- behind `</`: the end tag of a script
abbrev pub closes_script : List ℕ → Bool
closes_script cs = begins_some is_tag_end (past_word (codes "script") cs)

-- behind `<`: a comment of a page
abbrev pub opens_comment : List ℕ → Bool
opens_comment cs = is_some (past_word (codes "!--") cs)

-- how the text before ends
abbrev pub is_less : Behind → Bool
is_less Less = true
is_less _ = false

abbrev pub is_dash : Behind → Bool
is_dash Dash = true
is_dash Dashes = true
is_dash _ = false

abbrev pub is_dashes : Behind → Bool
is_dashes Dashes = true
is_dashes _ = false

-- behind one character more; only a script in a page asks for it
abbrev pub behind : Style → Behind → ℕ → Behind
behind style b c =
    if style.inline_script then (if c == 60 then Less else (if c == 45 then (if is_dash b then Dashes else Dash) else Other)) else Other

-- whether a character would make one of these: the `<` of `<!--`, the `>` of `-->`, the `/` of `</script`
abbrev pub is_guarded : Style → Behind → ℕ → List ℕ → Bool
is_guarded style b c cs =
    style.inline_script && ((c == 60 && opens_comment cs) || ((c == 62 && is_dashes b) || (c == 47 && (is_less b && closes_script cs))))

-- ---- one character

-- the letter of a SingleEscapeCharacter: `\b \n \v \f \r`, and a backslash; 0 for any other character
abbrev pub letter_of : ℕ → ℕ
letter_of c =
    if c == 8 then 98
    else (if c == 10 then 110
    else (if c == 11 then 118
    else (if c == 12 then 102
    else (if c == 13 then 114
    else (if c == 92 then 92
    else 0)))))

-- line and paragraph separator, the mark of byte order, and a surrogate without its partner
abbrev pub is_never_bare : ℕ → Bool
is_never_bare c = c == 0x2028 || (c == 0x2029 || (c == 0xFEFF || (nat_le 0xD800 c && nat_lt c 0xE000)))

-- from U+0100 on
abbrev pub wide_form : Style → ℕ → Form
wide_form style c =
    if is_never_bare c then Four
    else (if nat_lt c 0x1_0000 then (if style.ascii_only then Four else Bare)
    else (if is_up_to_es5 style then Pair
    else (if style.ascii_only then Braced
    else Bare)))

-- whatever stands round it
abbrev pub lone_form : Style → ℕ → Form
lone_form style c =
    if nat_lt 0 (letter_of c) then Letter (letter_of c)
    else (if c == 9 then Bare
    else (if nat_lt c 0x20 then Hex
    else (if nat_lt c 0x7F then Bare
    else (if nat_lt c 0x100 then (if style.ascii_only || is_up_to_es5 style then Hex else Bare)
    else wide_form style c))))

-- a character between these quotes, by how the text before ends and by the characters after it
abbrev pub form_of : Style → ℕ → Behind → ℕ → List ℕ → Form
form_of style quote b c cs =
    if is_guarded style b c cs then (if c == 47 then Letter 47 else Hex)
    else (if c == quote then Letter quote
    else (if c == 0 then (if is_below_es5 style || begins is_decimal cs then Hex else Nul)
    else lone_form style c))

-- ---- a string

-- the characters, before a text
abbrev pub chars_text : Style → ℕ → Behind → List ℕ → List ℕ → List ℕ
chars_text style quote b [] m = m
chars_text style quote b (c ∷ cs) m = written (form_of style quote b c cs) c (chars_text style quote (behind style b c) cs m)

-- how often a character comes
abbrev pub count : ℕ → List ℕ → ℕ
count x cs = length (filter (λ c. c == x) cs)

-- an apostrophe where there are more quotation marks than apostrophes
abbrev pub quote_of : List ℕ → ℕ
quote_of cs = if nat_lt (count 39 cs) (count 34 cs) then 39 else 34

abbrev pub quoted_by : Style → ℕ → List ℕ → List ℕ → List ℕ
quoted_by style quote cs m = quote ∷ chars_text style quote Other cs (quote ∷ m)

-- the units in quotes, before a text
abbrev pub quoted : Style → List ℕ → List ℕ → List ℕ
quoted style units m = quoted_by style (quote_of (code_points units)) (code_points units) m

abbrev pub is_ascii : ℕ → Bool
is_ascii c = nat_lt c 128

abbrev pub is_backslash : ℕ → Bool
is_backslash c = c == 92

-- whether a string stands as it was read: `use strict` with a backslash, which is no directive; and formatted, where
-- ASCII is not asked for or there
abbrev pub keeps_raw : Style → List ℕ → List ℕ → Bool
keeps_raw style units raw =
    (bytes_eq units (codes "use strict") && list_any is_backslash raw) || (not style.minify && (not style.ascii_only || list_all is_ascii raw))

-- a string, by its units and the text as it was read, if there is one
abbrev pub string_text : Style → List ℕ → Option (List ℕ) → List ℕ
string_text style units None = quoted style units []
string_text style units (Some raw) = if keeps_raw style units raw then raw else quoted style units []

-- ---- laws

-- Quoted units are read as these units, whatever follows, and no escape of B.1.2 is in them.
abbrev pub QuotedIsRead : Type 0
QuotedIsRead = (style : Style) (units rest : List ℕ) → AreUnits units → SpellsString units false (quoted style units rest) rest

-- A string is read as its units, whatever follows, where the text as it was read is a string of these units.
abbrev pub StringIsRead : Type 0
StringIsRead = (style : Style) (units : List ℕ) (raw : Option (List ℕ)) (rest : List ℕ) → AreUnits units
    → ((text : List ℕ) → raw ≡ Some text → (legacy : Bool) × SpellsString units legacy text [])
    → (legacy : Bool) × SpellsString units legacy (string_text style units raw ++ rest) rest

-- What is written is written again where it was read.
abbrev pub FormattedAgain : Type 0
FormattedAgain = (style : Style) (units : List ℕ) (raw : Option (List ℕ))
    → string_text style units (Some (string_text style units raw)) ≡ string_text style units raw

-- Minified, a string other than `use strict` depends on its units alone.
abbrev pub MinifiedAlone : Type 0
MinifiedAlone = (style : Style) (units : List ℕ) (raw : Option (List ℕ)) → style.minify ≡ true → bytes_eq units (codes "use strict") ≡ false
    → string_text style units raw ≡ quoted style units []

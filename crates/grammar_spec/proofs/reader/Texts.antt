-- Programs of the facts as texts: a plain tokenizer for what they hold. A slash that no blank and no `=` follows opens a regular expression,
-- and a word after `@` counts as spelled with an escape.
use Rattle.std.proofs.Common.{ℕ, zero, suc, ◌+◌, Bool, true, false, not, ◌&&◌, ◌||◌, ◌==◌, nat_le, if◌then◌else◌, List, [], ◌∷◌, ◌++◌, length, take, drop, Some, pos, codes}
use Rattle.tree_spec.specs.Numbers.{Scaled}
use Rattle.tree_spec.specs.Kinds.{arrow_kind, hash_kind, dot_kind, dot_dot_dot_kind, bang_kind, left_paren_kind, right_paren_kind, left_bracket_kind, right_bracket_kind, left_brace_kind, right_brace_kind, semicolon_kind, comma_kind, back_quote_kind, template_kind, colon_kind, dollar_brace_kind, question_mark_kind, plus_plus_kind, minus_minus_kind, tilde_kind, str_kind, regex_kind, num_kind, big_int_kind, shebang_kind}
use Rattle.tree_spec.specs.Operators.{operators}
use Rattle.tree_spec.specs.Tokens.{Content, Bare, Named, Quoted, Piece, Pattern, Numeral, BigNumeral, Line}
use Rattle.tree_spec.specs.Words.{kind_of}
use Rattle.grammar_spec.specs.Tokens.Input.{PlacedToken, no_context, div_goal}

-- how many characters of a class a text begins with, and the place of a character
abbrev pub run : (ℕ → Bool) → List ℕ → ℕ
run p [] = 0
run p (c ∷ cs) = let n = run p cs in if p c then n + 1 else 0

abbrev pub up_to : ℕ → List ℕ → ℕ
up_to d [] = 0
up_to d (c ∷ cs) = let n = up_to d cs in if c == d then 0 else n + 1

abbrev pub is_letter : ℕ → Bool
is_letter c = (nat_le 97 c && nat_le c 122) || ((nat_le 65 c && nat_le c 90) || ((c == 36) || (c == 95)))

abbrev pub is_figure : ℕ → Bool
is_figure c = nat_le 48 c && nat_le c 57

abbrev pub is_part : ℕ → Bool
is_part c = is_letter c || is_figure c

abbrev pub is_number_part : ℕ → Bool
is_number_part c = is_part c || (c == 46)

abbrev pub head : List ℕ → ℕ
head [] = 0
head (c ∷ cs) = c

abbrev pub tail : List ℕ → List ℕ
tail [] = []
tail (c ∷ cs) = cs

-- one step: the tokens that it makes, the braces open after it (whether `${` opened each), a line break, the place and the text
pub record Cut : Type 0 where
  pub places : List PlacedToken
  pub braces : List Bool
  pub line : Bool
  pub here : ℕ
  pub text : List ℕ

abbrev pub place : Bool → Bool → ℕ → Content → ℕ → ℕ → PlacedToken
place line esc k content lo hi = record { spot = record { token = record { kind = k; content = content }; line_break = line; lo = lo; hi = hi }; escaped = esc; goal = div_goal; context = no_context }

abbrev pub made : List Bool → Bool → ℕ → Content → ℕ → ℕ → List ℕ → Cut
made braces line k content n here text = record { places = place line false k content here (here + n) ∷ []; braces = braces; line = false; here = here + n; text = drop n text }

-- punctuators that have no two operands, and the three that no operator is a front of
abbrev pub marks : List (ℕ × List ℕ)
marks =
    (arrow_kind, codes "=>") ∷ (dot_dot_dot_kind, codes "...") ∷ (plus_plus_kind, codes "++") ∷ (minus_minus_kind, codes "--") ∷
    (hash_kind, codes "#") ∷ (dot_kind, codes ".") ∷ (bang_kind, codes "!") ∷ (left_paren_kind, codes "(") ∷ (right_paren_kind, codes ")") ∷
    (left_bracket_kind, codes "[") ∷ (right_bracket_kind, codes "]") ∷ (semicolon_kind, codes ";") ∷
    (comma_kind, codes ",") ∷ (colon_kind, codes ":") ∷ (question_mark_kind, codes "?") ∷ (tilde_kind, codes "~") ∷ []

abbrev pub fits : List ℕ → List ℕ → Bool
fits [] text = true
fits (c ∷ cs) [] = false
fits (c ∷ cs) (d ∷ ds) = (c == d) && fits cs ds

-- the longest one that a text begins with
abbrev pub longest : List (ℕ × List ℕ) → ℕ × List ℕ → List ℕ → ℕ × List ℕ
longest [] best text = best
longest (x ∷ xs) best text = longest xs (if fits x.1 text && nat_le (length best.1 + 1) (length x.1) then x else best) text

unfoldable pub punctuator : List Bool → Bool → ℕ → List ℕ → Cut
punctuator braces line here text = let x = longest (operators ++ marks) (0, []) text in made braces line x.0 Bare (length x.1) here text

unfoldable pub word : Bool → List Bool → Bool → ℕ → List ℕ → Cut
word esc braces line here text =
    let n = run is_part text in
    record { places = place line esc (kind_of (take n text)) (Named (take n text)) here (here + n) ∷ []; braces = braces; line = false; here = here + n; text = drop n text }

unfoldable pub number : List Bool → Bool → ℕ → List ℕ → Cut
number braces line here text =
    let n = run is_number_part text in
    let raw = take n text in
    if fits (codes "n") (drop (run is_figure raw) raw) then made braces line big_int_kind (BigNumeral 10 (take (run is_figure raw) raw) raw) n here text
    else made braces line num_kind (Numeral (Scaled raw (pos 0)) raw) n here text

unfoldable pub quoted : ℕ → List Bool → Bool → ℕ → List ℕ → Cut
quoted q braces line here text =
    let n = up_to q (tail text) in
    made braces line str_kind (Quoted (take n (tail text)) (take (n + 2) text)) (n + 2) here text

unfoldable pub pattern : List Bool → Bool → ℕ → List ℕ → Cut
pattern braces line here text =
    let n = up_to 47 (tail text) in
    let f = run is_part (drop (n + 2) text) in
    made braces line regex_kind (Pattern (take n (tail text)) (take f (drop (n + 2) text))) (n + 2 + f) here text

-- characters up to a back quote or `${`, and that
abbrev pub up_to_end : List ℕ → ℕ
up_to_end [] = 0
up_to_end (c ∷ cs) = let n = up_to_end cs in if (c == 96) || ((c == 36) && (head cs == 123)) then 0 else n + 1

unfoldable pub characters : List PlacedToken → List Bool → ℕ → List ℕ → Cut
characters before braces here text =
    let n = up_to_end text in
    let raw = take n text in
    let piece = place false false template_kind (Piece raw (Some raw)) here (here + n) in
    if head (drop n text) == 96 then record { places = before ++ piece ∷ place false false back_quote_kind Bare (here + n) (here + n + 1) ∷ []; braces = braces; line = false; here = here + n + 1; text = drop (n + 1) text }
    else record { places = before ++ piece ∷ place false false dollar_brace_kind Bare (here + n) (here + n + 2) ∷ []; braces = true ∷ braces; line = false; here = here + n + 2; text = drop (n + 2) text }

unfoldable pub closing : List Bool → Bool → ℕ → List ℕ → Cut
closing [] line here text = made [] line right_brace_kind Bare 1 here text
closing (false ∷ braces) line here text = made braces line right_brace_kind Bare 1 here text
closing (true ∷ braces) line here text = characters (place line false right_brace_kind Bare here (here + 1) ∷ []) braces (here + 1) (tail text)

unfoldable pub hashbang : List Bool → Bool → ℕ → List ℕ → Cut
hashbang braces line here text = let n = up_to 10 text in made braces line shebang_kind (Line (drop 2 (take n text))) n here text

unfoldable pub cut : List Bool → Bool → ℕ → List ℕ → Cut
cut braces line here text =
    if head text == 10 then record { places = []; braces = braces; line = true; here = here + 1; text = tail text }
    else (if head text == 32 then record { places = []; braces = braces; line = line; here = here + 1; text = tail text }
    else (if is_letter (head text) then word false braces line here text
    else (if head text == 64 then word true braces line (here + 1) (tail text)
    else (if is_figure (head text) || ((head text == 46) && is_figure (head (tail text))) then number braces line here text
    else (if (head text == 39) || (head text == 34) then quoted (head text) braces line here text
    else (if head text == 96 then characters (place line false back_quote_kind Bare here (here + 1) ∷ []) braces (here + 1) (tail text)
    else (if head text == 123 then made (false ∷ braces) line left_brace_kind Bare 1 here text
    else (if head text == 125 then closing braces line here text
    else (if (head text == 35) && (head (tail text) == 33) then hashbang braces line here text
    else (if (head text == 47) && not ((head (tail text) == 32) || (head (tail text) == 61)) then pattern braces line here text
    else punctuator braces line here text))))))))))

-- the tokens of a text; the number bounds the steps
unfoldable pub tokens : ℕ → Cut → List PlacedToken
tokens zero x = []
tokens (suc n) x = if length x.text == 0 then [] else (let y = cut x.braces x.line x.here x.text in y.places ++ tokens n y)

unfoldable pub places_of : List ℕ → List PlacedToken
places_of text = tokens (length text) (record { places = []; braces = []; line = false; here = 1; text = text })

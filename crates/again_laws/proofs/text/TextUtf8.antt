-- The texts of names, strings, templates and operators are UTF-8.
use Rattle.std.proofs.Common.{◌≡◌, ℕ, Bool, true, false, ◌&&◌, if◌then◌else◌, ◌==◌, List, [], ◌∷◌, Option, Some, None, refl, arith}
use Rattle.std.specs.Prelude.{encode_utf8_all}
use Rattle.std.specs.Str.{chars, IsUtf8}
use Rattle.std.proofs.lemmas.Bool.{and_parts}
use Rattle.std.proofs.lemmas.Str.{scalars-chars}
use lib.Utf8.{scalar, scalars}
use Rattle.base_token.specs.Operators.{operators, operator_text}
use Rattle.base_token.specs.Words.{own_words, own_text, text_among}
use Rattle.base_token.specs.Kinds.{plus_plus_kind, minus_minus_kind, bang_kind, tilde_kind, add_kind, sub_kind}
use Rattle.print_spelling.specs.declared.style.Style.{Style}
use Rattle.print_spelling.specs.String.CodePoints.{AreUnits}
use Rattle.print_spelling.specs.String.Names.{form_in, name_chars, name_text, key_text, is_quoted_key}
use Rattle.print_spelling.specs.String.Strings.{quoted, keeps_raw}
use Rattle.print_spelling.proofs.string.NameRuns.{can_write}
use Rattle.print_spelling.specs.Template.Templates.{template_text}
use Rattle.print_layout_spec.specs.Literals.{name_bytes, key_bytes, string_bytes, quasi_bytes}
use Rattle.print_layout_spec.specs.Words.{sign_of}
use Rattle.again_laws.proofs.tokens.Ascii.{ascii, is_ascii}
use Rattle.again_laws.proofs.leaf.Scalars.{Scal, low, stop, written_scal}
use Rattle.again_laws.proofs.leaf.Quotes.{quoted_scalars}
use Rattle.again_laws.proofs.leaf.Pieces.{template_scalars}
use Rattle.again_laws.specs.Text.Texts.{IsUtf8If}
use Rattle.again_laws.proofs.text.Literals.{utf8_of}

-- ---- names and words as keys

name_scalars : (style : Style) (quoted : Bool) (cs m : List ℕ) → scalars cs ≡ true → Scal m → Scal (name_chars style quoted cs m)
name_scalars style quoted [] m s e = e
name_scalars style quoted (c ∷ cs) m s e =
    let p = and_parts (scalar c) (scalars cs) s in
    written_scal (form_in style quoted c) c (name_chars style quoted cs m) (can_write style quoted c (form_in style quoted c) p.0 refl) (name_scalars style quoted cs m p.1 e)

pub name_utf8 : (style : Style) (sym : List ℕ) → IsUtf8 sym → IsUtf8 (name_bytes style sym)
name_utf8 style sym u = utf8_of (name_text style (chars sym) []) (name_scalars style false (chars sym) [] (scalars-chars sym u) stop).so

pub key_utf8 : (style : Style) (sym : List ℕ) → IsUtf8 sym → IsUtf8 (key_bytes style sym)
key_utf8 style sym u = utf8_of (key_text style (chars sym) []) (by (is_quoted_key style (chars sym))).so
  where
    by : (b : Bool) → Scal (if b then 34 ∷ name_chars style true (chars sym) (34 ∷ []) else name_text style (chars sym) [])
    by true = low (omega arith) (name_scalars style true (chars sym) (34 ∷ []) (scalars-chars sym u) (low (omega arith) stop))
    by false = name_scalars style false (chars sym) [] (scalars-chars sym u) stop

-- ---- strings and templates

pub string_utf8 : (style : Style) (units : List ℕ) (raw : Option (List ℕ)) → AreUnits units → IsUtf8If raw → IsUtf8 (string_bytes style units raw)
string_utf8 style units None a u = utf8_of (quoted style units []) (quoted_scalars style units a)
string_utf8 style units (Some raw) a u = by (keeps_raw style units (chars raw))
  where
    by : (b : Bool) → IsUtf8 (encode_utf8_all (if b then chars raw else quoted style units []))
    by true = utf8_of (chars raw) (scalars-chars raw u)
    by false = utf8_of (quoted style units []) (quoted_scalars style units a)

pub quasi_utf8 : (style : Style) (tagged : Bool) (raw : List ℕ) → IsUtf8 raw → IsUtf8 (quasi_bytes style tagged raw)
quasi_utf8 style true raw u = u
quasi_utf8 style false raw u = utf8_of (template_text style (chars raw) []) (template_scalars style (chars raw) (scalars-chars raw u))

-- ---- the texts of a table

abbrev all_ascii : List (ℕ × List ℕ) → Bool
all_ascii [] = true
all_ascii (word ∷ words) = is_ascii word.1 && all_ascii words

among : (words : List (ℕ × List ℕ)) (kind : ℕ) → all_ascii words ≡ true → is_ascii (text_among words kind) ≡ true
among [] kind e = refl
among (word ∷ words) kind e = let p = and_parts (is_ascii word.1) (all_ascii words) e in by (word.0 == kind) p.0 (among words kind p.1)
  where
    by : (b : Bool) → is_ascii word.1 ≡ true → is_ascii (text_among words kind) ≡ true → is_ascii (if b then word.1 else text_among words kind) ≡ true
    by true x y = x
    by false x y = y

own_ascii : (kind : ℕ) → is_ascii (own_text kind) ≡ true
unfolding own_text
own_ascii kind = among own_words kind refl

pub own_utf8 : (kind : ℕ) → IsUtf8 (own_text kind)
own_utf8 kind = (ascii (own_text kind) (own_ascii kind)).utf8

operator_ascii : (kind : ℕ) → is_ascii (operator_text kind) ≡ true
unfolding operator_text
operator_ascii kind = among operators kind refl

pub operator_utf8 : (kind : ℕ) → IsUtf8 (operator_text kind)
operator_utf8 kind = (ascii (operator_text kind) (operator_ascii kind)).utf8

ascii_if : (b : Bool) (xs ys : List ℕ) → is_ascii xs ≡ true → is_ascii ys ≡ true → is_ascii (if b then xs else ys) ≡ true
ascii_if true xs ys x y = x
ascii_if false xs ys x y = y

sign_ascii : (op : ℕ) → is_ascii (sign_of op) ≡ true
unfolding sign_of
sign_ascii op =
    ascii_if (op == plus_plus_kind) _ _ refl (ascii_if (op == minus_minus_kind) _ _ refl (ascii_if (op == bang_kind) _ _ refl
    (ascii_if (op == tilde_kind) _ _ refl (ascii_if (op == add_kind) _ _ refl (ascii_if (op == sub_kind) _ _ refl (own_ascii op))))))

pub sign_utf8 : (op : ℕ) → IsUtf8 (sign_of op)
sign_utf8 op = (ascii (sign_of op) (sign_ascii op)).utf8

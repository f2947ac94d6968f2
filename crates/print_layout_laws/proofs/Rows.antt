-- Rows of facts: a program's text, how it is to look, and what is then written.
use Rattle.std.proofs.Common.{◌≡◌, ℕ, Bool, true, false, if◌then◌else◌, List, [], ◌∷◌, Result, Ok, Err, None, codes, bytes_eq}
use Rattle.std.specs.Char.{encode_utf8}
use Rattle.std.specs.Str.{chars}
use Rattle.base_token.specs.declared.version.EsVersion.TheVariants.{EsNext}
use Rattle.base_token.specs.Words.{own_text}
use Rattle.tree_spec.specs.Tree.{Tree}
use Rattle.print_writers.specs.Pages.{Page, put, put_line, deeper, shallower, with_text, indented, end_line, put_mark, record_pair, moved, settled, marked}
use Rattle.print_pages_spec.specs.Pieces.{resolved, shortened}
use Rattle.grammar_spec.specs.Reader.Source.{Fault}
use Rattle.grammar_spec.proofs.reader.Rows.{opened, read_text, full_syntax}
use Rattle.print_layout_spec.specs.declared.look.Look.{Look}
use Rattle.print_layout_spec.specs.Layout.{pieces, closing}
use Rattle.print_layout_spec.specs.Words.{sign_of}

abbrev pub blank_page : Page
blank_page = record { out = []; depth = 0; at_start = true; marks = None; line_end = codes "\n"; indent = codes "    " }

abbrev pub look_of : Bool → Look
look_of minify = record { style = record { target = EsNext; minify = minify; ascii_only = false; inline_script = false }; omits_last = minify; asserts = false }

-- the looks of a program by other settings: only characters of ASCII, a text that stands in a page, a last semicolon that
-- stays, and `assert` before attributes
abbrev pub styled : Bool → Bool → Bool → Look
styled ascii page minify = record { style = record { target = EsNext; minify = minify; ascii_only = ascii; inline_script = page }; omits_last = minify; asserts = false }

abbrev pub keeps_last : Bool → Look
keeps_last minify = record (look_of minify) { omits_last = false }

abbrev pub asserts : Bool → Look
asserts minify = record (look_of minify) { asserts = true }

-- what is written for a text that is read, `no` for one that isn't
abbrev pub written : Bool → Result Tree Fault → List ℕ
written minify (Err f) = codes "no"
written true (Ok t) = (shortened (pieces (look_of true) t) blank_page).out
written false (Ok t) = (resolved (pieces (look_of false) t) blank_page).out

pub record Row : Type 0 where
  pub text : List ℕ
  pub got : List ℕ
  pub wanted : List ℕ

abbrev pub row : Bool → Bool → List ℕ → List ℕ → Row
row modules minify text wanted = record { text = text; got = written minify (read_text modules full_syntax text); wanted = wanted }

-- A program formatted and minified. What was written is written again: the formatted text as it is, minified as the program is, and the
-- minified text as it is.
abbrev pub rows : Bool → List ℕ → List ℕ → List ℕ → List Row
rows modules text formatted minified =
    row modules false text formatted ∷ row modules true text minified
    ∷ row modules false formatted formatted ∷ row modules true formatted minified ∷ row modules true minified minified ∷ []

unfoldable pub script : List ℕ → List ℕ → List ℕ → List Row
script text formatted minified = rows false text formatted minified

unfoldable pub module_ : List ℕ → List ℕ → List ℕ → List Row
module_ text formatted minified = rows true text formatted minified

-- a program whose written text the plain tokenizer of these rows doesn't cut
unfoldable pub script_once : List ℕ → List ℕ → List ℕ → List Row
script_once text formatted minified = row false false text formatted ∷ row false true text minified ∷ []

-- a program by other settings
abbrev pub written_as : (Bool → Look) → Bool → Result Tree Fault → List ℕ
written_as look minify (Err f) = codes "no"
written_as look true (Ok t) = (shortened (pieces (look true) t) blank_page).out
written_as look false (Ok t) = (resolved (pieces (look false) t) blank_page).out

abbrev pub rows_as : (Bool → Look) → Bool → List ℕ → List ℕ → List ℕ → List Row
rows_as look modules text formatted minified =
    record { text = text; got = written_as look false (read_text modules full_syntax text); wanted = formatted }
    ∷ record { text = text; got = written_as look true (read_text modules full_syntax text); wanted = minified } ∷ []

unfoldable pub in_ascii : List ℕ → List ℕ → List ℕ → List Row
in_ascii text formatted minified = rows_as (styled true false) false text formatted minified

unfoldable pub in_page : List ℕ → List ℕ → List ℕ → List Row
in_page text formatted minified = rows_as (styled false true) false text formatted minified

unfoldable pub keeping_last : List ℕ → List ℕ → List ℕ → List Row
keeping_last text formatted minified = rows_as keeps_last false text formatted minified

unfoldable pub asserting : List ℕ → List ℕ → List ℕ → List Row
asserting text formatted minified = rows_as asserts true text formatted minified

unfoldable pub wrong : List Row → List Row
wrong [] = []
wrong (r ∷ rs) = let others = wrong rs in if bytes_eq r.got r.wanted then others else r ∷ others

abbrev pub Hold : List Row → Type 0
Hold rows = wrong rows ≡ []

unfoldable pub laid_out : ℕ
unfolding opened chars encode_utf8 put put_line deeper shallower with_text indented end_line put_mark record_pair moved settled marked own_text sign_of closing script module_ script_once in_ascii in_page keeping_last asserting wrong
laid_out = 0

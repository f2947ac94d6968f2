-- The token that waits in its place, or nothing at the end.
use Rattle.std.specs.Prelude.{◌≡◌, ℕ, Bool, true, false, List, [], Option, None, Some, option_map}
use Rattle.base_token.specs.Kinds.{end_kind}
use Rattle.base_token.specs.Tokens.{Bare, Content, Named, Spot, bare, word_token}
use Rattle.base_token.specs.TokenViews.{token_kind_number}
use Rattle.base_token.specs.Words.{word_of}
use Rattle.base_token.specs.declared.token.TokenAndSpan.{TokenAndSpan}
use Rattle.base_token.specs.declared.token.TokenKind.{TokenKind}
use Rattle.base_token.specs.declared.token.TokenKind.TheVariants as kind
use Rattle.lex_source.specs.Machine.{shown_spot}
use Rattle.lex_source.specs.declared.ahead.Form.{Form}
use Rattle.lex_source.specs.declared.ahead.Form.TheVariants as form

-- ---- what is asked of it

-- its kind
abbrev pub kind_in : Option Spot → ℕ
kind_in None = end_kind
kind_in (Some t) = t.token.kind

-- whether a line break stands before it
abbrev pub break_in : Option Spot → Bool
break_in None = false
break_in (Some t) = t.line_break

-- what it holds
abbrev pub content_in : Option Spot → Content
content_in None = Bare
content_in (Some t) = t.token.content

-- where it begins; at the end, this place
abbrev pub lo_in : ℕ → Option Spot → ℕ
lo_in last None = last
lo_in last (Some t) = t.lo

-- where it ends; at the end, this place
abbrev pub hi_in : ℕ → Option Spot → ℕ
hi_in last None = last
hi_in last (Some t) = t.hi

-- the text of a word
abbrev pub word_in : Content → List ℕ
word_in (Named text) = text
word_in _ = []

-- The token holds nothing, or is a word.
abbrev pub IsPlain : Content → Type 0
IsPlain Bare = Unit {0}
IsPlain (Named text) = Unit {0}
IsPlain _ = ⊥

-- ---- how it is kept

-- whether a kind alone tells the token
abbrev pub is_bare : TokenKind → Bool
is_bare (kind.Word word) = false
is_bare kind.Template = false
is_bare kind.Str = false
is_bare kind.Regex = false
is_bare kind.Num = false
is_bare kind.BigInt = false
is_bare kind.Shebang = false
is_bare kind.Error = false
is_bare _ = true

-- whether a mark is told by its kind alone
abbrev pub marks_bare : Form → Bool
marks_bare (form.Mark kind) = is_bare kind
marks_bare _ = true

-- the token that waits, by the form in which it is kept: the text of a word, its line break and its places, and what was put whole
abbrev pub kept : Form → List ℕ → Bool → ℕ → ℕ → Option TokenAndSpan → Option Spot
kept form.Nothing word line_break lo hi held = None
kept form.Word word line_break lo hi held = Some (record { token = word_token (word_of word); line_break = line_break; lo = lo; hi = hi })
kept (form.Mark kind) word line_break lo hi held = Some (record { token = bare (token_kind_number kind); line_break = line_break; lo = lo; hi = hi })
kept form.Held word line_break lo hi held = option_map shown_spot held

-- The kind and the line break that are kept are those of the token, or of none; and so are the places of a token.
pub record FitsIts (kind : ℕ) (line_break : Bool) (lo hi : ℕ) (token : Option Spot) : Type 0 where
  pub kind_is : kind ≡ kind_in token
  pub break_is : line_break ≡ break_in token
  pub lo_is : lo ≡ lo_in lo token
  pub hi_is : hi ≡ hi_in hi token

-- The program that a text is, by the settings of a run, and why it is none.
use Rattle.std.specs.Prelude.{◌≡◌, ◌⊎◌, ℕ, ◌+◌, ◌-◌, ◌≤◌, ◌<◌, List, ◌∷◌, drop, length, Result, Ok, Err}
use Rattle.base_token.specs.Dialect.{parts_of}
use Rattle.base_token.specs.declared.error.Error.{Error}
use Rattle.lex_pieces.specs.Places.{bytes}
use Rattle.parse_laws.specs.Bounds.{characters_left}
use Rattle.tree_spec.specs.Tree.{Tree}
use Rattle.tree_nesting.specs.Nesting.{nesting}
use Rattle.grammar_spec.specs.Judge.Early.{early_errors}
use Rattle.grammar_spec.specs.Reader.Source as reading
use Rattle.parse_laws.specs.Text.{Setting, Reads, TreeSpells, text_start}
use Rattle.parse_laws.specs.TextRead.{read_text}
use Rattle.run_command.specs.Options.{is_module}
use Rattle.run_command.specs.declared.options.Options.{Options}

-- what a reading is told: the parts of the language that are on, and how deep a tree may go
abbrev pub setting_of : Options → Setting
setting_of o = record { syntax = parts_of o.syntax; limit = o.nesting }

-- A tree reads the text as the chosen script or module: tokens that tile the text derive it, whatever its early errors, and however deep it goes.
abbrev pub TreeReads : Options → Tree → List ℕ → Type 0
TreeReads o t text = Reads (is_module o.goal) (parts_of o.syntax) t text

-- It spells the text: it reads it, lists no early error, and goes no deeper than the limit.
abbrev pub Spells : Options → Tree → List ℕ → Type 0
Spells o t text = TreeSpells (setting_of o) (is_module o.goal) t text

-- It spells the text, and no other tree so much as reads it.
abbrev pub IsProgramOf : Options → List ℕ → Tree → Type 0
IsProgramOf o text t = Spells o t text × ((other : Tree) → TreeReads o other text → other ≡ t)

-- What reading the text comes to: its tree, too deep a nesting, or a token that is unexpected. The characters and the settings say it.
abbrev pub outcome : Options → List ℕ → Result Tree reading.Fault
outcome o text = read_text (is_module o.goal) o.syntax o.nesting text

-- the place in a text before its last characters, so many of them
abbrev pub place_before : ℕ → List ℕ → ℕ
place_before n text = text_start + (bytes text - bytes (drop (length text - n) text))

-- The place in a text before the characters that are left where so many tokens may come: where the token at hand ends, or where a slash begins; the end of the text behind a fault of the lexer
-- (`the_bound_tells` of lex_step_laws).
abbrev pub stops_at : ℕ → List ℕ → ℕ
stops_at tokens text = place_before (characters_left tokens) text

-- Reading the text comes to a token that is unexpected, where so many may come at most; no tree reads it; and the fault begins no further than the
-- characters that are left by that number.
pub record IsUnexpected (o : Options) (text : List ℕ) (e : Error) : Type 0 where
  pub left : ℕ
  pub stops : outcome o text ≡ Err (reading.Unexpected left)
  pub unread : (other : Tree) → TreeReads o other text → ⊥
  pub begins : e.span.lo.0 ≤ stops_at left text

-- Reading the text comes to a tree, within the limit, and no other tree reads it. It lists early errors, and this is the first of them.
pub record IsWrong (o : Options) (text : List ℕ) (e : Error) : Type 0 where
  pub tree : Tree
  pub comes : outcome o text ≡ Ok tree
  pub reads : TreeReads o tree text
  pub within : nesting tree ≤ o.nesting
  pub only : (other : Tree) → TreeReads o other text → other ≡ tree
  pub rest : List Error
  pub errors : early_errors (parts_of o.syntax) tree ≡ e ∷ rest

-- The text has a fault: a token is unexpected; or this is the first early error.
abbrev pub IsFaulty : Options → List ℕ → Error → Type 0
IsFaulty o text e = IsUnexpected o text e ⊎ IsWrong o text e

-- Reading the text comes to too deep a nesting, where so many tokens may come at most; and each tree that reads it goes deeper than the limit.
pub record IsTooDeep (o : Options) (text : List ℕ) : Type 0 where
  pub left : ℕ
  pub stops : outcome o text ≡ Err (reading.TooDeep left)
  pub deeper : (other : Tree) → TreeReads o other text → o.nesting < nesting other

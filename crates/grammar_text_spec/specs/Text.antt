-- When a tree and a program spell a text, as a script or as a module.
use Rattle.std.specs.Prelude.{◌≡◌, ◌≤◌, ℕ, Bool, true, false, if◌then◌else◌, List, []}
use Rattle.std.specs.Str.{chars, IsUtf8}
use Rattle.base_token.specs.declared.syntax.EsSyntax.{EsSyntax}
use Rattle.tree_spec.specs.Tree.{Tree, script, es_module}
use Rattle.tree_nesting.specs.Nesting.{nesting}
use Rattle.tree_program_spec.specs.Program.{program}
use Rattle.grammar_spec.specs.Tokens.Input.{PlacedToken, Input, Code, script_code, module_code}
use Rattle.grammar_spec.specs.Grammar.{Derives}
use Rattle.grammar_spec.specs.Judge.Early.{early_errors}
use Rattle.grammar_text_spec.specs.Tiled.{Tile}

-- What a reading is told: the parts of the language that are on, and how deep a tree may go.
pub record Setting : Type 0 where
  pub syntax : EsSyntax
  pub limit : ℕ

-- the goal symbol (clause 16): Script, or Module
abbrev pub code_of : Bool → EsSyntax → Code
code_of modules syntax = if modules then module_code syntax else script_code syntax

abbrev pub is_of_goal : Bool → Tree → Bool
is_of_goal false (script s ss l) = true
is_of_goal true (es_module s ss l) = true
is_of_goal modules t = false

-- The characters of a text begin at the place 1.
abbrev pub text_start : ℕ
text_start = 1

-- The tree derives tokens that tile the text: they agree in tokens, places, line breaks, escapes, lexical goals and contexts, since the relation
-- judges the goal and the context of each place where it consumes the token. Whatever may be wrong beside that is not judged here.
abbrev pub Reads : Bool → EsSyntax → Tree → List ℕ → Type 0
Reads modules syntax t text = (ps : List PlacedToken) × (end : Input) × (is_of_goal modules t ≡ true) × Tile text_start modules text ps
    × Derives t (code_of modules syntax) (record { last = text_start; places = ps }) end

-- A tree spells a text: it reads it, no early error is listed, and it goes no deeper than the limit.
pub record TreeSpells (x : Setting) (modules : Bool) (t : Tree) (text : List ℕ) : Type 0 where
  pub reads : Reads modules x.syntax t text
  pub clean : early_errors x.syntax t ≡ []
  pub within : nesting t ≤ x.limit

-- the same with the limit set aside: of whatever nesting
pub record SpellsAtAnyDepth (x : Setting) (modules : Bool) (t : Tree) (text : List ℕ) : Type 0 where
  pub reads : Reads modules x.syntax t text
  pub clean : early_errors x.syntax t ≡ []

-- A program, which is a tree without places and spellings, spells a text where a tree of it does.
abbrev pub ProgramSpells : Setting → Bool → Tree → List ℕ → Type 0
ProgramSpells x modules p text = (t : Tree) × (program t ≡ p) × TreeSpells x modules t text

-- The same of bytes: they are UTF-8, and their characters are spelled.
abbrev pub SpellsBytes : Setting → Bool → Tree → List ℕ → Type 0
SpellsBytes x modules p text = IsUtf8 text × ProgramSpells x modules p (chars text)

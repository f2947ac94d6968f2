-- What is written of a program that was read is text: the statement.
use Rattle.std.specs.Prelude.{◌≡◌, ℕ, Bool, true, List}
use lib.Utf8.{scalars}
use Rattle.base_token.specs.declared.syntax.EsSyntax.{EsSyntax}
use Rattle.tree_spec.specs.Tree.{Tree}
use Rattle.grammar_text_spec.specs.Text.{Reads}
use Rattle.print_layout_spec.specs.declared.look.Look.{Look}
use Rattle.again_laws.specs.Text.LaidLaws.{IsWrittenText}

-- A tree that reads a text of scalar values, as a script or as a module, is written in UTF-8 on a page of UTF-8, formatted and minified.
abbrev pub ReadIsText : Type 0
ReadIsText = (look : Look) (modules : Bool) (syntax : EsSyntax) (t : Tree) (text : List ℕ) → scalars text ≡ true → Reads modules syntax t text → IsWrittenText look t

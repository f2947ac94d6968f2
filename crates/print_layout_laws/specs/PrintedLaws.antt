-- What the grammar derives can be printed: the statements of the law.
use Rattle.std.specs.Prelude.{◌≡◌, ℕ, Bool, false, List}
use Rattle.base_token.specs.declared.syntax.EsSyntax.{EsSyntax}
use Rattle.tree_spec.specs.Tree.{Tree}
use Rattle.grammar_spec.specs.Tokens.Input.{Input, Code}
use Rattle.grammar_spec.specs.Grammar.{Produces}
use Rattle.grammar_text_spec.specs.Text.{Reads}
use Rattle.print_layout_spec.specs.declared.look.Look.{Look}
use Rattle.print_layout_spec.specs.declared.look.Stand.{Stand}
use Rattle.print_layout_spec.specs.declared.look.Stand.TheVariants.{Alone}
use Rattle.print_layout_spec.specs.Looks.{is_refused}
use Rattle.print_layout_spec.specs.Layout.{laid}

-- What produces tokens can be printed, whatever it is, in any look and wherever it stands.
abbrev pub SpelledIsPrinted : Type 0
SpelledIsPrinted = (look : Look) (s : Stand) (t : Tree) (c : Code) (ts r : Input) → Produces t c ts r → is_refused (laid look s t) ≡ false

-- So a tree that reads a text, as a script or as a module, can be printed.
abbrev pub ReadIsPrinted : Type 0
ReadIsPrinted = (look : Look) (modules : Bool) (syntax : EsSyntax) (t : Tree) (text : List ℕ) → Reads modules syntax t text → is_refused (laid look Alone t) ≡ false

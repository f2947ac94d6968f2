-- What a tree that was read from known tokens has of them.
use Rattle.std.specs.Prelude.{◌≡◌, false}
use Rattle.tree_spec.specs.Tree.{Tree}
use Rattle.grammar_spec.specs.Tokens.Input.{Input, Code}
use Rattle.grammar_spec.specs.Children.{is_quasi}
use Rattle.grammar_spec.specs.Grammar.{Produces}
use Rattle.print_layout_spec.specs.declared.look.Look.{Look}
use Rattle.again_laws.specs.Tokens.Means.{Known}
use Rattle.again_laws.specs.Derived.Redo.{Mode, is_tagged}
use Rattle.again_laws.specs.Derived.Every.{every}
use Rattle.again_laws.specs.Derived.Faithful.{Faithful}
use Rattle.again_laws.specs.Derived.Read.{Read}

-- What is derived from known tokens, and is no piece of a template, is read from these: each leaf has its token.
abbrev pub DerivedIsRead : Type 0
DerivedIsRead = (mode : Mode) (t : Tree) (c : Code) (ts r : Input) → is_tagged mode ≡ false → is_quasi t ≡ false → Produces t c ts r → Known ts.places → every (Read Known) mode t

-- What is written of each of its leaves tells what the leaf told.
abbrev pub ReadIsFaithful : Type 0
ReadIsFaithful = (look : Look) (mode : Mode) (t : Tree) → every (Read Known) mode t → every (Faithful look) mode t

-- What is written of text is text: the statements.
use Rattle.std.specs.Prelude.{[]}
use Rattle.tree_spec.specs.Tree.{Tree}
use Rattle.print_writers.specs.Pages.{Page}
use Rattle.print_pages_spec.specs.Pieces.{resolved, shortened}
use Rattle.print_pages_spec.specs.Utf8.{IsUtf8Page, AreUtf8Pieces}
use Rattle.print_layout_spec.specs.declared.look.Look.{Look}
use Rattle.print_layout_spec.specs.declared.look.Stand.{Stand}
use Rattle.print_layout_spec.specs.Looks.{listed}
use Rattle.print_layout_spec.specs.Layout.{laid, pieces}
use Rattle.again_laws.specs.Text.Texts.{IsTextTree}

-- The pieces of a tree whose texts are UTF-8 are UTF-8, in any look and wherever it stands.
abbrev pub TextIsLaid : Type 0
TextIsLaid = (look : Look) (s : Stand) (t : Tree) → IsTextTree t → AreUtf8Pieces (listed (laid look s t) [])

-- On a page of UTF-8 a tree is written in UTF-8, formatted and minified.
abbrev pub IsWrittenText : Look → Tree → Type 0
IsWrittenText look t = (p : Page) → IsUtf8Page p → IsUtf8Page (resolved (pieces look t) p) × IsUtf8Page (shortened (pieces look t) p)

-- So is one whose texts are UTF-8.
abbrev pub TextIsWritten : Type 0
TextIsWritten = (look : Look) (t : Tree) → IsTextTree t → IsWrittenText look t

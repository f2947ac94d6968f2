-- A text with other trivia between its tokens is read back: the statements.
use Rattle.std.specs.Prelude.{◌≡◌, ℕ, Bool, true, List, Option}
use Rattle.std.specs.Str.{chars}
use lib.Utf8.{scalars}
use Rattle.tree_spec.specs.Tree.{Tree}
use Rattle.grammar_text_spec.specs.Text.{Setting, Reads, TreeSpells}
use Rattle.print_writers.specs.Pages.{Page}
use Rattle.print_pages_spec.specs.Pieces.{resolved, shortened}
use Rattle.print_layout_spec.specs.declared.look.Look.{Look}
use Rattle.print_layout_spec.specs.Layout.{pieces}
use Rattle.print_weave_laws.specs.Gaps.{Trivium}
use Rattle.print_weave_laws.specs.Cells.{Cell, text_of, woven}
use Rattle.again_laws.specs.Laws.{IsReadBack}
use Rattle.again_laws.specs.Tiling.Tiles.{IsEmptyPage}
use Rattle.again_weave_laws.specs.Cells.{IsCelled, MayBeWoven, led}

-- A text that some tree reads is tokens with trivia between them.
abbrev pub ReadIsCelled : Type 0
ReadIsCelled = (modules : Bool) (x : Setting) (t : Tree) (text : List ℕ) → Reads modules x.syntax t text
    → (hash : Option (List ℕ)) × (cells : List Cell) × (tail : List Trivium) × IsCelled modules hash cells tail text

-- The text is tokens with trivia between them, and with other trivia, where it may stand, the same program spells it and no other tree reads it.
pub record IsWoven (look : Look) (x : Setting) (modules : Bool) (t : Tree) (text : List ℕ) : Type 0 where
  pub hash : Option (List ℕ)
  pub cells : List Cell
  pub tail : List Trivium
  pub celled : IsCelled modules hash cells tail text
  pub read_back : (gaps : List (List Trivium)) (over : List Trivium) → MayBeWoven hash cells gaps tail over → IsReadBack look x modules t (led hash (text_of (woven cells gaps) over))

-- So it is of what is written of each tree that spells a text, formatted and minified.
abbrev pub WovenReadsBack : Type 0
WovenReadsBack = (look : Look) (x : Setting) (modules : Bool) (t : Tree) (text : List ℕ) (p : Page) → scalars text ≡ true → TreeSpells x modules t text → IsEmptyPage p
    → IsWoven look x modules t (chars (resolved (pieces look t) p).out) × IsWoven look x modules t (chars (shortened (pieces look t) p).out)

-- What is written of a tree whose texts are UTF-8.
use Rattle.tree_spec.specs.Tree.{Tree}
use Rattle.std.proofs.Common.{[]}
use Rattle.print_pages_spec.proofs.Utf8.{text_stays}
use Rattle.print_layout_spec.specs.declared.look.Look.{Look}
use Rattle.print_layout_spec.specs.declared.look.Stand.TheVariants.{Alone}
use Rattle.print_layout_spec.specs.Layout.{laid, pieces}
use Rattle.again_laws.specs.Derived.Redo.{Plain}
use Rattle.again_laws.specs.Text.LaidLaws.{IsWrittenText, TextIsLaid, TextIsWritten}
use Rattle.again_laws.proofs.text.LayoutUtf8.{Textual, pieces_listed}
use Rattle.again_laws.proofs.text.TreeUtf8.{text_of}

-- where the layout is
pub written : (look : Look) (t : Tree) → Textual (laid look Alone t) → IsWrittenText look t
written look t x p u = text_stays (pieces look t) p (pieces_listed (laid look Alone t) [] x.so tt) u

pub text_is_laid : TextIsLaid
text_is_laid look s t h = pieces_listed (laid look s t) [] (text_of look Plain s t h).so tt

pub text_is_written : TextIsWritten
text_is_written look t h = written look t (text_of look Plain Alone t h)

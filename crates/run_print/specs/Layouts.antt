-- What is written of a tree by the settings of a run: its bytes, and the positions with the places at which they are written.
use Rattle.std.specs.Prelude.{ℕ, false, not, if◌then◌else◌, List, [], Option, Some, None, codes}
use Rattle.std.specs.Option.{option_map}
use Rattle.base_token.specs.declared.place.BytePos.{BytePos}
use Rattle.base_token.specs.declared.place.LineCol.{LineCol}
use Rattle.tree_spec.specs.Tree.{Tree}
use Rattle.print_writers.specs.Pages.{Marks, Page, IsPast, times}
use Rattle.print_writers.specs.Views.{first_page, first_marks}
use Rattle.print_pages_spec.specs.Pieces.{resolved, shortened}
use Rattle.print_layout_spec.specs.declared.look.Look.{Look}
use Rattle.print_layout_spec.specs.declared.look.Stand.TheVariants.{Alone}
use Rattle.print_layout_spec.specs.Looks.{Laid, listed}
use Rattle.print_layout_spec.specs.Layout.{laid}
use Rattle.run_command.specs.Options.{is_format}
use Rattle.run_command.specs.declared.options.Options.{Options}
use Rattle.run_command.specs.declared.options.LineEnd.{LineEnd}
use Rattle.run_command.specs.declared.options.LineEnd.TheVariants.{Lf, CrLf}
use Rattle.run_command.specs.declared.options.Indent.{Indent}
use Rattle.run_command.specs.declared.options.Indent.TheVariants.{Blanks, Tabs}

-- How a text looks by these settings. Only where it is minified may the last semicolon of a program go; `with` stands before import attributes.
abbrev pub look_of : Options → Look
look_of o = record {
  style = record { target = o.target; minify = not (is_format o.style); ascii_only = o.ascii_only; inline_script = o.inline_script };
  omits_last = not (is_format o.style);
  asserts = false;
}

-- what ends a line
abbrev pub line_end_of : LineEnd → List ℕ
line_end_of Lf = codes "\n"
line_end_of CrLf = codes "\r\n"

-- one step of the indentation
abbrev pub indent_of : Indent → List ℕ
indent_of (Blanks n) = times n (codes " ")
indent_of (Tabs n) = times n (codes "\t")

-- where positions are asked for, marks of which there are none yet
abbrev pub marks_of : Options → Option Marks
marks_of o = if o.positions then Some (first_marks []) else None

-- a page on which nothing is written yet
abbrev pub page_of : Options → Page
page_of o = record (first_page [] (line_end_of o.line_end) (marks_of o)) { indent = indent_of o.indent }

-- what a tree writes
unfoldable pub laid_of : Options → Tree → Laid
laid_of o t = laid (look_of o) Alone t

-- What its pieces are resolved to on a page. Where it is minified, a semicolon that may go goes before `}` and at the end.
unfoldable pub written_on : Options → Tree → Page → Page
written_on o t p = if is_format o.style then resolved (listed (laid_of o t) []) p else shortened (listed (laid_of o t) []) p

-- The layout of a tree: its bytes.
unfoldable pub layout : Options → Tree → List ℕ
layout o t = (written_on o t (page_of o)).out

-- Its positions, where they are asked for: each place of the source that is marked, with the line and the column at which it is written.
unfoldable pub positions_of : Options → Tree → Option (List (BytePos × LineCol))
positions_of o t = option_map (λ m. m.pairs) (written_on o t (page_of o)).marks

-- Where they are asked for, a line or a column of the layout is past 4,294,967,295.
unfoldable pub IsPastLast : Options → Tree → Type 0
IsPastLast o t = IsPast (written_on o t (page_of o))

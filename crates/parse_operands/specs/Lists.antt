-- What contracts see of lists that are being read.
use Rattle.std.specs.Prelude.{◌≡◌, All, map}
use Rattle.tree_nodes.specs.Tree.{element_by}
use Rattle.tree_nodes.specs.Fits.{fits_expr_or_spread, fits_held}
use Rattle.tree_nodes.specs.Placed.{holds_expr, inner}
use Rattle.tree_nodes.specs.View.{view_expr_or_spread, view_tpl_element}
use Rattle.grammar_spec.specs.Reader.Cover.{last_rests}
use Rattle.grammar_spec.specs.Reader.Expressions as reads
use Rattle.parse_operands.specs.declared.lists.Elements.{Elements}
use Rattle.parse_operands.specs.declared.lists.Arguments.{Arguments}
use Rattle.parse_operands.specs.declared.lists.Spans.{Spans}

abbrev pub elements_of : Elements → reads.Elements
elements_of e = record { items = map (λ x. element_by (view_expr_or_spread inner) x) e.items.items; comma = e.comma }

abbrev pub arguments_of : Arguments → reads.Elements
arguments_of e = record { items = map (view_expr_or_spread inner) e.items.items; comma = e.comma }

abbrev pub FitElements : Elements → Type 0
FitElements e = All (λ x. fits_held (λ x. fits_expr_or_spread (λ p. p) x) x) e.items.items

-- whether the last is spread is told
abbrev pub TellsRest : Elements → Type 0
TellsRest e = e.rest ≡ last_rests (map (λ x. element_by (view_expr_or_spread inner) x) e.items.items)

abbrev pub FitArguments : Arguments → Type 0
FitArguments e = All (λ x. fits_expr_or_spread (λ p. p) x) e.items.items

abbrev pub spans_of : Spans → reads.Spans
spans_of x = record { exprs = map (λ e. inner e.part.value) x.exprs.items; quasis = map view_tpl_element x.quasis.items }

abbrev pub FitSpans : Spans → Type 0
FitSpans x = All (λ e. holds_expr e.part.value) x.exprs.items

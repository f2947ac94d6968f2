-- The characters of a template that were read.
use Rattle.std.specs.Prelude.{Bool, [], Option, Some}
use Rattle.tree_spec.specs.Tree.{Tree, tpl_element}
use Rattle.tree_nodes.specs.declared.expressions.TplElement.{TplElement}
use Rattle.grammar_spec.specs.Tokens.Input.{Code}
use Rattle.grammar_spec.specs.Reader.Source.{Stream, Inner, Read, iterate, bound}
use Rattle.grammar_spec.specs.Reader.Expressions.{Spans, quasi_step}

-- the element that they make, by whether it is the last
abbrev pub element_at : TplElement → Bool → Option Tree
element_at x tail = Some (tpl_element x.span tail x.raw x.cooked)

abbrev pub no_spans : Spans
no_spans = record { exprs = []; quasis = [] }

-- what stands in a template, after its first back quote (13.2.8)
unfoldable pub spans_by : {S : Type 0} → Stream S → Inner S → Code → Bool → Read S Spans
spans_by m inner c tagged s = iterate (bound m) (quasi_step m inner c tagged) no_spans s

use Rattle.std.proofs.Common.{rules}
use Rattle.grammar_spec.specs.Reader.Expressions as reads
use Rattle.parse_state.specs.Codes.{code_of}
use Rattle.parse_state.specs.Cursors.{stream_of}
use Rattle.parse_operands.specs.Lists.{spans_of}
use Rattle.parse_expressions.proofs.Steps.{step_by}
use Rattle.parse_expressions.proofs.templates.characters.Goals as goal

pub returns-in_err-element-clause-value : goal.returns-in_err-element-clause-value
unfolding reads.quasi_step
returns-in_err-element-clause-value g c = search rules

pub returns-clause-value : goal.returns-clause-value
returns-clause-value g c =
    let k = step_by (stream_of g.I.Tokens.machine) (g.N.Nested.reads c.args.nested.now g.I.Tokens.State g.I.Tokens.machine) (code_of c.args.code) c.args.tagged (spans_of c.args.spans.now) _ _ _
    c.in_ok-element.ensures.value c.in_ok-element.ensures.element in search (rules, k)

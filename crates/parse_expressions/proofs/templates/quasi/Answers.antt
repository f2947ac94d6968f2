use Rattle.std.proofs.Common.{rules, sym, ◌∙◌}
use Rattle.grammar_spec.specs.Reader.Source as spec
use Rattle.parse_state.specs.Cursors.{stream_of}
use Rattle.parse_expressions.proofs.templates.quasi.Goals as goal

pub returns-clause-value : goal.returns-clause-value
unfolding spec.eat stream_of
returns-clause-value g c = let k = sym c.into_token.ensures ∙ c.in-Template.is in search (rules, k)

pub returns-clause-element : goal.returns-clause-element
unfolding spec.eat stream_of
returns-clause-element g c = let k = sym c.into_token.ensures ∙ c.in-Template.is in search (rules, k)

use Rattle.std.proofs.Common.{sym, ◌∙◌}
use Rattle.parse_modules.proofs.Attributes.{passed_over, found, none_found}
use Rattle.parse_modules.proofs.questions.are_attributes.Goals as goal

pub props-preserved : goal.props-preserved
props-preserved c = passed_over c.args.props.now c.props.prop-index c.prop-item.result _ c.props-test.true c.prop-item.is (sym c.is_attribute.ensures ∙ c.if-not-is_attribute.false) c.props.invariant

pub returns-then-not-is_attribute : goal.returns-then-not-is_attribute
returns-then-not-is_attribute c = found c.args.props.now c.props.prop-index c.prop-item.result _ c.props-test.true c.prop-item.is (sym c.is_attribute.ensures ∙ c.if-not-is_attribute.true) c.props.invariant

pub returns : goal.returns
returns c = none_found c.args.props.now c.props.prop-index _ c.props-test.false c.props.invariant

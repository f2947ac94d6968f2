use Rattle.std.proofs.Common.{arith}
use Rattle.std.proofs.lemmas.Bool.Decides.{nat_tests}
use Rattle.tree_nodes.specs.View.{view_tpl_element}
use Rattle.print_nodes.proofs.Templated.{tpl_whole, tpl_other}
use Rattle.print_nodes.proofs.Parts.{laid_like}
use Rattle.print_pieces.proofs.Steps.{◌▸◌, laid_as}
use Rattle.print_nodes.proofs.templates.TplOfPrint.print.Goals as goal

pub returns-then-rest-exprs-clause-laid : goal.returns-then-rest-exprs-clause-laid
returns-then-rest-exprs-clause-laid g c = laid_as (tpl_other c.args.self.now.exprs.items c.as_slice-exprs.result.now c.args.self.now.quasis.items c.as_slice.result.now c.in-Some.rest.now c.in-Some.first.now c.args.look c.args.stand c.args.self.now.span (λ x. g.T.Print.tree x.part.value) view_tpl_element c.as_slice-exprs.ensures.value c.as_slice.ensures.value c.in-Some.ensures.cases.0 (grind (arith, nat_tests, c.if-rest-exprs.true))) c.refuse-then-rest-exprs.ensures

pub returns-clause-laid : goal.returns-clause-laid
returns-clause-laid g c = laid_like (tpl_whole c.args.self.now.exprs.items c.as_slice-exprs.result.now c.args.self.now.quasis.items c.as_slice.result.now c.in-Some.rest.now c.in-Some.first.now c.args.look c.args.stand c.args.self.now.span (λ x. g.T.Print.tree x.part.value) view_tpl_element c.as_slice-exprs.ensures.value c.as_slice.ensures.value c.in-Some.ensures.cases.0 (grind (arith, nat_tests, c.if-rest-exprs.false))) (c.start.ensures ▸ (c.text.ensures ▸ (c.print.ensures.laid ▸ (c.print_rest.ensures ▸ (c.text-2.ensures ▸ c.end.ensures)))))

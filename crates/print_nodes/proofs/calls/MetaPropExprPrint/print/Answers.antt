use Rattle.std.proofs.Common.{◌==◌}
use Rattle.base_token.specs.Kinds.{new_kind}
use Rattle.tree_nodes.specs.View.{meta_prop_kind_word}
use Rattle.print_nodes.proofs.Parts.{laid_like}
use Rattle.print_nodes.proofs.Tokens.{meta_property}
use Rattle.print_pieces.proofs.Steps.{◌▸◌}
use Rattle.print_nodes.proofs.calls.MetaPropExprPrint.print.Goals as goal

pub returns-clause-laid : goal.returns-clause-laid
returns-clause-laid g c = c.start.ensures ▸ laid_like (meta_property (meta_prop_kind_word c.args.self.now.kind == new_kind) _ c.meta_text.ensures) c.text.ensures

use Rattle.print_nodes.proofs.Parts.{laid_like}
use Rattle.print_nodes.proofs.Named.{export_named}
use Rattle.print_pieces.proofs.Steps.{◌▸◌}
use Rattle.print_nodes.proofs.specifiers.ExportNamedSpecifierPrint.print.Goals as goal

pub returns-clause-laid : goal.returns-clause-laid
returns-clause-laid g c = laid_like (export_named c.args.look c.args._stand c.args.self.now) (c.start.ensures ▸ (c.print.ensures.laid ▸ (c.print_behind_as.ensures ▸ c.end.ensures)))

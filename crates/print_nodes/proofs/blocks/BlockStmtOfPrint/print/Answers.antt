use Rattle.std.proofs.Common.{sym}
use Rattle.print_pieces.proofs.Steps.{◌▸◌, when_as}
use Rattle.print_layout_spec.specs.Looks.{start}
use Rattle.print_nodes.proofs.blocks.BlockStmtOfPrint.print.Goals as goal

pub returns-clause-laid : goal.returns-clause-laid
returns-clause-laid g c = when_as (start c.args.self.now.span) c.marks_block.ensures c.start_if.ensures ▸ (c.text.ensures ▸ ((rw (sym c.as_slice.ensures.value) c.print_indented_statements.ensures) ▸ (c.last.ensures ▸ c.brace.ensures)))

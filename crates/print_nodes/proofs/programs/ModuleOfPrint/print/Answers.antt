use Rattle.std.proofs.Common.{sym}
use Rattle.print_layout_spec.specs.Looks.{start}
use Rattle.print_pieces.proofs.Steps.{◌▸◌, when_as}
use Rattle.print_nodes.proofs.programs.ModuleOfPrint.print.Goals as goal

pub returns-clause-laid : goal.returns-clause-laid
returns-clause-laid g c =
    when_as (start c.args.self.now.span) (rw (sym c.as_slice.ensures.value) c.is_empty.ensures) c.start_if.ensures
    ▸ (c.print_hashbang.ensures ▸ ((rw (sym c.as_slice-2.ensures.value) c.print_statements.ensures) ▸ c.print_last.ensures))

use Rattle.print_pages_spec.proofs.Resolving.{calls_resolve, calls_shorten, calls_go_on}
use Rattle.print_pages_spec.proofs.laws.calls_resolve_pieces.Goals as goal

pub returns : goal.returns
returns c = record { standing = calls_resolve; shortened = calls_shorten; waiting = calls_go_on }

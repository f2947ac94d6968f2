use Rattle.std.proofs.Common.{rules, sym}
use Rattle.grammar_spec.specs.Reader.Statements as reads
use Rattle.parse_classes.specs.Members as pieces
use Rattle.parse_classes.proofs.members.field_or_method.Goals as goal

pub returns-clause-value : goal.returns-clause-value
unfolding reads.field_or_method pieces.field_by
returns-clause-value g c = rw (sym c.kind.ensures, sym c.field_end-end.ensures) (search rules)

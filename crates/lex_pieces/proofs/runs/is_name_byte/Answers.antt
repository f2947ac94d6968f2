use Rattle.std.proofs.Common.{ap, ◌∙◌, arith}
use Rattle.lex_pieces.specs.Bytes.{is_name_class}
use Rattle.lex_pieces.proofs.Tables.{name_class}
use Rattle.lex_pieces.proofs.runs.is_name_byte.Goals as goal

pub returns : goal.returns
returns c = c.is_name_part.ensures ∙ ap is_name_class c.byte_class.ensures ∙ name_class c.args.byte (omega arith)

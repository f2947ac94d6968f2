use Rattle.std.proofs.Common.{ap, ◌∙◌, arith}
use Rattle.lex_pieces.specs.Bytes.{is_space_class}
use Rattle.lex_pieces.proofs.Tables.{space_class}
use Rattle.lex_pieces.proofs.runs.is_space_byte.Goals as goal

pub returns : goal.returns
returns c = c.is_white_space.ensures ∙ ap is_space_class c.byte_class.ensures ∙ space_class c.args.byte (omega arith)

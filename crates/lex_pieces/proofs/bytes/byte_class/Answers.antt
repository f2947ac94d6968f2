use Rattle.std.proofs.Common.{arith}
use Rattle.lex_pieces.proofs.Tables.{computed, class_from_table}
use Rattle.lex_pieces.specs.declared.bytes.TheConstants.{CLASSES}
use Rattle.lex_pieces.proofs.bytes.byte_class.Goals as goal

pub returns : goal.returns
returns c = class_from_table CLASSES c.args.byte (omega arith) computed

use Rattle.std.proofs.Common.{refl, rules}
use Rattle.memchr.specs.Find.{is_byte, is_byte3}
use Rattle.lex_pieces.specs.Classes.{is_line_byte, is_no_star}
use Rattle.lex_pieces.proofs.Wide.{first_len}
use Rattle.lex_pieces.proofs.runs.plain_len.Goals as goal

pub returns-in-Line : goal.returns-in-Line
returns-in-Line c = search (rules, first_len (is_byte3 10 13 226) is_line_byte (λ b. refl) c.args.bytes.now c.memchr3.result c.memchr3.ensures)

pub returns-in-NoStar : goal.returns-in-NoStar
returns-in-NoStar c = search (rules, first_len (is_byte 42) is_no_star (λ b. refl) c.args.bytes.now c.memchr.result c.memchr.ensures)

use Rattle.parse_lexer_laws.proofs.Order.{first_in_front, lexer_hands_in_order}
use Rattle.parse_lexer_laws.proofs.order_law.Goals as goal

pub returns : goal.returns
returns c = record { order = lexer_hands_in_order; starts = first_in_front }

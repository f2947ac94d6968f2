use Rattle.again_laws.proofs.names.Ascending.{names_are_tokens, names_ascend, names_of_texts_ascend}
use Rattle.again_laws.proofs.names.order_law.Goals as goal

pub returns : goal.returns
returns c = record { tokens = names_are_tokens; places = names_ascend; texts = names_of_texts_ascend }

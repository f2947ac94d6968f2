use Rattle.base_token.proofs.ReservedLemmas.{literal_reserved}
use Rattle.base_token.proofs.context.Context.reserves.Goals as goal

pub returns-in-Null : goal.returns-in-Null
returns-in-Null c = λ _. literal_reserved c.args.self c.args.kind c.in-Null.is

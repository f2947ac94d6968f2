use Rattle.std.proofs.Common.{arith}
use Rattle.std.proofs.lemmas.Grind.{common_steps}
use Rattle.base_token.proofs.ReservedLemmas.{keyword_reserved, other_keyword}
use Rattle.base_token.proofs.context.Context.reserves_keyword.Goals as goal

pub returns-in-Let : goal.returns-in-Let
returns-in-Let c = rw (keyword_reserved, c.in-Let.is)

pub returns-then-self : goal.returns-then-self
returns-then-self c = rw (keyword_reserved, c.in-Yield.is) (grind (arith, common_steps))

pub returns-else-self : goal.returns-else-self
returns-else-self c = rw (keyword_reserved, c.in-Yield.is) (grind (arith, common_steps))

pub returns-then-self-3 : goal.returns-then-self-3
returns-then-self-3 c = rw (keyword_reserved, c.in-Await.is) (grind (arith, common_steps))

pub returns-else-self-3 : goal.returns-else-self-3
returns-else-self-3 c = rw (keyword_reserved, c.in-Await.is) (grind (arith, common_steps))

pub returns-in_default : goal.returns-in_default
returns-in_default c =
    rw keyword_reserved (other_keyword c.args.self c.args.keyword c.in_default.not-Let c.in_default.not-Yield c.in_default.not-Await)

use Rattle.std.proofs.Common.{sym, ◌∙◌}
use Rattle.print_gaps.proofs.Lasts.{alone_is}
use Rattle.print_gaps.proofs.starts.alone_starts.Goals as goal

pub returns-then-params-eq1 : goal.returns-then-params-eq1
returns-then-params-eq1 g c = c.starts_with_alpha_num.ensures ∙ sym (alone_is g.T.StartsWithAlphaNum.tree _ _ c.if-params-eq1.true c.index-params-0.is)

use Rattle.tree_same.proofs.WordLemmas.{no_pair, past_pair}
use Rattle.tree_same.proofs.keys.past_char.Goals as goal

pub returns-in_default : goal.returns-in_default
returns-in_default c = no_pair c.args.c c.args.units.now c.if-code-lt65536.false c.in_default.ensures

pub returns : goal.returns
returns c = past_pair c.args.c c.args.units.now c.in-Some.rest.now c.past_unit-3.result c.if-code-lt65536.false c.in-Some.ensures c.past_unit-3.ensures

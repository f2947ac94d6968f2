use Rattle.std.proofs.Common.{◌∙◌}
use Rattle.tree_same.proofs.WordLemmas.{words_alike}
use Rattle.tree_same.proofs.keys.same_words.Goals as goal

pub returns : goal.returns
returns c = c.eq.ensures ∙ words_alike c.args.text.now c.args.other.now c.utf8.text c.utf8.other

use Rattle.base_token.proofs.WordLemmas.{long_not_own, short_not_own}
use Rattle.base_token.proofs.word_table.place_of.Goals as goal

pub returns-in_default : goal.returns-in_default
returns-in_default c = short_not_own _ _ c.as_bytes.ensures.value c.in_default.len_below

pub returns-then-len-gt-LONGEST : goal.returns-then-len-gt-LONGEST
returns-then-len-gt-LONGEST c = long_not_own _ c.if-len-gt-LONGEST.true

use Rattle.std.proofs.Common.{sym, ◌∙◌}
use Rattle.base_token.proofs.WordLemmas.{own_found_at, own_missing_at}
use Rattle.base_token.proofs.word_table.kind_of.Goals as goal

pub returns-in-Some : goal.returns-in-Some
returns-in-Some c = c.kind_at.ensures ∙ own_found_at _ _ c.in-Some.ensures (rw (sym c.text_at.ensures) (sym c.eq.ensures ∙ c.if-eq.true))

pub returns-in_default : goal.returns-in_default
returns-in_default c = own_missing_at _ _ c.in-Some.ensures (rw (sym c.text_at.ensures) (sym c.eq.ensures ∙ c.if-eq.false))

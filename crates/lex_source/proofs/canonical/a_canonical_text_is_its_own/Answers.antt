use Rattle.lex_source.proofs.canonical.a_canonical_text_is_its_own.Goals as goal
use Rattle.lex_source.proofs.canonical.Again.{canonical_stays}

pub returns : goal.returns
returns c = canonical_stays

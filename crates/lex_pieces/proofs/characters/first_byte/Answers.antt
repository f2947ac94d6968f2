use Rattle.std.proofs.Common.{sym, subst, ◌<◌, ◌≤◌, length, slice_index_or, arith}
use Rattle.std.specs.Str.{chars}
use Rattle.lex_pieces.specs.Bytes.{IsLead}
use Rattle.lex_pieces.proofs.Leads.{lead_at, no_lead}
use Rattle.lex_pieces.proofs.characters.first_byte.Goals as goal

pub returns-in-empty : goal.returns-in-empty
returns-in-empty c =
    let short : length c.args.text.now < 1 = omega (arith, c.as_bytes.ensures.len, c.in-empty.len_below) in
    no_lead c.args.text.now short

pub returns-in-len1-up : goal.returns-in-len1-up
returns-in-len1-up c =
    let text = c.args.text.now in
    let long : 1 ≤ length text = omega (arith, c.as_bytes.ensures.len, c.in-len1-up.len_at_least) in
    subst (λ s. IsLead (slice_index_or s 0 0) (chars text)) (sym c.as_bytes.ensures.value) (lead_at text c.utf8.text long)

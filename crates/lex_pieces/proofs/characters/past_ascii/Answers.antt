use Rattle.std.proofs.Common.{◌∙◌, ◌∷◌, ap, sym}
use Rattle.std.specs.Str.{chars}
use Rattle.lex_pieces.proofs.Leads.{first_ascii}
use Rattle.lex_pieces.proofs.characters.past_ascii.Goals as goal

pub range_from-requires : goal.range_from-requires
range_from-requires c = λ _. (first_ascii c.args.text.now c.utf8.text c.requires).2.boundary

pub returns-clause-cut : goal.returns-clause-cut
returns-clause-cut c =
    let k = first_ascii c.args.text.now c.utf8.text c.requires in
    (k.0, k.1, k.2.rest ∙ ap (λ l. k.0 ∷ chars l) (sym c.range_from.ensures.value))

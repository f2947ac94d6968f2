use Rattle.std.proofs.Common.{◌++◌, length, drop, refl, sym, ap, ◌∙◌}
use Rattle.std.specs.Str.{chars}
use Rattle.std.proofs.lemmas.List.{drop_at}
use Rattle.lex_token.proofs.SpelledLemmas.{split}
use Rattle.lex_token.proofs.literals.past.Goals as goal

pub split_at-requires : goal.split_at-requires
split_at-requires c = (split c.args.text.now c.args.own.now c.utf8.text c.utf8.own c.requires).boundary

pub returns-clause-cut : goal.returns-clause-cut
returns-clause-cut c =
    let s = split c.args.text.now c.args.own.now c.utf8.text c.utf8.own c.requires in
    let at = c.split_at.ensures.back ∙ ap (drop (length c.args.own.now)) s.whole ∙ drop_at c.args.own.now s.rest (length c.args.own.now) refl in
    s.cut ∙ ap (λ l. chars c.args.own.now ++ chars l) (sym at)

use Rattle.std.proofs.Common.{◌++◌, ◌-◌, length, ap, ◌∙◌, sym, subst, arith, IsUtf8}
use Rattle.std.proofs.lemmas.Str.{IsUtf8-take}
use Rattle.std.specs.Str.{chars}
use Rattle.lex_literal.proofs.PlaceLemmas.{seam}
use Rattle.lex_literal.proofs.place.before.Goals as goal

pub overflow_sub-text : goal.overflow_sub-text
overflow_sub-text c =
    let s = seam c.args.text.now c.args.rest.now c.utf8.text c.utf8.rest c.requires in
    let h = s.shorter in omega arith

pub split_at-requires : goal.split_at-requires
split_at-requires c =
    let s = seam c.args.text.now c.args.rest.now c.utf8.text c.utf8.rest c.requires in
    s.boundary

pub returns-clause-cut : goal.returns-clause-cut
returns-clause-cut c =
    let s = seam c.args.text.now c.args.rest.now c.utf8.text c.utf8.rest c.requires in
    s.parts ∙ ap (λ l. chars l ++ chars c.args.rest.now) (sym c.split_at.ensures.front)

pub returns-clause-text : goal.returns-clause-text
returns-clause-text c =
    let s = seam c.args.text.now c.args.rest.now c.utf8.text c.utf8.rest c.requires in
    subst IsUtf8 (sym c.split_at.ensures.front) (IsUtf8-take c.args.text.now (length c.args.text.now - length c.args.rest.now) c.utf8.text s.boundary)

use Rattle.std.proofs.Common.{ap, arith, ◌∙◌}
use Rattle.std.specs.Str.{chars}
use Rattle.lex_pieces.proofs.NameParts.{bare_front, front_seam}
use Rattle.lex_pieces.proofs.names.split_front.Goals as goal

pub split_at-requires : goal.split_at-requires
split_at-requires c =
    let h = c.requires.start in
    (front_seam c.args.text.now c.after_name_part-rest.result.now (chars c.args.after.now) h.0 c.utf8.text c.after_name_part-rest.ensures.rest.0 h.2 c.after_name_part-rest.ensures.after).boundary

pub returns-clause-front : goal.returns-clause-front
returns-clause-front c =
    let h = c.requires.start in
    let m = front_seam c.args.text.now c.after_name_part-rest.result.now (chars c.args.after.now) h.0 c.utf8.text c.after_name_part-rest.ensures.rest.0 h.2 c.after_name_part-rest.ensures.after in
    bare_front _ (chars c.args.after.now) _ _ h.0 h.2 h.1
    (ap chars c.split_at.ensures.front ∙ m.before) (ap chars c.split_at.ensures.back ∙ ap chars m.behind ∙ c.after_name_part-rest.ensures.after)

pub overflow_sub-text : goal.overflow_sub-text
overflow_sub-text c = omega (arith, c.after_name_part-rest.ensures.rest.1, c.requires.order)

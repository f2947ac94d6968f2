use Rattle.std.proofs.Common.{sym, ◌∙◌}
use Rattle.std.specs.Str.{chars}
use Rattle.lex_literal.proofs.TemplateLemmas.{bad_next, good_next}
use Rattle.lex_literal.proofs.template.next_escape.Goals as goal

pub returns-in-Ok-clause-next : goal.returns-in-Ok-clause-next
returns-in-Ok-clause-next c =
    bad_next c.args.end (chars c.args.text.now) (chars c.args.behind.now) (chars c.in-Some.more.now) (chars c.in-Ok.rest.now) c.in-Some.field-0-0 c.in-Ok.escape c.fault.result
    c.requires.cut c.in-Some.ensures.cut c.in-Ok.ensures.escape (sym c.is_legacy.ensures ∙ c.if-is_legacy.true) c.fault.ensures.kind c.fault.ensures.place

pub returns-in-Ok-2-clause-next : goal.returns-in-Ok-2-clause-next
returns-in-Ok-2-clause-next c =
    good_next (chars c.args.text.now) (chars c.args.behind.now) (chars c.in-Ok.rest.now) c.in-Ok.escape
    c.requires.cut c.in-Ok.ensures.escape (sym c.is_legacy.ensures ∙ c.if-is_legacy.false) c.in-Ok.ensures.fits

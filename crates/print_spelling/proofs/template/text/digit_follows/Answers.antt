use Rattle.std.proofs.Common.{zero}
use Rattle.std.specs.Str.{chars}
use Rattle.lex_literal.specs.Templates.{line_feeds}
use Rattle.print_spelling.specs.Template.Templates.{parts}
use Rattle.print_spelling.proofs.template.TextLemmas.{digit_code, digit_other, digit_none}
use Rattle.print_spelling.proofs.template.text.digit_follows.Goals as goal

pub returns-in-Code : goal.returns-in-Code
returns-in-Code c =
    digit_code (parts zero (line_feeds (chars c.args.text.now))) (parts zero (line_feeds (chars c.in-Some.cut.rest.now))) c.in-Some.cut.part c.in-Code.code
    c.is_decimal.result c.in-Some.ensures.cut c.in-Code.is c.is_decimal.ensures

pub returns-in_default : goal.returns-in_default
returns-in_default c =
    digit_other (parts zero (line_feeds (chars c.args.text.now))) (parts zero (line_feeds (chars c.in-Some.cut.rest.now))) c.in-Some.cut.part
    c.in-Some.ensures.cut c.in-Some.ensures.writes.1 c.in_default.not-Code

pub returns-in-None : goal.returns-in-None
returns-in-None c = digit_none (parts zero (line_feeds (chars c.args.text.now))) c.in-None.ensures.cut

use Rattle.std.proofs.Common.{◌<◌, length, zero, arith}
use Rattle.std.specs.Str.{chars}
use Rattle.std.proofs.lemmas.Bool.Decides.{nat_tests}
use Rattle.std.proofs.lemmas.Str.{encodes-chars}
use Rattle.lex_literal.specs.Templates.{line_feeds}
use Rattle.print_spelling.specs.Template.Templates.{parts, digit_first}
use Rattle.print_spelling.proofs.template.TextLemmas.{plain_run, part_bytes, part_some, none_left}
use Rattle.print_spelling.proofs.template.text.part_step.Goals as goal

pub returns-then-not-is_empty : goal.returns-then-not-is_empty
returns-then-not-is_empty c =
    let some : 0 < length c.split_plain.result.0.now = grind (arith, nat_tests, c.is_empty.ensures) in (
      plain_run c.args.style c.args.dollar (chars c.args.text.now) (chars c.split_plain.result.0.now) (chars c.split_plain.result.1.now) c.split_plain.result.0.now
          c.split_plain.ensures.run c.split_plain.ensures.after (encodes-chars c.split_plain.result.0.now c.split_plain.ensures.text.0) some,
      some,
    )

pub returns-in-None : goal.returns-in-None
returns-in-None c = none_left c.args.style c.args.dollar (parts zero (line_feeds (chars c.args.text.now))) c.in-None.ensures.cut

pub returns-in-Some : goal.returns-in-Some
returns-in-Some c = (
  part_bytes c.args.style c.args.dollar c.dollar_behind.result (parts zero (line_feeds (chars c.args.text.now)))
      (parts zero (line_feeds (chars c.in-Some.cut.rest.now))) c.in-Some.cut.part c.made.result.bytes c.in-Some.ensures.cut c.made.ensures c.dollar_behind.ensures,
  part_some c.args.style c.args.dollar (digit_first (parts zero (line_feeds (chars c.in-Some.cut.rest.now)))) c.in-Some.cut.part c.made.result.bytes
      c.in-Some.ensures.writes.1 c.made.ensures,
)

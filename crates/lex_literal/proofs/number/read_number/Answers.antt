use Rattle.std.proofs.Common.{arith}
use Rattle.std.specs.Str.{chars}
use Rattle.lex_literal.proofs.NumeralLemmas.{started}
use Rattle.lex_literal.proofs.number.read_number.Goals as goal

pub read_plain-requires-clause-whole : goal.read_plain-requires-clause-whole
read_plain-requires-clause-whole c =
    c.split_number-front.ensures.whole (started (chars c.args.text.now) c.split_number-front.result.own.now (chars c.split_number-front.result.rest.now) c.split_number-front.result.state
    c.split_number-front.ensures.front c.requires.starts)

pub read_plain-requires-clause-shorter : goal.read_plain-requires-clause-shorter
read_plain-requires-clause-shorter c =
    let long = started (chars c.args.text.now) c.split_number-front.result.own.now (chars c.split_number-front.result.rest.now) c.split_number-front.result.state
    c.split_number-front.ensures.front c.requires.starts in
    omega (arith, long, c.split_number-front.ensures.lengths)

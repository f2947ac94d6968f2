use Rattle.std.specs.Str.{chars}
use Rattle.lex_literal.proofs.EscapeLemmas.{found_stands, none_stands}
use Rattle.lex_literal.proofs.escape.read_escape.Goals as goal

pub returns-in-Some-clause-escape : goal.returns-in-Some-clause-escape
returns-in-Some-clause-escape c =
    found_stands (chars c.args.text.now) c.in-Some.escape (chars c.in-Some.rest.now) c.in-Some.ensures.value

pub returns-in-None-clause-escape : goal.returns-in-None-clause-escape
returns-in-None-clause-escape c = (none_stands (chars c.args.text.now) c.in-None.ensures.value, c.bad_escape.ensures.value)

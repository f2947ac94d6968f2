use Rattle.std.specs.Str.{chars}
use Rattle.ecma_lexer.proofs.QuickLemmas.{string_quoted}
use Rattle.ecma_lexer.proofs.quick.quiet_string.Goals as goal

pub returns-clause-string : goal.returns-clause-string
returns-clause-string c =
    let x = c.in-Ok.literal in
    let h = c.in-Ok.ensures.string in
    string_quoted x.value x.raw.now (chars c.args.text.now) (chars x.rest.now) x.legacy c.in-Ok.ensures.rest.0 c.if-literal.false h.0 h.1

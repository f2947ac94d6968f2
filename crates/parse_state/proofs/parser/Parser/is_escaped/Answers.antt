use Rattle.std.proofs.Common.{sym, arith, ◌∙◌}
use Rattle.std.proofs.lemmas.Bool.Decides.{nat_tests}
use Rattle.parse_state.specs.Cursors.{stream_of}
use Rattle.parse_state.proofs.Firsts.{escape_is}
use Rattle.parse_state.proofs.parser.Parser.is_escaped.Goals as goal

pub returns : goal.returns
unfolding stream_of
returns g c =
    let p = c.args.self.now in
    let h = escape_is g.I.Tokens.machine 2 p.ahead (g.I.Tokens.state p.input) p.last.0 (sym c.is_word.ensures ∙ c.if-not-is_word.false) in
    grind (arith, nat_tests)

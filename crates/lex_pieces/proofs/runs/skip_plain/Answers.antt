use Rattle.std.proofs.Common.{rules}
use Rattle.lex_pieces.proofs.Wide.{cuts_plain}
use Rattle.lex_pieces.proofs.runs.skip_plain.Goals as goal

pub range_from-requires : goal.range_from-requires
range_from-requires c =
    let p = cuts_plain c.args.class c.args.text.now c.utf8.text in
    search (rules, p.boundary)

pub returns-clause-passed : goal.returns-clause-passed
returns-clause-passed c =
    let p = cuts_plain c.args.class c.args.text.now c.utf8.text in
    search (rules, p.passed)

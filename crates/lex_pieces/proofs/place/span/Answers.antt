use Rattle.std.proofs.Common.{length, ap, arith}
use Rattle.std.proofs.lemmas.Str.{encodes-chars}
use Rattle.lex_pieces.proofs.place.span.Goals as goal

pub returns : goal.returns
returns c =
    let from = ap length (encodes-chars c.args.from.now c.utf8.from) in
    let to = ap length (encodes-chars c.args.to.now c.utf8.to) in
    (omega arith, omega arith)

use Rattle.std.proofs.Common.{sym, subst}
use Rattle.std.specs.Str.{chars}
use Rattle.std.proofs.lemmas.Str.{chars-nil}
use Rattle.lex_pieces.specs.Places.{IsAt}
use Rattle.lex_pieces.specs.ReadingTrivia.{IsFaultOf}
use Rattle.lex_pieces.proofs.TriviaLemmas.{reads_block, reads_open}
use Rattle.lex_pieces.proofs.trivia.block.Goals as goal

pub returns-in-Some-clause-piece : goal.returns-in-Some-clause-piece
returns-in-Some-clause-piece c = reads_block _ _ _ c.in-Some.ensures.cut

pub returns-in-None-clause-piece : goal.returns-in-None-clause-piece
returns-in-None-clause-piece c =
    let text = chars c.args.text.now in
    let e = c.fault.result in
    let place = subst (λ l. IsAt c.args.end text l e.span) chars-nil c.fault.ensures.place in
    subst (λ r. IsFaultOf c.args.end text r e) (sym (reads_open _ c.in-None.ensures.cut)) (c.fault.ensures.kind, place)

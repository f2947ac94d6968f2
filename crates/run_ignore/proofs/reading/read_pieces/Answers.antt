-- At the end of the text all is read.
use Rattle.std.proofs.Common.{rules, ◌≡◌, [], arith}
use Rattle.std.proofs.lemmas.Bool.{not-false}
use Rattle.run_ignore.proofs.ReadLemmas.{empty_is, pieces_done}
use Rattle.run_ignore.proofs.reading.read_pieces.Goals as goal

pub returns : goal.returns
returns c =
    let e : c.pieces.rest.now ≡ [] =
    first_of (search (rules, empty_is, c.pieces-test.ensures), grind (arith, empty_is, not-false, c.is_empty.ensures, c.pieces-test.false)) in
    pieces_done c.args.text.now c.pieces.pieces.items c.pieces.is_start c.pieces.rest.now c.pieces.invariant e

-- At the end of the text all lines are read.
use Rattle.std.proofs.Common.{rules, ◌≡◌, [], arith}
use Rattle.std.proofs.lemmas.Bool.{not-false}
use Rattle.run_text.proofs.LineLemmas.{nothing_is, lines_done}
use Rattle.run_text.proofs.cutting.lines.Goals as goal

pub returns : goal.returns
returns c =
    let e : c.lines.rest.now ≡ [] =
    first_of (search (rules, nothing_is, c.lines-test.ensures), grind (arith, nothing_is, not-false, c.is_empty.ensures, c.lines-test.false)) in
    lines_done c.args.text.now c.lines.lines.items c.lines.rest.now c.lines.invariant e

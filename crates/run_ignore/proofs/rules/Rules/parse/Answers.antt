-- At the end of the text all lines are read.
use Rattle.std.proofs.Common.{rules, ◌≡◌, [], arith}
use Rattle.std.proofs.lemmas.Bool.{not-false}
use Rattle.run_ignore.proofs.ReadLemmas.{empty_is}
use Rattle.run_ignore.proofs.LineLemmas.{rules_added, rules_done}
use Rattle.run_ignore.proofs.rules.Rules.parse.Goals as goal

pub returns : goal.returns
returns c =
    let e : c.lines.rest.now ≡ [] =
    first_of (search (rules, empty_is, c.lines-test.ensures), grind (arith, empty_is, not-false, c.is_empty.ensures, c.lines-test.false)) in
    rules_done c.args.text.now c.lines.rules.items c.lines.rest.now c.lines.invariant e

pub lines-preserved : goal.lines-preserved
lines-preserved c =
    rules_added c.args.text.now c.lines.rules.items c.lines.rest.now c.first_line.result.0.now c.first_line.result.1.now
    c.add_rule.new.rules.items c.lines.invariant c.first_line.ensures.read c.in_ok-add_rule.ensures

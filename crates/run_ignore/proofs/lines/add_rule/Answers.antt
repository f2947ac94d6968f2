-- The rule of the line is the last.
use Rattle.std.proofs.Common.{sym, inr, ◌∙◌}
use Rattle.std.proofs.lemmas.Bool.{false≢true}
use Rattle.run_ignore.proofs.lines.add_rule.Goals as goal

pub returns : goal.returns
returns c = (
  c.kept-line.result.now,
  (
    c.kept-line.ensures,
    inr (
      (λ blank. false≢true (sym c.if-has_no_rule.false ∙ c.has_no_rule.ensures.1 blank)),
      (c.in_ok-rule.rule, (c.in_ok-push.ensures.items, c.in_ok-rule.ensures)),
    ),
  ),
)

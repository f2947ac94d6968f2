use Rattle.std.proofs.Common.{◌++◌, sym, ap, ◌∙◌}
use Rattle.print_spelling.proofs.number.AsReadLemmas.{match_map, left_others, left_empty}
use Rattle.print_spelling.proofs.number.as_read.next_step.Goals as goal

pub returns-in-None : goal.returns-in-None
returns-in-None c =
    let others = c.args.text.second.now ++ c.args.text.third.now in
    let left = left_others c.args.plain c.args.text.first.now (c.args.text.second.now ++ c.args.text.third.now) c.if-not-plain.false c.in-None.ensures in
    match_map c.next_part-in-None.result _ _ _ _ c.next_part-in-None.ensures
    (λ a. left ∙ a)
    (λ x h. (left ∙ h.0 ∙ ap (λ l. x.0.now ++ l) (ap (λ f. f ++ (x.1.second.now ++ x.1.third.now)) h.2 ∙ sym (left_empty c.args.plain x.1.first.now (x.1.second.now ++ x.1.third.now) h.2)), h.1))

use Rattle.std.proofs.Common.{◌∙◌, sym}
use Rattle.tree_same.proofs.Spellings.{number_rule}
use Rattle.tree_same.proofs.literals.NumberSame.same.Goals as goal

pub returns : goal.returns
returns c =
    let a = c.args.self.now in
    let b = c.args.other.now in
    let d = c.deref.ensures in
    let e = c.deref-2.ensures in
    number_rule c.is_same.result a.span b.span a.value.value b.value.value a.raw b.raw
    ((λ i. sym d ∙ (c.is_same.ensures.0 i ∙ e)), λ q. c.is_same.ensures.1 (d ∙ (q ∙ sym e)))

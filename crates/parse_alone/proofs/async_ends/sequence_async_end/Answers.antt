use Rattle.std.proofs.Common.{rules, ◌≡◌, sym, ◌∙◌}
use Rattle.tree_spec.specs.Tree.{trees_by}
use Rattle.tree_nodes.specs.Placed.{inner}
use Rattle.grammar_spec.specs.Tokens.Shape.{last_of, last_tree}
use Rattle.parse_alone.proofs.Lasts.{last_in}
use Rattle.parse_alone.proofs.async_ends.sequence_async_end.Goals as goal

pub returns-in-Some : goal.returns-in-Some
returns-in-Some c =
    let shape : last_of c.args.expr.now ≡ last_tree (trees_by (λ x. inner x.part.value) c.in-Seq.seq.exprs.items) = search rules in
    let last = last_in (λ x. inner x.part.value) c.in-Seq.seq.exprs.items c.as_slice.result.now c.in-Some.last.now c.as_slice.ensures.value c.in-Some.ensures.value in
    rw (shape ∙ sym last) (search rules)

use Rattle.std.specs.BTreeMap.{is_at}
use Rattle.std.specs.Ordering.{nat_cmp}
use Rattle.lex_comments.proofs.CloneLemmas.{lookup-clones}
use Rattle.lex_comments.proofs.store.CommentsClone.clone.Goals as goal

pub returns : goal.returns
returns c = record {
  cases = (
    (λ q. lookup-clones (is_at (nat_cmp q)) c.args.self.now.leading.entries c.in_ok-clone.field-0.entries c.in_ok-clone.ensures.cases),
    (λ q. lookup-clones (is_at (nat_cmp q)) c.args.self.now.trailing.entries c.in_ok-clone-2.field-0.entries c.in_ok-clone-2.ensures.cases),
  );
}

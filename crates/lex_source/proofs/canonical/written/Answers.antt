use Rattle.std.proofs.Common.{◌++◌, ap, sym, ◌∙◌, append-nil, option_map, string_bytes}
use Rattle.lex_source.specs.Canonical.Edges.{edge_in}
use Rattle.lex_source.proofs.canonical.Behind.{behind_all, one_more}
use Rattle.lex_source.proofs.canonical.written.Goals as goal

pub loop-token-preserved : goal.loop-token-preserved
loop-token-preserved c =
    one_more c.args.source.now (option_map edge_in c.loop-token.last) c.args.tokens.now c.loop-token.token-index c.token-item.result c.token-item.result (string_bytes c.loop-token.out) _ _ c.gap.result.now c.own.result.now _ _
    c.loop-token-test.true (sym c.token-item.is) c.loop-token.invariant c.gap.ensures c.own.ensures c.edge_of.ensures c.in_ok-push_str.ensures.bytes c.in_ok-push_str-2.ensures.bytes

pub returns : goal.returns
returns c =
    sym (append-nil (string_bytes c.loop-token.out))
    ∙ ap (λ x. string_bytes c.loop-token.out ++ x) (sym (behind_all c.args.source.now (option_map edge_in c.loop-token.last) c.args.tokens.now c.loop-token.token-index c.loop-token-test.false))
    ∙ c.loop-token.invariant

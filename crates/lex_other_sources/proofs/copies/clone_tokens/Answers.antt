use Rattle.std.proofs.Common.{ap, sym, ◌∙◌, ◌++◌, ◌∷◌, [], map, take}
use Rattle.std.proofs.lemmas.List.{map_more, map_push}
use Rattle.lex_source.specs.Machine.{shown_spot}
use Rattle.lex_other_sources.proofs.copies.clone_tokens.Goals as goal

pub loop-token-preserved : goal.loop-token-preserved
loop-token-preserved c =
    ap (map shown_spot) c.in_ok-push.ensures.items
    ∙ map_push shown_spot c.loop-token.copies.items c.in_ok-clone_token.field-0
    ∙ ap (λ spots. spots ++ shown_spot c.in_ok-clone_token.field-0 ∷ []) c.loop-token.invariant
    ∙ ap (λ spot. map shown_spot (take c.loop-token.token-index c.args.tokens.now) ++ spot ∷ []) (c.in_ok-clone_token.ensures ∙ ap shown_spot c.token-item.is)
    ∙ sym (map_more shown_spot c.args.tokens.now c.loop-token.token-index c.token-item.result c.loop-token-test.true)

use Rattle.std.proofs.Common.{ap}
use Rattle.base_token.specs.Words.{SpecWord}
use Rattle.base_token.proofs.ReservedLemmas.{plain_unreserved}
use Rattle.base_token.proofs.context.Context.is_reserved_word.Goals as goal

pub returns-in-Ident-Other : goal.returns-in-Ident-Other
returns-in-Ident-Other c =
    plain_unreserved c.args.self c.args.text.now
    (ap (λ (word : SpecWord). word.kind) (rw c.in-Ident-Other.field-0-is at c.in-Ident-Other.ensures))

use Rattle.std.proofs.Common.{◌≡◌, ◌-◌, length, ap, ◌∙◌, rules, chars}
use Rattle.std.specs.Prelude.{drop}
use Rattle.ecma_front.proofs.Places.{place_of_rest}
use Rattle.ecma_front.proofs.reading.place_before.Goals as goal

pub returns : goal.returns
returns c =
    let left : c.saturating_sub.result ≡ length (chars c.args.text.now) - c.args.characters = search rules in
    place_of_rest c.args.characters c.args.text.now c.behind-rest.result.now c.utf8.text c.behind-rest.ensures.text
    (c.behind-rest.ensures.rest ∙ ap (λ m. drop m (chars c.args.text.now)) left)

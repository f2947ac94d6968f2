use Rattle.std.proofs.Common.{◌∙◌, sym, ap}
use Rattle.std.specs.Option.{option_copied}
use Rattle.parse_refine.proofs.Lasts.{rests_at}
use Rattle.parse_refine.proofs.params.ends_in_rest.Goals as goal

pub returns-in-Some : goal.returns-in-Some
returns-in-Some c = c.is_some.ensures ∙ rests_at c.args.items.now c.in-Some.last.now (ap option_copied (sym c.in-Some.is) ∙ c.last.ensures.value)

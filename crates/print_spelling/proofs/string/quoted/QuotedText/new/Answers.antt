use Rattle.std.proofs.Common.{ℕ, ap}
use Rattle.print_spelling.specs.declared.string.quoted.Behind.TheVariants.{Other}
use Rattle.print_spelling.specs.declared.string.quoted.Stage.TheVariants.{Opening}
use Rattle.print_spelling.specs.String.CodePoints.{code_points}
use Rattle.print_spelling.specs.String.QuotedTexts.{left_bytes}
use Rattle.print_spelling.proofs.string.quoted.QuotedText.new.Goals as goal

pub returns : goal.returns
returns c = ap (λ (q : ℕ). left_bytes c.args.style q Other Opening (code_points c.args.units.now)) c.quote_of.ensures

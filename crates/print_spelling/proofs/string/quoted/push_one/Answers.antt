use Rattle.std.proofs.Common.{ℕ, List, [], ◌∷◌, ◌++◌, ap, ◌∙◌}
use Rattle.print_spelling.specs.String.CodePoints.{code_points}
use Rattle.print_spelling.proofs.string.QuotedLemmas.{push_bytes, can_write, quote_low}
use Rattle.print_spelling.proofs.string.quoted.push_one.Goals as goal

pub made-requires : goal.made-requires
made-requires c =
    can_write c.args.style c.args.quote c.in-Some.code c.args.before (code_points c.in-Some.rest.now) c.form_of-form.result c.in-Some.ensures.code
    (quote_low c.args.quote c.requires.quote) c.form_of-form.ensures

pub returns-clause-bytes : goal.returns-clause-bytes
returns-clause-bytes c =
    push_bytes c.args.style c.args.quote c.args.before c.in-Some.code (code_points c.in-Some.rest.now) (code_points c.args.units.now) (c.args.quote ∷ [])
    c.args.block.now.bytes c.push_str.new.self.bytes c.made.result.bytes c.form_of-form.result c.behind.result c.in-Some.ensures.cut c.form_of-form.ensures
    c.made.ensures (c.push_str.ensures.bytes ∙ ap (λ (l : List ℕ). c.args.block.now.bytes ++ l) c.as_str.ensures.value) c.behind.ensures

use Rattle.std.proofs.Common.{ℕ, List, [], ◌++◌, refl, sym, ap, subst, ◌∙◌}
use Rattle.std.specs.Prelude.{None, Some}
use Rattle.std.specs.Str.{chars}
use Rattle.lex_literal.specs.Templates.{SpellsPiece, bare_run, after_bare}
use Rattle.base_token.specs.Utf16.{utf16}
use Rattle.lex_literal.proofs.BareLemmas.{bare_none, bare_whole}
use Rattle.lex_literal.proofs.TemplateLemmas.{kept_none, kept_at, finished}
use Rattle.lex_literal.proofs.template.read_template.Goals as goal

pub next_part-requires-clause-bare : goal.next_part-requires-clause-bare
next_part-requires-clause-bare c = ap bare_run c.split_bare.ensures.after ∙ bare_none (chars c.args.text.now)

pub returns-in-End-clause-piece : goal.returns-in-End-clause-piece
returns-in-End-clause-piece c =
    let own = chars c.split_bare.result.0.now in
    let more = chars c.split_bare.result.1.now in
    let k = kept_at c.args.end (chars c.args.text.now) (chars c.args.text.now) own more [] (utf16 own) None (kept_none c.args.end (chars c.args.text.now))
    c.split_bare.ensures.run c.split_bare.ensures.after refl in
    let whole = bare_whole (chars c.args.text.now) ∙ ap (λ l. l ++ after_bare (chars c.args.text.now)) (sym c.split_bare.ensures.run) ∙ ap (λ l. own ++ l) (sym c.split_bare.ensures.after) in
    let spelt = finished c.args.end (chars c.args.text.now) own more (chars c.in-End.rest.now) (utf16 own) c.in-End.ending None k c.in-End.ensures.next whole in
    subst (λ (units : List ℕ). SpellsPiece own (Some units) c.in-End.ending (chars c.args.text.now) (chars c.in-End.rest.now)) (sym c.from.ensures) spelt

use Rattle.std.proofs.Common.{ℕ, List, ◌<◌, length, sym, ap, subst, ◌∙◌}
use Rattle.std.specs.Str.{chars}
use Rattle.std.proofs.lemmas.Str.{encodes-chars}
use Rattle.print_spelling.proofs.AsciiLemmas.{written_some}
use Rattle.print_spelling.specs.declared.string.quoted.Stage.TheVariants.{Inside}
use Rattle.print_spelling.specs.String.Names.{name_bytes, quote_if}
use Rattle.print_spelling.proofs.string.NameRuns.{run_bytes, char_bytes}
use Rattle.print_spelling.proofs.string.names.inside.Goals as goal

pub returns-then-not-is_empty-clause-bytes : goal.returns-then-not-is_empty-clause-bytes
returns-then-not-is_empty-clause-bytes c =
    run_bytes c.args.style c.args.quoted (chars c.args.text.now) (chars c.split_plain.result.0.now) (chars c.split_plain.result.1.now)
    c.split_plain.result.0.now (quote_if c.args.quoted) c.split_plain.ensures.run c.split_plain.ensures.after
    (encodes-chars c.split_plain.result.0.now c.split_plain.ensures.text.0)

pub returns-clause-bytes : goal.returns-clause-bytes
returns-clause-bytes c =
    ap (λ (cs : List ℕ). name_bytes c.args.style c.args.quoted Inside cs) c.in_ok-c.ensures.cut
    ∙ char_bytes c.args.style c.args.quoted c.in_ok-c.c (chars c.in_ok-c.rest.now) (quote_if c.args.quoted) c.made.result.bytes c.form_in.result
    c.form_in.ensures c.made.ensures

pub returns-clause-some : goal.returns-clause-some
returns-clause-some c = subst (λ (l : List ℕ). 0 < length l) (sym c.made.ensures) (written_some c.form_in.result c.in_ok-c.c)

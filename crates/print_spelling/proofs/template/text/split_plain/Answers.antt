use Rattle.std.proofs.Common.{ap, ◌∙◌}
use Rattle.std.specs.Str.{chars}
use Rattle.print_spelling.proofs.template.TextLemmas.{plain_cut}
use Rattle.print_spelling.proofs.template.text.split_plain.Goals as goal

pub split_at-requires : goal.split_at-requires
split_at-requires c = (plain_cut c.args.text.now c.as_bytes.result.now c.plain_len.result c.utf8.text c.as_bytes.ensures.value c.plain_len.ensures).boundary

pub returns-clause-run : goal.returns-clause-run
returns-clause-run c =
    ap chars c.split_at.ensures.front ∙ (plain_cut c.args.text.now c.as_bytes.result.now c.plain_len.result c.utf8.text c.as_bytes.ensures.value c.plain_len.ensures).ran

pub returns-clause-after : goal.returns-clause-after
returns-clause-after c =
    ap chars c.split_at.ensures.back ∙ (plain_cut c.args.text.now c.as_bytes.result.now c.plain_len.result c.utf8.text c.as_bytes.ensures.value c.plain_len.ensures).left

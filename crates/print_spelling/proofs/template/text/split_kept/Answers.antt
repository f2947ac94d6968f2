use Rattle.std.proofs.Common.{ap, ◌∙◌}
use Rattle.std.specs.Str.{chars}
use Rattle.print_spelling.proofs.template.TextLemmas.{kept_cut}
use Rattle.print_spelling.proofs.template.text.split_kept.Goals as goal

pub split_at-requires : goal.split_at-requires
split_at-requires c = (kept_cut c.args.text.now c.as_bytes.result.now c.kept_len.result c.utf8.text c.as_bytes.ensures.value c.kept_len.ensures).boundary

pub returns-clause-run : goal.returns-clause-run
returns-clause-run c =
    ap chars c.split_at.ensures.front ∙ (kept_cut c.args.text.now c.as_bytes.result.now c.kept_len.result c.utf8.text c.as_bytes.ensures.value c.kept_len.ensures).ran

pub returns-clause-after : goal.returns-clause-after
returns-clause-after c =
    ap chars c.split_at.ensures.back ∙ (kept_cut c.args.text.now c.as_bytes.result.now c.kept_len.result c.utf8.text c.as_bytes.ensures.value c.kept_len.ensures).left

use Rattle.std.proofs.Common.{refl, ◌<◌, length, [], arith}
use Rattle.std.specs.Str.{chars}
use Rattle.std.proofs.lemmas.Bool.Decides.{nat_tests}
use Rattle.std.proofs.lemmas.Str.{encodes-chars}
use Rattle.print_spelling.proofs.AsciiLemmas.{bytes_some}
use Rattle.print_spelling.proofs.template.TextLemmas.{kept_run, kept_first}
use Rattle.print_spelling.proofs.template.text.kept_step.Goals as goal

pub returns-then-not-is_empty : goal.returns-then-not-is_empty
returns-then-not-is_empty c =
    let some : 0 < length c.split_kept.result.0.now = grind (arith, nat_tests, c.is_empty.ensures) in (
      kept_run c.args.style (chars c.args.text.now) (chars c.split_kept.result.0.now) (chars c.split_kept.result.1.now) c.split_kept.result.0.now
          c.split_kept.ensures.run c.split_kept.ensures.after (encodes-chars c.split_kept.result.0.now c.split_kept.ensures.text.0),
      some,
      refl,
    )

pub returns : goal.returns
returns c = (
  kept_first c.args.style c.in_ok-c.c (chars c.args.text.now) (chars c.in_ok-c.rest.now) c.made.result.bytes c.in_ok-c.ensures.cut c.made.ensures,
  bytes_some c.in_ok-c.c [] c.made.result.bytes c.made.ensures,
  refl,
)

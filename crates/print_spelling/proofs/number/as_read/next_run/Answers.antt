use Rattle.std.proofs.Common.{◌<◌, length, sym, ap, ◌∙◌, arith}
use Rattle.std.specs.List.{prefix_len}
use Rattle.std.proofs.lemmas.Bool.Decides.{nat_tests}
use Rattle.print_spelling.specs.Number.NumberTexts.{is_digit_byte}
use Rattle.print_spelling.proofs.number.AsReadLemmas.{boundary, is_run}
use Rattle.print_spelling.proofs.number.as_read.next_run.Goals as goal

pub split_at-requires : goal.split_at-requires
split_at-requires c = boundary c.past_separators-rest.result.now c.run_len.result (c.run_len.ensures ∙ ap (prefix_len is_digit_byte) c.as_bytes.ensures.value)

pub returns : goal.returns
returns c =
    let some : 0 < length c.past_separators-rest.result.now = grind (arith, nat_tests, c.is_empty.ensures) in
    let r = is_run c.past_separators-rest.result.now c.split_at.result.0.now c.split_at.result.1.now c.run_len.result c.past_separators-rest.ensures.stop some
    (c.run_len.ensures ∙ ap (prefix_len is_digit_byte) c.as_bytes.ensures.value) c.split_at.ensures.front c.split_at.ensures.back in
    (sym c.past_separators-rest.ensures.same ∙ r.whole, r.some)

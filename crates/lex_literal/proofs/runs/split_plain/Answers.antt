use Rattle.std.proofs.Common.{◌≡◌, ℕ, ◌<◌, List, ap, ◌∙◌, arith, IsUtf8}
use Rattle.std.specs.List.{prefix_len}
use Rattle.std.specs.Str.{chars}
use Rattle.lex_literal.specs.Stops.{passes}
use Rattle.lex_literal.proofs.RunLemmas.{Cut}
use Rattle.lex_literal.proofs.StopLemmas.{cut_stops}
use Rattle.lex_literal.proofs.runs.split_plain.Goals as goal

at : (quote : ℕ) (text bytes : List ℕ) (n : ℕ) → quote < 128 → IsUtf8 text → bytes ≡ text → n ≡ prefix_len (passes quote 92 10) bytes → Cut (passes quote 92 10) text n
at quote text bytes n h u same e =
    cut_stops quote 92 10 h (omega arith) (omega arith) text n u (e ∙ ap (prefix_len (passes quote 92 10)) same)

pub split_at-requires : goal.split_at-requires
split_at-requires c = (at c.args.quote c.args.text.now c.as_bytes.result.now c.stop_len.result c.requires c.utf8.text c.as_bytes.ensures.value c.stop_len.ensures).boundary

pub returns-clause-run : goal.returns-clause-run
returns-clause-run c =
    let cut = at c.args.quote c.args.text.now c.as_bytes.result.now c.stop_len.result c.requires c.utf8.text c.as_bytes.ensures.value c.stop_len.ensures in
    ap chars c.split_at.ensures.front ∙ cut.ran

pub returns-clause-after : goal.returns-clause-after
returns-clause-after c =
    let cut = at c.args.quote c.args.text.now c.as_bytes.result.now c.stop_len.result c.requires c.utf8.text c.as_bytes.ensures.value c.stop_len.ensures in
    ap chars c.split_at.ensures.back ∙ cut.left

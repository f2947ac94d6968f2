use Rattle.std.proofs.Common.{◌≡◌, ℕ, List, ap, ◌∙◌, arith, IsUtf8}
use Rattle.std.specs.List.{prefix_len}
use Rattle.std.specs.Str.{chars}
use Rattle.lex_literal.specs.Stops.{passes}
use Rattle.lex_literal.proofs.RunLemmas.{Cut}
use Rattle.lex_literal.proofs.StopLemmas.{cut_stops}
use Rattle.lex_literal.proofs.runs.past_dollarless.Goals as goal

at : (text bytes : List ℕ) (n : ℕ) → IsUtf8 text → bytes ≡ text → n ≡ prefix_len (passes 96 92 36) bytes → Cut (passes 96 92 36) text n
at text bytes n u same e =
    cut_stops 96 92 36 (omega arith) (omega arith) (omega arith) text n u (e ∙ ap (prefix_len (passes 96 92 36)) same)

pub split_at-requires : goal.split_at-requires
split_at-requires c = (at c.args.text.now c.as_bytes.result.now c.bare_len.result c.utf8.text c.as_bytes.ensures.value c.bare_len.ensures).boundary

pub returns-clause-after : goal.returns-clause-after
returns-clause-after c =
    ap chars c.split_at.ensures.back ∙ (at c.args.text.now c.as_bytes.result.now c.bare_len.result c.utf8.text c.as_bytes.ensures.value c.bare_len.ensures).left

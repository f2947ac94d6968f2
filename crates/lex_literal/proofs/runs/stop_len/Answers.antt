use Rattle.std.proofs.Common.{ℕ, ap, subst, ◌∙◌, take}
use Rattle.std.specs.Prelude.{unwrap_or}
use Rattle.memchr.specs.Find.{IsFirstByte, is_byte}
use Rattle.lex_literal.proofs.StopLemmas.{stops}
use Rattle.lex_literal.proofs.runs.stop_len.Goals as goal

pub returns : goal.returns
returns c =
    let bs = c.args.bytes.now in
    let f = c.unwrap_or-most.ensures in
    let i = subst (λ (n : ℕ). IsFirstByte (is_byte 13) (take n bs) c.memchr.result) f c.memchr.ensures in
    c.unwrap_or.ensures ∙ ap (unwrap_or c.memchr.result) f ∙ stops c.args.a c.args.b c.args.c bs c.memchr3.result c.memchr.result c.memchr3.ensures i

use Rattle.std.proofs.Common.{List, ℕ, subst}
use Rattle.std.specs.Prelude.{None, Some}
use Rattle.memchr.specs.Find.{IsFirstByte, is_byte}
use Rattle.lex_literal.proofs.RawLemmas.{no_return, own_is_raw, some_return}
use Rattle.lex_literal.proofs.template.raw_text.Goals as goal

pub returns-in_ok-with_line_feeds-in-Some-clause-made :
    goal.returns-in_ok-with_line_feeds-in-Some-clause-made
returns-in_ok-with_line_feeds-in-Some-clause-made c =
    some_return c.args.own.now c.in-Some.field-0 c.utf8.own
    (subst (λ (l : List ℕ). IsFirstByte (is_byte 13) l (Some c.in-Some.field-0)) c.as_bytes.ensures.value c.in-Some.ensures)

pub returns-in-None-clause-text : goal.returns-in-None-clause-text
returns-in-None-clause-text c =
    own_is_raw c.args.own.now c.utf8.own (subst (λ (l : List ℕ). IsFirstByte (is_byte 13) l None) c.as_bytes.ensures.value c.in-None.ensures)

pub returns-in-None-clause-made : goal.returns-in-None-clause-made
returns-in-None-clause-made c =
    no_return c.args.own.now c.utf8.own (subst (λ (l : List ℕ). IsFirstByte (is_byte 13) l None) c.as_bytes.ensures.value c.in-None.ensures)

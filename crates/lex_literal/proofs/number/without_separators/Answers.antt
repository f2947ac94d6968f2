use Rattle.std.proofs.Common.{ℕ, List, Vec, Global, sym, ap, subst, ◌∙◌, IsUtf8}
use Rattle.std.specs.Prelude.{None}
use Rattle.std.proofs.lemmas.Bool.{false≢true}
use Rattle.std.specs.Str.{chars}
use Rattle.memchr.specs.Find.{IsFirstByte, is_byte}
use Rattle.base_token.specs.Numbers.{plain}
use Rattle.lex_literal.proofs.NumberLemmas.{separated_none, plain_utf8, ascii_chars}
use Rattle.lex_literal.proofs.number.without_separators.Goals as goal

pub returns-in_default : goal.returns-in_default
returns-in_default c =
    let same = ascii_chars c.args.digits.now c.utf8.digits c.requires in
    let none = subst (λ (l : List ℕ). IsFirstByte (is_byte 95) l None) (c.as_bytes.ensures.value ∙ sym same) c.in_default.ensures in
    sym (separated_none (chars c.args.digits.now) none ∙ same)

pub unreachable-requires : goal.unreachable-requires
unreachable-requires c =
    let same = ascii_chars c.args.digits.now c.utf8.digits c.requires in
    let is = c.in_ok-bytes.ensures ∙ ap plain (c.as_bytes-2.ensures.value ∙ sym same) in
    false≢true (c.in-Err.ensures.succeeds (subst IsUtf8 (sym is) (plain_utf8 (chars c.args.digits.now) c.requires)))

pub returns : goal.returns
returns c =
    let same = ascii_chars c.args.digits.now c.utf8.digits c.requires in
    ap (λ (v : Vec ℕ Global). v.items) c.in-Ok.ensures.ok ∙ c.in_ok-bytes.ensures ∙ ap plain (c.as_bytes-2.ensures.value ∙ sym same)

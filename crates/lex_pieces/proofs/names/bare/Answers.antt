use Rattle.std.proofs.Common.{◌≢◌, arith, rules, sym, ◌∙◌}
use Rattle.std.specs.Str.{chars}
use Rattle.std.proofs.lemmas.Str.{chars-nil}
use Rattle.lex_pieces.specs.declared.bytes.ByteClass.TheVariants as b
use Rattle.lex_pieces.specs.Names.{IsBareFront}
use Rattle.lex_pieces.proofs.NameLeads.{start_low, starts, is_backslash, wide_named, other_ends}
use Rattle.lex_pieces.proofs.NameParts.{bare_nothing}
use Rattle.lex_pieces.proofs.names.bare.Goals as goal

pub past_ascii-requires : goal.past_ascii-requires
past_ascii-requires c = (c.in_ok-byte.byte, start_low c.in_ok-byte.byte (omega arith) (sym c.in-NameStart.is ∙ c.byte_class.ensures), c.in_ok-byte.ensures)

pub split_front-requires : goal.split_front-requires
split_front-requires c =
    let k = c.past_ascii.ensures.cut in
    let is = sym c.in-NameStart.is ∙ c.byte_class.ensures in
    record {
      start = (k.0, starts (chars c.args.text.now) _ c.in_ok-byte.byte k.0 c.in_ok-byte.ensures (omega arith) is k.2, k.2);
      order = omega (arith, c.past_ascii.ensures.shorter);
    }

pub returns-in-NonAscii-clause-front : goal.returns-in-NonAscii-clause-front
returns-in-NonAscii-clause-front c =
    let text = chars c.args.text.now in
    wide_named (λ x. IsBareFront text (chars x.0.now) (chars x.1.now)) text c.in_ok-byte.byte c.wide_front.result c.in_ok-byte.ensures (omega arith)
    (sym c.in-NonAscii.is ∙ c.byte_class.ensures) c.wide_front.ensures.front

pub returns-in-Backslash-clause-front : goal.returns-in-Backslash-clause-front
returns-in-Backslash-clause-front c =
    let k = is_backslash (chars c.args.text.now) c.in_ok-byte.byte c.in_ok-byte.ensures (omega arith) (sym c.in-Backslash.is ∙ c.byte_class.ensures) in
    bare_nothing _ _ k.0 chars-nil k.1

pub returns-in_default : goal.returns-in_default
returns-in_default c =
    let k = c.byte_class.result in
    let start : k ≢ b.NameStart = search rules in
    let backslash : k ≢ b.Backslash = search rules in
    let wide : k ≢ b.NonAscii = search rules in
    record {
      front = other_ends (chars c.args.text.now) c.in_ok-byte.byte k c.in_ok-byte.ensures (omega arith) c.byte_class.ensures start backslash wide;
      rest = tt;
    }

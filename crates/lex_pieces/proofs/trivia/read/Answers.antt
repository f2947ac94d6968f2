use Rattle.std.proofs.Common.{◌≢◌, ap, sym, subst, arith, rules, ◌∙◌}
use Rattle.std.specs.Str.{chars}
use Rattle.lex_pieces.specs.declared.bytes.ByteClass.TheVariants as b
use Rattle.lex_pieces.specs.ReadingTrivia.{Agrees, Found}
use Rattle.lex_pieces.specs.Trivia.{WhiteSpace, LineTerminator}
use Rattle.lex_pieces.proofs.Leads.{space_low, break_low, mark_low, reads_space, reads_break, reads_mark, reads_wide, reads_none, agrees_wide}
use Rattle.lex_pieces.proofs.trivia.read.Goals as goal

pub past_ascii-requires : goal.past_ascii-requires
past_ascii-requires c =
    (c.in-Some.byte, (space_low c.in-Some.byte (omega arith) (sym c.byte_class.ensures ∙ c.in-WhiteSpace.is)).0, c.in-Some.ensures)

pub past_ascii-requires-in-LineTerminator : goal.past_ascii-requires-in-LineTerminator
past_ascii-requires-in-LineTerminator c =
    (c.in-Some.byte, (break_low c.in-Some.byte (omega arith) (sym c.byte_class.ensures ∙ c.in-LineTerminator.is)).0, c.in-Some.ensures)

pub past_ascii-requires-in-Punctuator : goal.past_ascii-requires-in-Punctuator
past_ascii-requires-in-Punctuator c =
    (c.in-Some.byte, (mark_low c.in-Some.byte (omega arith) (sym c.byte_class.ensures ∙ c.in-Punctuator.is)).0, c.in-Some.ensures)

pub returns-in-WhiteSpace-clause-piece : goal.returns-in-WhiteSpace-clause-piece
returns-in-WhiteSpace-clause-piece c =
    let k = c.past_ascii.ensures.cut in
    reads_space c.args.goal c.args.first (chars c.args.text.now) (chars c.past_ascii.result.now) c.in-Some.byte k.0 c.in-Some.ensures (omega arith) (sym c.byte_class.ensures ∙ c.in-WhiteSpace.is) k.2
    ∙ ap (λ l. Found WhiteSpace l) (sym c.split_white_space.ensures.after)

pub returns-in-LineTerminator-clause-piece : goal.returns-in-LineTerminator-clause-piece
returns-in-LineTerminator-clause-piece c =
    let k = c.past_ascii-in-LineTerminator.ensures.cut in
    reads_break c.args.goal c.args.first (chars c.args.text.now) (chars c.past_ascii-in-LineTerminator.result.now) c.in-Some.byte k.0 c.in-Some.ensures (omega arith) (sym c.byte_class.ensures ∙ c.in-LineTerminator.is) k.2
    ∙ ap (λ l. Found LineTerminator l) (sym c.after_break-rest.ensures.value)

pub returns-in-Punctuator-clause-piece : goal.returns-in-Punctuator-clause-piece
returns-in-Punctuator-clause-piece c =
    let k = c.past_ascii-in-Punctuator.ensures.cut in
    let e = reads_mark c.args.goal c.args.first (chars c.args.text.now) (chars c.past_ascii-in-Punctuator.result.now) c.in-Some.byte k.0 c.in-Some.ensures (omega arith) (sym c.byte_class.ensures ∙ c.in-Punctuator.is) k.2 in
    subst (λ r. Agrees c.args.end (chars c.args.text.now) r c.mark.result) (sym e) c.mark.ensures.piece

pub returns-in-NonAscii-clause-piece : goal.returns-in-NonAscii-clause-piece
returns-in-NonAscii-clause-piece c =
    let e = reads_wide c.args.goal c.args.first (chars c.args.text.now) c.in-Some.byte c.in-Some.ensures (omega arith) (sym c.byte_class.ensures ∙ c.in-NonAscii.is) in
    agrees_wide c.args.end (chars c.args.text.now) _ c.wide.result e c.wide.ensures.piece

pub returns-in_default-byte_class : goal.returns-in_default-byte_class
returns-in_default-byte_class c =
    let k = c.byte_class.result in
    let space : k ≢ b.WhiteSpace = search rules in
    let line : k ≢ b.LineTerminator = search rules in
    let punctuator : k ≢ b.Punctuator = search rules in
    let wide : k ≢ b.NonAscii = search rules in
    record {
      piece = reads_none c.args.goal c.args.first (chars c.args.text.now) c.in-Some.byte k c.in-Some.ensures (omega arith) c.byte_class.ensures space line punctuator wide;
      rest = tt;
    }

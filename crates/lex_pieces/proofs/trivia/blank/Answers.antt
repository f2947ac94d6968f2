use Rattle.std.proofs.Common.{false, ap, sym, arith, ◌∙◌}
use Rattle.std.specs.Str.{chars}
use Rattle.lex_pieces.specs.declared.trivia.Goal.TheVariants.{Script}
use Rattle.lex_pieces.specs.ReadingTrivia.{Found}
use Rattle.lex_pieces.specs.Trivia.{WhiteSpace, LineTerminator}
use Rattle.lex_pieces.proofs.Leads.{space_low, break_low, reads_space, reads_break}
use Rattle.lex_pieces.proofs.TriviaLemmas.{is_piece}
use Rattle.lex_pieces.proofs.trivia.blank.Goals as goal

pub past_ascii-requires : goal.past_ascii-requires
past_ascii-requires c =
    (c.in_ok-byte.byte, (space_low c.in_ok-byte.byte (omega arith) (sym c.byte_class.ensures ∙ c.in-WhiteSpace.is)).0, c.in_ok-byte.ensures)

pub past_ascii-requires-in-LineTerminator : goal.past_ascii-requires-in-LineTerminator
past_ascii-requires-in-LineTerminator c =
    (c.in_ok-byte.byte, (break_low c.in_ok-byte.byte (omega arith) (sym c.byte_class.ensures ∙ c.in-LineTerminator.is)).0, c.in_ok-byte.ensures)

pub returns-in-WhiteSpace-clause-blank : goal.returns-in-WhiteSpace-clause-blank
returns-in-WhiteSpace-clause-blank c =
    let k = c.past_ascii.ensures.cut in
    is_piece Script false (chars c.args.text.now) WhiteSpace (chars c.after_white_space.result.now)
    (reads_space Script false (chars c.args.text.now) (chars c.past_ascii.result.now) c.in_ok-byte.byte k.0 c.in_ok-byte.ensures (omega arith) (sym c.byte_class.ensures ∙ c.in-WhiteSpace.is) k.2
    ∙ ap (λ l. Found WhiteSpace l) (sym c.after_white_space.ensures.after))

pub returns-in-LineTerminator-clause-blank : goal.returns-in-LineTerminator-clause-blank
returns-in-LineTerminator-clause-blank c =
    let k = c.past_ascii-in-LineTerminator.ensures.cut in
    is_piece Script false (chars c.args.text.now) LineTerminator (chars c.after_break.result.now)
    (reads_break Script false (chars c.args.text.now) (chars c.past_ascii-in-LineTerminator.result.now) c.in_ok-byte.byte k.0 c.in_ok-byte.ensures (omega arith) (sym c.byte_class.ensures ∙ c.in-LineTerminator.is) k.2
    ∙ ap (λ l. Found LineTerminator l) (sym c.after_break.ensures.value))

use Rattle.std.proofs.Common.{◌≢◌, ap, sym, arith, rules, ◌∙◌}
use Rattle.std.specs.Str.{chars}
use Rattle.lex_pieces.specs.declared.bytes.ByteClass.TheVariants as b
use Rattle.lex_pieces.specs.ReadingTrivia.{read}
use Rattle.lex_pieces.proofs.Leads.{none_marked, reads_none}
use Rattle.lex_pieces.proofs.TriviaLemmas.{no_trivia}
use Rattle.lex_pieces.proofs.trivia.may_begin.Goals as goal

pub returns-in_default : goal.returns-in_default
returns-in_default c = λ _ goal. no_trivia goal c.args.first (chars c.args.text.now) (ap (read goal c.args.first) c.in_default.ensures)

pub returns-in-Punctuator : goal.returns-in-Punctuator
returns-in-Punctuator c = λ none goal.
    no_trivia goal c.args.first (chars c.args.text.now)
    (none_marked goal c.args.first (chars c.args.text.now) c.in-Some.byte c.in-Some.ensures (omega arith) (sym c.byte_class.ensures ∙ c.in-Punctuator.is) (sym c.may_open.ensures ∙ none))

pub returns-in_default-byte_class : goal.returns-in_default-byte_class
returns-in_default-byte_class c = λ _ goal.
    let k = c.byte_class.result in
    let space : k ≢ b.WhiteSpace = search rules in
    let line : k ≢ b.LineTerminator = search rules in
    let punctuator : k ≢ b.Punctuator = search rules in
    let wide : k ≢ b.NonAscii = search rules in
    no_trivia goal c.args.first (chars c.args.text.now) (reads_none goal c.args.first (chars c.args.text.now) c.in-Some.byte k c.in-Some.ensures (omega arith) c.byte_class.ensures space line punctuator wide)

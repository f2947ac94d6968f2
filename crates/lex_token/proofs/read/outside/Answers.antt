use Rattle.std.proofs.Common.{sym, ◌∙◌}
use Rattle.std.specs.Str.{chars}
use Rattle.lex_token.specs.declared.sort.Sort.TheVariants as s
use Rattle.lex_token.proofs.LexemeLemmas.{read_sort}
use Rattle.lex_token.proofs.SortLemmas.{begins_number, begins_string, begins_word}
use Rattle.lex_token.proofs.read.outside.Goals as goal

pub word-requires-clause-begins : goal.word-requires-clause-begins
word-requires-clause-begins c = begins_word c.args.goal (chars c.args.text.now) c.args.c (chars c.args.behind.now) c.requires.cut (sym c.sort_of.ensures ∙ c.in-Word.is)

pub number-requires-clause-starts : goal.number-requires-clause-starts
number-requires-clause-starts c = begins_number c.args.goal (chars c.args.text.now) c.args.c (chars c.args.behind.now) c.requires.cut (sym c.sort_of.ensures ∙ c.in-Number.is)

pub string-requires-clause-quote : goal.string-requires-clause-quote
string-requires-clause-quote c = begins_string c.args.goal (chars c.args.text.now) c.args.c (chars c.args.behind.now) c.requires.cut (sym c.sort_of.ensures ∙ c.in-Str.is)

pub returns-in-Word-clause-token : goal.returns-in-Word-clause-token
returns-in-Word-clause-token c =
    read_sort c.args.end c.args.goal (chars c.args.text.now) c.args.c (chars c.args.behind.now) c.requires.cut s.Word (sym c.sort_of.ensures ∙ c.in-Word.is) _ c.word.ensures.word

pub returns-in-Number-clause-token : goal.returns-in-Number-clause-token
returns-in-Number-clause-token c =
    read_sort c.args.end c.args.goal (chars c.args.text.now) c.args.c (chars c.args.behind.now) c.requires.cut s.Number (sym c.sort_of.ensures ∙ c.in-Number.is) _ c.number.ensures.number

pub returns-in-Str-clause-token : goal.returns-in-Str-clause-token
returns-in-Str-clause-token c =
    read_sort c.args.end c.args.goal (chars c.args.text.now) c.args.c (chars c.args.behind.now) c.requires.cut s.Str (sym c.sort_of.ensures ∙ c.in-Str.is) _ c.string.ensures.string

pub returns-in-RegExp-clause-token : goal.returns-in-RegExp-clause-token
returns-in-RegExp-clause-token c =
    read_sort c.args.end c.args.goal (chars c.args.text.now) c.args.c (chars c.args.behind.now) c.requires.cut s.RegExp (sym c.sort_of.ensures ∙ c.in-RegExp.is) _ c.pattern.ensures.pattern

pub returns-in-Punctuator-clause-token : goal.returns-in-Punctuator-clause-token
returns-in-Punctuator-clause-token c =
    read_sort c.args.end c.args.goal (chars c.args.text.now) c.args.c (chars c.args.behind.now) c.requires.cut s.Punctuator (sym c.sort_of.ensures ∙ c.in-Punctuator.is) _ c.mark.ensures.mark

use Rattle.std.proofs.Common.{rules}
use Rattle.std.proofs.lemmas.Str.{chars_from_encodes}
use Rattle.ecma_lexer.proofs.unread.count.Goals as goal

pub returns-clause-all : goal.returns-clause-all
returns-clause-all c = search (rules, chars_from_encodes)

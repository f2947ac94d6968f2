use Rattle.std.proofs.Common.{append_assoc, rules}
use Rattle.std.proofs.lemmas.Str.{encodes-chars}
use Rattle.lex_pieces.proofs.names.put.Goals as goal

pub returns-in-Ok-push_str-clause-put : goal.returns-in-Ok-push_str-clause-put
returns-in-Ok-push_str-clause-put c = search (rules, append_assoc, encodes-chars c.args.more.now c.utf8.more)

use Rattle.std.specs.Str.{chars}
use Rattle.std.proofs.lemmas.Result.{err_from_is_err_and}
use Rattle.lex_token.proofs.LexemeLemmas.{none_at_end}
use Rattle.lex_token.proofs.read.token_or_end.Goals as goal

pub returns-in_default-clause-token : goal.returns-in_default-clause-token
returns-in_default-clause-token c = (c.in_default.ensures.cut, none_at_end c.args.goal (chars c.args.text.now) c.in_default.ensures.cut)

pub returns-in_err-outside-clause-token : goal.returns-in_err-outside-clause-token
returns-in_err-outside-clause-token c =
    let p = err_from_is_err_and c.from_residual.result c.from_residual.ensures.1 in
    rw (p.1, p.2) c.in_err-outside.ensures.token

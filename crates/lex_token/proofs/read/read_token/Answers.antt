use Rattle.std.proofs.Common.{sym, subst}
use Rattle.std.specs.Str.{chars}
use Rattle.std.proofs.lemmas.Result.{err_from_is_err_and}
use Rattle.lex_token.specs.Readings.{ReadsLexeme}
use Rattle.lex_token.proofs.read.read_token.Goals as goal

pub returns-in_err-template-in-TemplateTail-clause-token : goal.returns-in_err-template-in-TemplateTail-clause-token
returns-in_err-template-in-TemplateTail-clause-token c =
    let p = err_from_is_err_and c.from_residual.result c.from_residual.ensures.1 in
    rw (p.1, p.2) (rw c.in-TemplateTail.is c.in_err-template-in-TemplateTail.ensures.characters)

pub returns-in-Div-clause-token : goal.returns-in-Div-clause-token
returns-in-Div-clause-token c =
    subst (λ g. ReadsLexeme c.args.end g (chars c.args.text.now) c.token_or_end.result) (sym c.in-Div.is) c.token_or_end.ensures.token

pub returns-in-RegExp-clause-token : goal.returns-in-RegExp-clause-token
returns-in-RegExp-clause-token c =
    subst (λ g. ReadsLexeme c.args.end g (chars c.args.text.now) c.token_or_end-in-RegExp.result) (sym c.in-RegExp.is) c.token_or_end-in-RegExp.ensures.token

pub returns-in-TemplateEnd-clause-token : goal.returns-in-TemplateEnd-clause-token
returns-in-TemplateEnd-clause-token c =
    subst (λ g. ReadsLexeme c.args.end g (chars c.args.text.now) c.template_end.result) (sym c.in-TemplateEnd.is) c.template_end.ensures.token

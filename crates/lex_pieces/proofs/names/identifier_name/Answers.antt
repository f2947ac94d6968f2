use Rattle.std.proofs.Common.{◌++◌, ap, ◌∙◌}
use Rattle.std.specs.Str.{chars}
use Rattle.std.proofs.lemmas.Str.{IsUtf8-string_bytes}
use Rattle.std.proofs.lemmas.Result.{err_from_is_err_and}
use Rattle.lex_pieces.proofs.NameParts.{whole_name, whole_refusal}
use Rattle.lex_pieces.proofs.names.identifier_name.Goals as goal

pub returns-in_err-made-clause-name : goal.returns-in_err-made-clause-name
returns-in_err-made-clause-name c =
    let p = err_from_is_err_and c.from_residual.result c.from_residual.ensures.1 in
    rw (p.1, p.2) (whole_refusal c.args.end _ _ _ c.in_err-made.field-0.0 c.in-Some.ensures.front c.in_err-made.ensures.name)

pub returns-clause-name : goal.returns-clause-name
returns-clause-name c =
    let own = chars c.in-Some.own.now in
    let h = c.in-Some.ensures.front in (
      whole_name _ own _ _ _ (IsUtf8-string_bytes c.in_ok-made.made) h c.in_ok-made.ensures.name,
      (own, chars c.in-Some-strip._escape.now, h.0 ∙ ap (λ l. own ++ l) c.in-Some-strip.ensures.cut, h.3),
    )

pub returns-clause-text : goal.returns-clause-text
returns-clause-text c = IsUtf8-string_bytes c.in_ok-made.made

use Rattle.std.proofs.Common.{ap, ◌∙◌, List, ℕ, ◌∷◌, sym}
use Rattle.std.specs.Str.{chars}
use Rattle.lex_pieces.specs.Characters.{is_name_part}
use Rattle.lex_pieces.specs.Classes.{is_line_char}
use Rattle.lex_pieces.proofs.RegExpLemmas.{is_body, is_slash, no_reg_exp, only_slash}
use Rattle.lex_pieces.proofs.TriviaLemmas.{run_is}
use Rattle.lex_pieces.proofs.regexps.regular_expression.Goals as goal

pub returns-in_default-clause-expression : goal.returns-in_default-clause-expression
returns-in_default-clause-expression c = only_slash (chars c.args.text.now) (sym c.in_default.ensures.value)

pub returns-in_default-split_body-clause-expression : goal.returns-in_default-split_body-clause-expression
returns-in_default-split_body-clause-expression c =
    let text = chars c.args.text.now in
    let inner = chars c.in-Some.inner.now in
    let s = is_slash text inner (sym c.in-Some.ensures.value) in
    let line = chars c.split_line.result.0.now in
    let rest = chars c.split_line.result.1.now in (
      no_reg_exp text inner s.0 c.in_default-split_body.ensures.body,
      (c.fault.ensures.kind, (inner, s.0, s.1), (line, rest, run_is is_line_char text line rest c.split_line.ensures.run c.split_line.ensures.after, c.fault.ensures.place)),
    )

pub returns-clause-expression : goal.returns-clause-expression
returns-clause-expression c =
    let text = chars c.args.text.now in
    let inner = chars c.in-Some.inner.now in
    let body = chars c.in-Some-split_body.body.now in
    let after = chars c.in-Some-split_body.after.now in
    let s = is_slash text inner (sym c.in-Some.ensures.value) in
    let h = c.in-Some-split_body.ensures.body in (
      is_body inner body after s.1 h.0 h.1,
      (after, s.0 ∙ ap (λ (l : List ℕ). 47 ∷ l) h.1, run_is is_name_part after _ _ c.split_name_part.ensures.run c.split_name_part.ensures.after),
    )

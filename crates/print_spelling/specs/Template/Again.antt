-- What is written of a piece of a template, written again (ECMA-262, 12.9.6).
use Rattle.std.specs.Prelude.{◌≡◌, ℕ, true, List, [], Some}
use Rattle.lex_pieces.specs.Runs.{Each}
use Rattle.lex_literal.specs.declared.template.Ending.{Ending}
use Rattle.lex_literal.specs.Templates.{SpellsPiece}
use Rattle.print_spelling.specs.declared.style.Style.{Style}
use Rattle.print_spelling.specs.Template.Laws.{is_code_point}
use Rattle.print_spelling.specs.Template.Templates.{keeps_raw, template_text}

-- Of one that stands as it was read it is written, in any style, as that piece is.
abbrev pub TemplateAgain : Type 0
TemplateAgain = (style other : Style) (raw m : List ℕ) → keeps_raw style raw ≡ true → template_text other (template_text style raw []) m ≡ template_text other raw m

-- Of any piece it is written again in the same style.
abbrev pub WrittenAgain : Type 0
WrittenAgain = (style : Style) (raw units before behind m : List ℕ) (e : Ending) → SpellsPiece raw (Some units) e before behind → Each is_code_point raw
    → template_text style (template_text style raw []) m ≡ template_text style raw m

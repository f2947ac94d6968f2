-- Templates and regular expressions are read back (ECMA-262, 12.9.5 and 12.9.6).
use Rattle.std.specs.Prelude.{ℕ, Bool, nat_lt, List, [], Some}
use Rattle.lex_pieces.specs.Runs.{Each}
use Rattle.lex_literal.specs.declared.template.Ending.{Ending}
use Rattle.lex_literal.specs.Templates.{Ends, SpellsPiece}
use Rattle.print_spelling.specs.declared.style.Style.{Style}
use Rattle.print_spelling.specs.Template.Templates.{template_text}

abbrev pub is_code_point : ℕ → Bool
is_code_point c = nat_lt c 0x110000

-- A piece of an untagged template stands for the units that its raw text stands for, whichever end it has and whatever
-- follows that.
abbrev pub TemplateIsRead : Type 0
TemplateIsRead = (style : Style) (raw units before behind : List ℕ) (e : Ending) → SpellsPiece raw (Some units) e before behind
    → Each is_code_point raw → (f : Ending) (after rest : List ℕ) → Ends f after rest
    → SpellsPiece (template_text style raw []) (Some units) f (template_text style raw after) rest

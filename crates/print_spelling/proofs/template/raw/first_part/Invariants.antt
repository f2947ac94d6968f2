use Rattle.std.proofs.Common.{◌≡◌, zero, length, IsUtf8}
use Rattle.std.specs.Str.{chars}
use Rattle.lex_literal.specs.Templates.{line_feeds}
use Rattle.print_spelling.specs.Template.Left.{past_nothing}
use Rattle.print_spelling.specs.Template.Templates.{parts}
use Rattle.print_spelling.proofs.template.raw.first_part.Given as goal

abbrev pub invariant-parts : goal.invariant-parts
invariant-parts l = (past_nothing (parts zero (line_feeds (chars l.fn.text))) ≡ past_nothing (parts zero (line_feeds (chars l.rest)))) × IsUtf8 l.rest

abbrev pub decreases-parts : goal.decreases-parts
decreases-parts l = length l.rest

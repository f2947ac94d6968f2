use Rattle.std.proofs.Common.{◌≤◌, length}
use denote.Text.{Utf8}
use denote.Shadow.{shadow}
use Rattle.std.specs.Str.{chars}
use Rattle.lex_literal.proofs.TemplateLemmas.{Kept}
use Rattle.lex_literal.proofs.template.read_parts.Given as goal

abbrev pub invariant-parts : goal.invariant-parts
invariant-parts l = shadow (Utf8 l.rest) × (length l.rest ≤ length l.text) × Kept l.end (chars l.text) (chars l.rest) l.units.items l.bad

abbrev pub decreases-parts : goal.decreases-parts
decreases-parts l = length l.rest

use Rattle.std.proofs.Common.{◌≡◌, ◌++◌, length, string_bytes}
use denote.Text.{Utf8}
use denote.Shadow.{shadow}
use Rattle.std.specs.Str.{chars, encode_utf8_all}
use Rattle.lex_literal.specs.Templates.{line_feeds}
use Rattle.lex_literal.proofs.template.with_line_feeds.Given as goal

abbrev pub invariant-characters : goal.invariant-characters
invariant-characters l = shadow (Utf8 l.rest)
    × (string_bytes l.made ++ encode_utf8_all (line_feeds (chars l.rest)) ≡ encode_utf8_all (line_feeds (chars l.own)))

abbrev pub decreases-characters : goal.decreases-characters
decreases-characters l = length l.rest

-- The text of a regular expression in parts.
use Rattle.std.specs.Prelude.{ℕ, List, [], ◌++◌}
use Rattle.print_spelling.specs.declared.template.regexp.RegExpText.{RegExpText}

abbrev pub joined : RegExpText → List ℕ
joined t = t.opening.now ++ (t.body.now ++ (t.closing.now ++ (t.flags.now ++ [])))

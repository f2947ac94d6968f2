-- What begins a comment (ECMA-262, 12.4; B.1.1 for those of HTML).
use Rattle.std.specs.Prelude.{◌||◌, ℕ, Bool, List, codes, nat_eq}
use Rattle.std.specs.List.{starts_with}

-- a comment may begin at the front of the text: with `//`, `/*`, `<!--` or `-->`
abbrev pub begins_comment : List ℕ → Bool
begins_comment text =
    starts_with nat_eq text (codes "//") || (starts_with nat_eq text (codes "/*") || (starts_with nat_eq text (codes "<!--") || starts_with nat_eq text (codes "-->")))

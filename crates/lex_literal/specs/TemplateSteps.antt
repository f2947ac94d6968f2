-- What comes next in a piece of a template where no character stands for itself.
use Rattle.std.specs.Prelude.{◌≡◌, ℕ, ◌<◌, false, ◌⊎◌, List, [], ◌∷◌, length, IsUtf8}
use Rattle.std.specs.Str.{chars}
use Rattle.lex_literal.specs.declared.template.Next.{Next}
use Rattle.lex_literal.specs.declared.template.Next.TheVariants as n
use Rattle.lex_literal.specs.Templates.{Part, Bad, Stands, Ends, part_units, is_bad, IsBadEscape}
use Rattle.lex_literal.specs.Units.{escape_units, CodeFits}

abbrev pub IsNext : ℕ → List ℕ → Next → Type 0
IsNext end text (n.End ending rest) = Ends ending text (chars rest.now)
IsNext end text (n.Escape e rest) = (p : Part) × Stands p text (chars rest.now) × (is_bad p ≡ false) × (part_units p ≡ escape_units e) × CodeFits e
IsNext end text (n.Bad error rest) = (c : ℕ) × Stands (Bad c) text (chars rest.now) × IsBadEscape end (c ∷ chars rest.now) error
IsNext end text n.Open = (text ≡ []) ⊎ (text ≡ 92 ∷ [])

-- what follows is text, and shorter
abbrev pub RestOf : ℕ → Next → Type 0
RestOf size (n.End ending rest) = IsUtf8 rest.now × (length rest.now < size)
RestOf size (n.Escape e rest) = IsUtf8 rest.now × (length rest.now < size)
RestOf size (n.Bad error rest) = IsUtf8 rest.now × (length rest.now < size)
RestOf size n.Open = Unit {0}

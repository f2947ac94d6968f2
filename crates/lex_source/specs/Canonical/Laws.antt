-- Laws of canonical texts.
use Rattle.std.specs.Prelude.{ℕ, List}
use Rattle.base_token.specs.Tokens.{Spot}
use Rattle.lex_source.specs.Canonical.Moved.{IsItsOwn}

-- Of whatever tokens of whatever text, the canonical text is its own.
abbrev pub CanonicalStays : Type 0
CanonicalStays = (source : List ℕ) (spots : List Spot) → IsItsOwn source spots

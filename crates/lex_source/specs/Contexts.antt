-- What encloses a place of a text.
use Rattle.std.specs.Prelude.{List, [], ◌∷◌, reverse, Option, None, Some}
use Rattle.lex_source.specs.declared.contexts.TokenContext.{TokenContext}
use Rattle.lex_source.specs.declared.contexts.TokenContexts.{TokenContexts}

-- what encloses a place, the innermost first
unfoldable pub outward : TokenContexts → List TokenContext
outward c = reverse c.open.items

abbrev pub innermost : List TokenContext → Option TokenContext
innermost [] = None
innermost (c ∷ cs) = Some c

abbrev pub without_innermost : List TokenContext → List TokenContext
without_innermost [] = []
without_innermost (c ∷ cs) = cs

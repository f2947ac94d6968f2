-- What a source keeps of the tokens that it hands out.
use Rattle.std.specs.Prelude.{ℕ, ◌==◌, Bool, ◌&&◌, ◌||◌, List, [], ◌∷◌, ◌++◌, Option, None, Some, if◌then◌else◌}
use Rattle.base_token.specs.Kinds.{div_kind, div_assign_kind}
use Rattle.base_token.specs.Tokens.{Spot}
use Rattle.base_token.specs.declared.token.TokenAndSpan.{TokenAndSpan}
use Rattle.lex_source.specs.Machine.{shown_spot}

-- a slash that begins at this place
abbrev pub is_slash_at : ℕ → Spot → Bool
is_slash_at lo spot = (spot.token.kind == div_kind || spot.token.kind == div_assign_kind) && spot.lo == lo

-- The tokens without the last, where that one is a slash at this place: a slash that is read again gives its place to the new reading. Any
-- other token stays, so the characters of a template do, which may be none.
abbrev pub without_reread : ℕ → List Spot → List Spot
without_reread lo [] = []
without_reread lo (spot ∷ []) = if is_slash_at lo spot then [] else spot ∷ []
without_reread lo (spot ∷ next ∷ spots) = spot ∷ without_reread lo (next ∷ spots)

-- what is kept once this token was handed out, or the end
abbrev pub captured_with : Option TokenAndSpan → List Spot → List Spot
captured_with None spots = spots
captured_with (Some t) spots = without_reread t.span.lo.0 spots ++ shown_spot t ∷ []

-- the same of a token that was put, or the end
abbrev pub captured_as : Option Spot → List Spot → List Spot
captured_as None spots = spots
captured_as (Some t) spots = without_reread t.lo spots ++ t ∷ []

-- The canonical text of tokens, a form of this project's choice: their own bytes, and between two tokens a line break, a blank or nothing.
use Rattle.std.specs.Prelude.{ℕ, ◌-◌, Bool, ◌&&◌, ◌||◌, ◌==◌, true, false, List, [], ◌∷◌, ◌++◌, Option, None, Some, length, slice_index, slice_range, nat_le, nat_eq, if◌then◌else◌}
use Rattle.std.specs.Fmt.{is_char_start}
use Rattle.base_token.specs.Kinds.{hash_kind, template_kind}
use Rattle.base_token.specs.Tokens.{Content, Named, Spot}

-- A character of the text begins there, or the text ends there.
abbrev pub is_cut : List ℕ → ℕ → Bool
is_cut source at = nat_le at (length source) && is_char_start (slice_index source at)

-- The bytes of the text from one place up to another, which count from 1. Places that aren't in the text have none.
abbrev pub own_bytes : List ℕ → ℕ → ℕ → List ℕ
own_bytes source lo hi =
    if nat_le lo hi && (is_cut source (lo - 1) && is_cut source (hi - 1)) then slice_range source (lo - 1) (hi - 1) else []

-- a keyword, a word that is a value, or a name
abbrev pub is_word : Content → Bool
is_word (Named _) = true
is_word _ = false

-- What of a token tells what stands behind it: whether it is the characters of a template, whether it is `#`, and where it ends.
pub record Edge : Type 0 where
  pub template : Bool
  pub hash : Bool
  pub end : ℕ

abbrev pub edge_of : Spot → Edge
edge_of t = record { template = t.token.kind == template_kind; hash = t.token.kind == hash_kind; end = t.hi }

-- Whether nothing stands before a token: beside the characters of a template, and between `#` and a word that touches it.
abbrev pub touches : Option Edge → Spot → Bool
touches None b = b.token.kind == template_kind
touches (Some a) b = a.template || ((a.hash && (is_word b.token.content && nat_eq a.end b.lo)) || b.token.kind == template_kind)

-- What stands between tokens without the mark of a line break: a blank, and nothing before the first.
abbrev pub blank : Option Edge → List ℕ
blank None = []
blank (Some a) = 32 ∷ []

-- What stands before a token behind the one before it, if there is one.
abbrev pub gap : Option Edge → Spot → List ℕ
gap last b = if touches last b then [] else (if b.line_break then 10 ∷ [] else blank last)

-- the canonical text of the tokens behind one
unfoldable pub text_behind : List ℕ → Option Edge → List Spot → List ℕ
text_behind source last [] = []
text_behind source last (spot ∷ spots) = gap last spot ++ (own_bytes source spot.lo spot.hi ++ text_behind source (Some (edge_of spot)) spots)

-- The canonical text of tokens of a text.
abbrev pub canonical : List ℕ → List Spot → List ℕ
canonical source spots = text_behind source None spots

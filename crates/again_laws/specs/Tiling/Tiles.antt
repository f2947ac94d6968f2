-- A text that is tiled by the tokens that a layout says.
use Rattle.std.specs.Prelude.{◌≡◌, ◌⊎◌, ℕ, Bool, true, List, [], ◌∷◌, codes}
use Rattle.std.specs.Str.{chars, IsUtf8}
use Rattle.lex_pieces.specs.Characters.{is_white_space}
use Rattle.lex_pieces.specs.Classes.{is_line_char}
use Rattle.lex_pieces.specs.Runs.{Each}
use Rattle.grammar_spec.specs.Tokens.Input.{PlacedToken, Input, div_goal, regexp_goal, template_goal, template_end_goal}
use Rattle.grammar_text_spec.specs.Tiled.{Tile}
use Rattle.print_writers.specs.Pages.{Page}
use Rattle.print_pages_spec.specs.Pieces.{Mark}
use Rattle.print_layout_spec.specs.Looks.{Laid, nothing, one}
use Rattle.again_laws.specs.Tokens.Spacings.{Spacing, Spaced}
use Rattle.again_laws.specs.Tokens.Says.{Says}

-- The goal of a place is one of the four (clause 12).
abbrev pub HasGoal : PlacedToken → Type 0
HasGoal p = (p.goal ≡ div_goal) ⊎ ((p.goal ≡ regexp_goal) ⊎ ((p.goal ≡ template_goal) ⊎ (p.goal ≡ template_end_goal)))

abbrev pub AllHaveGoals : List PlacedToken → Type 0
AllHaveGoals [] = Unit {0}
AllHaveGoals (p ∷ ps) = HasGoal p × AllHaveGoals ps

-- The layout says tokens that tile the text, whose characters begin at a place, and no other; N holds of where each name was read and where it is written.
pub record SaysTiles (N : ℕ → ℕ → Type 0) (start : ℕ) (modules : Bool) (f : Laid) (text : List ℕ) : Type 0 where
  pub places : List PlacedToken
  pub tiles : Tile start modules text places
  pub goals : AllHaveGoals places
  pub gap : Spacing
  pub over : Input
  pub says : Says N f Spaced (record { last = start; places = places }) gap over
  pub all : over.places ≡ []

-- a name may stand anywhere
abbrev pub anywhere : ℕ → ℕ → Type 0
anywhere pos at = Unit {0}

-- A page on which nothing is written yet: its lines end with LF or CR LF, and are indented by white space.
pub record IsEmptyPage (p : Page) : Type 0 where
  pub nothing : p.out ≡ []
  pub starts : p.at_start ≡ true
  pub level : p.depth ≡ 0
  pub ends : (p.line_end ≡ codes "\n") ⊎ (p.line_end ≡ codes "\r\n")
  pub utf8 : IsUtf8 p.indent
  pub white : Each is_white_space (chars p.indent)

-- what stands behind `#!` in a hashbang (12.5)
pub record IsHashbangText (own : List ℕ) : Type 0 where
  pub utf8 : IsUtf8 own
  pub line : Each is_line_char (chars own)

-- a mark, or nothing
abbrev pub IsSilent : Laid → Type 0
IsSilent nothing = Unit {0}
IsSilent (one (Mark pos)) = Unit {0}
IsSilent f = ⊥

-- the same token, whatever the goal and the context
abbrev pub SameToken : PlacedToken → PlacedToken → Type 0
SameToken x y = (x.spot ≡ y.spot) × (x.escaped ≡ y.escaped)

abbrev pub SameTokens : List PlacedToken → List PlacedToken → Type 0
SameTokens [] [] = Unit {0}
SameTokens (x ∷ xs) (y ∷ ys) = SameToken x y × SameTokens xs ys
SameTokens _ _ = ⊥

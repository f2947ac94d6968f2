-- Laws of texts that are written: their statements.
use Rattle.std.specs.Prelude.{◌≡◌, ℕ, Bool, List, []}
use Rattle.std.specs.Str.{chars}
use Rattle.grammar_spec.specs.Tokens.Input.{PlacedToken}
use Rattle.grammar_laws.specs.Slash.TemplateLaws.{Outside, over}
use Rattle.grammar_text_spec.specs.Tiled.{Tile}
use Rattle.print_writers.specs.Pages.{Page}
use Rattle.print_pages_spec.specs.Pieces.{resolved, shortened}
use Rattle.print_layout_spec.specs.Looks.{Laid, meant, hashbang_comment, ◌·◌, line_always, listed}
use Rattle.again_laws.specs.Tiling.Goes.{GoesWhole}
use Rattle.again_laws.specs.Tiling.Tiles.{AllHaveGoals, SaysTiles, anywhere, IsEmptyPage, IsHashbangText, IsSilent, SameTokens}

-- what is written of a layout on a page, formatted and minified, is tiled by tokens that it says
abbrev pub IsTiled : ℕ → Bool → Laid → Page → Type 0
IsTiled start modules f p = SaysTiles anywhere start modules f (chars (resolved (listed f []) p).out) × SaysTiles anywhere start modules f (chars (shortened (listed f []) p).out)

-- A layout whose texts may stand one after another is written as a text that is tiled by tokens that it says.
abbrev pub LayoutsAreTiled : Type 0
LayoutsAreTiled = (start : ℕ) (modules : Bool) (f : Laid) (p : Page) → IsEmptyPage p → GoesWhole f → IsTiled start modules f p

-- So is one behind a hashbang.
abbrev pub HashbangsAreTiled : Type 0
HashbangsAreTiled = (start : ℕ) (modules : Bool) (mark : Laid) (own : List ℕ) (f : Laid) (p : Page) → IsEmptyPage p → IsSilent mark → IsHashbangText own → GoesWhole f
    → IsTiled start modules (mark · (meant (hashbang_comment own) · line_always) · f) p

-- Tokens that tile a text tile it under other goals and in other contexts, where these keep the regions of templates, as those of a derivation do.
abbrev pub TilesAgain : Type 0
TilesAgain = (start : ℕ) (modules : Bool) (text : List ℕ) (ps qs : List PlacedToken) → Tile start modules text ps → AllHaveGoals ps → SameTokens ps qs → over (Outside []) qs ≡ Outside [] → Tile start modules text qs

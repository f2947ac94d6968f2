-- A list as a source of tokens.
use Rattle.std.specs.Prelude.{◌≡◌, refl, ℕ, List, [], ◌∷◌, length, map, reverse, Option, None, Some}
use Rattle.base_token.specs.Tokens.{Spot}
use Rattle.base_token.specs.declared.context.Context.{Context}
use Rattle.base_token.specs.declared.syntax.Syntax.{Syntax}
use Rattle.base_token.specs.declared.version.EsVersion.{EsVersion}
use Rattle.lex_source.specs.declared.look.Look.{Look}
use Rattle.lex_source.specs.declared.look.Look.TheVariants.{Next, Second, Slash}
use Rattle.lex_source.specs.Machine.{Machine, Source, shown_spot, told_of}
use Rattle.lex_source.specs.Settings.{Settings, at_start, settings_in, with_ctx}
use Rattle.lex_other_sources.specs.declared.list.TokensInput.{TokensInput}

-- the first token, and a source of the others
abbrev pub list_step : List Spot → Settings → Option Spot × Source (List Spot)
list_step [] settings = (None, record { tokens = []; settings = settings })
list_step (spot ∷ spots) settings = (Some spot, record { tokens = spots; settings = settings })

-- an empty list stays empty, whatever the source is told
pub list_ends : (spots : List Spot) (old settings : Settings) → (list_step spots old).0 ≡ None
    → list_step (list_step spots old).1.tokens settings ≡ (None, told_of settings (list_step spots old).1)
list_ends [] old settings e = refl
list_ends (spot ∷ spots) old settings e = cc

-- The tokens come as they stand in the list, whatever the source is told.
abbrev pub list_machine : Machine (List Spot)
list_machine = record {
  step = λ s. list_step s.tokens s.settings;
  bound = λ spots. length spots;
  end_stays = λ s settings none end same. list_ends s.tokens s.settings settings end;
}

-- a list as a source; it is kept from its end
abbrev pub list_source : TokensInput → Source (List Spot)
list_source x = record { tokens = reverse (map shown_spot x.from_end.items); settings = settings_in x.settings }

-- where the first token begins
abbrev pub start_of : List Spot → ℕ
start_of [] = 0
start_of (spot ∷ spots) = spot.lo

-- a source of these tokens in this code
abbrev pub list_in : List Spot → Context → Syntax → EsVersion → Source (List Spot)
list_in spots ctx syntax target = record { tokens = spots; settings = with_ctx ctx (at_start syntax target (start_of spots)) }

-- the first token, and what stands behind it
abbrev pub first_of : List Spot → Option Spot
first_of [] = None
first_of (spot ∷ spots) = Some spot

abbrev pub behind_first : List Spot → List Spot
behind_first [] = []
behind_first (spot ∷ spots) = spots

-- the token of a list that is looked at
abbrev pub seen_in : Look → List Spot → Option Spot
seen_in Next spots = first_of spots
seen_in (Slash place) spots = first_of spots
seen_in Second spots = first_of (behind_first spots)

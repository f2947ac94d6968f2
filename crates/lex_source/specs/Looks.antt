-- What a source of tokens shows of those to come.
use Rattle.std.specs.Prelude.{Option, None, Some}
use Rattle.base_token.specs.Tokens.{Spot}
use Rattle.lex_source.specs.declared.look.Look.{Look}
use Rattle.lex_source.specs.declared.look.Look.TheVariants.{Next, Slash, Second}
use Rattle.lex_source.specs.Machine.{Source, told_of}
use Rattle.lex_source.specs.Settings.{with_next_regexp}

-- the token behind one that comes, or nothing where nothing comes
abbrev pub behind_by : {S : Type 0} → (Source S → Option Spot × Source S) → Option Spot → Source S → Option Spot
behind_by step None s = None
behind_by step (Some t) s = (step s).0

-- The token that is looked at: what the steps hand out that are made from here.
abbrev pub seen : {S : Type 0} → (Source S → Option Spot × Source S) → Look → Source S → Option Spot
seen step Next s = (step s).0
seen step (Slash place) s = (step (told_of (with_next_regexp (Some place.0) s.settings) s)).0
seen step Second s = behind_by step (step s).0 (step s).1

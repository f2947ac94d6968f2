-- A source that can go back in front of the token that it handed out last.
use Rattle.std.specs.Prelude.{Option, option_map}
use Rattle.base_token.specs.declared.context.Context.{Context}
use Rattle.lex_source.specs.Machine.{Machine, Source}
use Rattle.lex_other_sources.specs.declared.rewinding.Rewinding.{Rewinding}
use Rattle.lex_other_sources.specs.Steps.{LeadsTo, StepsTo, back_by}

module _ {I S : Type 0} (m : Machine S) (state : I → Source S) where
  -- The steps that were counted lead from the copy, where there is one, to where the source stands. So it is of a new one, and each call leaves it so.
  abbrev pub IsLed : Rewinding I → Type 0
  IsLed r = LeadsTo m (option_map state r.copy) r.steps r.untold (state r.input)

  -- there is a copy from which they do, and the source was told nothing since
  abbrev pub IsLedAlone : Rewinding I → Type 0
  IsLedAlone r = StepsTo m (option_map state r.copy) r.steps (state r.input)

  -- The source in front of the last token, where that was read in other code than this and what it takes to go back was kept.
  abbrev pub back_in : Context → Rewinding I → Option (Source S)
  back_in ctx r = back_by m ctx (option_map state r.copy) r.steps

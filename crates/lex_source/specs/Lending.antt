-- That token contexts which are lent are others once the loan is over.
use Rattle.std.specs.Borrow.{Lends, MutBor, Fml}
use Rattle.lex_source.specs.declared.contexts.TokenContexts.{TokenContexts}
use Rattle.lex_source.specs.declared.settings.Settings.{Settings}
use Rattle.lex_source.specs.contracts.contexts.TokenContexts.{the_row as contexts_row}
use Rattle.lex_source.specs.contracts.settings.Settings.{the_row as settings_row}

-- the settings with other token contexts
abbrev pub with_open : Settings → TokenContexts → Settings
with_open s contexts = record s { contexts = contexts }

abbrev pub LendsContexts : MutBor Settings → MutBor TokenContexts → Fml
LendsContexts s r = Lends settings_row contexts_row s r (with_open s.now)

-- That token contexts which a source lends are others once the loan is over.
use mir.Syntax.{named}
use Rattle.std.specs.Prelude.{[]}
use Rattle.std.specs.Borrow.{Lends, MutBor, Fml, RattleType}
use Rattle.lex_source.specs.Lending.{with_open}
use Rattle.lex_source.specs.declared.contexts.TokenContexts.{TokenContexts}
use Rattle.lex_source.specs.contracts.contexts.TokenContexts.{the_row as contexts_row}
use Rattle.lex_other_sources.specs.declared.capturing.Capturing.{Capturing}
use Rattle.lex_other_sources.specs.declared.list.TokensInput.{TokensInput}
use Rattle.lex_other_sources.specs.contracts.capturing.Capturing.{the_row as capturing_row}
use Rattle.lex_other_sources.specs.contracts.list.TokensInput.{the_row as list_row}

-- the list with other token contexts
abbrev pub list_with_open : TokensInput → TokenContexts → TokensInput
list_with_open x contexts = record x { settings = with_open x.settings contexts }

abbrev pub ListLends : MutBor TokensInput → MutBor TokenContexts → Fml
ListLends s r = Lends (list_row (record { mir = named 1; lft = [] })) contexts_row s r (list_with_open s.now)

-- a source that captures, once the one behind it has other token contexts: what was captured stays
abbrev pub capturing_with_open : {S : Type 0} → (S → TokenContexts → S) → Capturing S → TokenContexts → Capturing S
capturing_with_open with_open x contexts = record x { input = with_open x.input contexts }

abbrev pub CapturingLends : (I : RattleType) → (I.Denot → TokenContexts → I.Denot) → MutBor (Capturing I.Denot) → MutBor TokenContexts → Fml
CapturingLends I with_open s r = Lends (capturing_row (record { mir = named 1; lft = [] }) I) contexts_row s r (capturing_with_open with_open s.now)

-- Where a parser stands.
use Rattle.std.specs.Prelude.{ℕ, reverse, ◌∷◌, Some}
use Rattle.lex_source.specs.Machine.{Source}
use Rattle.grammar_spec.specs.Reader.Source.{State}
use Rattle.parse_state.specs.Cursors.{Cursor}
use Rattle.parse_state.specs.declared.parser.Parser.{Parser}

abbrev pub state_of : {I S : Type 0} → (I → Source S) → Parser I → State (Cursor S)
state_of state p = record { source = record { first = p.ahead; behind = Some (state p.input); last = p.last.0 }; commas = reverse p.commas.items }

-- where a start was noted
abbrev pub noted : {S : Type 0} → ℕ → State S → State S
noted n s = record { source = s.source; commas = n ∷ s.commas }

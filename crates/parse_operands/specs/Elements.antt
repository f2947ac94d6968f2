-- Lists with commas.
use Rattle.std.specs.Prelude.{ℕ, Bool, true, false, if◌then◌else◌, Result, Ok}
use Rattle.base_token.specs.Kinds.{comma_kind}
use Rattle.grammar_spec.specs.Reader.Source.{Fault, ◌>>=◌, Stream, State, past, at, eat}

-- what follows an item: a comma and more, or what closes the list
unfoldable pub after_item : {S : Type 0} → Stream S → ℕ → State S → Result (Bool × State S) Fault
after_item m close s = if at m comma_kind s then Ok (true, past m s) else (eat m close s >>= λ r. Ok (false, r))

-- The word `async`, and what follows it.
use Rattle.std.proofs.Common.{◌≡◌, ℕ, refl}
use Rattle.tree_spec.specs.Span.{Span}
use Rattle.grammar_spec.specs.Tokens.Input.{Code, first_span, text}
use Rattle.grammar_spec.specs.Reader.Source.{Stream, State, Inner, input, past}
use Rattle.grammar_spec.specs.Reader.Expressions.{async_by}
use Rattle.parse_arrows.specs.Asyncs.{async_arrow, async_end}

pub async_is : {S : Type 0} (m : Stream S) (inner : Inner S) (c : Code) (l : ℕ) (s : State S) (place : Span) → place ≡ first_span (input m s)
    → async_by m inner c l s ≡ async_end m inner c l place (text (input m s)) (past m s)
unfolding async_by async_end async_arrow
async_is m inner c l s place e = rw e refl

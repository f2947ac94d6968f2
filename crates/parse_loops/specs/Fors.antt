-- Parts of the rules of `for`, so that each is proved alone.
use Rattle.std.specs.Prelude.{ℕ, Bool, true, false, not, ◌&&◌, ◌||◌, ◌==◌, if◌then◌else◌}
use Rattle.base_token.specs.Kinds.{in_kind, let_kind, of_kind, async_kind}
use Rattle.tree_spec.specs.Tree.{Tree}
use Rattle.grammar_spec.specs.Tokens.Input.{Code, kind2, rest}
use Rattle.grammar_spec.specs.Reader.Cover.{to_head}
use Rattle.grammar_spec.specs.Reader.Source.{Stream, Inner, Read, State, unexpected, ◌>>=◌, at, input, past, placed, bound, here}
use Rattle.grammar_spec.specs.Reader.Statements as reads

-- what may not stand before `of`: `let`, and `async` before `of` itself (14.7.5)
abbrev pub bars_of : {S : Type 0} → Stream S → Bool → State S → Bool
bars_of m awaits s = at m let_kind s || (not awaits && (at m async_kind s && (kind2 (input m s) == of_kind)))

module _ {S : Type 0} (m : Stream S) (inner : Inner S) where
  -- after the expression that heads a `for` (14.7.5)
  abbrev pub for_target : Code → ℕ → Bool → Bool → Tree → Read S Tree
  for_target c start awaits barred e s =
      if at m of_kind s then (if barred then unexpected m s else (placed (bound m s) (to_head s.commas e) >>= λ l. reads.of_rest m inner c start awaits l s))
      else (if awaits then unexpected m s
      else (if at m in_kind s then (placed (bound m s) (to_head s.commas e) >>= λ l. reads.in_rest m inner c start l s)
      else reads.for_rest m inner c start e s))

  -- a head that begins with `using`, or with an expression (14.7.5)
  unfoldable pub using_head : Code → ℕ → Bool → Read S Tree
  using_head c start awaits s =
      if reads.starts_using m inner c s && not (kind2 (input m s) == of_kind) then reads.for_using m inner c start awaits (here m s) false s
      else (if reads.starts_await_using m inner c s && not (kind2 (rest (input m s)) == of_kind) then reads.for_using m inner c start awaits (here m s) true (past m s)
      else reads.for_expression m inner c start awaits s)

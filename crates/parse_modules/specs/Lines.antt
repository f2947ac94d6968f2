-- The hashbang that a program may start with (12.5).
use Rattle.std.specs.Prelude.{ℕ, Bool, List, None, Some, Ok}
use Rattle.tree_spec.specs.Tree.{Tree}
use Rattle.grammar_spec.specs.Tokens.Input.{Code, content}
use Rattle.grammar_spec.specs.Reader.Source.{Stream, Inner, Read, ◌>>=◌, unexpected, input, past}
use Rattle.grammar_spec.specs.Reader.Modules.{line_of, program_rest}

module _ {S : Type 0} (m : Stream S) (inner : Inner S) where
  -- its text; the token is taken
  unfoldable pub line_by : Read S (List ℕ)
  line_by s = elim (line_of m inner (content (input m s))) [ None ↦ unexpected m s | Some l ↦ Ok (l, past m s) ]

  -- a program that a hashbang leads, which begins at a start
  unfoldable pub led_by : Bool → Code → ℕ → Read S Tree
  led_by modules c start s = line_by s >>= λ l. program_rest m inner modules c start (Some l.0) l.1

-- Words with a meaning of their own.
use Rattle.std.specs.Prelude.{Ok}
use Rattle.base_token.specs.declared.place.Span.{Span}
use Rattle.grammar_spec.specs.Tokens.Input.{Code, kind}
use Rattle.grammar_spec.specs.Reader.Source.{Stream, Read, ◌>>=◌, input, spanned, eat_word, here}

-- a word as a word of the grammar, for its place
unfoldable pub fixed_word : {S : Type 0} → Stream S → Code → Read S Span
fixed_word m c s = eat_word m c (kind (input m s)) s >>= λ r. Ok (spanned m (here m s) r, r)

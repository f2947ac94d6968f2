-- An export, by what follows its word.
use Rattle.std.proofs.Common.{◌≡◌, refl}
use Rattle.base_token.specs.Kinds.{export_kind}
use Rattle.grammar_spec.specs.Tokens.Input.{Code}
use Rattle.grammar_spec.specs.Reader.Source.{◌>>=◌, Stream, State, Inner, eat_word, here}
use Rattle.grammar_spec.specs.Reader.Modules.{export_by}
use Rattle.parse_modules.specs.Steps.{after_by, decl_by, listed_by}

pub export_is : {S : Type 0} (m : Stream S) (inner : Inner S) (c : Code) (s : State S) → export_by m inner c s ≡ (eat_word m c export_kind s >>= λ r. after_by m inner c (here m s) r)
unfolding export_by after_by listed_by decl_by
export_is m inner c s = refl

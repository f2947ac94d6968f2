-- A program by whether a hashbang leads it.
use Rattle.std.proofs.Common.{◌≡◌, Bool, true, false, List, ℕ, Option, None, Some, Ok, refl}
use Rattle.base_token.specs.Kinds.{shebang_kind}
use Rattle.grammar_spec.specs.Tokens.Input.{Code, content}
use Rattle.grammar_spec.specs.Reader.Source.{Stream, State, Inner, unexpected, input, past, at, here, ◌>>=◌}
use Rattle.grammar_spec.specs.Reader.Modules.{line_of, program_by, program_rest}
use Rattle.parse_modules.specs.Lines.{led_by, line_by}

module _ {S : Type 0} (m : Stream S) (inner : Inner S) (modules : Bool) (c : Code) (s : State S) where
  line_rest : (o : Option (List ℕ)) → elim o [ None ↦ unexpected m s | Some l ↦ program_rest m inner modules c (here m s) (Some l) (past m s) ]
      ≡ ◌>>=◌ {A = List ℕ × State S} (elim o [ None ↦ unexpected m s | Some l ↦ Ok (l, past m s) ]) (λ l. program_rest m inner modules c (here m s) (Some l.0) l.1)
  line_rest None = refl
  line_rest (Some l) = refl

  -- led by a hashbang
  pub led : at m shebang_kind s ≡ true → program_by m inner modules c s ≡ led_by m inner modules c (here m s) s
  unfolding program_by led_by line_by
  led is = rw is (line_rest (line_of m inner (content (input m s))))

  -- led by none
  pub plain : at m shebang_kind s ≡ false → program_by m inner modules c s ≡ program_rest m inner modules c (here m s) None s
  unfolding program_by
  plain is = rw is refl

pub ruleset lines = (led, plain)

-- A larger limit changes no answer but too deep: the statement of the law.
use Rattle.std.specs.Prelude.{◌≡◌, ◌≤◌, ℕ, Bool, List, Result, Ok, Err}
use Rattle.base_token.specs.declared.syntax.EsSyntax.{EsSyntax}
use Rattle.grammar_spec.specs.Tokens.Input.{PlacedToken}
use Rattle.grammar_spec.specs.Reader.Source.{Fault, Unexpected, TooDeep}
use Rattle.grammar_spec.specs.Reader.Reading.{read_list}

-- The second answer is the first one, unless that is too deep.
abbrev pub Keeps : {A : Type 0} → Result A Fault → Result A Fault → Type 0
Keeps (Ok x) y = y ≡ Ok x
Keeps (Err (Unexpected n)) y = y ≡ Err (Unexpected n)
Keeps (Err (TooDeep n)) y = Unit {0}

-- What is read of a list at one limit, as a script or a module, is read at every larger one; and where a token is unexpected, it is at every
-- larger one, and at the same place. The list is any: no tree need produce it.
abbrev pub LimitsKeep : Type 0
LimitsKeep = (d e : ℕ) (modules : Bool) (syntax : EsSyntax) (start : ℕ) (places : List PlacedToken) → d ≤ e → Keeps (read_list d modules syntax start places) (read_list e modules syntax start places)

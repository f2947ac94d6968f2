-- What the code around a program knows.
use Rattle.std.proofs.Common.{false, true, Bool, ◌≡◌, refl, if◌then◌else◌}
use Rattle.base_token.specs.declared.syntax.EsSyntax.{EsSyntax}
use Rattle.grammar_spec.specs.Tokens.Input.{module_code, script_code}

-- the code of a script, and that of a module
pub code_of : (modules : Bool) (x : EsSyntax) → (if modules then module_code x else script_code x).context.module_ ≡ modules
code_of true x = refl
code_of false x = refl

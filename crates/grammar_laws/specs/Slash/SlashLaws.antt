-- After the same tokens a slash is an operator or opens a regular expression, never both: the statement of the law.
use Rattle.std.specs.Prelude.{◌≡◌, ◌⊎◌, ℕ, Bool, List, ◌∷◌, ◌++◌, Ok}
use Rattle.base_token.specs.declared.syntax.EsSyntax.{EsSyntax}
use Rattle.base_token.specs.Kinds.{regex_kind, div_kind, div_assign_kind}
use Rattle.base_token.specs.Tokens.{Bare, Pattern}
use Rattle.tree_spec.specs.Tree.{Tree}
use Rattle.grammar_spec.specs.Tokens.Input.{PlacedToken}
use Rattle.grammar_spec.specs.Reader.Reading.{read_list}

-- a regular expression, and an operator that a slash begins
abbrev pub IsPattern : PlacedToken → Type 0
IsPattern p = (p.spot.token.kind ≡ regex_kind) × (body : List ℕ) × (flags : List ℕ) × (p.spot.token.content ≡ Pattern body flags)

abbrev pub IsSlash : PlacedToken → Type 0
IsSlash p = ((p.spot.token.kind ≡ div_kind) ⊎ (p.spot.token.kind ≡ div_assign_kind)) × (p.spot.token.content ≡ Bare)

-- Of two lists that begin alike and go on, at one place of the text, with a regular expression and with such an operator, not both are read.
abbrev pub SlashesTold : Type 0
SlashesTold = (depth : ℕ) (modules : Bool) (syntax : EsSyntax) (start : ℕ) (front : List PlacedToken) (p q : PlacedToken) (ps qs : List PlacedToken) (t u : Tree)
    → IsPattern p → IsSlash q → p.spot.lo ≡ q.spot.lo → p.spot.line_break ≡ q.spot.line_break
    → read_list depth modules syntax start (front ++ p ∷ ps) ≡ Ok t → read_list depth modules syntax start (front ++ q ∷ qs) ≡ Ok u → ⊥

-- Which of script and module a text is parsed as where neither is said.
use Rattle.std.specs.Prelude.{◌≡◌, ◌⊎◌, ℕ, true, List, [], Result, Ok, Err}
use Rattle.base_token.specs.declared.error.Error.{Error}
use Rattle.base_token.specs.declared.error.SyntaxError.TheVariants as kinds
use Rattle.base_token.specs.declared.syntax.EsSyntax.{EsSyntax}
use Rattle.tree_spec.specs.Tree.{Tree}
use Rattle.grammar_spec.specs.Judge.Early.{early_errors}
use Rattle.grammar_spec.specs.Reader.Source.{Fault}
use Rattle.judge_is_module.specs.Choice.{tells_module}
use Rattle.ecma_parser.specs.Answers.{Parses}

-- A module is meant: what is read as one has no early error, and tells that it is one.
abbrev pub IsMeant : EsSyntax → Result Tree Fault → Tree → Type 0
IsMeant syntax read t = (read ≡ Ok t) × (early_errors syntax t ≡ []) × (tells_module t ≡ true)

abbrev pub NotMeant : EsSyntax → Result Tree Fault → Type 0
NotMeant syntax read = (t : Tree) → IsMeant syntax read t → ⊥

-- The answer is the module that is meant, and no fault is recorded; or none is meant, and it is that of the script. Of want of memory nothing is said but
-- that no fault is recorded.
abbrev pub Chooses : EsSyntax → ℕ → Result Tree Error → Result Tree Fault → Result Tree Fault → List Error → List Error → Type 0
Chooses syntax left (Ok t) modules scripts old new = (IsMeant syntax modules t × (new ≡ old)) ⊎ (NotMeant syntax modules × Parses (λ x. x) syntax left (Ok t) scripts old new)
Chooses syntax left (Err e) modules scripts old new = (new ≡ old) × ((e.kind ≡ kinds.Memory) ⊎ (NotMeant syntax modules × Parses (λ x. x) syntax left (Err e) scripts old new))

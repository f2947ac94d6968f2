-- What a tree has in common with one whose spellings are those of the text written of it.
use Rattle.std.specs.Prelude.{◌≡◌, ℕ, List, [], map}
use Rattle.base_token.specs.declared.place.Span.{Span}
use Rattle.base_token.specs.declared.syntax.EsSyntax.{EsSyntax}
use Rattle.tree_spec.specs.Tree.{Tree}
use Rattle.tree_program_spec.specs.Names.Names.{Identifier, names}
use Rattle.tree_nesting.specs.Nesting.{nesting}
use Rattle.grammar_spec.specs.Tokens.Shape.{is_clean}
use Rattle.grammar_spec.specs.Judge.Early.{early_errors}
use Rattle.print_layout_spec.specs.declared.look.Look.{Look}
use Rattle.tree_program_spec.specs.Program.{IsSameProgram}
use Rattle.again_laws.specs.Derived.Redo.{Mode, Plain, Redone}
use Rattle.again_laws.specs.Derived.Every.{every}
use Rattle.again_laws.specs.Derived.Faithful.{Faithful, HasElements}
use Rattle.again_laws.specs.Derived.Written.{leaves_by}

-- It nests as deep.
abbrev pub NestsAlike : Type 0
NestsAlike = (look : Look) (read written : ℕ → Span) (mode : Mode) (t u : Tree) → Redone (leaves_by look read written) mode t u → nesting u ≡ nesting t

-- Where nothing of a cover is left in the one, nothing is in the other.
abbrev pub CleanAlike : Type 0
CleanAlike = (look : Look) (read written : ℕ → Span) (mode : Mode) (t u : Tree) → Redone (leaves_by look read written) mode t u → is_clean u ≡ is_clean t

-- It is the same program, where each leaf is told by what is written of it.
abbrev pub SameProgram : Type 0
SameProgram = (look : Look) (read written : ℕ → Span) (mode : Mode) (t u : Tree) → every (Faithful look) mode t → every HasElements Plain u → Redone (leaves_by look read written) mode t u → IsSameProgram u t

-- No early error appears, where each leaf is told by what is written of it.
abbrev pub LegalAlike : Type 0
LegalAlike = (look : Look) (read written : ℕ → Span) (mode : Mode) (t u : Tree) → every (Faithful look) mode t → Redone (leaves_by look read written) mode t u → (syntax : EsSyntax) → early_errors syntax t ≡ [] → early_errors syntax u ≡ []

-- The names of a tree, with the place of each kept as this.
abbrev pub kept_names : (ℕ → Span) → Tree → List Identifier
kept_names places t = map (λ n. record { sym = n.sym; span = places n.at }) (names t)

-- It has as many names, each the same name, and the i-th of the one stands for the i-th of the other.
abbrev pub NamesAlike : Type 0
NamesAlike = (look : Look) (read written : ℕ → Span) (mode : Mode) (t u : Tree) → Redone (leaves_by look read written) mode t u → kept_names written u ≡ kept_names read t

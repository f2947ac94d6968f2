-- What the reading function answers produces what it was read of: its readers at any depth, over the tokens of a list.
use Rattle.std.specs.Prelude.{◌≡◌, ◌≤◌, ◌⊎◌, ℕ, Bool, true, if◌then◌else◌, List, Ok, Some}
use Rattle.base_token.specs.declared.syntax.EsSyntax.{EsSyntax}
use Rattle.tree_spec.specs.Tree.{Tree}
use Rattle.grammar_spec.specs.Tokens.Input.{PlacedToken, Input, Code, span, script_code, module_code, unplaced, assigning, binding}
use Rattle.grammar_spec.specs.Tokens.Operators.{new_level, member_level}
use Rattle.grammar_spec.specs.Tokens.Shape.{level, is_binding, is_item, class_span}
use Rattle.grammar_spec.specs.Grammar.{Produces, Derives}
use Rattle.grammar_spec.specs.Reader.Source.{State, input, list_stream}
use Rattle.grammar_spec.specs.Reader.Modules.{program_by}
use Rattle.grammar_spec.specs.Reader.Reading.{readers, read_list}

-- the tokens alone, outside patterns that bind
abbrev pub tokens : Code → Code
tokens c = assigning (unplaced c)

-- the level that was asked for, or a bare `new` as the callee of another
abbrev pub OfLevel : ℕ → Tree → Type 0
OfLevel l t = (l ≤ level t) ⊎ ((l ≡ member_level) × (level t ≡ new_level))

-- expressions (clause 13), with what they hold
abbrev pub ExpressionsSound : Type 0
ExpressionsSound = (depth : ℕ) (c : Code) (l : ℕ) (s : State Input) (t : Tree) (r : State Input) → 1 ≤ l → (readers list_stream depth).expr c l s ≡ Ok (t, r)
    → OfLevel l t × Produces t (tokens c) (input list_stream s) (input list_stream r)

-- patterns that bind (14.3.3)
abbrev pub PatternsSound : Type 0
PatternsSound = (depth : ℕ) (c : Code) (s : State Input) (t : Tree) (r : State Input) → (readers list_stream depth).pat c s ≡ Ok (t, r)
    → (is_binding t ≡ true) × Produces t (binding (unplaced c)) (input list_stream s) (input list_stream r)

-- statements and declarations (clauses 14 and 15)
abbrev pub StatementsSound : Type 0
StatementsSound = (depth : ℕ) (c : Code) (s : State Input) (t : Tree) (r : State Input) → (readers list_stream depth).stmt c s ≡ Ok (t, r)
    → (is_item t ≡ true) × Produces t (tokens c) (input list_stream s) (input list_stream r)

-- what follows the name of a class (15.7)
abbrev pub ClassesSound : Type 0
ClassesSound = (depth : ℕ) (c : Code) (whole : ℕ) (s : State Input) (t : Tree) (r : State Input) → (readers list_stream depth).class_tail c whole s ≡ Ok (t, r)
    → (class_span t ≡ Some (span whole (input list_stream r).last)) × Produces t (tokens c) (input list_stream s) (input list_stream r)

-- scripts and modules (clause 16)
abbrev pub ProgramsSound : Type 0
ProgramsSound = (depth : ℕ) (modules : Bool) (c : Code) (s : State Input) (t : Tree) (r : State Input) → program_by list_stream (readers list_stream depth) modules c s ≡ Ok (t, r)
    → Produces t (tokens c) (input list_stream s) (input list_stream r)

-- what is read of a whole list: a finished tree, in which nothing of a cover is left
abbrev pub ListsSound : Type 0
ListsSound = (depth : ℕ) (modules : Bool) (syntax : EsSyntax) (start : ℕ) (places : List PlacedToken) (t : Tree) → read_list depth modules syntax start places ≡ Ok t
    → (r : Input) × Derives t (tokens (if modules then module_code syntax else script_code syntax)) (record { last = start; places = places }) r

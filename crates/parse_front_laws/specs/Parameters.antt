-- Parameters without their parentheses (15.1): what is read of them is a complete front.
use Rattle.std.specs.Prelude.{◌≡◌, ◌≤◌, ◌⊎◌, ℕ, Bool, false, List, [], ◌∷◌, Ok}
use Rattle.base_token.specs.Kinds.{comma_kind}
use Rattle.tree_spec.specs.Tree.{Tree, Trees, pack, unpack, list}
use Rattle.tree_nesting.specs.Nesting.{nesting}
use Rattle.grammar_spec.specs.Tokens.Input.{PlacedToken, Input, Code, Takes, with_in}
use Rattle.grammar_spec.specs.Tokens.Shape.{is_param, is_rest, last_tree}
use Rattle.grammar_spec.specs.Children.{Child, IsEmpty, Sorted}
use Rattle.grammar_spec.specs.Grammar.{children}
use Rattle.grammar_spec.specs.Reader.Source.{State, list_stream}
use Rattle.grammar_spec.specs.Reader.Reading.{readers}
use Rattle.grammar_laws.specs.CompleteBase.Laws.{coded, InOrder}
use Rattle.parse_source_laws.specs.Ahead.{Named, at_list}
use Rattle.parse_front_laws.specs.Complete.Laws.{input_at, IsComplete, Expression}
use Rattle.parse_front_laws.specs.Complete.Exact.{Stopped}
use Rattle.parse_front_laws.specs.Complete.Asyncs.{takes_name, Worded}
use Rattle.parse_alone.specs.Ends.{initial_of, last_initial}
use Rattle.parse_alone.specs.Parts.{bare_by}

-- ---- the production

-- FormalParameters without their parentheses: a comma may stand after the last one, where that is no rest
abbrev pub ParameterList : Code → List Child → Input → Input → Type 0
ParameterList c [] ts r = ts ≡ r
ParameterList c (x ∷ xs) ts r = (m : Input) × Sorted is_param c x ts m
    × (((is_rest x.tree ≡ false) × (n : Input) × Takes c comma_kind m n × ParameterList c xs n r) ⊎ (IsEmpty xs × (m ≡ r)))

abbrev pub Parameters : Bool → Code → Tree → Input → Input → Type 0
Parameters placed c (list ps) ts r = ParameterList (coded placed c) (children ps) ts r
Parameters placed c _ ts r = ⊥

-- ---- the law

-- What is read as parameters is derived from a complete front, but where an arrow may go on with the word `async`.
abbrev pub ParametersEnd : Type 0
ParametersEnd = (depth : ℕ) (placed : Bool) (c : Code) (n : ℕ) (ps : List PlacedToken) (xs : List Tree) (r : State Input) → Named ps → InOrder n ps
    → bare_by list_stream (readers list_stream depth) c (at_list n ps []) ≡ Ok (xs, r) → takes_name c (last_initial xs) r.source ≡ false
    → Parameters false c (list (pack xs)) (input_at n ps) r.source × IsComplete (Parameters placed c) n ps r.source.places

-- Where an initialiser ends the parameters, by the table of semicolons nothing goes on with it.
abbrev pub ParametersStop : Code → Trees → Input → Type 0
ParametersStop c xs r = (o : Input) → Expression false 2 (with_in c) (initial_of (last_tree xs)) o r → Stopped 2 (with_in c) (initial_of (last_tree xs)) r

-- Outside generators each complete front is read, at every depth of at least its nesting.
abbrev pub ParametersExact : Type 0
ParametersExact = (c : Code) (depth n : ℕ) (ps : List PlacedToken) (xs : Trees) (r : Input) → c.context.in_generator ≡ false → nesting (list xs) ≤ depth → InOrder n ps
    → Parameters false c (list xs) (input_at n ps) r → IsComplete (Parameters false c) n ps r.places → ParametersStop c xs r
    → (commas : List ℕ) × (bare_by list_stream (readers list_stream depth) c (at_list n ps []) ≡ Ok (unpack xs, record { source = r; commas = commas }))

-- Outside async functions and static blocks, too, no name stands behind it where an arrow would go on with the word `async`.
abbrev pub ParametersStandAlone : Type 0
ParametersStandAlone = (c : Code) (n : ℕ) (ps : List PlacedToken) (xs : Trees) (r : Input) → c.context.in_generator ≡ false → c.context.in_async ≡ false → c.context.in_static_block ≡ false → Worded ps → InOrder n ps
    → Parameters false c (list xs) (input_at n ps) r → IsComplete (Parameters false c) n ps r.places → takes_name c (initial_of (last_tree xs)) r ≡ false

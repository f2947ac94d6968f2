-- Reading from a source is reading from the list of the tokens that it hands out: what is read of the list is read of the source.
use Rattle.std.specs.Prelude.{◌≡◌, ℕ, Bool, List, Result, Ok, Err}
use Rattle.base_token.specs.declared.syntax.EsSyntax.{EsSyntax}
use Rattle.tree_spec.specs.Tree.{Tree}
use Rattle.grammar_spec.specs.Tokens.Input.{PlacedToken, Input, Code}
use Rattle.grammar_spec.specs.Reader.Source.{Fault, Stream, list_stream, State, operand}
use Rattle.grammar_spec.specs.Reader.Expressions.{key_by, parameter_by, prop_by}
use Rattle.grammar_spec.specs.Reader.Statements.{pattern_prop}
use Rattle.grammar_spec.specs.Reader.Modules.{item_by}
use Rattle.grammar_spec.specs.Reader.Reading.{readers, read_program, read_list}
use Rattle.parse_source_laws.specs.Sources.{HandsOut, Orderly}

module _ {S : Type 0} (m : Stream S) (Live : S → Type 0) where
  -- A source hands out the tokens of a list. What tree is read of the list is read of the source, as a script or a module, by calls so deep.
  abbrev pub ProgramsRead : Type 0
  ProgramsRead = (modules : Bool) → Orderly m Live modules → (depth : ℕ) (syntax : EsSyntax) (s : S) (ps : List PlacedToken) (t : Tree)
      → Live s → HandsOut m ps s → read_list depth modules syntax (m.last s) ps ≡ Ok t → read_program m depth modules syntax s ≡ Ok t

  -- the source in a state, with such starts noted, and the list that it hands out from there
  abbrev pub from_source : S → List ℕ → State S
  from_source s commas = record { source = s; commas = commas }

  abbrev pub from_list : S → List PlacedToken → List ℕ → State Input
  from_list s ps commas = record { source = record { last = m.last s; places = ps }; commas = commas }

  -- What is read of the list is read of the source, and the source then hands out the rest.
  abbrev pub SameRead : Result (Tree × State Input) Fault → Result (Tree × State S) Fault → Type 0
  SameRead (Ok x) y = (s : S) × (y ≡ Ok (x.0, from_source s x.1.commas)) × (m.last s ≡ x.1.source.last) × HandsOut m x.1.source.places s
  SameRead (Err e) y = Unit {0}

  -- The same of parts, from one state on: an expression, a pattern that binds, a statement, an item of a program, a key, a parameter, a property of an object
  -- and one of an object pattern.
  pub record SameParts (modules : Bool) (depth : ℕ) (c : Code) (s : S) (ps : List PlacedToken) (commas : List ℕ) : Type 0 where
    pub expressions : (l : ℕ) → SameRead ((readers list_stream depth).expr c l (from_list s ps commas)) ((readers m depth).expr c l (from_source s commas))
    pub bindings : SameRead ((readers list_stream depth).pat c (from_list s ps commas)) ((readers m depth).pat c (from_source s commas))
    pub statements : SameRead ((readers list_stream depth).stmt c (from_list s ps commas)) ((readers m depth).stmt c (from_source s commas))
    pub items : SameRead (item_by list_stream (readers list_stream depth) modules c (from_list s ps commas)) (item_by m (readers m depth) modules c (operand m (from_source s commas)))
    pub keys : SameRead (key_by list_stream (readers list_stream depth) c (from_list s ps commas)) (key_by m (readers m depth) c (from_source s commas))
    pub parameters : SameRead (parameter_by list_stream (readers list_stream depth) c (from_list s ps commas)) (parameter_by m (readers m depth) c (from_source s commas))
    pub properties : SameRead (prop_by list_stream (readers list_stream depth) c (from_list s ps commas)) (prop_by m (readers m depth) c (from_source s commas))
    pub patterns : SameRead (pattern_prop list_stream (readers list_stream depth) c (from_list s ps commas)) (pattern_prop m (readers m depth) c (from_source s commas))

  abbrev pub PartsRead : Type 0
  PartsRead = (modules : Bool) → Orderly m Live modules → (depth : ℕ) (c : Code) (s : S) (ps : List PlacedToken) (commas : List ℕ) → c.context.module_ ≡ modules → Live s → HandsOut m ps s
      → SameParts modules depth c s ps commas

-- What an entry for a part of a program reads of a source (`parse_alone`) is what it reads of a list that the source hands out.
use Rattle.std.specs.Prelude.{◌≡◌, ℕ, Bool, List, Result}
use Rattle.tree_spec.specs.Tree.{Tree}
use Rattle.grammar_spec.specs.Tokens.Input.{PlacedToken, Input, Code}
use Rattle.grammar_spec.specs.Reader.Source.{Fault, Stream, State, Read, list_stream}
use Rattle.parse_source_laws.specs.Sources.{HandsOut, Orderly}
use Rattle.parse_source_laws.specs.Laws.{from_source, from_list, SameRead}
use Rattle.parse_source_laws.specs.Consumed.{Backward, Assigns, AssignsUnlessClosed, Unasked, ReadConsumed}
use Rattle.parse_alone.specs.Parts.{expression_part, binding_part, key_part, parameters_part}
use Rattle.parse_alone.specs.Props.{prop_part, item_part}
use Rattle.parse_alone.specs.Items.{statement_part, list_item_part, module_item_part}

module _ {S : Type 0} (m : Stream S) (Live : S → Type 0) where
  -- What tree is answered of the source is answered of lists that it hands out, before each that it hands out behind, as is asked of that. What is answered of
  -- any list that it hands out is answered of the source, which then hands out the rest.
  pub record SameAnswers (Asked : Tree → List PlacedToken → S → Type 0) (s : S) (commas : List ℕ) (x : Result (Tree × State S) Fault) (f : Read Input Tree) : Type 0 where
    pub consumed : ReadConsumed m Live Asked s commas x f
    pub told : (ps : List PlacedToken) → HandsOut m ps s → SameRead m Live (f (from_list m Live s ps commas)) x

  -- So it is of each part, from one state on.
  pub record EachSame (limit : ℕ) (c : Code) (s : S) (commas : List ℕ) : Type 0 where
    pub expressions : (l : ℕ) → SameAnswers (AssignsUnlessClosed m) s commas (expression_part m l limit c (from_source m Live s commas)) (λ r. expression_part list_stream l limit c r)
    pub bindings : SameAnswers (Unasked m) s commas (binding_part m limit c (from_source m Live s commas)) (λ r. binding_part list_stream limit c r)
    pub keys : SameAnswers (Unasked m) s commas (key_part m limit c (from_source m Live s commas)) (λ r. key_part list_stream limit c r)
    pub parameters : SameAnswers (Assigns m) s commas (parameters_part m limit c (from_source m Live s commas)) (λ r. parameters_part list_stream limit c r)
    pub properties : SameAnswers (Assigns m) s commas (prop_part m limit c (from_source m Live s commas)) (λ r. prop_part list_stream limit c r)
    pub patterns : SameAnswers (Assigns m) s commas (item_part m limit c (from_source m Live s commas)) (λ r. item_part list_stream limit c r)
    pub statements : SameAnswers (Unasked m) s commas (statement_part m limit c (from_source m Live s commas)) (λ r. statement_part list_stream limit c r)
    pub list_items : SameAnswers (Unasked m) s commas (list_item_part m limit c (from_source m Live s commas)) (λ r. list_item_part list_stream limit c r)
    pub module_items : SameAnswers (Unasked m) s commas (module_item_part m limit c (from_source m Live s commas)) (λ r. module_item_part list_stream limit c r)

  abbrev pub PartsSame : Type 0
  PartsSame = (modules : Bool) → Orderly m Live modules → Backward m Live modules → (limit : ℕ) (c : Code) (s : S) (commas : List ℕ) → c.context.module_ ≡ modules → Live s → EachSame limit c s commas

-- With what an entry reads as an expression nothing goes on by the table of semicolons.
use Rattle.std.specs.Prelude.{◌≡◌, ◌≤◌, ℕ, List, [], Ok}
use Rattle.tree_spec.specs.Tree.{Tree}
use Rattle.grammar_spec.specs.Tokens.Input.{PlacedToken, Input, Code}
use Rattle.grammar_spec.specs.Reader.Source.{State, list_stream}
use Rattle.grammar_laws.specs.CompleteBase.Laws.{InOrder}
use Rattle.parse_source_laws.specs.Ahead.{Named, at_list}
use Rattle.parse_front_laws.specs.Complete.Exact.{Stopped}
use Rattle.parse_alone.specs.Parts.{expression_part}

abbrev pub ExpressionsStop : Type 0
ExpressionsStop = (limit : ℕ) (c : Code) (l n : ℕ) (ps : List PlacedToken) (t : Tree) (r : State Input) → 1 ≤ l → l ≤ 2 → Named ps → InOrder n ps
    → expression_part list_stream l limit c (at_list n ps []) ≡ Ok (t, r) → Stopped l c t r.source

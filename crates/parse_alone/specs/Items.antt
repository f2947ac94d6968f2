-- What is read of a statement or an item that stands alone, within the limit, as of other parts (`Ends`).
use Rattle.std.specs.Prelude.{ℕ, true, if◌then◌else◌}
use Rattle.tree_spec.specs.Tree.{Tree}
use Rattle.grammar_spec.specs.Tokens.Input.{Code, alone, in_list}
use Rattle.grammar_spec.specs.Tokens.Shape.{is_statement}
use Rattle.grammar_spec.specs.Reader.Source.{unexpected, ◌>>=◌, Stream, Read, operand}
use Rattle.grammar_spec.specs.Reader.Modules.{item_by}
use Rattle.grammar_spec.specs.Reader.Reading.{readers}
use Rattle.parse_alone.specs.Within.{settled}

module _ {S : Type 0} (m : Stream S) where
  -- Statement (clause 14), StatementListItem (14.2), ModuleItem (16.2)
  unfoldable pub statement_part : ℕ → Code → Read S Tree
  statement_part limit c s = (readers m limit).stmt (alone c) s >>= λ x. if is_statement x.0 then settled m limit x else unexpected m x.1

  unfoldable pub list_item_part : ℕ → Code → Read S Tree
  list_item_part limit c s = (readers m limit).stmt (in_list c) s >>= settled m limit

  unfoldable pub module_item_part : ℕ → Code → Read S Tree
  module_item_part limit c s = item_by m (readers m limit) true (in_list c) (operand m s) >>= settled m limit

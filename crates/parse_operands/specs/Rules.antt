-- What rules and the parsers of nested parts answer.
use Rattle.std.specs.Prelude.{Result}
use Rattle.std.specs.Global.{Box}
use Rattle.tree_nodes.specs.Placed.{inner}
use Rattle.tree_nodes.specs.Tree.{Tree}
use Rattle.tree_nodes.specs.View.{view_block_stmt, view_class}
use Rattle.tree_nodes.specs.declared.functions.ClassOf.{ClassOf}
use Rattle.tree_nodes.specs.declared.knot.Child.{Child}
use Rattle.tree_nodes.specs.declared.knot.Part.{Part}
use Rattle.tree_nodes.specs.declared.statements.BlockStmtOf.{BlockStmtOf}
use Rattle.grammar_spec.specs.Reader.Source.{Inner, Read, State, Stream}
use Rattle.parse_state.specs.Machine.{Machine, Source}
use Rattle.parse_state.specs.Cursors.{Cursor}
use Rattle.parse_state.specs.Reads.{ReadsAs, ReadsOver}
use Rattle.parse_state.specs.declared.failure.Failure.{Failure}
use Rattle.parse_state.specs.declared.parser.Parser.{Parser}
use Rattle.parse_operands.specs.Operands.{tree_of, tree_in}
use Rattle.parse_operands.specs.declared.operand.Operand.{Operand}

-- Of a parser, with what reads nested parts.
module _ {I S : Type 0} (machine : Machine S) (state : I → Source S) (nested : (X : Type 0) → Machine X → Inner (Cursor X)) where
  -- What was answered, seen by `view`, is what this rule of the grammar reads from where the parser stood, and behind that it stands.
  abbrev pub ReadsBy : {X A : Type 0} → Parser I → Parser I → Result X Failure → (X → A) → (Stream (Cursor S) → Inner (Cursor S) → Read (Cursor S) A) → Type 0
  ReadsBy old new result view rule = ReadsAs machine state old new result view (λ m. rule m (nested S machine))

-- The five nested parts, of anything that stands in front of tokens: the tree of what was answered is what is read.
module _ {P S : Type 0} (m : Stream S) (stood : P → State S) (old new : P) where
  -- an expression
  abbrev pub ReadsExpr : Result Operand Failure → Read S Tree → Type 0
  ReadsExpr result read = ReadsOver m stood old new result tree_of read

  -- a binding
  abbrev pub ReadsPat : {K : Type 0} → Result (Child Part K) Failure → Read S Tree → Type 0
  ReadsPat result read = ReadsOver m stood old new result tree_in read

  -- a statement
  abbrev pub ReadsStmt : {K : Type 0} → Result (Child Part K) Failure → Read S Tree → Type 0
  ReadsStmt result read = ReadsOver m stood old new result tree_in read

  -- a function's body
  abbrev pub ReadsBody : Result (BlockStmtOf Part) Failure → Read S Tree → Type 0
  ReadsBody result read = ReadsOver m stood old new result (λ x. view_block_stmt inner x) read

  -- what follows a class's name
  abbrev pub ReadsClassTail : Result (Box (ClassOf Part)) Failure → Read S Tree → Type 0
  ReadsClassTail result read = ReadsOver m stood old new result (λ x. view_class inner x.value) read

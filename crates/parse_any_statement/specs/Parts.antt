-- Parts of the rules of statements, so that each is proved alone.
use Rattle.std.specs.Prelude.{true, false, ◌&&◌, if◌then◌else◌}
use Rattle.base_token.specs.Kinds.{break_kind, class_kind, continue_kind, debugger_kind, function_kind, throw_kind, with_kind}
use Rattle.tree_spec.specs.Tree.{Tree, break_stmt, continue_stmt}
use Rattle.grammar_spec.specs.Tokens.Input.{Code}
use Rattle.grammar_spec.specs.Reader.Source.{Stream, Inner, Read, unexpected, at, past, here}
use Rattle.grammar_spec.specs.Reader.Statements as reads

module _ {S : Type 0} (m : Stream S) (inner : Inner S) where
  -- what declares variables (14.3), or an expression (14.5)
  abbrev pub variable_stmt : Code → Read S Tree
  variable_stmt c s =
      if reads.starts_variables m inner c s then reads.variables_by m inner c s
      else (if c.listed && reads.starts_using m inner c s then reads.using_by m inner c (here m s) false s
      else (if c.listed && reads.starts_await_using m inner c s then reads.using_by m inner c (here m s) true (past m s)
      else reads.expression_by m inner c s))

  -- a function, a class, or what no word starts alone (clause 14)
  abbrev pub declared_stmt : Code → Read S Tree
  declared_stmt c s =
      if at m function_kind s then reads.function_decl_by m inner c (here m s) false s
      else (if at m class_kind s then (if c.listed then reads.class_decl_by m inner c s else unexpected m s)
      else (if reads.starts_async m inner s then (if c.listed then reads.function_decl_by m inner c (here m s) true (past m s) else unexpected m s)
      else variable_stmt c s))

  -- a statement that leaves a place, or one of the others (clause 14)
  abbrev pub jump_stmt : Code → Read S Tree
  jump_stmt c s =
      if at m throw_kind s then reads.throw_by m inner c s
      else (if at m break_kind s then reads.jump_by m inner break_kind break_stmt c s
      else (if at m continue_kind s then reads.jump_by m inner continue_kind continue_stmt c s
      else (if at m with_kind s then reads.with_by m inner c s
      else (if at m debugger_kind s then reads.debugger_by m inner c s
      else declared_stmt c s))))

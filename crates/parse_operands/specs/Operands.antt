-- What contracts see of what a rule made.
use Rattle.std.specs.Prelude.{Bool, true, false, if◌then◌else◌}
use Rattle.base_token.specs.declared.place.Span.{Span}
use Rattle.tree_nodes.specs.Tree.{Tree, Trees, opt_chain_expr, opt_call, call_expr, seq_expr}
use Rattle.grammar_spec.specs.Tokens.Shape.{is_chain}
use Rattle.tree_nodes.specs.Placed.{inner}
use Rattle.tree_nodes.specs.declared.knot.Child.{Child}
use Rattle.tree_nodes.specs.declared.knot.Part.{Part}
use Rattle.parse_operands.specs.declared.operand.Operand.{Operand}

abbrev pub tree_of : Operand → Tree
tree_of o = inner o.expr.part.value

-- the tree of a child in its box
abbrev pub tree_in : {K : Type 0} → Child Part K → Tree
tree_in x = inner x.part.value

-- a member, by whether it goes on a chain (13.3)
abbrev pub on_chain : Bool → Span → Tree → Tree
on_chain chain s t = if chain then opt_chain_expr s false t else t

-- a call, by whether its callee is a chain
abbrev pub call_tree : Span → Tree → Trees → Tree
call_tree s t xs = if is_chain t then opt_chain_expr s false (opt_call s t xs) else call_expr s t xs

abbrev pub is_seq : Tree → Bool
is_seq (seq_expr s xs) = true
is_seq _ = false

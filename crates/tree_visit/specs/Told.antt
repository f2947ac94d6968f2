-- What a visitor is told where it is handed a node.
use Rattle.std.specs.Prelude.{[], Option, Some}
use Rattle.tree_nodes.specs.View.{view_ident, view_ident_name, view_private_name, view_str, view_number, view_big_int, view_tpl_element, view_binding_ident}
use Rattle.tree_visit.specs.Seen.{Seen, seen, seen_of}
use Rattle.tree_visit.specs.declared.watch.Node.{Node}

abbrev pub seen_in : Node → Option Seen
seen_in (Node.Program t) = seen_of t.now
seen_in (Node.Stmt t) = seen_of t.now
seen_in (Node.Expr t) = seen_of t.now
seen_in (Node.Pat t) = seen_of t.now
seen_in (Node.Ident x) = seen_of (view_ident x.now)
seen_in (Node.IdentName x) = seen_of (view_ident_name x.now)
seen_in (Node.PrivateName x) = seen_of (view_private_name x.now)
seen_in (Node.Str x) = seen_of (view_str x.now)
seen_in (Node.Number x) = seen_of (view_number x.now)
seen_in (Node.BigInt x) = seen_of (view_big_int x.now)
seen_in (Node.TplElement x) = seen_of (view_tpl_element x.now)
seen_in (Node.BindingIdent x) = seen_of (view_binding_ident x.now)
seen_in (Node.Part kind span) = Some (seen kind span [])

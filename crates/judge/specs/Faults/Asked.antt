-- What is asked of a tree, or of a statement, a member or a property, on the way to its faults.
use Rattle.std.specs.Prelude.{Bool, true, false, if◌then◌else◌, List, [], Option, Some, None}
use Rattle.base_token.specs.declared.error.Error.{Error}
use Rattle.base_token.specs.declared.error.SyntaxError.{SyntaxError}
use Rattle.base_token.specs.declared.place.Span.{Span}
use Rattle.tree_spec.specs.Tree.{Tree, absent, super, param, block_stmt, using_decl, constructor, paren_expr}
use Rattle.tree_spec.specs.Places.{place_of}
use Rattle.grammar_spec.specs.Tokens.Shape.{is_use_strict}
use Rattle.grammar_spec.specs.Judge.Early.{Scope, fault, is_proto, name_in, own_use_strict, span_of_prop}

-- a fault at a place, if there is one, where the test holds
abbrev pub found : Bool → Option Span → SyntaxError → List Error
found b None kind = []
found b (Some s) kind = fault b kind s

-- what is not one of those that no expression, statement or pattern is
abbrev pub is_child : Tree → Bool
is_child absent = false
is_child (super s) = false
is_child (param s ds p) = false
is_child _ = true

abbrev pub is_super : Tree → Bool
is_super (super s) = true
is_super _ = false

-- the place of a `using` declaration
abbrev pub using_of : Tree → Option Span
using_of (using_decl s w ds) = Some s
using_of _ = None

-- the first `'use strict'` among the directives of a block
abbrev pub own_of : Tree → Option Span
own_of (block_stmt s ss) = own_use_strict ss
own_of _ = None

-- the place of a statement that is `'use strict'`
abbrev pub use_strict_of : Tree → Option Span
use_strict_of t = if is_use_strict t then Some (place_of t) else None

-- the place of a constructor
abbrev pub constructor_of : Tree → Option Span
constructor_of (constructor s k ps b) = Some s
constructor_of _ = None

-- the code in a member of a class that is derived or not: where `super()` may stand is asked for by a constructor
abbrev pub in_member : Bool → Tree → Scope → Scope
in_member derived (constructor s k ps b) x = record x { calls = derived }
in_member derived t x = x

-- the place of a property `__proto__: v`
abbrev pub proto_of : Tree → Option Span
proto_of t = if is_proto t then span_of_prop t else None

-- the name that the parentheses of a target hold
abbrev pub target_name : Tree → Option Tree
target_name (paren_expr s e) = name_in e
target_name _ = None

-- the directives of a body up to one that is `'use strict'`
abbrev pub own_by : Option Span → Bool → Option Span → Option Span
own_by (Some s) b behind = Some s
own_by None true behind = behind
own_by None false behind = None

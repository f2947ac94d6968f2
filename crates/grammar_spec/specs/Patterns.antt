-- Patterns (ECMA-262, 13.15.5 and 14.3.3): they bind names or assign to targets, by the code; no expression stands in between.
use Rattle.std.specs.Prelude.{◌≡◌, true, false, ◌&&◌, List}
use Rattle.tree_spec.specs.Span.{Span}
use Rattle.tree_spec.specs.Kinds.{dot_dot_dot_kind, left_bracket_kind, right_bracket_kind, left_brace_kind, right_brace_kind, colon_kind, assign_kind}
use Rattle.grammar_spec.specs.Tokens.Input.{Input, Code, Takes, Spans, lo, dots_at, with_in, assigning}
use Rattle.grammar_spec.specs.Tokens.Operators.{assignment_level}
use Rattle.grammar_spec.specs.Tokens.Shape.{is_absent, is_key, is_simple, is_target_expr, is_bound_name, is_place, is_item_pat, is_pattern_prop, is_rest, takes_rest}
use Rattle.grammar_spec.specs.Children.{Child, By, Expr, Sorted, Listed}

-- DestructuringAssignmentTarget (13.15.5): an expression that is a simple target, and no bare name
abbrev pub Target : Code → Child → Input → Input → Type 0
Target c e ts r = ((is_target_expr e.tree && is_simple e.tree) ≡ true) × e.produced c ts r

-- an item in its place
abbrev pub Item : Code → Child → Input → Input → Type 0
Item c p ts r = (is_item_pat c.binds p.tree ≡ true) × p.produced (with_in c) ts r

-- ArrayBindingPattern, ArrayAssignmentPattern: each comma takes one item
abbrev pub ArrayPattern : Code → Span → List Child → Input → Input → Type 0
ArrayPattern c s xs ts r = (m : Input) × Takes c left_bracket_kind ts m × Listed true (Item c) c right_bracket_kind xs m r × Spans s ts r

-- ObjectBindingPattern, ObjectAssignmentPattern
abbrev pub Property : Code → Child → Input → Input → Type 0
Property c p ts r = (is_pattern_prop p.tree ≡ true) × (takes_rest p.tree ≡ true) × p.produced (with_in c) ts r

abbrev pub ObjectPattern : Code → Span → List Child → Input → Input → Type 0
ObjectPattern c s ps ts r = (m : Input) × Takes c left_brace_kind ts m × Listed false (Property c) c right_brace_kind ps m r × Spans s ts r

-- BindingElement, AssignmentElement: with an Initializer
abbrev pub Initialised : Code → Span → Child → Child → Input → Input → Type 0
Initialised c s p e ts r = (m : Input) × (n : Input) × (is_place c.binds p.tree ≡ true) × p.produced c ts m × Takes c assign_kind m n × Expr assignment_level (with_in c) e n r × Spans s ts r

-- BindingRestElement, AssignmentRestElement
abbrev pub Rest : Code → Span → Span → Child → Input → Input → Type 0
Rest c s dots p ts r = (m : Input) × Takes c dot_dot_dot_kind ts m × (dots ≡ dots_at (lo ts)) × (is_place c.binds p.tree ≡ true) × p.produced c m r × Spans s ts r

-- BindingProperty, AssignmentProperty: a key and an item, which is no rest
abbrev pub KeyedItem : Code → Span → Child → Child → Input → Input → Type 0
KeyedItem c s k p ts r = (m : Input) × (n : Input) × Sorted is_key (assigning c) k ts m × Takes c colon_kind m n × Item c p n r × (is_rest p.tree ≡ false) × Spans s ts r

-- a name as its own key, with an initialiser or without
abbrev pub NamedItem : Code → Span → Child → Child → Input → Input → Type 0
NamedItem c s name e ts r = (m : Input) × Sorted is_bound_name c name ts m
    × By (is_absent e.tree) (m ≡ r) ((n : Input) × Takes c assign_kind m n × Expr assignment_level (with_in c) e n r) × Spans s ts r

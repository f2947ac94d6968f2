-- Functions and classes (ECMA-262, clause 15), and the methods of objects (13.2.5, 15.4).
use Rattle.std.specs.Prelude.{◌≡◌, ◌⊎◌, ℕ, Bool, true, false, not, ◌&&◌, ◌==◌, List, [], ◌∷◌, Option, Some, None}
use Rattle.tree_spec.specs.Span.{Span}
use Rattle.tree_spec.specs.Kinds.{arrow_kind, left_paren_kind, right_paren_kind, left_brace_kind, right_brace_kind, mul_kind, assign_kind, function_kind, class_kind, extends_kind, accessor_kind, async_kind, get_kind, set_kind, static_kind}
use Rattle.tree_spec.specs.Tree.{Tree, plain_method}
use Rattle.grammar_spec.specs.Tokens.Input.{Input, Code, Takes, TakesWord, Spans, kind, brk, with_in, by, binding, setting, turned_strict, in_body, in_arrow, in_field, in_static, in_list}
use Rattle.grammar_spec.specs.Tokens.Operators.{assignment_level, new_level, key_end}
use Rattle.grammar_spec.specs.Tokens.Shape.{ends, is_absent, is_bound_name, is_item_pat, is_param, is_rest, is_key, is_any_key, is_item, is_member, constructs, field_end, FunctionParts}
use Rattle.grammar_spec.specs.Children.{is_ident, Child, By, IsEmpty, Expr, Sorted, Maybe, Listed, Items, Ends}

-- ---- 15.1, 15.2 parameters and bodies

-- FormalParameter: a pattern that binds, with an initialiser or without, or a rest
abbrev pub Parameter : Code → Span → List Child → Child → Input → Input → Type 0
Parameter c s decorators p ts r = IsEmpty decorators × (is_item_pat true p.tree ≡ true) × p.produced (binding (with_in c)) ts r × Spans s ts r

-- FormalParameters
abbrev pub Parameters : Code → List Child → Input → Input → Type 0
Parameters c ps ts r = (m : Input) × Takes c left_paren_kind ts m × Listed false (Sorted is_param c) c right_paren_kind ps m r

-- PropertySetParameterList (15.4): one parameter, and no comma
abbrev pub SetParameter : Code → List Child → Input → Input → Type 0
SetParameter c [] ts r = ⊥
SetParameter c (p ∷ ps) ts r = (m : Input) × (n : Input) × IsEmpty ps × (is_rest p.tree ≡ false) × Takes c left_paren_kind ts m × Sorted is_param c p m n × Takes c right_paren_kind n r

-- FunctionBody in its braces, whose directives may turn it strict
abbrev pub Closes : Code → Input → Input → Type 0
Closes c ts r = Takes c right_brace_kind ts r

abbrev pub Body : Code → Span → List Child → Input → Input → Type 0
Body c s ss ts r = (m : Input) × Takes c left_brace_kind ts m × Items is_item Closes c true ss m r × Spans s ts r

-- Parameters and body of a function, a generator, an async function or an async generator; its place is that of the whole.
abbrev pub Function : Code → List Child → List Child → Span → List Child → Bool → Bool → Input → Input → Type 0
Function c ps decorators s ss generator async ts r = (m : Input) × IsEmpty decorators × By c.sets (SetParameter (in_body generator async c) ps ts m) (Parameters (in_body generator async c) ps ts m) × Body (in_body generator async c) s ss m r

-- the star of a generator
abbrev pub Star : Bool → Code → Input → Input → Type 0
Star true c ts r = Takes c mul_kind ts r
Star false c ts r = ts ≡ r

-- `async`, with no line break after it
abbrev pub Async : Bool → Code → Input → Input → Type 0
Async true c ts r = TakesWord c async_kind ts r × (brk r ≡ false)
Async false c ts r = ts ≡ r

-- `async` `function` `*`
abbrev pub FunctionHead : Bool → Bool → Code → Input → Input → Type 0
FunctionHead generator async c ts r = (m : Input) × (n : Input) × Async async c ts m × TakesWord c function_kind m n × Star generator c n r

-- FunctionDeclaration and its kin (15.2, 15.5, 15.6, 15.8): the name is judged in the code around it, its strictness too
abbrev pub FunctionDeclaration : Code → Span → Child → Child → Option FunctionParts → Input → Input → Type 0
FunctionDeclaration c s name f None ts r = ⊥
FunctionDeclaration c s name f (Some parts) ts r = (m : Input) × (n : Input) × FunctionHead parts.generator parts.async c ts m × Sorted is_ident c name m n × f.produced (setting false c) n r × (parts.span ≡ s) × Spans s ts r

-- FunctionExpression and its kin: the name, where it has one, stands under its own [Yield] and [Await]
abbrev pub Named : Code → Child → Input → Input → Type 0
Named c name ts r = Sorted is_ident c name ts r

abbrev pub FunctionExpression : Code → Span → Child → Child → Option FunctionParts → Input → Input → Type 0
FunctionExpression c s name f None ts r = ⊥
FunctionExpression c s name f (Some parts) ts r = (m : Input) × (n : Input) × FunctionHead parts.generator parts.async c ts m × Maybe Named (by parts.generator parts.async c) name m n
    × f.produced (setting false c) n r × (parts.span ≡ s) × Spans s ts r

-- ---- 15.3, 15.9 arrows

-- ArrowParameters: one bare name, or patterns in parentheses, in the code around the arrow. That `await` is no name among those of an async one
-- is an early error (15.9.1).
abbrev pub ArrowPattern : Code → Child → Input → Input → Type 0
ArrowPattern c p ts r = (is_item_pat true p.tree ≡ true) × p.produced (binding (with_in c)) ts r

abbrev pub BareName : Code → List Child → Input → Input → Type 0
BareName c [] ts r = ⊥
BareName c (p ∷ ps) ts r = IsEmpty ps × Sorted is_bound_name c p ts r

abbrev pub ArrowParameters : Code → List Child → Input → Input → Type 0
ArrowParameters c ps ts r = BareName c ps ts r ⊎ ((m : Input) × Takes c left_paren_kind ts m × Listed false (ArrowPattern c) c right_paren_kind ps m r)

abbrev pub ArrowHead : Bool → Code → List Child → Input → Input → Type 0
ArrowHead async c ps ts r = (m : Input) × (n : Input) × Async async c ts m × ArrowParameters c ps m n × (brk n ≡ false) × Takes c arrow_kind n r

-- ArrowFunction, AsyncArrowFunction: with a body in braces, or an expression that doesn't start with one
abbrev pub ArrowBlock : Code → Span → List Child → Span → List Child → Bool → Input → Input → Type 0
ArrowBlock c s ps body ss async ts r = (m : Input) × ArrowHead async c ps ts m × Body (in_list (with_in (in_arrow async c))) body ss m r × Spans s ts r

abbrev pub ArrowExpression : Code → Span → List Child → Child → Bool → Input → Input → Type 0
ArrowExpression c s ps e async ts r = (m : Input) × ArrowHead async c ps ts m × (kind m ≡ left_brace_kind → ⊥) × Expr assignment_level (in_arrow async c) e m r × Spans s ts r

-- ---- 15.4 methods

-- what stands before the key of a method that is no getter and no setter
abbrev pub MethodHead : Bool → Bool → Code → Input → Input → Type 0
MethodHead generator async c ts r = (m : Input) × Async async c ts m × Star generator c m r

-- MethodDefinition, by its kind: a getter has no parameter, a setter one and no rest
abbrev pub Method : Code → ℕ → Child → FunctionParts → Child → Input → Input → Type 0
Method c k key parts f ts r = By (k == plain_method)
    ((m : Input) × (n : Input) × MethodHead parts.generator parts.async c ts m × key.produced c m n × f.produced (setting false c) n r)
    ((m : Input) × (n : Input) × (((k ≡ get_kind) × (parts.count ≡ 0)) ⊎ (k ≡ set_kind)) × (parts.generator ≡ false) × (parts.async ≡ false)
    × TakesWord c k ts m × key.produced c m n × f.produced (setting (k == set_kind) c) n r)

-- a method of an object
abbrev pub ObjectMethod : Code → Span → Child → Child → Option FunctionParts → Input → Input → Type 0
ObjectMethod c s key f None ts r = ⊥
ObjectMethod c s key f (Some parts) ts r = (is_key key.tree ≡ true) × Method c plain_method key parts f ts r × (parts.span ≡ s) × Spans s ts r

-- a getter, and a setter with the one pattern that it takes, which is no rest
abbrev pub Getter : Code → Span → Child → Span → List Child → Input → Input → Type 0
Getter c s key body ss ts r = (m : Input) × (n : Input) × (o : Input) × (p : Input) × TakesWord c get_kind ts m × Sorted is_key c key m n
    × Takes (in_body false false c) left_paren_kind n o × Takes (in_body false false c) right_paren_kind o p × Body (in_body false false c) body ss p r × Spans s ts r

abbrev pub Setter : Code → Span → Child → Child → Span → List Child → Input → Input → Type 0
Setter c s key pat body ss ts r = (m : Input) × (n : Input) × (o : Input) × (p : Input) × (q : Input) × TakesWord c set_kind ts m × Sorted is_key c key m n
    × Takes (in_body false false c) left_paren_kind n o × (is_item_pat true pat.tree ≡ true) × (is_rest pat.tree ≡ false) × pat.produced (binding (in_body false false c)) o p
    × Takes (in_body false false c) right_paren_kind p q × Body (in_body false false c) body ss q r × Spans s ts r

-- ---- 15.7 classes: every part is strict code

-- ClassHeritage: what a class extends
abbrev pub Heritage : Code → Child → Input → Input → Type 0
Heritage c super_class ts r = (m : Input) × TakesWord c extends_kind ts m × Expr new_level c super_class m r

-- ClassBody
abbrev pub Members : Code → List Child → Input → Input → Type 0
Members c [] ts r = Takes c right_brace_kind ts r
Members c (x ∷ xs) ts r = (m : Input) × Sorted is_member c x ts m × Members c xs m r

-- ClassTail; its place is that of the whole class
abbrev pub ClassTail : Code → List Child → List Child → Child → Input → Input → Type 0
ClassTail c decorators members super_class ts r = (m : Input) × (n : Input) × IsEmpty decorators × Maybe Heritage c super_class ts m × Takes c left_brace_kind m n × Members c members n r

-- ClassDeclaration, ClassExpression
abbrev pub ClassDeclaration : Code → Span → Child → Child → Option Span → Input → Input → Type 0
ClassDeclaration c s name k own ts r = (m : Input) × (n : Input) × TakesWord c class_kind ts m × Sorted is_ident (turned_strict c) name m n × k.produced (turned_strict (with_in c)) n r × (own ≡ Some s) × Spans s ts r

abbrev pub ClassExpression : Code → Span → Child → Child → Option Span → Input → Input → Type 0
ClassExpression c s name k own ts r = (m : Input) × (n : Input) × TakesWord c class_kind ts m × Maybe Named (turned_strict c) name m n × k.produced (turned_strict (with_in c)) n r × (own ≡ Some s) × Spans s ts r

-- `static`
abbrev pub Static : Bool → Code → Input → Input → Type 0
Static true c ts r = TakesWord c static_kind ts r
Static false c ts r = ts ≡ r

-- the constructor (15.7.1)
abbrev pub Constructor : Code → Span → Child → List Child → Span → List Child → Input → Input → Type 0
Constructor c s key ps body ss ts r = (m : Input) × (n : Input) × (constructs key.tree ≡ true) × key.produced c ts m
    × Parameters (in_body false false c) ps m n × Body (in_body false false c) body ss n r × Spans s ts r

-- a method; one that isn't static and would be the constructor is it
abbrev pub ClassMethod : (Tree → Bool) → Code → Span → Child → Child → Option FunctionParts → ℕ → Bool → Input → Input → Type 0
ClassMethod may c s key f None k is_static ts r = ⊥
ClassMethod may c s key f (Some parts) k is_static ts r = (m : Input) × (may key.tree ≡ true)
    × ((constructs key.tree && (not is_static && ((k == plain_method) && (not parts.generator && not parts.async)))) ≡ false)
    × Static is_static c ts m × Method c k key parts f m r × (parts.span ≡ s) × Spans s ts r

-- FieldDefinition, with an initialiser or without
abbrev pub Initial : Code → ℕ → Child → Input → Input → Type 0
Initial c e value ts r = By (is_absent value.tree) (Ends c e ts r)
    ((m : Input) × (n : Input) × Takes c assign_kind ts m × Expr assignment_level (in_field c) value m n × Ends c (ends value.tree) n r)

abbrev pub Field : (Tree → Bool) → Code → Span → Child → Child → Bool → List Child → Input → Input → Type 0
Field may c s key value is_static decorators ts r = (m : Input) × (n : Input) × IsEmpty decorators × (may key.tree ≡ true) × Static is_static c ts m × key.produced c m n
    × Initial c (field_end is_static (kind m)) value n r × Spans s ts r

-- an auto accessor: `accessor` and its key, any key, stand on one line (own, where its flag is on)
abbrev pub AutoAccessor : Code → Span → Child → Child → Bool → List Child → Input → Input → Type 0
AutoAccessor c s key value is_static decorators ts r = (m : Input) × (n : Input) × (o : Input) × (c.syntax.auto_accessors ≡ true) × IsEmpty decorators × Static is_static c ts m
    × TakesWord c accessor_kind m n × (brk n ≡ false) × Sorted is_any_key c key n o × Initial c key_end value o r × Spans s ts r

-- ClassStaticBlock
abbrev pub StaticBlock : Code → Span → Span → List Child → Input → Input → Type 0
StaticBlock c s block ss ts r = (m : Input) × (n : Input) × TakesWord c static_kind ts m × Takes (in_static c) left_brace_kind m n
    × Items is_item Closes (in_static c) false ss n r × Spans block m r × Spans s ts r

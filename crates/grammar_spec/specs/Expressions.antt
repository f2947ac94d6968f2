-- Expressions (ECMA-262, clause 13): what each node produces, over what its children produce. Each production is named as there.
use Rattle.std.specs.Prelude.{◌≡◌, ◌≤◌, ◌<◌, ◌⊎◌, ℕ, Bool, true, false, not, ◌&&◌, ◌||◌, ◌==◌, List, [], ◌∷◌, Option, Some, None}
use Rattle.tree_spec.specs.Numbers.{SpecNumber}
use Rattle.tree_spec.specs.Span.{Span}
use Rattle.tree_spec.specs.Kinds.{hash_kind, dot_kind, dot_dot_dot_kind, bang_kind, left_paren_kind, right_paren_kind, left_bracket_kind, right_bracket_kind, left_brace_kind, right_brace_kind, back_quote_kind, template_kind, colon_kind, dollar_brace_kind, question_mark_kind, plus_plus_kind, minus_minus_kind, tilde_kind, str_kind, regex_kind, num_kind, big_int_kind, add_kind, sub_kind, mul_kind, assign_kind, await_kind, new_kind, super_kind, import_kind, yield_kind, typeof_kind, void_kind, delete_kind, meta_kind, target_kind}
use Rattle.tree_spec.specs.Tokens.{Quoted, Piece, Pattern, Numeral, BigNumeral}
use Rattle.grammar_spec.specs.Tokens.Input.{Input, Code, Takes, TakesWord, TakesAnyWord, TakesName, TakesIn, Spans, first_span, brk, lo, content, with_in, assigning, template_goal, template_end_goal}
use Rattle.grammar_spec.specs.Tokens.Operators.{expression_level, assignment_level, coalesce_level, unary_level, new_level, call_level, member_level, is_assign_op, right_level, operates, goes_expr, other_end}
use Rattle.grammar_spec.specs.Tokens.Shape.{level, fits_left, is_chain, is_target, is_element, is_spread, is_prop, is_key, is_word_name, is_private, is_cooked, is_tail}
use Rattle.grammar_spec.specs.Children.{is_ident, is_quasi, Child, By, IsEmpty, Expr, Sorted, Listed, CommaThen}

-- ---- 13.2 primary expressions

-- ThisExpression, `null`, `true`, `false`: a word of the grammar
abbrev pub Keyword : ℕ → Code → Span → Input → Input → Type 0
Keyword k c s ts r = TakesWord c k ts r × Spans s ts r

-- IdentifierReference (13.1)
abbrev pub Identifier : Code → Span → List ℕ → Input → Input → Type 0
Identifier c s name ts r = TakesName c name ts r × Spans s ts r

-- IdentifierName (12.7), as a key or after a dot
abbrev pub IdentifierName : Code → Span → List ℕ → Input → Input → Type 0
IdentifierName c s name ts r = TakesAnyWord c name ts r × Spans s ts r

-- PrivateIdentifier (12.7): nothing stands between `#` and the name
abbrev pub PrivateIdentifier : Code → Span → List ℕ → Input → Input → Type 0
PrivateIdentifier c s name ts r = (m : Input) × Takes c hash_kind ts m × (lo m ≡ m.last) × TakesAnyWord c name m r × Spans s ts r

-- StringLiteral, NumericLiteral, RegularExpressionLiteral (12.9)
abbrev pub StringLiteral : Code → Span → List ℕ → Option (List ℕ) → Input → Input → Type 0
StringLiteral c s units raw ts r = (own : List ℕ) × (raw ≡ Some own) × (content ts ≡ Quoted units own) × Takes c str_kind ts r × Spans s ts r

abbrev pub NumericLiteral : Code → Span → SpecNumber → Option (List ℕ) → Input → Input → Type 0
NumericLiteral c s value raw ts r = (own : List ℕ) × (raw ≡ Some own) × (content ts ≡ Numeral value own) × Takes c num_kind ts r × Spans s ts r

abbrev pub BigIntLiteral : Code → Span → ℕ → List ℕ → Option (List ℕ) → Input → Input → Type 0
BigIntLiteral c s radix digits raw ts r = (own : List ℕ) × (raw ≡ Some own) × (content ts ≡ BigNumeral radix digits own) × Takes c big_int_kind ts r × Spans s ts r

abbrev pub RegularExpressionLiteral : Code → Span → List ℕ → List ℕ → Input → Input → Type 0
RegularExpressionLiteral c s body flags ts r = (content ts ≡ Pattern body flags) × Takes c regex_kind ts r × Spans s ts r

-- an element of ArrayLiteral, or an argument: an AssignmentExpression, after dots where it is spread
abbrev pub Element : Code → Span → Option Span → Child → Input → Input → Type 0
Element c s None e ts r = Expr assignment_level (with_in c) e ts r × Spans s ts r
Element c s (Some dots) e ts r = (m : Input) × Takes c dot_dot_dot_kind ts m × (dots ≡ first_span ts) × Expr assignment_level (with_in c) e m r × Spans s ts r

-- ArrayLiteral: each comma takes one item, and the last item may lack its comma
abbrev pub ArrayLiteral : Code → Span → List Child → Input → Input → Type 0
ArrayLiteral c s xs ts r = (m : Input) × Takes c left_bracket_kind ts m × Listed true (Sorted is_element c) c right_bracket_kind xs m r × Spans s ts r

-- ObjectLiteral
abbrev pub ObjectLiteral : Code → Span → List Child → Input → Input → Type 0
ObjectLiteral c s ps ts r = (m : Input) × Takes c left_brace_kind ts m × Listed false (Sorted is_prop c) c right_brace_kind ps m r × Spans s ts r

-- PropertyDefinition: a key and a value
abbrev pub PropertyValue : Code → Span → Child → Child → Input → Input → Type 0
PropertyValue c s k v ts r = (m : Input) × (n : Input) × Sorted is_key c k ts m × Takes c colon_kind m n × Expr assignment_level (with_in c) v n r × Spans s ts r

-- CoverInitializedName: a name as its own key with an initialiser, which stands in no finished tree (13.2.5.1)
abbrev pub CoverInitializedName : Code → Span → Child → Child → Input → Input → Type 0
CoverInitializedName c s name e ts r = (m : Input) × (n : Input) × Sorted is_ident c name ts m × Takes c assign_kind m n × Expr assignment_level (with_in c) e n r × Spans s ts r

-- `...` AssignmentExpression
abbrev pub Spread : Code → Span → Child → Input → Input → Type 0
Spread c s e ts r = (m : Input) × Takes c dot_dot_dot_kind ts m × Expr assignment_level (with_in c) e m r × Spans s ts r

-- ComputedPropertyName, which holds an AssignmentExpression as a key (13.2.5), and an Expression after an object (13.3.2)
abbrev pub Bracketed : ℕ → Code → Span → Child → Input → Input → Type 0
Bracketed l c s e ts r = (m : Input) × (n : Input) × Takes c left_bracket_kind ts m × Expr l (with_in c) e m n × Takes c right_bracket_kind n r × Spans s ts r

-- TemplateLiteral (13.2.8): characters, and expressions between them. No escape of an untagged one is bad.
abbrev pub Characters : Code → Span → Bool → List ℕ → Option (List ℕ) → Input → Input → Type 0
Characters c s tail raw cooked ts r = (content ts ≡ Piece raw cooked) × TakesIn c template_goal template_kind ts r × Spans s ts r

abbrev pub TemplateSpans : Bool → Code → List Child → List Child → Input → Input → Type 0
TemplateSpans tagged c es [] ts r = ⊥
TemplateSpans tagged c [] (q ∷ qs) ts r = (m : Input) × IsEmpty qs × (is_tail q.tree ≡ true) × ((tagged || is_cooked q.tree) ≡ true) × Sorted is_quasi c q ts m × TakesIn c template_end_goal back_quote_kind m r
TemplateSpans tagged c (e ∷ es) (q ∷ qs) ts r = (m : Input) × (n : Input) × (o : Input) × (p : Input) × (is_tail q.tree ≡ false) × ((tagged || is_cooked q.tree) ≡ true)
    × Sorted is_quasi c q ts m × TakesIn c template_end_goal dollar_brace_kind m n × Expr expression_level (with_in c) e n o × Takes c right_brace_kind o p × TemplateSpans tagged c es qs p r

abbrev pub TemplateLiteral : Bool → Code → Span → List Child → List Child → Input → Input → Type 0
TemplateLiteral tagged c s es qs ts r = (m : Input) × Takes c back_quote_kind ts m × TemplateSpans tagged c es qs m r × Spans s ts r

-- ParenthesizedExpression (13.2.9)
abbrev pub ParenthesizedExpression : Code → Span → Child → Input → Input → Type 0
ParenthesizedExpression c s e ts r = (m : Input) × (n : Input) × Takes c left_paren_kind ts m × Expr expression_level (with_in c) e m n × Takes c right_paren_kind n r × Spans s ts r

-- ---- 13.3 left-hand-side expressions

-- IdentifierName, and for objects other than `super` PrivateIdentifier; after a dot, or after the two tokens of a chain
abbrev pub AccessedName : Bool → Code → Child → Input → Input → Type 0
AccessedName may_private c p ts r = ((is_word_name p.tree || (may_private && is_private p.tree)) ≡ true) × p.produced c ts r

abbrev pub Dotted : Bool → Code → Child → Input → Input → Type 0
Dotted may_private c p ts r = (m : Input) × Takes c dot_kind ts m × AccessedName may_private c p m r

-- MemberExpression, CallExpression: what a member is taken of, and the member; on a chain it is a chain
abbrev pub Member : Code → Span → Child → (Input → Input → Type 0) → Input → Input → Type 0
Member c s o Access ts r = (m : Input) × (is_chain o.tree ≡ false) × Expr call_level c o ts m × Access m r × Spans s ts r

-- SuperProperty
abbrev pub SuperProperty : Code → Span → Span → (Input → Input → Type 0) → Input → Input → Type 0
SuperProperty c s own Access ts r = (m : Input) × TakesWord c super_kind ts m × Spans own ts m × Access m r × Spans s ts r

-- Arguments, after their parenthesis
abbrev pub ArgumentList : Code → List Child → Input → Input → Type 0
ArgumentList c xs ts r = Listed false (Sorted is_element c) c right_paren_kind xs ts r

abbrev pub Arguments : Code → List Child → Input → Input → Type 0
Arguments c xs ts r = (m : Input) × Takes c left_paren_kind ts m × ArgumentList c xs m r

-- CallExpression
abbrev pub Call : Code → Span → Child → List Child → Input → Input → Type 0
Call c s f xs ts r = (m : Input) × (is_chain f.tree ≡ false) × Expr call_level c f ts m × Arguments c xs m r × Spans s ts r

-- SuperCall
abbrev pub SuperCall : Code → Span → Span → List Child → Input → Input → Type 0
SuperCall c s own xs ts r = (m : Input) × TakesWord c super_kind ts m × Spans own ts m × Arguments c xs m r × Spans s ts r

abbrev pub is_at_most_one : List Child → Bool
is_at_most_one [] = true
is_at_most_one (x ∷ []) = true
is_at_most_one (x ∷ (y ∷ ys)) = false

abbrev pub is_plain_element : List Child → Bool
is_plain_element [] = true
is_plain_element (x ∷ xs) = not (is_spread x.tree) && is_plain_element xs

-- ImportCall: one argument, which isn't spread; with import attributes also two, and a last comma
abbrev pub ImportArguments : Code → List Child → Input → Input → Type 0
ImportArguments c [] ts r = ⊥
ImportArguments c (x ∷ xs) ts r = (is_plain_element (x ∷ xs) ≡ true) × By c.syntax.import_attributes ((is_at_most_one xs ≡ true) × ArgumentList c (x ∷ xs) ts r)
    (IsEmpty xs × (m : Input) × Sorted is_element c x ts m × Takes c right_paren_kind m r)

abbrev pub ImportCall : Code → Span → Span → List Child → Input → Input → Type 0
ImportCall c s own xs ts r = (m : Input) × (n : Input) × TakesWord c import_kind ts m × Spans own ts m × Takes c left_paren_kind m n × ImportArguments c xs n r × Spans s ts r

-- `new` MemberExpression Arguments
abbrev pub NewWith : Code → Span → Child → List Child → Input → Input → Type 0
NewWith c s f xs ts r = (m : Input) × (n : Input) × TakesWord c new_kind ts m × Expr member_level c f m n × Arguments c xs n r × Spans s ts r

-- NewExpression: a bare `new`, which no parenthesis, member, template or chain follows
abbrev pub NewBare : Code → Span → Child → Input → Input → Type 0
NewBare c s f ts r = (m : Input) × TakesWord c new_kind ts m × ((level f.tree ≡ new_level) ⊎ (member_level ≤ level f.tree)) × f.produced (assigning c) m r × (goes_expr c other_end r < call_level) × Spans s ts r

-- OptionalExpression: the token `?` and the token `.`, then a name, brackets or arguments; on a chain plain ones go on
abbrev pub Optional : Code → Input → Input → Type 0
Optional c ts r = (m : Input) × Takes c question_mark_kind ts m × Takes c dot_kind m r

abbrev pub ChainMember : Code → Span → Bool → Span → Child → (Input → Input → Type 0) → (Input → Input → Type 0) → Input → Input → Type 0
ChainMember c s true own o Access AccessOptional ts r = (m : Input) × (n : Input) × Expr call_level c o ts m × Optional c m n × AccessOptional n r × Spans s ts r × Spans own ts r
ChainMember c s false own o Access AccessOptional ts r = (m : Input) × (is_chain o.tree ≡ true) × o.produced (assigning c) ts m × Access m r × Spans s ts r × Spans own ts r

abbrev pub ChainCall : Code → Span → Bool → Span → Child → List Child → Input → Input → Type 0
ChainCall c s true own f xs ts r = (m : Input) × (n : Input) × Expr call_level c f ts m × Optional c m n × Arguments c xs n r × Spans s ts r × Spans own ts r
ChainCall c s false own f xs ts r = (m : Input) × (is_chain f.tree ≡ true) × f.produced (assigning c) ts m × Arguments c xs m r × Spans s ts r × Spans own ts r

-- a tagged template, of no chain
abbrev pub TaggedTemplate : Code → Span → Child → Span → List Child → List Child → Input → Input → Type 0
TaggedTemplate c s t own es qs ts r = (m : Input) × (is_chain t.tree ≡ false) × Expr call_level c t ts m × TemplateLiteral true c own es qs m r × Spans s ts r

-- MetaProperty: `new.target`, `import.meta`
abbrev pub MetaProperty : Code → Span → ℕ → Input → Input → Type 0
MetaProperty c s k ts r = (m : Input) × (n : Input) × TakesWord c k ts m × Takes c dot_kind m n × (((k ≡ new_kind) × TakesWord c target_kind n r) ⊎ ((k ≡ import_kind) × TakesWord c meta_kind n r)) × Spans s ts r

-- ---- 13.4 to 13.14 operators

abbrev pub is_update_op : ℕ → Bool
is_update_op k = (k == plus_plus_kind) || (k == minus_minus_kind)

-- UpdateExpression: before its operand, or after it on its line
abbrev pub Update : Code → Span → ℕ → Bool → Child → Input → Input → Type 0
Update c s op true a ts r = (m : Input) × (is_update_op op ≡ true) × Takes c op ts m × Expr unary_level c a m r × Spans s ts r
Update c s op false a ts r = (m : Input) × (is_update_op op ≡ true) × Expr new_level c a ts m × (brk m ≡ false) × Takes c op m r × Spans s ts r

abbrev pub is_unary_op : ℕ → Bool
is_unary_op k = (k == sub_kind) || ((k == add_kind) || ((k == bang_kind) || ((k == tilde_kind) || ((k == typeof_kind) || ((k == void_kind) || (k == delete_kind))))))

-- UnaryExpression
abbrev pub Unary : Code → Span → ℕ → Child → Input → Input → Type 0
Unary c s op a ts r = (m : Input) × (is_unary_op op ≡ true) × TakesWord c op ts m × Expr unary_level c a m r × Spans s ts r

-- AwaitExpression (15.8), where [Await] holds
abbrev pub Await : Code → Span → Child → Input → Input → Type 0
Await c s a ts r = (m : Input) × (c.context.in_async ≡ true) × TakesWord c await_kind ts m × Expr unary_level c a m r × Spans s ts r

-- ExponentiationExpression to CoalesceExpression (13.6 to 13.13), and `#x in`
abbrev pub Binary : Code → Span → ℕ → Child → Child → Input → Input → Type 0
Binary c s op a b ts r = (m : Input) × (n : Input) × (operates c op ≡ true) × (fits_left op a.tree ≡ true) × a.produced (assigning c) ts m × TakesWord c op m n × Expr (right_level op) c b n r × Spans s ts r

-- ConditionalExpression (13.14)
abbrev pub Conditional : Code → Span → Child → Child → Child → Input → Input → Type 0
Conditional c s a b d ts r = (m : Input) × (n : Input) × (o : Input) × (p : Input) × Expr coalesce_level c a ts m × Takes c question_mark_kind m n
    × Expr assignment_level (with_in c) b n o × Takes c colon_kind o p × Expr assignment_level c d p r × Spans s ts r

-- ---- 13.15 assignment, 15.3 and 15.9 arrows, 15.5 `yield`, 13.16 the comma

-- AssignmentExpression: to a target or, with `=`, to an array or object pattern
abbrev pub Assignment : Code → Span → ℕ → Child → Child → Input → Input → Type 0
Assignment c s op a b ts r = (m : Input) × (n : Input) × (is_assign_op op ≡ true) × (is_target op a.tree ≡ true) × a.produced (assigning c) ts m × Takes c op m n × Expr assignment_level c b n r × Spans s ts r

-- Expression
abbrev pub Sequence : Code → Span → List Child → Input → Input → Type 0
Sequence c s [] ts r = ⊥
Sequence c s (x ∷ []) ts r = ⊥
Sequence c s (x ∷ (y ∷ ys)) ts r = (m : Input) × Expr assignment_level c x ts m × CommaThen (Expr assignment_level c) c (y ∷ ys) m r × Spans s ts r

-- YieldExpression, where [Yield] holds; its operand stands on its line
abbrev pub YieldBare : Code → Span → Input → Input → Type 0
YieldBare c s ts r = (c.context.in_generator ≡ true) × TakesWord c yield_kind ts r × Spans s ts r

abbrev pub Yield : Code → Span → Child → Bool → Input → Input → Type 0
Yield c s a false ts r = (m : Input) × (c.context.in_generator ≡ true) × TakesWord c yield_kind ts m × (brk m ≡ false) × Expr assignment_level c a m r × Spans s ts r
Yield c s a true ts r = (m : Input) × (n : Input) × (c.context.in_generator ≡ true) × TakesWord c yield_kind ts m × (brk m ≡ false) × Takes c mul_kind m n × Expr assignment_level c a n r × Spans s ts r

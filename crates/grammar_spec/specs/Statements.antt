-- Statements and declarations (ECMA-262, clause 14).
use Rattle.std.specs.Prelude.{◌≡◌, ◌⊎◌, ℕ, Bool, true, false, not, ◌&&◌, ◌||◌, ◌==◌, if◌then◌else◌, List, [], ◌∷◌}
use Rattle.tree_spec.specs.Span.{Span}
use Rattle.tree_spec.specs.Kinds.{left_paren_kind, right_paren_kind, left_bracket_kind, left_brace_kind, right_brace_kind, semicolon_kind, colon_kind, assign_kind, await_kind, case_kind, catch_kind, debugger_kind, default_kind, do_kind, else_kind, finally_kind, for_kind, function_kind, if_kind, return_kind, switch_kind, throw_kind, try_kind, var_kind, let_kind, const_kind, while_kind, with_kind, class_kind, in_kind, async_kind, of_kind, using_kind}
use Rattle.tree_spec.specs.Tree.{Tree}
use Rattle.grammar_spec.specs.Tokens.Input.{Input, Code, Takes, TakesWord, Spans, kind, kind2, brk, brk2, rest, without_in, alone, binding, assigning, is_strict}
use Rattle.grammar_spec.specs.Tokens.Operators.{expression_level, assignment_level, let_end, plain_end}
use Rattle.grammar_spec.specs.Tokens.Shape.{ends, is_name, is_absent, is_block, is_binding, is_place, is_statement, is_plain_function, is_declarator, is_bare_declarator, is_case, is_default_case, is_catch, is_item}
use Rattle.grammar_spec.specs.Children.{is_ident, Child, By, IsEmpty, Expr, Sorted, Maybe, Commas, Items, Ends}

-- ---- shared forms

-- a Statement as a part of another one
abbrev pub Sub : Code → Child → Input → Input → Type 0
Sub c b ts r = (is_statement b.tree ≡ true) × b.produced (alone c) ts r

-- outside strict code also a plain function, after `if`, `else` or a label (B.3.1, B.3.3)
abbrev pub SubOrFunction : Code → Child → Input → Input → Type 0
SubOrFunction c b ts r = ((is_statement b.tree || (not (is_strict c) && is_plain_function b.tree)) ≡ true) × b.produced (alone c) ts r

-- `(` Expression `)`
abbrev pub InParens : Code → Child → Input → Input → Type 0
InParens c e ts r = (m : Input) × (n : Input) × Takes c left_paren_kind ts m × Expr expression_level c e m n × Takes c right_paren_kind n r

abbrev pub ClosesBlock : Code → Input → Input → Type 0
ClosesBlock c ts r = Takes c right_brace_kind ts r

-- ---- 14.2 blocks, 14.4 the empty statement, 14.16 `debugger`

abbrev pub Block : Code → Span → List Child → Input → Input → Type 0
Block c s ss ts r = (m : Input) × Takes c left_brace_kind ts m × Items is_item ClosesBlock c false ss m r × Spans s ts r

abbrev pub Empty : Code → Span → Input → Input → Type 0
Empty c s ts r = Takes c semicolon_kind ts r × Spans s ts r

abbrev pub Debugger : Code → Span → Input → Input → Type 0
Debugger c s ts r = (m : Input) × TakesWord c debugger_kind ts m × Ends c plain_end m r × Spans s ts r

-- ---- 14.3 variables

-- LexicalBinding, VariableDeclaration: a name or a pattern, with an initialiser or without
abbrev pub Declarator : Code → Span → Child → Child → Input → Input → Type 0
Declarator c s name e ts r = (m : Input) × (is_binding name.tree ≡ true) × name.produced (binding c) ts m
    × By (is_absent e.tree) (m ≡ r) ((n : Input) × Takes c assign_kind m n × Expr assignment_level c e n r) × Spans s ts r

abbrev pub is_var_word : ℕ → Bool
is_var_word k = (k == var_kind) || ((k == let_kind) || (k == const_kind))

-- the word and the bindings, with no semicolon
abbrev pub Bindings : Code → ℕ → List Child → Input → Input → Type 0
Bindings c k ds ts r = (m : Input) × (is_var_word k ≡ true) × TakesWord c k ts m × Commas (Sorted is_declarator c) c ds m r

-- VariableStatement, LexicalDeclaration
abbrev pub Variables : Code → Span → ℕ → ℕ → List Child → Input → Input → Type 0
Variables c s k e ds ts r = (m : Input) × Bindings c k ds ts m × Ends c e m r × Spans s ts r

-- a pattern, which `using` doesn't start with where a name follows: `using [a]` is a member
abbrev pub starts_pattern : ℕ → Bool
starts_pattern k = (k == left_bracket_kind) || (k == left_brace_kind)

-- in a `for` head the first name isn't `of`
abbrev pub starts_using : Bool → Input → Bool
starts_using false ts = not (kind2 ts == of_kind)
starts_using true ts = not (kind2 (rest ts) == of_kind)

-- `using` and `await using`, where their flag is on (own): the words and the first name stand on one line
abbrev pub UsingBindings : Code → Bool → List Child → Input → Input → Type 0
UsingBindings c false ds ts r = (m : Input) × (c.syntax.explicit_resource_management ≡ true) × TakesWord c using_kind ts m × (brk m ≡ false) × (starts_pattern (kind m) ≡ false) × Commas (Sorted is_declarator c) c ds m r
UsingBindings c true ds ts r = (m : Input) × (n : Input) × (c.syntax.explicit_resource_management ≡ true) × (c.context.in_async ≡ true) × TakesWord c await_kind ts m × (brk m ≡ false) × TakesWord c using_kind m n × (brk n ≡ false) × (starts_pattern (kind n) ≡ false) × Commas (Sorted is_declarator c) c ds n r

abbrev pub Using : Code → Span → Bool → ℕ → List Child → Input → Input → Type 0
Using c s awaits e ds ts r = (m : Input) × UsingBindings c awaits ds ts m × Ends c e m r × Spans s ts r

-- ---- 14.5 expression statements

-- ExpressionStatement starts with none of `{`, `function`, `async function`, `class`, `let [`.
abbrev pub starts_expression_statement : Input → Bool
starts_expression_statement ts = not ((kind ts == left_brace_kind) || ((kind ts == function_kind) || ((kind ts == class_kind)
    || (((kind ts == async_kind) && ((kind2 ts == function_kind) && not (brk2 ts))) || ((kind ts == let_kind) && (kind2 ts == left_bracket_kind))))))

-- The class of a statement's expression: the one word `let` where a declaration may stand has its own.
abbrev pub statement_end : Code → Input → Tree → ℕ
statement_end c ts e = if c.listed && ((kind ts == let_kind) && is_name e) then let_end else ends e

abbrev pub ExpressionStatement : Code → Span → Child → Input → Input → Type 0
ExpressionStatement c s e ts r = (m : Input) × (starts_expression_statement ts ≡ true) × Expr expression_level c e ts m × Ends c (statement_end c ts e.tree) m r × Spans s ts r

-- ---- 14.6 `if`: without `else` no `else` follows

abbrev pub If : Code → Span → Child → Child → Child → Input → Input → Type 0
If c s test a b ts r = (m : Input) × (n : Input) × (o : Input) × TakesWord c if_kind ts m × InParens c test m n × SubOrFunction c a n o
    × By (is_absent b.tree) ((kind o ≡ else_kind → ⊥) × (o ≡ r)) ((p : Input) × TakesWord c else_kind o p × SubOrFunction c b p r) × Spans s ts r

-- ---- 14.7 loops

-- DoWhileStatement: after its parenthesis a semicolon is there or is inserted, whatever follows
abbrev pub DoWhile : Code → Span → Child → Child → Input → Input → Type 0
DoWhile c s test body ts r = (m : Input) × (n : Input) × (o : Input) × (p : Input) × TakesWord c do_kind ts m × Sub c body m n × TakesWord c while_kind n o × InParens c test o p
    × (Takes c semicolon_kind p r ⊎ ((kind p ≡ semicolon_kind → ⊥) × (p ≡ r))) × Spans s ts r

abbrev pub While : Code → Span → Child → Child → Input → Input → Type 0
While c s test body ts r = (m : Input) × (n : Input) × TakesWord c while_kind ts m × InParens c test m n × Sub c body n r × Spans s ts r

-- an expression that may be left out, and what follows it
abbrev pub Clause : Code → ℕ → Child → Input → Input → Type 0
Clause c close e ts r = (m : Input) × Maybe (Expr expression_level) c e ts m × Takes c close m r

-- the rest of a `for` with two semicolons, after the first one
abbrev pub ForRest : Code → Child → Child → Child → Input → Input → Type 0
ForRest c test update body ts r = (m : Input) × (n : Input) × Clause c semicolon_kind test ts m × Clause c right_paren_kind update m n × Sub c body n r

-- `for (`
abbrev pub ForOpen : Code → Input → Input → Type 0
ForOpen c ts r = (m : Input) × TakesWord c for_kind ts m × Takes c left_paren_kind m r

-- ForStatement: an expression, which doesn't start with `let [`, or nothing
abbrev pub starts_head : Input → Bool
starts_head ts = not ((kind ts == let_kind) && (kind2 ts == left_bracket_kind))

abbrev pub ForExpression : Code → Span → Child → Child → Child → Child → Input → Input → Type 0
ForExpression c s init test update body ts r = (m : Input) × (n : Input) × (o : Input) × ForOpen c ts m
    × By (is_absent init.tree) (m ≡ n) ((starts_head m ≡ true) × Expr expression_level (without_in c) init m n)
    × Takes c semicolon_kind n o × ForRest c test update body o r × Spans s ts r

-- ForStatement: with variables
abbrev pub ForVariables : Code → Span → Span → ℕ → List Child → Child → Child → Child → Input → Input → Type 0
ForVariables c s own k ds test update body ts r = (m : Input) × (n : Input) × (o : Input) × ForOpen c ts m × Bindings (without_in c) k ds m n × Spans own m n
    × Takes c semicolon_kind n o × ForRest c test update body o r × Spans s ts r

abbrev pub ForUsing : Code → Span → Span → Bool → List Child → Child → Child → Child → Input → Input → Type 0
ForUsing c s own awaits ds test update body ts r = (m : Input) × (n : Input) × (o : Input) × ForOpen c ts m × (starts_using awaits m ≡ true) × UsingBindings (without_in c) awaits ds m n × Spans own m n
    × Takes c semicolon_kind n o × ForRest c test update body o r × Spans s ts r

-- the rest of a `for`-`in` or `for`-`of`, from that word
abbrev pub Over : Code → ℕ → ℕ → Child → Child → Input → Input → Type 0
Over c word l right body ts r = (m : Input) × (n : Input) × (o : Input) × TakesWord c word ts m × Expr l c right m n × Takes c right_paren_kind n o × Sub c body o r

-- ForBinding: one, with no initialiser
abbrev pub OneBare : List Child → Type 0
OneBare [] = ⊥
OneBare (d ∷ ds) = IsEmpty ds × (is_bare_declarator d.tree ≡ true)

abbrev pub HeadVariables : Code → Span → ℕ → List Child → Input → Input → Type 0
HeadVariables c own k ds ts r = OneBare ds × Bindings (without_in c) k ds ts r × Spans own ts r

abbrev pub HeadUsing : Code → Span → Bool → List Child → Input → Input → Type 0
HeadUsing c own awaits ds ts r = OneBare ds × (starts_using awaits ts ≡ true) × UsingBindings (without_in c) awaits ds ts r × Spans own ts r

-- a target, which doesn't start with `let [`; before `of` neither with `let` nor with `async of` (in `for await` only not with `let`)
abbrev pub starts_of : Bool → Input → Bool
starts_of awaits ts = not ((kind ts == let_kind) || (not awaits && ((kind ts == async_kind) && (kind2 ts == of_kind))))

abbrev pub HeadTarget : Code → Child → Input → Input → Type 0
HeadTarget c left ts r = (starts_head ts ≡ true) × (is_place false left.tree ≡ true) × left.produced (assigning (without_in c)) ts r

abbrev pub ForIn : Code → Span → (Input → Input → Type 0) → Child → Child → Input → Input → Type 0
ForIn c s Head right body ts r = (m : Input) × (n : Input) × ForOpen c ts m × Head m n × Over c in_kind expression_level right body n r × Spans s ts r

-- `for` `(`, `for` `await` `(`
abbrev pub ForAwaitOpen : Bool → Code → Input → Input → Type 0
ForAwaitOpen false c ts r = ForOpen c ts r
ForAwaitOpen true c ts r = (m : Input) × (n : Input) × (c.context.in_async ≡ true) × TakesWord c for_kind ts m × TakesWord c await_kind m n × Takes c left_paren_kind n r

abbrev pub ForOf : Code → Span → Bool → (Input → Input → Type 0) → Child → Child → Input → Input → Type 0
ForOf c s awaits Head right body ts r = (m : Input) × (n : Input) × ForAwaitOpen awaits c ts m × Head m n × Over c of_kind assignment_level right body n r × Spans s ts r

abbrev pub OfTarget : Code → Bool → Child → Input → Input → Type 0
OfTarget c awaits left ts r = (starts_of awaits ts ≡ true) × HeadTarget c left ts r

-- ---- 14.8 to 14.10 `continue`, `break`, `return`; 14.14 `throw`

-- a word, what may stand on its line, and the end
abbrev pub Jump : ℕ → Code → Span → Child → Input → Input → Type 0
Jump word c s label ts r = (m : Input) × (n : Input) × TakesWord c word ts m × By (is_absent label.tree) (m ≡ n) ((brk m ≡ false) × Sorted is_ident c label m n) × Ends c plain_end n r × Spans s ts r

abbrev pub Return : Code → Span → Child → Input → Input → Type 0
Return c s e ts r = (m : Input) × TakesWord c return_kind ts m
    × By (is_absent e.tree) (Ends c plain_end m r) ((n : Input) × (brk m ≡ false) × Expr expression_level c e m n × Ends c (ends e.tree) n r) × Spans s ts r

abbrev pub Throw : Code → Span → Child → Input → Input → Type 0
Throw c s e ts r = (m : Input) × (n : Input) × TakesWord c throw_kind ts m × (brk m ≡ false) × Expr expression_level c e m n × Ends c (ends e.tree) n r × Spans s ts r

-- ---- 14.11 `with`, 14.13 labels

abbrev pub With : Code → Span → Child → Child → Input → Input → Type 0
With c s e body ts r = (m : Input) × (n : Input) × TakesWord c with_kind ts m × InParens c e m n × Sub c body n r × Spans s ts r

abbrev pub Labelled : Code → Span → Child → Child → Input → Input → Type 0
Labelled c s label body ts r = (m : Input) × (n : Input) × Sorted is_ident c label ts m × Takes c colon_kind m n × SubOrFunction c body n r × Spans s ts r

-- ---- 14.12 `switch`

-- a case ends before the next one or the brace
abbrev pub ClosesCase : Code → Input → Input → Type 0
ClosesCase c ts r = (((kind ts == case_kind) || ((kind ts == default_kind) || (kind ts == right_brace_kind))) ≡ true) × (ts ≡ r)

abbrev pub Case : Code → Span → Child → List Child → Input → Input → Type 0
Case c s test ss ts r = (m : Input) × (n : Input)
    × By (is_absent test.tree) (TakesWord c default_kind ts m) ((o : Input) × TakesWord c case_kind ts o × Expr expression_level c test o m)
    × Takes c colon_kind m n × Items is_item ClosesCase c false ss n r × Spans s ts r

-- CaseBlock: at most one `default`
abbrev pub Cases : Code → Bool → List Child → Input → Input → Type 0
Cases c had [] ts r = Takes c right_brace_kind ts r
Cases c had (x ∷ xs) ts r = (m : Input) × ((had && is_default_case x.tree) ≡ false) × Sorted is_case c x ts m × Cases c (had || is_default_case x.tree) xs m r

abbrev pub Switch : Code → Span → Child → List Child → Input → Input → Type 0
Switch c s e xs ts r = (m : Input) × (n : Input) × (o : Input) × TakesWord c switch_kind ts m × InParens c e m n × Takes c left_brace_kind n o × Cases c false xs o r × Spans s ts r

-- ---- 14.15 `try`

abbrev pub Catch : Code → Span → Child → Child → Input → Input → Type 0
Catch c s pat body ts r = (m : Input) × (n : Input) × TakesWord c catch_kind ts m
    × By (is_absent pat.tree) (m ≡ n) ((o : Input) × (p : Input) × Takes c left_paren_kind m o × (is_binding pat.tree ≡ true) × pat.produced (binding c) o p × Takes c right_paren_kind p n)
    × Sorted is_block c body n r × Spans s ts r

-- with a handler, a `finally`, or both
abbrev pub Try : Code → Span → Child → Child → Child → Input → Input → Type 0
Try c s block handler finalizer ts r = (m : Input) × (n : Input) × (o : Input) × ((is_absent handler.tree && is_absent finalizer.tree) ≡ false) × TakesWord c try_kind ts m × Sorted is_block c block m n
    × Maybe (Sorted is_catch) c handler n o × By (is_absent finalizer.tree) (o ≡ r) ((p : Input) × TakesWord c finally_kind o p × Sorted is_block c finalizer p r) × Spans s ts r

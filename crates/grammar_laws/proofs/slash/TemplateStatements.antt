-- Statements: what each production consumes keeps the braces and templates that are open.
use Rattle.std.proofs.Common.{◌≡◌, ◌≤◌, ℕ, Bool, true, false, not, ◌&&◌, ◌||◌, List, [], ◌∷◌, refl, arith}
use Rattle.base_proofs.proofs.Bools.{and_false}
use Rattle.base_token.specs.declared.place.Span.{Span}
use Rattle.base_token.specs.Kinds.{left_paren_kind, right_paren_kind, semicolon_kind, colon_kind, assign_kind, await_kind, case_kind, catch_kind, debugger_kind, default_kind, do_kind, else_kind, finally_kind, for_kind, if_kind, return_kind, switch_kind, throw_kind, try_kind, while_kind, with_kind, in_kind, of_kind, using_kind}
use Rattle.grammar_spec.specs.Tokens.Input.{Input, Code, without_in, alone, binding, assigning, is_strict}
use Rattle.grammar_spec.specs.Tokens.Operators.{expression_level, assignment_level, plain_end}
use Rattle.grammar_spec.specs.Tokens.Shape.{ends, is_absent, is_block, is_binding, is_statement, is_plain_function, is_declarator, is_case, is_default_case, is_catch, is_item}
use Rattle.grammar_spec.specs.Children.{is_ident, Child, Expr, Sorted}
use Rattle.grammar_spec.specs.Statements.{Sub, SubOrFunction, InParens, ClosesBlock, Block, Empty, Debugger, Declarator, Bindings, Variables, UsingBindings, Using, ExpressionStatement, If, DoWhile, While, Clause, ForRest, ForOpen, ForExpression, ForVariables, ForUsing, Over, HeadVariables, HeadUsing, HeadTarget, ForIn, ForAwaitOpen, ForOf, OfTarget, Jump, Return, Throw, With, Labelled, ClosesCase, Case, Cases, Switch, Catch, Try, is_var_word, statement_end}
use Rattle.grammar_laws.specs.Slash.TemplateLaws.{Outside}
use Rattle.grammar_laws.proofs.slash.Walks.{Goes, go, stay, Plain, plain_by, plain, takes, takes_word, opens, closes, sorted, placed, leveled, Walked, AllWalked, either, one_of, maybe, paused, commas, items}

pub sub_walk : (c : Code) (pl : c.placed ≡ true) (b : Child) (bw : Walked b) (gs : List Bool) (ts r : Input) → Sub c b ts r → Goes (Outside gs) (Outside gs) ts r
sub_walk c pl b bw gs ts r h = bw (alone c) pl gs ts r (sorted is_statement (λ s t w u. refl) (λ e. refl) b.tree h.0) h.1

pub sub_or_function_walk : (c : Code) (pl : c.placed ≡ true) (b : Child) (bw : Walked b) (gs : List Bool) (ts r : Input) → SubOrFunction c b ts r → Goes (Outside gs) (Outside gs) ts r
sub_or_function_walk c pl b bw gs ts r h = bw (alone c) pl gs ts r (sorted (λ t. is_statement t || (not (is_strict c) && is_plain_function t)) (λ s t w u. and_false _) (λ e. and_false _) b.tree h.0) h.1

pub in_parens_walk : (c : Code) (pl : c.placed ≡ true) (e : Child) (ew : Walked e) (gs : List Bool) (ts r : Input) → InParens c e ts r → Goes (Outside gs) (Outside gs) ts r
in_parens_walk c pl e ew gs ts r h = go _ _ _ ts h.0 r (takes c pl left_paren_kind gs ts h.0 (plain left_paren_kind refl refl refl refl refl refl refl) h.2) (go _ _ _ h.0 h.1 r (ew (assigning c) pl gs h.0 h.1 (leveled expression_level e.tree (omega arith) h.3.0) h.3.1) (takes c pl right_paren_kind gs h.1 r (plain right_paren_kind refl refl refl refl refl refl refl) h.4))

pub block_walk : (c : Code) (pl : c.placed ≡ true) (s : Span) (ss : List Child) (ssw : AllWalked ss) (gs : List Bool) (ts r : Input) → Block c s ss ts r → Goes (Outside gs) (Outside gs) ts r
block_walk c pl s ss ssw gs ts r h = go _ _ _ ts h.0 r (opens c pl gs ts h.0 h.1) (items is_item ClosesBlock (false ∷ gs) gs (λ d dp y z j9. closes d dp gs y z j9) (λ t e. sorted is_item (λ s t w u. refl) (λ e. refl) t e) c pl false ss ssw h.0 r h.2)

pub empty_walk : (c : Code) (pl : c.placed ≡ true) (s : Span) (gs : List Bool) (ts r : Input) → Empty c s ts r → Goes (Outside gs) (Outside gs) ts r
empty_walk c pl s gs ts r h = takes c pl semicolon_kind gs ts r (plain semicolon_kind refl refl refl refl refl refl refl) h.0

pub debugger_walk : (c : Code) (pl : c.placed ≡ true) (s : Span) (gs : List Bool) (ts r : Input) → Debugger c s ts r → Goes (Outside gs) (Outside gs) ts r
debugger_walk c pl s gs ts r h = go _ _ _ ts h.0 r (takes_word c pl debugger_kind gs ts h.0 (plain debugger_kind refl refl refl refl refl refl refl) h.1) (paused c pl plain_end gs h.0 r h.2)

pub declarator_walk : (c : Code) (pl : c.placed ≡ true) (s : Span) (name : Child) (namew : Walked name) (e : Child) (ew : Walked e) (gs : List Bool) (ts r : Input) → Declarator c s name e ts r → Goes (Outside gs) (Outside gs) ts r
declarator_walk c pl s name namew e ew gs ts r h = go _ _ _ ts h.0 r (namew (binding c) pl gs ts h.0 (sorted is_binding (λ s t w u. refl) (λ e. refl) name.tree h.1) h.2) (either (is_absent e.tree) _ _ h.0 r h.3 (λ e1 j1. stay _ h.0 r j1) (λ j1. go _ _ _ h.0 j1.0 r (takes c pl assign_kind gs h.0 j1.0 (plain assign_kind refl refl refl refl refl refl refl) j1.1) (ew (assigning c) pl gs j1.0 r (leveled assignment_level e.tree (omega arith) j1.2.0) j1.2.1)))

pub bindings_walk : (c : Code) (pl : c.placed ≡ true) (k : ℕ) (ds : List Child) (dsw : AllWalked ds) (gs : List Bool) (ts r : Input) → Bindings c k ds ts r → Goes (Outside gs) (Outside gs) ts r
bindings_walk c pl k ds dsw gs ts r h = go _ _ _ ts h.0 r (takes_word c pl k gs ts h.0 (plain_by (λ k. is_var_word k) refl refl refl refl refl refl refl k h.1) h.2) (commas (Sorted is_declarator c) c pl gs (λ x y z v j9. v c pl gs y z (sorted is_declarator (λ s t w u. refl) (λ e. refl) x.tree j9.0) j9.1) ds dsw h.0 r h.3)

pub variables_walk : (c : Code) (pl : c.placed ≡ true) (s : Span) (k : ℕ) (e : ℕ) (ds : List Child) (dsw : AllWalked ds) (gs : List Bool) (ts r : Input) → Variables c s k e ds ts r → Goes (Outside gs) (Outside gs) ts r
variables_walk c pl s k e ds dsw gs ts r h = go _ _ _ ts h.0 r (bindings_walk c pl k ds dsw gs ts h.0 h.1) (paused c pl e gs h.0 r h.2)

pub using_bindings_walk : (c : Code) (pl : c.placed ≡ true) (a1 : Bool) (ds : List Child) (dsw : AllWalked ds) (gs : List Bool) (ts r : Input) → UsingBindings c a1 ds ts r → Goes (Outside gs) (Outside gs) ts r
using_bindings_walk c pl false ds dsw gs ts r h = go _ _ _ ts h.0 r (takes_word c pl using_kind gs ts h.0 (plain using_kind refl refl refl refl refl refl refl) h.2) (commas (Sorted is_declarator c) c pl gs (λ x y z v j9. v c pl gs y z (sorted is_declarator (λ s t w u. refl) (λ e. refl) x.tree j9.0) j9.1) ds dsw h.0 r h.5)
using_bindings_walk c pl true ds dsw gs ts r h = go _ _ _ ts h.0 r (takes_word c pl await_kind gs ts h.0 (plain await_kind refl refl refl refl refl refl refl) h.4) (go _ _ _ h.0 h.1 r (takes_word c pl using_kind gs h.0 h.1 (plain using_kind refl refl refl refl refl refl refl) h.6) (commas (Sorted is_declarator c) c pl gs (λ x y z v j9. v c pl gs y z (sorted is_declarator (λ s t w u. refl) (λ e. refl) x.tree j9.0) j9.1) ds dsw h.1 r h.9))

pub using_walk : (c : Code) (pl : c.placed ≡ true) (s : Span) (awaits : Bool) (e : ℕ) (ds : List Child) (dsw : AllWalked ds) (gs : List Bool) (ts r : Input) → Using c s awaits e ds ts r → Goes (Outside gs) (Outside gs) ts r
using_walk c pl s awaits e ds dsw gs ts r h = go _ _ _ ts h.0 r (using_bindings_walk c pl awaits ds dsw gs ts h.0 h.1) (paused c pl e gs h.0 r h.2)

pub expression_statement_walk : (c : Code) (pl : c.placed ≡ true) (s : Span) (e : Child) (ew : Walked e) (gs : List Bool) (ts r : Input) → ExpressionStatement c s e ts r → Goes (Outside gs) (Outside gs) ts r
expression_statement_walk c pl s e ew gs ts r h = go _ _ _ ts h.0 r (ew (assigning c) pl gs ts h.0 (leveled expression_level e.tree (omega arith) h.2.0) h.2.1) (paused c pl (statement_end c ts e.tree) gs h.0 r h.3)

pub if_walk : (c : Code) (pl : c.placed ≡ true) (s : Span) (test : Child) (testw : Walked test) (a : Child) (aw : Walked a) (b : Child) (bw : Walked b) (gs : List Bool) (ts r : Input) → If c s test a b ts r → Goes (Outside gs) (Outside gs) ts r
if_walk c pl s test testw a aw b bw gs ts r h = go _ _ _ ts h.0 r (takes_word c pl if_kind gs ts h.0 (plain if_kind refl refl refl refl refl refl refl) h.3) (go _ _ _ h.0 h.1 r (in_parens_walk c pl test testw gs h.0 h.1 h.4) (go _ _ _ h.1 h.2 r (sub_or_function_walk c pl a aw gs h.1 h.2 h.5) (either (is_absent b.tree) _ _ h.2 r h.6 (λ e1 j1. stay _ h.2 r j1.1) (λ j1. go _ _ _ h.2 j1.0 r (takes_word c pl else_kind gs h.2 j1.0 (plain else_kind refl refl refl refl refl refl refl) j1.1) (sub_or_function_walk c pl b bw gs j1.0 r j1.2)))))

pub do_while_walk : (c : Code) (pl : c.placed ≡ true) (s : Span) (test : Child) (testw : Walked test) (body : Child) (bodyw : Walked body) (gs : List Bool) (ts r : Input) → DoWhile c s test body ts r → Goes (Outside gs) (Outside gs) ts r
do_while_walk c pl s test testw body bodyw gs ts r h = go _ _ _ ts h.0 r (takes_word c pl do_kind gs ts h.0 (plain do_kind refl refl refl refl refl refl refl) h.4) (go _ _ _ h.0 h.1 r (sub_walk c pl body bodyw gs h.0 h.1 h.5) (go _ _ _ h.1 h.2 r (takes_word c pl while_kind gs h.1 h.2 (plain while_kind refl refl refl refl refl refl refl) h.6) (go _ _ _ h.2 h.3 r (in_parens_walk c pl test testw gs h.2 h.3 h.7) (one_of _ _ h.3 r h.8 (λ j1. takes c pl semicolon_kind gs h.3 r (plain semicolon_kind refl refl refl refl refl refl refl) j1) (λ j1. stay _ h.3 r j1.1)))))

pub while_walk : (c : Code) (pl : c.placed ≡ true) (s : Span) (test : Child) (testw : Walked test) (body : Child) (bodyw : Walked body) (gs : List Bool) (ts r : Input) → While c s test body ts r → Goes (Outside gs) (Outside gs) ts r
while_walk c pl s test testw body bodyw gs ts r h = go _ _ _ ts h.0 r (takes_word c pl while_kind gs ts h.0 (plain while_kind refl refl refl refl refl refl refl) h.2) (go _ _ _ h.0 h.1 r (in_parens_walk c pl test testw gs h.0 h.1 h.3) (sub_walk c pl body bodyw gs h.1 r h.4))

pub clause_walk : (c : Code) (pl : c.placed ≡ true) (close : ℕ) (pclose : Plain close) (e : Child) (ew : Walked e) (gs : List Bool) (ts r : Input) → Clause c close e ts r → Goes (Outside gs) (Outside gs) ts r
clause_walk c pl close pclose e ew gs ts r h = go _ _ _ ts h.0 r (maybe (Expr expression_level) c e gs ts h.0 (λ j9. ew (assigning c) pl gs ts h.0 (leveled expression_level e.tree (omega arith) j9.0) j9.1) h.1) (takes c pl close gs h.0 r pclose h.2)

pub for_rest_walk : (c : Code) (pl : c.placed ≡ true) (test : Child) (testw : Walked test) (update : Child) (updatew : Walked update) (body : Child) (bodyw : Walked body) (gs : List Bool) (ts r : Input) → ForRest c test update body ts r → Goes (Outside gs) (Outside gs) ts r
for_rest_walk c pl test testw update updatew body bodyw gs ts r h = go _ _ _ ts h.0 r (clause_walk c pl semicolon_kind (plain semicolon_kind refl refl refl refl refl refl refl) test testw gs ts h.0 h.2) (go _ _ _ h.0 h.1 r (clause_walk c pl right_paren_kind (plain right_paren_kind refl refl refl refl refl refl refl) update updatew gs h.0 h.1 h.3) (sub_walk c pl body bodyw gs h.1 r h.4))

pub for_open_walk : (c : Code) (pl : c.placed ≡ true) (gs : List Bool) (ts r : Input) → ForOpen c ts r → Goes (Outside gs) (Outside gs) ts r
for_open_walk c pl gs ts r h = go _ _ _ ts h.0 r (takes_word c pl for_kind gs ts h.0 (plain for_kind refl refl refl refl refl refl refl) h.1) (takes c pl left_paren_kind gs h.0 r (plain left_paren_kind refl refl refl refl refl refl refl) h.2)

pub for_expression_walk : (c : Code) (pl : c.placed ≡ true) (s : Span) (init : Child) (initw : Walked init) (test : Child) (testw : Walked test) (update : Child) (updatew : Walked update) (body : Child) (bodyw : Walked body) (gs : List Bool) (ts r : Input) → ForExpression c s init test update body ts r → Goes (Outside gs) (Outside gs) ts r
for_expression_walk c pl s init initw test testw update updatew body bodyw gs ts r h = go _ _ _ ts h.0 r (for_open_walk c pl gs ts h.0 h.3) (go _ _ _ h.0 h.1 r (either (is_absent init.tree) _ _ h.0 h.1 h.4 (λ e1 j1. stay _ h.0 h.1 j1) (λ j1. initw (assigning (without_in c)) pl gs h.0 h.1 (leveled expression_level init.tree (omega arith) j1.1.0) j1.1.1)) (go _ _ _ h.1 h.2 r (takes c pl semicolon_kind gs h.1 h.2 (plain semicolon_kind refl refl refl refl refl refl refl) h.5) (for_rest_walk c pl test testw update updatew body bodyw gs h.2 r h.6)))

pub for_variables_walk : (c : Code) (pl : c.placed ≡ true) (s : Span) (own : Span) (k : ℕ) (ds : List Child) (dsw : AllWalked ds) (test : Child) (testw : Walked test) (update : Child) (updatew : Walked update) (body : Child) (bodyw : Walked body) (gs : List Bool) (ts r : Input) → ForVariables c s own k ds test update body ts r → Goes (Outside gs) (Outside gs) ts r
for_variables_walk c pl s own k ds dsw test testw update updatew body bodyw gs ts r h = go _ _ _ ts h.0 r (for_open_walk c pl gs ts h.0 h.3) (go _ _ _ h.0 h.1 r (bindings_walk (without_in c) pl k ds dsw gs h.0 h.1 h.4) (go _ _ _ h.1 h.2 r (takes c pl semicolon_kind gs h.1 h.2 (plain semicolon_kind refl refl refl refl refl refl refl) h.6) (for_rest_walk c pl test testw update updatew body bodyw gs h.2 r h.7)))

pub for_using_walk : (c : Code) (pl : c.placed ≡ true) (s : Span) (own : Span) (awaits : Bool) (ds : List Child) (dsw : AllWalked ds) (test : Child) (testw : Walked test) (update : Child) (updatew : Walked update) (body : Child) (bodyw : Walked body) (gs : List Bool) (ts r : Input) → ForUsing c s own awaits ds test update body ts r → Goes (Outside gs) (Outside gs) ts r
for_using_walk c pl s own awaits ds dsw test testw update updatew body bodyw gs ts r h = go _ _ _ ts h.0 r (for_open_walk c pl gs ts h.0 h.3) (go _ _ _ h.0 h.1 r (using_bindings_walk (without_in c) pl awaits ds dsw gs h.0 h.1 h.5) (go _ _ _ h.1 h.2 r (takes c pl semicolon_kind gs h.1 h.2 (plain semicolon_kind refl refl refl refl refl refl refl) h.7) (for_rest_walk c pl test testw update updatew body bodyw gs h.2 r h.8)))

pub over_walk : (c : Code) (pl : c.placed ≡ true) (word : ℕ) (pword : Plain word) (l : ℕ) (some_l : 1 ≤ l) (right : Child) (rightw : Walked right) (body : Child) (bodyw : Walked body) (gs : List Bool) (ts r : Input) → Over c word l right body ts r → Goes (Outside gs) (Outside gs) ts r
over_walk c pl word pword l some_l right rightw body bodyw gs ts r h = go _ _ _ ts h.0 r (takes_word c pl word gs ts h.0 pword h.3) (go _ _ _ h.0 h.1 r (rightw (assigning c) pl gs h.0 h.1 (leveled l right.tree some_l h.4.0) h.4.1) (go _ _ _ h.1 h.2 r (takes c pl right_paren_kind gs h.1 h.2 (plain right_paren_kind refl refl refl refl refl refl refl) h.5) (sub_walk c pl body bodyw gs h.2 r h.6)))

pub head_variables_walk : (c : Code) (pl : c.placed ≡ true) (own : Span) (k : ℕ) (ds : List Child) (dsw : AllWalked ds) (gs : List Bool) (ts r : Input) → HeadVariables c own k ds ts r → Goes (Outside gs) (Outside gs) ts r
head_variables_walk c pl own k ds dsw gs ts r h = bindings_walk (without_in c) pl k ds dsw gs ts r h.1

pub head_using_walk : (c : Code) (pl : c.placed ≡ true) (own : Span) (awaits : Bool) (ds : List Child) (dsw : AllWalked ds) (gs : List Bool) (ts r : Input) → HeadUsing c own awaits ds ts r → Goes (Outside gs) (Outside gs) ts r
head_using_walk c pl own awaits ds dsw gs ts r h = using_bindings_walk (without_in c) pl awaits ds dsw gs ts r h.2

pub head_target_walk : (c : Code) (pl : c.placed ≡ true) (left : Child) (leftw : Walked left) (gs : List Bool) (ts r : Input) → HeadTarget c left ts r → Goes (Outside gs) (Outside gs) ts r
head_target_walk c pl left leftw gs ts r h = leftw (assigning (without_in c)) pl gs ts r (placed false left.tree h.1) h.2

pub for_in_walk : (c : Code) (pl : c.placed ≡ true) (s : Span) (Head : Input → Input → Type 0) (Head_walk : (gs : List Bool) (ts r : Input) → Head ts r → Goes (Outside gs) (Outside gs) ts r) (right : Child) (rightw : Walked right) (body : Child) (bodyw : Walked body) (gs : List Bool) (ts r : Input) → ForIn c s Head right body ts r → Goes (Outside gs) (Outside gs) ts r
for_in_walk c pl s Head Head_walk right rightw body bodyw gs ts r h = go _ _ _ ts h.0 r (for_open_walk c pl gs ts h.0 h.2) (go _ _ _ h.0 h.1 r (Head_walk gs h.0 h.1 h.3) (over_walk c pl in_kind (plain in_kind refl refl refl refl refl refl refl) expression_level (omega arith) right rightw body bodyw gs h.1 r h.4))

pub for_await_open_walk : (a0 : Bool) (c : Code) (pl : c.placed ≡ true) (gs : List Bool) (ts r : Input) → ForAwaitOpen a0 c ts r → Goes (Outside gs) (Outside gs) ts r
for_await_open_walk false c pl gs ts r h = for_open_walk c pl gs ts r h
for_await_open_walk true c pl gs ts r h = go _ _ _ ts h.0 r (takes_word c pl for_kind gs ts h.0 (plain for_kind refl refl refl refl refl refl refl) h.3) (go _ _ _ h.0 h.1 r (takes_word c pl await_kind gs h.0 h.1 (plain await_kind refl refl refl refl refl refl refl) h.4) (takes c pl left_paren_kind gs h.1 r (plain left_paren_kind refl refl refl refl refl refl refl) h.5))

pub for_of_walk : (c : Code) (pl : c.placed ≡ true) (s : Span) (awaits : Bool) (Head : Input → Input → Type 0) (Head_walk : (gs : List Bool) (ts r : Input) → Head ts r → Goes (Outside gs) (Outside gs) ts r) (right : Child) (rightw : Walked right) (body : Child) (bodyw : Walked body) (gs : List Bool) (ts r : Input) → ForOf c s awaits Head right body ts r → Goes (Outside gs) (Outside gs) ts r
for_of_walk c pl s awaits Head Head_walk right rightw body bodyw gs ts r h = go _ _ _ ts h.0 r (for_await_open_walk awaits c pl gs ts h.0 h.2) (go _ _ _ h.0 h.1 r (Head_walk gs h.0 h.1 h.3) (over_walk c pl of_kind (plain of_kind refl refl refl refl refl refl refl) assignment_level (omega arith) right rightw body bodyw gs h.1 r h.4))

pub of_target_walk : (c : Code) (pl : c.placed ≡ true) (awaits : Bool) (left : Child) (leftw : Walked left) (gs : List Bool) (ts r : Input) → OfTarget c awaits left ts r → Goes (Outside gs) (Outside gs) ts r
of_target_walk c pl awaits left leftw gs ts r h = head_target_walk c pl left leftw gs ts r h.1

pub jump_walk : (word : ℕ) (pword : Plain word) (c : Code) (pl : c.placed ≡ true) (s : Span) (label : Child) (labelw : Walked label) (gs : List Bool) (ts r : Input) → Jump word c s label ts r → Goes (Outside gs) (Outside gs) ts r
jump_walk word pword c pl s label labelw gs ts r h = go _ _ _ ts h.0 r (takes_word c pl word gs ts h.0 pword h.2) (go _ _ _ h.0 h.1 r (either (is_absent label.tree) _ _ h.0 h.1 h.3 (λ e1 j1. stay _ h.0 h.1 j1) (λ j1. labelw c pl gs h.0 h.1 (sorted is_ident (λ s t w u. refl) (λ e. refl) label.tree j1.1.0) j1.1.1)) (paused c pl plain_end gs h.1 r h.4))

pub return_walk : (c : Code) (pl : c.placed ≡ true) (s : Span) (e : Child) (ew : Walked e) (gs : List Bool) (ts r : Input) → Return c s e ts r → Goes (Outside gs) (Outside gs) ts r
return_walk c pl s e ew gs ts r h = go _ _ _ ts h.0 r (takes_word c pl return_kind gs ts h.0 (plain return_kind refl refl refl refl refl refl refl) h.1) (either (is_absent e.tree) _ _ h.0 r h.2 (λ e1 j1. paused c pl plain_end gs h.0 r j1) (λ j1. go _ _ _ h.0 j1.0 r (ew (assigning c) pl gs h.0 j1.0 (leveled expression_level e.tree (omega arith) j1.2.0) j1.2.1) (paused c pl (ends e.tree) gs j1.0 r j1.3)))

pub throw_walk : (c : Code) (pl : c.placed ≡ true) (s : Span) (e : Child) (ew : Walked e) (gs : List Bool) (ts r : Input) → Throw c s e ts r → Goes (Outside gs) (Outside gs) ts r
throw_walk c pl s e ew gs ts r h = go _ _ _ ts h.0 r (takes_word c pl throw_kind gs ts h.0 (plain throw_kind refl refl refl refl refl refl refl) h.2) (go _ _ _ h.0 h.1 r (ew (assigning c) pl gs h.0 h.1 (leveled expression_level e.tree (omega arith) h.4.0) h.4.1) (paused c pl (ends e.tree) gs h.1 r h.5))

pub with_walk : (c : Code) (pl : c.placed ≡ true) (s : Span) (e : Child) (ew : Walked e) (body : Child) (bodyw : Walked body) (gs : List Bool) (ts r : Input) → With c s e body ts r → Goes (Outside gs) (Outside gs) ts r
with_walk c pl s e ew body bodyw gs ts r h = go _ _ _ ts h.0 r (takes_word c pl with_kind gs ts h.0 (plain with_kind refl refl refl refl refl refl refl) h.2) (go _ _ _ h.0 h.1 r (in_parens_walk c pl e ew gs h.0 h.1 h.3) (sub_walk c pl body bodyw gs h.1 r h.4))

pub labelled_walk : (c : Code) (pl : c.placed ≡ true) (s : Span) (label : Child) (labelw : Walked label) (body : Child) (bodyw : Walked body) (gs : List Bool) (ts r : Input) → Labelled c s label body ts r → Goes (Outside gs) (Outside gs) ts r
labelled_walk c pl s label labelw body bodyw gs ts r h = go _ _ _ ts h.0 r (labelw c pl gs ts h.0 (sorted is_ident (λ s t w u. refl) (λ e. refl) label.tree h.2.0) h.2.1) (go _ _ _ h.0 h.1 r (takes c pl colon_kind gs h.0 h.1 (plain colon_kind refl refl refl refl refl refl refl) h.3) (sub_or_function_walk c pl body bodyw gs h.1 r h.4))

pub case_walk : (c : Code) (pl : c.placed ≡ true) (s : Span) (test : Child) (testw : Walked test) (ss : List Child) (ssw : AllWalked ss) (gs : List Bool) (ts r : Input) → Case c s test ss ts r → Goes (Outside gs) (Outside gs) ts r
case_walk c pl s test testw ss ssw gs ts r h = go _ _ _ ts h.0 r (either (is_absent test.tree) _ _ ts h.0 h.2 (λ e1 j1. takes_word c pl default_kind gs ts h.0 (plain default_kind refl refl refl refl refl refl refl) j1) (λ j1. go _ _ _ ts j1.0 h.0 (takes_word c pl case_kind gs ts j1.0 (plain case_kind refl refl refl refl refl refl refl) j1.1) (testw (assigning c) pl gs j1.0 h.0 (leveled expression_level test.tree (omega arith) j1.2.0) j1.2.1))) (go _ _ _ h.0 h.1 r (takes c pl colon_kind gs h.0 h.1 (plain colon_kind refl refl refl refl refl refl refl) h.3) (items is_item ClosesCase gs gs (λ d dp y z j9. stay _ y z j9.1) (λ t e. sorted is_item (λ s t w u. refl) (λ e. refl) t e) c pl false ss ssw h.1 r h.4))

pub cases_walk : (c : Code) (pl : c.placed ≡ true) (had : Bool) (xs : List Child) (xsw : AllWalked xs) (gs : List Bool) (ts r : Input) → Cases c had xs ts r → Goes (Outside (false ∷ gs)) (Outside gs) ts r
cases_walk c pl had [] w gs ts r h = closes c pl gs ts r h
cases_walk c pl had (x ∷ xs) w gs ts r h = go _ _ _ ts h.0 r (w.0 c pl (false ∷ gs) ts h.0 (sorted is_case (λ s t w u. refl) (λ e. refl) x.tree h.2.0) h.2.1) (cases_walk c pl (had || is_default_case x.tree) xs w.1 gs h.0 r h.3)

pub switch_walk : (c : Code) (pl : c.placed ≡ true) (s : Span) (e : Child) (ew : Walked e) (xs : List Child) (xsw : AllWalked xs) (gs : List Bool) (ts r : Input) → Switch c s e xs ts r → Goes (Outside gs) (Outside gs) ts r
switch_walk c pl s e ew xs xsw gs ts r h = go _ _ _ ts h.0 r (takes_word c pl switch_kind gs ts h.0 (plain switch_kind refl refl refl refl refl refl refl) h.3) (go _ _ _ h.0 h.1 r (in_parens_walk c pl e ew gs h.0 h.1 h.4) (go _ _ _ h.1 h.2 r (opens c pl gs h.1 h.2 h.5) (cases_walk c pl false xs xsw gs h.2 r h.6)))

pub catch_walk : (c : Code) (pl : c.placed ≡ true) (s : Span) (pat : Child) (patw : Walked pat) (body : Child) (bodyw : Walked body) (gs : List Bool) (ts r : Input) → Catch c s pat body ts r → Goes (Outside gs) (Outside gs) ts r
catch_walk c pl s pat patw body bodyw gs ts r h = go _ _ _ ts h.0 r (takes_word c pl catch_kind gs ts h.0 (plain catch_kind refl refl refl refl refl refl refl) h.2) (go _ _ _ h.0 h.1 r (either (is_absent pat.tree) _ _ h.0 h.1 h.3 (λ e1 j1. stay _ h.0 h.1 j1) (λ j1. go _ _ _ h.0 j1.0 h.1 (takes c pl left_paren_kind gs h.0 j1.0 (plain left_paren_kind refl refl refl refl refl refl refl) j1.2) (go _ _ _ j1.0 j1.1 h.1 (patw (binding c) pl gs j1.0 j1.1 (sorted is_binding (λ s t w u. refl) (λ e. refl) pat.tree j1.3) j1.4) (takes c pl right_paren_kind gs j1.1 h.1 (plain right_paren_kind refl refl refl refl refl refl refl) j1.5)))) (bodyw c pl gs h.1 r (sorted is_block (λ s t w u. refl) (λ e. refl) body.tree h.4.0) h.4.1))

pub try_walk : (c : Code) (pl : c.placed ≡ true) (s : Span) (block : Child) (blockw : Walked block) (handler : Child) (handlerw : Walked handler) (finalizer : Child) (finalizerw : Walked finalizer) (gs : List Bool) (ts r : Input) → Try c s block handler finalizer ts r → Goes (Outside gs) (Outside gs) ts r
try_walk c pl s block blockw handler handlerw finalizer finalizerw gs ts r h = go _ _ _ ts h.0 r (takes_word c pl try_kind gs ts h.0 (plain try_kind refl refl refl refl refl refl refl) h.4) (go _ _ _ h.0 h.1 r (blockw c pl gs h.0 h.1 (sorted is_block (λ s t w u. refl) (λ e. refl) block.tree h.5.0) h.5.1) (go _ _ _ h.1 h.2 r (maybe (Sorted is_catch) c handler gs h.1 h.2 (λ j9. handlerw c pl gs h.1 h.2 (sorted is_catch (λ s t w u. refl) (λ e. refl) handler.tree j9.0) j9.1) h.6) (either (is_absent finalizer.tree) _ _ h.2 r h.7 (λ e1 j1. stay _ h.2 r j1) (λ j1. go _ _ _ h.2 j1.0 r (takes_word c pl finally_kind gs h.2 j1.0 (plain finally_kind refl refl refl refl refl refl refl) j1.1) (finalizerw c pl gs j1.0 r (sorted is_block (λ s t w u. refl) (λ e. refl) finalizer.tree j1.2.0) j1.2.1)))))

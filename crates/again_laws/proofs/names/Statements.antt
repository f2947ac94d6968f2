-- Statements: the names of what a production consumes are among its tokens.
use Rattle.std.proofs.Common.{ℕ, Bool, true, false, ◌||◌, List, [], ◌∷◌, ◌++◌}
use Rattle.base_token.specs.Kinds.{in_kind, of_kind, right_paren_kind, semicolon_kind}
use Rattle.base_token.specs.declared.place.Span.{Span}
use Rattle.tree_program_spec.specs.Names.Names.{Identifier, identifiers, joined}
use Rattle.grammar_spec.specs.Tokens.Input.{Code, Input, alone, assigning, binding, without_in}
use Rattle.grammar_spec.specs.Tokens.Operators.{assignment_level, expression_level, plain_end}
use Rattle.grammar_spec.specs.Tokens.Shape.{ends, is_declarator, is_default_case, is_item}
use Rattle.grammar_spec.specs.Children.{Child, Sorted}
use Rattle.grammar_spec.specs.Statements.{Bindings, Block, Case, Cases, Catch, Clause, ClosesBlock, ClosesCase, Debugger, Declarator, DoWhile, Empty, ExpressionStatement, ForAwaitOpen, ForExpression, ForIn, ForOf, ForOpen, ForRest, ForUsing, ForVariables, HeadTarget, HeadUsing, HeadVariables, If, InParens, Jump, Labelled, OfTarget, Over, Return, Sub, SubOrFunction, Switch, Throw, Try, Using, UsingBindings, Variables, While, With, statement_end}
use Rattle.again_laws.proofs.names.Sits.{AllKnown, Known, Parts, Sits, commas, each, end, ended, go, items, one_of, optional, skip, stay, whole}

pub sub_names : {ts r z : Input} {iss : List (List Identifier)} (c : Code) → (b : Child) → Known b → Sub c b ts r → Parts iss r z → Parts (identifiers b.tree ∷ iss) ts z
sub_names {ts} {r} c b bw h g = go (bw (alone c) ts r h.1) g

pub sub_or_function_names : {ts r z : Input} {iss : List (List Identifier)} (c : Code) → (b : Child) → Known b → SubOrFunction c b ts r → Parts iss r z → Parts (identifiers b.tree ∷ iss) ts z
sub_or_function_names {ts} {r} c b bw h g = go (bw (alone c) ts r h.1) g

pub in_parens_names : {ts r z : Input} {iss : List (List Identifier)} (c : Code) → (e : Child) → Known e → InParens c e ts r → Parts iss r z → Parts (identifiers e.tree ∷ iss) ts z
in_parens_names c e ew h g = skip h.2.2 (go (ew (assigning c) h.0 h.1 h.3.1) (skip h.4.2 g))

pub block_names : {ts r z : Input} {iss : List (List Identifier)} (c : Code) (s : Span) → (ss : List Child) → AllKnown ss → Block c s ss ts r → Parts iss r z → Parts (each ss ++ iss) ts z
block_names c s ss ssw h g = skip h.1.2 (items is_item ClosesBlock (λ d y j g. skip j.2 g) c false ss ssw h.0 h.2 g)

pub empty_names : {ts r z : Input} {iss : List (List Identifier)} (c : Code) (s : Span) → Empty c s ts r → Parts iss r z → Parts iss ts z
empty_names c s h g = skip h.0.2 g

pub debugger_names : {ts r z : Input} {iss : List (List Identifier)} (c : Code) (s : Span) → Debugger c s ts r → Parts iss r z → Parts iss ts z
debugger_names c s h g = skip h.1.3 (ended c plain_end h.2 g)

pub declarator_names : {ts r z : Input} {iss : List (List Identifier)} (c : Code) (s : Span) → (name : Child) → Known name → (e : Child) → Known e → Declarator c s name e ts r → Parts iss r z → Parts (identifiers name.tree ∷ (identifiers e.tree ∷ iss)) ts z
declarator_names {ts} {r} c s name namew e ew h g = go (namew (binding c) ts h.0 h.2) (optional e.tree h.3 (λ k1. (stay k1 g)) (λ k2. (skip k2.1.2 (go (ew (assigning c) k2.0 r k2.2.1) g))))

pub bindings_names : {ts r z : Input} {iss : List (List Identifier)} (c : Code) (k : ℕ) → (ds : List Child) → AllKnown ds → Bindings c k ds ts r → Parts iss r z → Parts (each ds ++ iss) ts z
bindings_names c k ds dsw h g = skip h.2.3 (commas (Sorted is_declarator c) (λ x k y z j. k c y z j.1) c ds dsw h.0 h.3 g)

pub variables_names : {ts r z : Input} {iss : List (List Identifier)} (c : Code) (s : Span) (k : ℕ) (e : ℕ) → (ds : List Child) → AllKnown ds → Variables c s k e ds ts r → Parts iss r z → Parts (each ds ++ iss) ts z
variables_names c s k e ds dsw h g = bindings_names c k ds dsw h.1 (ended c e h.2 g)

pub using_bindings_names : {ts r z : Input} {iss : List (List Identifier)} (c : Code) (b1 : Bool) → (ds : List Child) → AllKnown ds → UsingBindings c b1 ds ts r → Parts iss r z → Parts (each ds ++ iss) ts z
using_bindings_names c false ds dsw h g = skip h.2.3 (commas (Sorted is_declarator c) (λ x k y z j. k c y z j.1) c ds dsw h.0 h.5 g)
using_bindings_names c true ds dsw h g = skip h.4.3 (skip h.6.3 (commas (Sorted is_declarator c) (λ x k y z j. k c y z j.1) c ds dsw h.1 h.9 g))

pub using_names : {ts r z : Input} {iss : List (List Identifier)} (c : Code) (s : Span) (awaits : Bool) (e : ℕ) → (ds : List Child) → AllKnown ds → Using c s awaits e ds ts r → Parts iss r z → Parts (each ds ++ iss) ts z
using_names c s awaits e ds dsw h g = using_bindings_names c awaits ds dsw h.1 (ended c e h.2 g)

pub expression_statement_names : {ts r z : Input} {iss : List (List Identifier)} (c : Code) (s : Span) → (e : Child) → Known e → ExpressionStatement c s e ts r → Parts iss r z → Parts (identifiers e.tree ∷ iss) ts z
expression_statement_names {ts} c s e ew h g = go (ew (assigning c) ts h.0 h.2.1) (ended c (statement_end c ts e.tree) h.3 g)

pub if_names : {ts r z : Input} {iss : List (List Identifier)} (c : Code) (s : Span) → (test : Child) → Known test → (a : Child) → Known a → (b : Child) → Known b → If c s test a b ts r → Parts iss r z → Parts (identifiers test.tree ∷ (identifiers a.tree ∷ (identifiers b.tree ∷ iss))) ts z
if_names c s test testw a aw b bw h g = skip h.3.3 (in_parens_names c test testw h.4 (sub_or_function_names c a aw h.5 (optional b.tree h.6 (λ k1. (stay k1.1 g)) (λ k2. (skip k2.1.3 (sub_or_function_names c b bw k2.2 g))))))

pub do_while_names : {ts r z : Input} {iss : List (List Identifier)} (c : Code) (s : Span) → (test : Child) → Known test → (body : Child) → Known body → DoWhile c s test body ts r → Parts iss r z → Parts (identifiers body.tree ∷ (identifiers test.tree ∷ iss)) ts z
do_while_names c s test testw body bodyw h g = skip h.4.3 (sub_names c body bodyw h.5 (skip h.6.3 (in_parens_names c test testw h.7 (one_of h.8 (λ k1. (skip k1.2 g)) (λ k2. (stay k2.1 g))))))

pub while_names : {ts r z : Input} {iss : List (List Identifier)} (c : Code) (s : Span) → (test : Child) → Known test → (body : Child) → Known body → While c s test body ts r → Parts iss r z → Parts (identifiers test.tree ∷ (identifiers body.tree ∷ iss)) ts z
while_names c s test testw body bodyw h g = skip h.2.3 (in_parens_names c test testw h.3 (sub_names c body bodyw h.4 g))

pub clause_names : {ts r z : Input} {iss : List (List Identifier)} (c : Code) (close : ℕ) → (e : Child) → Known e → Clause c close e ts r → Parts iss r z → Parts (identifiers e.tree ∷ iss) ts z
clause_names {ts} c close e ew h g = optional e.tree h.1 (λ k1. stay k1 (skip h.2.2 g)) (λ k2. (go (ew (assigning c) ts h.0 k2.1) (skip h.2.2 g)))

pub for_rest_names : {ts r z : Input} {iss : List (List Identifier)} (c : Code) → (test : Child) → Known test → (update : Child) → Known update → (body : Child) → Known body → ForRest c test update body ts r → Parts iss r z → Parts (identifiers test.tree ∷ (identifiers update.tree ∷ (identifiers body.tree ∷ iss))) ts z
for_rest_names c test testw update updatew body bodyw h g = clause_names c semicolon_kind test testw h.2 (clause_names c right_paren_kind update updatew h.3 (sub_names c body bodyw h.4 g))

pub for_open_names : {ts r z : Input} {iss : List (List Identifier)} (c : Code) → ForOpen c ts r → Parts iss r z → Parts iss ts z
for_open_names c h g = skip h.1.3 (skip h.2.2 g)

pub for_expression_names : {ts r z : Input} {iss : List (List Identifier)} (c : Code) (s : Span) → (init : Child) → Known init → (test : Child) → Known test → (update : Child) → Known update → (body : Child) → Known body → ForExpression c s init test update body ts r → Parts iss r z → Parts (identifiers init.tree ∷ (identifiers test.tree ∷ (identifiers update.tree ∷ (identifiers body.tree ∷ iss)))) ts z
for_expression_names c s init initw test testw update updatew body bodyw h g = for_open_names c h.3 (optional init.tree h.4 (λ k1. (stay k1 (skip h.5.2 (for_rest_names c test testw update updatew body bodyw h.6 g)))) (λ k2. (go (initw (assigning (without_in c)) h.0 h.1 k2.1.1) (skip h.5.2 (for_rest_names c test testw update updatew body bodyw h.6 g)))))

pub for_variables_names : {ts r z : Input} {iss : List (List Identifier)} (c : Code) (s : Span) (own : Span) (k : ℕ) → (ds : List Child) → AllKnown ds → (test : Child) → Known test → (update : Child) → Known update → (body : Child) → Known body → ForVariables c s own k ds test update body ts r → Parts iss r z → Parts (joined (each ds ++ []) ∷ (identifiers test.tree ∷ (identifiers update.tree ∷ (identifiers body.tree ∷ iss)))) ts z
for_variables_names c s own k ds dsw test testw update updatew body bodyw h g = for_open_names c h.3 (go (whole (bindings_names (without_in c) k ds dsw h.4 end)) (skip h.6.2 (for_rest_names c test testw update updatew body bodyw h.7 g)))

pub for_using_names : {ts r z : Input} {iss : List (List Identifier)} (c : Code) (s : Span) (own : Span) (awaits : Bool) → (ds : List Child) → AllKnown ds → (test : Child) → Known test → (update : Child) → Known update → (body : Child) → Known body → ForUsing c s own awaits ds test update body ts r → Parts iss r z → Parts (joined (each ds ++ []) ∷ (identifiers test.tree ∷ (identifiers update.tree ∷ (identifiers body.tree ∷ iss)))) ts z
for_using_names c s own awaits ds dsw test testw update updatew body bodyw h g = for_open_names c h.3 (go (whole (using_bindings_names (without_in c) awaits ds dsw h.5 end)) (skip h.7.2 (for_rest_names c test testw update updatew body bodyw h.8 g)))

pub over_names : {ts r z : Input} {iss : List (List Identifier)} (c : Code) (word : ℕ) (l : ℕ) → (right : Child) → Known right → (body : Child) → Known body → Over c word l right body ts r → Parts iss r z → Parts (identifiers right.tree ∷ (identifiers body.tree ∷ iss)) ts z
over_names c word l right rightw body bodyw h g = skip h.3.3 (go (rightw (assigning c) h.0 h.1 h.4.1) (skip h.5.2 (sub_names c body bodyw h.6 g)))

pub head_variables_names : {ts r z : Input} {iss : List (List Identifier)} (c : Code) (own : Span) (k : ℕ) → (ds : List Child) → AllKnown ds → HeadVariables c own k ds ts r → Parts iss r z → Parts (each ds ++ iss) ts z
head_variables_names c own k ds dsw h g = bindings_names (without_in c) k ds dsw h.1 g

pub head_using_names : {ts r z : Input} {iss : List (List Identifier)} (c : Code) (own : Span) (awaits : Bool) → (ds : List Child) → AllKnown ds → HeadUsing c own awaits ds ts r → Parts iss r z → Parts (each ds ++ iss) ts z
head_using_names c own awaits ds dsw h g = using_bindings_names (without_in c) awaits ds dsw h.2 g

pub head_target_names : {ts r z : Input} {iss : List (List Identifier)} (c : Code) → (left : Child) → Known left → HeadTarget c left ts r → Parts iss r z → Parts (identifiers left.tree ∷ iss) ts z
head_target_names {ts} {r} c left leftw h g = go (leftw (assigning (without_in c)) ts r h.2) g

pub for_in_names : {ts r z : Input} {iss : List (List Identifier)} (c : Code) (s : Span) (Head : Input → Input → Type 0) {Head_names : List Identifier} (Headw : (y z : Input) → Head y z → Sits Head_names y z) → (right : Child) → Known right → (body : Child) → Known body → ForIn c s Head right body ts r → Parts iss r z → Parts (Head_names ∷ (identifiers right.tree ∷ (identifiers body.tree ∷ iss))) ts z
for_in_names c s Head Headw right rightw body bodyw h g = for_open_names c h.2 (go (Headw h.0 h.1 h.3) (over_names c in_kind expression_level right rightw body bodyw h.4 g))

pub for_await_open_names : {ts r z : Input} {iss : List (List Identifier)} (b0 : Bool) (c : Code) → ForAwaitOpen b0 c ts r → Parts iss r z → Parts iss ts z
for_await_open_names false c h g = for_open_names c h g
for_await_open_names true c h g = skip h.3.3 (skip h.4.3 (skip h.5.2 g))

pub for_of_names : {ts r z : Input} {iss : List (List Identifier)} (c : Code) (s : Span) (awaits : Bool) (Head : Input → Input → Type 0) {Head_names : List Identifier} (Headw : (y z : Input) → Head y z → Sits Head_names y z) → (right : Child) → Known right → (body : Child) → Known body → ForOf c s awaits Head right body ts r → Parts iss r z → Parts (Head_names ∷ (identifiers right.tree ∷ (identifiers body.tree ∷ iss))) ts z
for_of_names c s awaits Head Headw right rightw body bodyw h g = for_await_open_names awaits c h.2 (go (Headw h.0 h.1 h.3) (over_names c of_kind assignment_level right rightw body bodyw h.4 g))

pub of_target_names : {ts r z : Input} {iss : List (List Identifier)} (c : Code) (awaits : Bool) → (left : Child) → Known left → OfTarget c awaits left ts r → Parts iss r z → Parts (identifiers left.tree ∷ iss) ts z
of_target_names c awaits left leftw h g = head_target_names c left leftw h.1 g

pub jump_names : {ts r z : Input} {iss : List (List Identifier)} (word : ℕ) (c : Code) (s : Span) → (label : Child) → Known label → Jump word c s label ts r → Parts iss r z → Parts (identifiers label.tree ∷ iss) ts z
jump_names word c s label labelw h g = skip h.2.3 (optional label.tree h.3 (λ k1. (stay k1 (ended c plain_end h.4 g))) (λ k2. (go (labelw c h.0 h.1 k2.1.1) (ended c plain_end h.4 g))))

pub return_names : {ts r z : Input} {iss : List (List Identifier)} (c : Code) (s : Span) → (e : Child) → Known e → Return c s e ts r → Parts iss r z → Parts (identifiers e.tree ∷ iss) ts z
return_names c s e ew h g = skip h.1.3 (optional e.tree h.2 (λ k1. (ended c plain_end k1 g)) (λ k2. (go (ew (assigning c) h.0 k2.0 k2.2.1) (ended c (ends e.tree) k2.3 g))))

pub throw_names : {ts r z : Input} {iss : List (List Identifier)} (c : Code) (s : Span) → (e : Child) → Known e → Throw c s e ts r → Parts iss r z → Parts (identifiers e.tree ∷ iss) ts z
throw_names c s e ew h g = skip h.2.3 (go (ew (assigning c) h.0 h.1 h.4.1) (ended c (ends e.tree) h.5 g))

pub with_names : {ts r z : Input} {iss : List (List Identifier)} (c : Code) (s : Span) → (e : Child) → Known e → (body : Child) → Known body → With c s e body ts r → Parts iss r z → Parts (identifiers e.tree ∷ (identifiers body.tree ∷ iss)) ts z
with_names c s e ew body bodyw h g = skip h.2.3 (in_parens_names c e ew h.3 (sub_names c body bodyw h.4 g))

pub labelled_names : {ts r z : Input} {iss : List (List Identifier)} (c : Code) (s : Span) → (label : Child) → Known label → (body : Child) → Known body → Labelled c s label body ts r → Parts iss r z → Parts (identifiers label.tree ∷ (identifiers body.tree ∷ iss)) ts z
labelled_names {ts} c s label labelw body bodyw h g = go (labelw c ts h.0 h.2.1) (skip h.3.2 (sub_or_function_names c body bodyw h.4 g))

pub case_names : {ts r z : Input} {iss : List (List Identifier)} (c : Code) (s : Span) → (test : Child) → Known test → (ss : List Child) → AllKnown ss → Case c s test ss ts r → Parts iss r z → Parts (identifiers test.tree ∷ (each ss ++ iss)) ts z
case_names c s test testw ss ssw h g = optional test.tree h.2 (λ k1. (skip k1.3 (skip h.3.2 (items is_item ClosesCase (λ d y j g. stay j.1 g) c false ss ssw h.1 h.4 g)))) (λ k2. (skip k2.1.3 (go (testw (assigning c) k2.0 h.0 k2.2.1) (skip h.3.2 (items is_item ClosesCase (λ d y j g. stay j.1 g) c false ss ssw h.1 h.4 g)))))

cases_from : {r z : Input} {iss : List (List Identifier)} (c : Code) (had : Bool) (xs : List Child) → AllKnown xs → (ts : Input) → Cases c had xs ts r → Parts iss r z → Parts (each xs ++ iss) ts z
cases_from c had [] xsw ts h g = skip h.2 g
cases_from c had (x ∷ xs) xsw ts h g = go (xsw.0 c ts h.0 h.2.1) (cases_from c (had || is_default_case x.tree) xs xsw.1 h.0 h.3 g)

pub cases_names : {ts r z : Input} {iss : List (List Identifier)} (c : Code) (had : Bool) (xs : List Child) → AllKnown xs → Cases c had xs ts r → Parts iss r z → Parts (each xs ++ iss) ts z
cases_names {ts} c had xs xsw h g = cases_from c had xs xsw ts h g

pub switch_names : {ts r z : Input} {iss : List (List Identifier)} (c : Code) (s : Span) → (e : Child) → Known e → (xs : List Child) → AllKnown xs → Switch c s e xs ts r → Parts iss r z → Parts (identifiers e.tree ∷ (each xs ++ iss)) ts z
switch_names c s e ew xs xsw h g = skip h.3.3 (in_parens_names c e ew h.4 (skip h.5.2 (cases_names c false xs xsw h.6 g)))

pub catch_names : {ts r z : Input} {iss : List (List Identifier)} (c : Code) (s : Span) → (pat : Child) → Known pat → (body : Child) → Known body → Catch c s pat body ts r → Parts iss r z → Parts (identifiers pat.tree ∷ (identifiers body.tree ∷ iss)) ts z
catch_names {ts} {r} c s pat patw body bodyw h g = skip h.2.3 (optional pat.tree h.3 (λ k1. (stay k1 (go (bodyw c h.1 r h.4.1) g))) (λ k2. (skip k2.2.2 (go (patw (binding c) k2.0 k2.1 k2.4) (skip k2.5.2 (go (bodyw c h.1 r h.4.1) g))))))

pub try_names : {ts r z : Input} {iss : List (List Identifier)} (c : Code) (s : Span) → (block : Child) → Known block → (handler : Child) → Known handler → (finalizer : Child) → Known finalizer → Try c s block handler finalizer ts r → Parts iss r z → Parts (identifiers block.tree ∷ (identifiers handler.tree ∷ (identifiers finalizer.tree ∷ iss))) ts z
try_names {ts} {r} c s block blockw handler handlerw finalizer finalizerw h g = skip h.4.3 (go (blockw c h.0 h.1 h.5.1) (optional handler.tree h.6 (λ k3. stay k3 (optional finalizer.tree h.7 (λ k1. (stay k1 g)) (λ k2. (skip k2.1.3 (go (finalizerw c k2.0 r k2.2.1) g))))) (λ k4. (go (handlerw c h.1 h.2 k4.1) (optional finalizer.tree h.7 (λ k1. (stay k1 g)) (λ k2. (skip k2.1.3 (go (finalizerw c k2.0 r k2.2.1) g))))))))

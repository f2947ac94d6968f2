-- Statements and declarations under their goals and in their contexts.
use Rattle.std.proofs.Common.{◌≡◌, ℕ, ◌⊎◌, inl, inr, Bool, true, false, ◌||◌, refl, List, [], ◌∷◌, sym, ◌∙◌}
use Rattle.base_token.specs.declared.place.Span.{Span}
use Rattle.base_token.specs.Kinds.{left_paren_kind, right_paren_kind, left_brace_kind, semicolon_kind, colon_kind, await_kind, case_kind, catch_kind, debugger_kind, default_kind, do_kind, else_kind, finally_kind, for_kind, if_kind, return_kind, switch_kind, throw_kind, try_kind, while_kind, with_kind, in_kind, of_kind, using_kind}
use Rattle.tree_spec.specs.Tree.{Tree}
use Rattle.grammar_spec.specs.Tokens.Input.{Input, Code, Takes, TakesWord, kind, brk, without_in, alone, binding, assigning}
use Rattle.grammar_spec.specs.Tokens.Operators.{expression_level, assignment_level, plain_end}
use Rattle.grammar_spec.specs.Tokens.Shape.{ends, is_absent, is_binding, is_block, is_declarator, is_case, is_default_case, is_catch, is_item}
use Rattle.grammar_spec.specs.Children.{is_ident, Child, By, Expr, Sorted, Commas, Ends}
use Rattle.grammar_spec.specs.Statements.{Sub, SubOrFunction, InParens, ClosesBlock, Block, Empty, Debugger, Declarator, Bindings, Variables, UsingBindings, Using, statement_end, ExpressionStatement, If, DoWhile, While, Clause, ForRest, ForOpen, ForExpression, ForVariables, ForUsing, Over, HeadVariables, HeadUsing, starts_head, HeadTarget, ForIn, ForAwaitOpen, ForOf, OfTarget, Jump, Return, Throw, With, Labelled, ClosesCase, Case, Cases, Switch, Catch, Try}
use Rattle.grammar_laws.specs.Context.Laws.{placing}
use Rattle.grammar_laws.proofs.context.Kin.{Kin, Moves, spans_like}
use Rattle.grammar_laws.proofs.context.Forms.{Moved, AllMoved, same, either, expr, sorted, maybe, commas, ends_on, items, brace}
use Rattle.grammar_laws.proofs.context.Expressions.{initialiser}

module _ (p : Bool) (kin : Kin p) where
  sub : (c : Code) (b : Child) → Moved p kin b → Moves p kin (Sub c b) (Sub (placing p c) b)
  sub c b f ts r q h l = let z = f (alone c) ts r q h.1 l in (z.0, z.1, (h.0, z.2))

  pub sub_or : (c : Code) (b : Child) → Moved p kin b → Moves p kin (SubOrFunction c b) (SubOrFunction (placing p c) b)
  sub_or c b f ts r q h l = let z = f (alone c) ts r q h.1 l in (z.0, z.1, (h.0, z.2))

  pub in_parens : (c : Code) (e : Child) → Moved p kin e → Moves p kin (InParens c e) (InParens (placing p c) e)
  in_parens c e f ts r q h l = let z = kin.take c right_paren_kind h.1 r q h.4 l in let y = expr p kin expression_level c e f h.0 h.1 z.0 h.3 z.1 in let x = kin.take c left_paren_kind ts h.0 y.0 h.2 y.1 in (x.0, x.1, (y.0, z.0, x.2, y.2, z.2))

  -- ---- 14.2 to 14.4, 14.16

  pub block : (c : Code) (s : Span) (ss : List Child) → AllMoved p kin ss → Moves p kin (Block c s ss) (Block (placing p c) s ss)
  block c s ss a ts r q h l = let z = items p kin is_item ClosesBlock (λ d. brace p kin d) c false ss a h.0 r q h.2 l in let y = kin.take c left_brace_kind ts h.0 z.0 h.1 z.1 in (y.0, y.1, (z.0, y.2, z.2, spans_like p kin s ts y.0 r q y.1 l h.3))

  pub empty : (c : Code) (s : Span) → Moves p kin (Empty c s) (Empty (placing p c) s)
  empty c s ts r q h l = let z = kin.take c semicolon_kind ts r q h.0 l in (z.0, z.1, (z.2, spans_like p kin s ts z.0 r q z.1 l h.1))

  pub debugger : (c : Code) (s : Span) → Moves p kin (Debugger c s) (Debugger (placing p c) s)
  debugger c s ts r q h l = let z = ends_on p kin c plain_end h.0 r q h.2 l in let y = kin.take_word c debugger_kind ts h.0 z.0 h.1 z.1 in (y.0, y.1, (z.0, y.2, z.2, spans_like p kin s ts y.0 r q y.1 l h.3))

  pub declarator : (c : Code) (s : Span) (n e : Child) → Moved p kin n → Moved p kin e → Moves p kin (Declarator c s n e) (Declarator (placing p c) s n e)
  declarator c s n e f g ts r q h l = let z = initialiser p kin c c e g h.0 r q h.3 l in let y = f (binding c) ts h.0 z.0 h.2 z.1 in (y.0, y.1, (z.0, h.1, y.2, z.2, spans_like p kin s ts y.0 r q y.1 l h.4))

  declarators : (c : Code) (ds : List Child) → AllMoved p kin ds → Moves p kin (Commas (Sorted is_declarator c) c ds) (Commas (Sorted is_declarator (placing p c)) (placing p c) ds)
  declarators c ds a ts r q h l = commas p kin (Sorted is_declarator c) (Sorted is_declarator (placing p c)) (λ x f. sorted p kin is_declarator c x f) c ds a ts r q h l

  pub bindings : (c : Code) (k : ℕ) (ds : List Child) → AllMoved p kin ds → Moves p kin (Bindings c k ds) (Bindings (placing p c) k ds)
  bindings c k ds a ts r q h l = let z = declarators c ds a h.0 r q h.3 l in let y = kin.take_word c k ts h.0 z.0 h.2 z.1 in (y.0, y.1, (z.0, h.1, y.2, z.2))

  pub variables : (c : Code) (s : Span) (k e : ℕ) (ds : List Child) → AllMoved p kin ds → Moves p kin (Variables c s k e ds) (Variables (placing p c) s k e ds)
  variables c s k e ds a ts r q h l = let z = ends_on p kin c e h.0 r q h.2 l in let y = bindings c k ds a ts h.0 z.0 h.1 z.1 in (y.0, y.1, (z.0, y.2, z.2, spans_like p kin s ts y.0 r q y.1 l h.3))

  pub using_bindings : (c : Code) (w : Bool) (ds : List Child) → AllMoved p kin ds → Moves p kin (UsingBindings c w ds) (UsingBindings (placing p c) w ds)
  using_bindings c false ds a ts r q h l = let z = declarators c ds a h.0 r q h.5 l in let y = kin.take_word c using_kind ts h.0 z.0 h.2 z.1 in
      (y.0, y.1, (z.0, h.1, y.2, sym (kin.breaks h.0 z.0 z.1) ∙ h.3, kin.no_pattern h.0 z.0 z.1 h.4, z.2))
  using_bindings c true ds a ts r q h l = let z = declarators c ds a h.1 r q h.9 l in let y = kin.take_word c using_kind h.0 h.1 z.0 h.6 z.1 in let x = kin.take_word c await_kind ts h.0 y.0 h.4 y.1 in
      (x.0, x.1, (y.0, z.0, h.2, h.3, x.2, sym (kin.breaks h.0 y.0 y.1) ∙ h.5, y.2, sym (kin.breaks h.1 z.0 z.1) ∙ h.7, kin.no_pattern h.1 z.0 z.1 h.8, z.2))

  pub using_on : (c : Code) (s : Span) (w : Bool) (e : ℕ) (ds : List Child) → AllMoved p kin ds → Moves p kin (Using c s w e ds) (Using (placing p c) s w e ds)
  using_on c s w e ds a ts r q h l = let z = ends_on p kin c e h.0 r q h.2 l in let y = using_bindings c w ds a ts h.0 z.0 h.1 z.1 in (y.0, y.1, (z.0, y.2, z.2, spans_like p kin s ts y.0 r q y.1 l h.3))

  -- ---- 14.5, 14.6

  ended_like : (c : Code) (t : Tree) (a b : Input) → kin.Like a b → (m q : Input) → Ends (placing p c) (statement_end c a t) m q → Ends (placing p c) (statement_end c b t) m q
  ended_like c t a b l m q (inl h) = inl h
  ended_like c t a b l m q (inr h) = inr (h.0, kin.ended c (placing p c) t a b m l h.1, h.2)

  pub expression_statement : (c : Code) (s : Span) (e : Child) → Moved p kin e → Moves p kin (ExpressionStatement c s e) (ExpressionStatement (placing p c) s e)
  expression_statement c s e f ts r q h l = let z = ends_on p kin c (statement_end c ts e.tree) h.0 r q h.3 l in let y = expr p kin expression_level c e f ts h.0 z.0 h.2 z.1 in
      (y.0, y.1, (z.0, kin.begins ts y.0 y.1 h.1, y.2, ended_like c e.tree ts y.0 y.1 z.0 q z.2, spans_like p kin s ts y.0 r q y.1 l h.4))

  abbrev Else : Code → Child → Input → Input → Type 0
  Else c b o r = By (is_absent b.tree) ((kind o ≡ else_kind → ⊥) × (o ≡ r)) ((m : Input) × TakesWord c else_kind o m × SubOrFunction c b m r)

  else_on : (c : Code) (b : Child) → Moved p kin b → Moves p kin (Else c b) (Else (placing p c) b)
  else_on c b f ts r q h l = either p kin (is_absent b.tree) ts h (λ k. let z = same p kin ts r q k.1 l in (z.0, z.1, (kin.unlike else_kind refl ts z.0 z.1 k.0, z.2)))
      (λ k. let z = sub_or c b f k.0 r q k.2 l in let y = kin.take_word c else_kind ts k.0 z.0 k.1 z.1 in (y.0, y.1, (z.0, y.2, z.2)))

  pub if_on : (c : Code) (s : Span) (t a b : Child) → Moved p kin t → Moved p kin a → Moved p kin b → Moves p kin (If c s t a b) (If (placing p c) s t a b)
  if_on c s t a b f g k ts r q h l = let z = else_on c b k h.2 r q h.6 l in let y = sub_or c a g h.1 h.2 z.0 h.5 z.1 in let x = in_parens c t f h.0 h.1 y.0 h.4 y.1 in let w = kin.take_word c if_kind ts h.0 x.0 h.3 x.1 in
      (w.0, w.1, (x.0, y.0, z.0, w.2, x.2, y.2, z.2, spans_like p kin s ts w.0 r q w.1 l h.7))

  -- ---- 14.7

  closed : (c : Code) → Moves p kin (λ o r. Takes c semicolon_kind o r ⊎ ((kind o ≡ semicolon_kind → ⊥) × (o ≡ r))) (λ o r. Takes (placing p c) semicolon_kind o r ⊎ ((kind o ≡ semicolon_kind → ⊥) × (o ≡ r)))
  closed c ts r q (inl h) l = let z = kin.take c semicolon_kind ts r q h l in (z.0, z.1, inl z.2)
  closed c ts r q (inr h) l = let z = same p kin ts r q h.1 l in (z.0, z.1, inr (kin.unlike semicolon_kind refl ts z.0 z.1 h.0, z.2))

  pub do_while : (c : Code) (s : Span) (t b : Child) → Moved p kin t → Moved p kin b → Moves p kin (DoWhile c s t b) (DoWhile (placing p c) s t b)
  do_while c s t b f g ts r q h l = let z = closed c h.3 r q h.8 l in let y = in_parens c t f h.2 h.3 z.0 h.7 z.1 in let x = kin.take_word c while_kind h.1 h.2 y.0 h.6 y.1 in let w = sub c b g h.0 h.1 x.0 h.5 x.1 in let v = kin.take_word c do_kind ts h.0 w.0 h.4 w.1 in
      (v.0, v.1, (w.0, x.0, y.0, z.0, v.2, w.2, x.2, y.2, z.2, spans_like p kin s ts v.0 r q v.1 l h.9))

  pub while_on : (c : Code) (s : Span) (t b : Child) → Moved p kin t → Moved p kin b → Moves p kin (While c s t b) (While (placing p c) s t b)
  while_on c s t b f g ts r q h l = let z = sub c b g h.1 r q h.4 l in let y = in_parens c t f h.0 h.1 z.0 h.3 z.1 in let x = kin.take_word c while_kind ts h.0 y.0 h.2 y.1 in (x.0, x.1, (y.0, z.0, x.2, y.2, z.2, spans_like p kin s ts x.0 r q x.1 l h.5))

  pub clause : (c : Code) (k : ℕ) (e : Child) → Moved p kin e → Moves p kin (Clause c k e) (Clause (placing p c) k e)
  clause c k e f ts r q h l = let z = kin.take c k h.0 r q h.2 l in let y = maybe p kin (Expr expression_level) c e (λ ts r q h l. expr p kin expression_level c e f ts r q h l) ts h.0 z.0 h.1 z.1 in (y.0, y.1, (z.0, y.2, z.2))

  for_rest : (c : Code) (t u b : Child) → Moved p kin t → Moved p kin u → Moved p kin b → Moves p kin (ForRest c t u b) (ForRest (placing p c) t u b)
  for_rest c t u b f g k ts r q h l = let z = sub c b k h.1 r q h.4 l in let y = clause c right_paren_kind u g h.0 h.1 z.0 h.3 z.1 in let x = clause c semicolon_kind t f ts h.0 y.0 h.2 y.1 in (x.0, x.1, (y.0, z.0, x.2, y.2, z.2))

  pub for_open : (c : Code) → Moves p kin (ForOpen c) (ForOpen (placing p c))
  for_open c ts r q h l = let z = kin.take c left_paren_kind h.0 r q h.2 l in let y = kin.take_word c for_kind ts h.0 z.0 h.1 z.1 in (y.0, y.1, (z.0, y.2, z.2))

  abbrev pub Init : Code → Child → Input → Input → Type 0
  Init c e m n = By (is_absent e.tree) (m ≡ n) ((starts_head m ≡ true) × Expr expression_level (without_in c) e m n)

  pub init : (c : Code) (e : Child) → Moved p kin e → Moves p kin (Init c e) (Init (placing p c) e)
  init c e f ts r q h l = either p kin (is_absent e.tree) ts h (λ k. same p kin ts r q k l) (λ k. let z = expr p kin expression_level (without_in c) e f ts r q k.1 l in (z.0, z.1, (kin.heads ts z.0 z.1 k.0, z.2)))

  pub for_expression : (c : Code) (s : Span) (i t u b : Child) → Moved p kin i → Moved p kin t → Moved p kin u → Moved p kin b → Moves p kin (ForExpression c s i t u b) (ForExpression (placing p c) s i t u b)
  for_expression c s i t u b e f g k ts r q h l = let z = for_rest c t u b f g k h.2 r q h.6 l in let y = kin.take c semicolon_kind h.1 h.2 z.0 h.5 z.1 in let x = init c i e h.0 h.1 y.0 h.4 y.1 in let w = for_open c ts h.0 x.0 h.3 x.1 in
      (w.0, w.1, (x.0, y.0, z.0, w.2, x.2, y.2, z.2, spans_like p kin s ts w.0 r q w.1 l h.7))

  pub for_variables : (c : Code) (s v : Span) (n : ℕ) (ds : List Child) (t u b : Child) → AllMoved p kin ds → Moved p kin t → Moved p kin u → Moved p kin b → Moves p kin (ForVariables c s v n ds t u b) (ForVariables (placing p c) s v n ds t u b)
  for_variables c s v n ds t u b a f g k ts r q h l = let z = for_rest c t u b f g k h.2 r q h.7 l in let y = kin.take c semicolon_kind h.1 h.2 z.0 h.6 z.1 in let x = bindings (without_in c) n ds a h.0 h.1 y.0 h.4 y.1 in let w = for_open c ts h.0 x.0 h.3 x.1 in
      (w.0, w.1, (x.0, y.0, z.0, w.2, x.2, spans_like p kin v h.0 x.0 h.1 y.0 x.1 y.1 h.5, y.2, z.2, spans_like p kin s ts w.0 r q w.1 l h.8))

  pub for_using : (c : Code) (s v : Span) (i : Bool) (ds : List Child) (t u b : Child) → AllMoved p kin ds → Moved p kin t → Moved p kin u → Moved p kin b → Moves p kin (ForUsing c s v i ds t u b) (ForUsing (placing p c) s v i ds t u b)
  for_using c s v i ds t u b a f g k ts r q h l = let z = for_rest c t u b f g k h.2 r q h.8 l in let y = kin.take c semicolon_kind h.1 h.2 z.0 h.7 z.1 in let x = using_bindings (without_in c) i ds a h.0 h.1 y.0 h.5 y.1 in let w = for_open c ts h.0 x.0 h.3 x.1 in
      (w.0, w.1, (x.0, y.0, z.0, w.2, kin.usings i h.0 x.0 x.1 h.4, x.2, spans_like p kin v h.0 x.0 h.1 y.0 x.1 y.1 h.6, y.2, z.2, spans_like p kin s ts w.0 r q w.1 l h.9))

  over : (c : Code) (k n : ℕ) (e b : Child) → Moved p kin e → Moved p kin b → Moves p kin (Over c k n e b) (Over (placing p c) k n e b)
  over c k n e b f g ts r q h l = let z = sub c b g h.2 r q h.6 l in let y = kin.take c right_paren_kind h.1 h.2 z.0 h.5 z.1 in let x = expr p kin n c e f h.0 h.1 y.0 h.4 y.1 in let w = kin.take_word c k ts h.0 x.0 h.3 x.1 in (w.0, w.1, (x.0, y.0, z.0, w.2, x.2, y.2, z.2))

  pub head_variables : (c : Code) (v : Span) (k : ℕ) (ds : List Child) → AllMoved p kin ds → Moves p kin (HeadVariables c v k ds) (HeadVariables (placing p c) v k ds)
  head_variables c v k ds a ts r q h l = let z = bindings (without_in c) k ds a ts r q h.1 l in (z.0, z.1, (h.0, z.2, spans_like p kin v ts z.0 r q z.1 l h.2))

  pub head_using : (c : Code) (v : Span) (w : Bool) (ds : List Child) → AllMoved p kin ds → Moves p kin (HeadUsing c v w ds) (HeadUsing (placing p c) v w ds)
  head_using c v w ds a ts r q h l = let z = using_bindings (without_in c) w ds a ts r q h.2 l in (z.0, z.1, (h.0, kin.usings w ts z.0 z.1 h.1, z.2, spans_like p kin v ts z.0 r q z.1 l h.3))

  pub head_target : (c : Code) (a : Child) → Moved p kin a → Moves p kin (HeadTarget c a) (HeadTarget (placing p c) a)
  head_target c a f ts r q h l = let z = f (assigning (without_in c)) ts r q h.2 l in (z.0, z.1, (kin.heads ts z.0 z.1 h.0, h.1, z.2))

  pub of_target : (c : Code) (w : Bool) (a : Child) → Moved p kin a → Moves p kin (OfTarget c w a) (OfTarget (placing p c) w a)
  of_target c w a f ts r q h l = let z = head_target c a f ts r q h.1 l in (z.0, z.1, (kin.ofs w ts z.0 z.1 h.0, z.2))

  pub for_in : (c : Code) (s : Span) (A B : Input → Input → Type 0) (e b : Child) → Moves p kin A B → Moved p kin e → Moved p kin b → Moves p kin (ForIn c s A e b) (ForIn (placing p c) s B e b)
  for_in c s A B e b k f g ts r q h l = let z = over c in_kind expression_level e b f g h.1 r q h.4 l in let y = k h.0 h.1 z.0 h.3 z.1 in let x = for_open c ts h.0 y.0 h.2 y.1 in (x.0, x.1, (y.0, z.0, x.2, y.2, z.2, spans_like p kin s ts x.0 r q x.1 l h.5))

  pub await_open : (w : Bool) (c : Code) → Moves p kin (ForAwaitOpen w c) (ForAwaitOpen w (placing p c))
  await_open false c ts r q h l = for_open c ts r q h l
  await_open true c ts r q h l = let z = kin.take c left_paren_kind h.1 r q h.5 l in let y = kin.take_word c await_kind h.0 h.1 z.0 h.4 z.1 in let x = kin.take_word c for_kind ts h.0 y.0 h.3 y.1 in (x.0, x.1, (y.0, z.0, h.2, x.2, y.2, z.2))

  pub for_of : (c : Code) (s : Span) (w : Bool) (A B : Input → Input → Type 0) (e b : Child) → Moves p kin A B → Moved p kin e → Moved p kin b → Moves p kin (ForOf c s w A e b) (ForOf (placing p c) s w B e b)
  for_of c s w A B e b k f g ts r q h l = let z = over c of_kind assignment_level e b f g h.1 r q h.4 l in let y = k h.0 h.1 z.0 h.3 z.1 in let x = await_open w c ts h.0 y.0 h.2 y.1 in (x.0, x.1, (y.0, z.0, x.2, y.2, z.2, spans_like p kin s ts x.0 r q x.1 l h.5))

  -- ---- 14.8 to 14.11, 14.13, 14.14

  abbrev Label : Code → Child → Input → Input → Type 0
  Label c a m n = By (is_absent a.tree) (m ≡ n) ((brk m ≡ false) × Sorted is_ident c a m n)

  label : (c : Code) (a : Child) → Moved p kin a → Moves p kin (Label c a) (Label (placing p c) a)
  label c a f ts r q h l = either p kin (is_absent a.tree) ts h (λ k. same p kin ts r q k l) (λ k. let z = sorted p kin is_ident c a f ts r q k.1 l in (z.0, z.1, (sym (kin.breaks ts z.0 z.1) ∙ k.0, z.2)))

  pub jump : (k : ℕ) (c : Code) (s : Span) (a : Child) → Moved p kin a → Moves p kin (Jump k c s a) (Jump k (placing p c) s a)
  jump k c s a f ts r q h l = let z = ends_on p kin c plain_end h.1 r q h.4 l in let y = label c a f h.0 h.1 z.0 h.3 z.1 in let x = kin.take_word c k ts h.0 y.0 h.2 y.1 in (x.0, x.1, (y.0, z.0, x.2, y.2, z.2, spans_like p kin s ts x.0 r q x.1 l h.5))

  abbrev Returned : Code → Child → Input → Input → Type 0
  Returned c e m r = By (is_absent e.tree) (Ends c plain_end m r) ((n : Input) × (brk m ≡ false) × Expr expression_level c e m n × Ends c (ends e.tree) n r)

  returned : (c : Code) (e : Child) → Moved p kin e → Moves p kin (Returned c e) (Returned (placing p c) e)
  returned c e f ts r q h l = either p kin (is_absent e.tree) ts h (λ k. ends_on p kin c plain_end ts r q k l)
      (λ k. let z = ends_on p kin c (ends e.tree) k.0 r q k.3 l in let y = expr p kin expression_level c e f ts k.0 z.0 k.2 z.1 in (y.0, y.1, (z.0, sym (kin.breaks ts y.0 y.1) ∙ k.1, y.2, z.2)))

  pub return_on : (c : Code) (s : Span) (e : Child) → Moved p kin e → Moves p kin (Return c s e) (Return (placing p c) s e)
  return_on c s e f ts r q h l = let z = returned c e f h.0 r q h.2 l in let y = kin.take_word c return_kind ts h.0 z.0 h.1 z.1 in (y.0, y.1, (z.0, y.2, z.2, spans_like p kin s ts y.0 r q y.1 l h.3))

  pub throw_on : (c : Code) (s : Span) (e : Child) → Moved p kin e → Moves p kin (Throw c s e) (Throw (placing p c) s e)
  throw_on c s e f ts r q h l = let z = ends_on p kin c (ends e.tree) h.1 r q h.5 l in let y = expr p kin expression_level c e f h.0 h.1 z.0 h.4 z.1 in let x = kin.take_word c throw_kind ts h.0 y.0 h.2 y.1 in
      (x.0, x.1, (y.0, z.0, x.2, sym (kin.breaks h.0 y.0 y.1) ∙ h.3, y.2, z.2, spans_like p kin s ts x.0 r q x.1 l h.6))

  pub with_on : (c : Code) (s : Span) (t b : Child) → Moved p kin t → Moved p kin b → Moves p kin (With c s t b) (With (placing p c) s t b)
  with_on c s t b f g ts r q h l = let z = sub c b g h.1 r q h.4 l in let y = in_parens c t f h.0 h.1 z.0 h.3 z.1 in let x = kin.take_word c with_kind ts h.0 y.0 h.2 y.1 in (x.0, x.1, (y.0, z.0, x.2, y.2, z.2, spans_like p kin s ts x.0 r q x.1 l h.5))

  pub labelled : (c : Code) (s : Span) (a b : Child) → Moved p kin a → Moved p kin b → Moves p kin (Labelled c s a b) (Labelled (placing p c) s a b)
  labelled c s a b f g ts r q h l = let z = sub_or c b g h.1 r q h.4 l in let y = kin.take c colon_kind h.0 h.1 z.0 h.3 z.1 in let x = sorted p kin is_ident c a f ts h.0 y.0 h.2 y.1 in (x.0, x.1, (y.0, z.0, x.2, y.2, z.2, spans_like p kin s ts x.0 r q x.1 l h.5))

  -- ---- 14.12, 14.15

  closes_case : (c : Code) → Moves p kin (ClosesCase c) (ClosesCase (placing p c))
  closes_case c ts r q h l = let z = same p kin ts r q h.1 l in (z.0, z.1, (kin.ends_case ts z.0 z.1 h.0, z.2))

  abbrev Test : Code → Child → Input → Input → Type 0
  Test c t ts m = By (is_absent t.tree) (TakesWord c default_kind ts m) ((o : Input) × TakesWord c case_kind ts o × Expr expression_level c t o m)

  test : (c : Code) (t : Child) → Moved p kin t → Moves p kin (Test c t) (Test (placing p c) t)
  test c t f ts r q h l = either p kin (is_absent t.tree) ts h (λ k. kin.take_word c default_kind ts r q k l) (λ k. let z = expr p kin expression_level c t f k.0 r q k.2 l in let y = kin.take_word c case_kind ts k.0 z.0 k.1 z.1 in (y.0, y.1, (z.0, y.2, z.2)))

  pub case_on : (c : Code) (s : Span) (t : Child) (ss : List Child) → Moved p kin t → AllMoved p kin ss → Moves p kin (Case c s t ss) (Case (placing p c) s t ss)
  case_on c s t ss f a ts r q h l = let z = items p kin is_item ClosesCase (λ d. closes_case d) c false ss a h.1 r q h.4 l in let y = kin.take c colon_kind h.0 h.1 z.0 h.3 z.1 in let x = test c t f ts h.0 y.0 h.2 y.1 in (x.0, x.1, (y.0, z.0, x.2, y.2, z.2, spans_like p kin s ts x.0 r q x.1 l h.5))

  cases : (c : Code) (b : Bool) (xs : List Child) → AllMoved p kin xs → Moves p kin (Cases c b xs) (Cases (placing p c) b xs)
  cases c b [] a ts r q h l = brace p kin c ts r q h l
  cases c b (x ∷ xs) a ts r q h l = let z = cases c (b || is_default_case x.tree) xs a.1 h.0 r q h.3 l in let y = sorted p kin is_case c x a.0 ts h.0 z.0 h.2 z.1 in (y.0, y.1, (z.0, h.1, y.2, z.2))

  pub switch_on : (c : Code) (s : Span) (e : Child) (xs : List Child) → Moved p kin e → AllMoved p kin xs → Moves p kin (Switch c s e xs) (Switch (placing p c) s e xs)
  switch_on c s e xs f a ts r q h l = let z = cases c false xs a h.2 r q h.6 l in let y = kin.take c left_brace_kind h.1 h.2 z.0 h.5 z.1 in let x = in_parens c e f h.0 h.1 y.0 h.4 y.1 in let w = kin.take_word c switch_kind ts h.0 x.0 h.3 x.1 in
      (w.0, w.1, (x.0, y.0, z.0, w.2, x.2, y.2, z.2, spans_like p kin s ts w.0 r q w.1 l h.7))

  abbrev Caught : Code → Child → Input → Input → Type 0
  Caught c a m n = By (is_absent a.tree) (m ≡ n) ((o : Input) × (u : Input) × Takes c left_paren_kind m o × (is_binding a.tree ≡ true) × a.produced (binding c) o u × Takes c right_paren_kind u n)

  caught : (c : Code) (a : Child) → Moved p kin a → Moves p kin (Caught c a) (Caught (placing p c) a)
  caught c a f ts r q h l = either p kin (is_absent a.tree) ts h (λ k. same p kin ts r q k l)
      (λ k. let z = kin.take c right_paren_kind k.1 r q k.5 l in let y = f (binding c) k.0 k.1 z.0 k.4 z.1 in let x = kin.take c left_paren_kind ts k.0 y.0 k.2 y.1 in (x.0, x.1, (y.0, z.0, x.2, k.3, y.2, z.2)))

  pub catch_on : (c : Code) (s : Span) (a b : Child) → Moved p kin a → Moved p kin b → Moves p kin (Catch c s a b) (Catch (placing p c) s a b)
  catch_on c s a b f g ts r q h l = let z = sorted p kin is_block c b g h.1 r q h.4 l in let y = caught c a f h.0 h.1 z.0 h.3 z.1 in let x = kin.take_word c catch_kind ts h.0 y.0 h.2 y.1 in (x.0, x.1, (y.0, z.0, x.2, y.2, z.2, spans_like p kin s ts x.0 r q x.1 l h.5))

  abbrev Finally : Code → Child → Input → Input → Type 0
  Finally c b o r = By (is_absent b.tree) (o ≡ r) ((m : Input) × TakesWord c finally_kind o m × Sorted is_block c b m r)

  finally_on : (c : Code) (b : Child) → Moved p kin b → Moves p kin (Finally c b) (Finally (placing p c) b)
  finally_on c b f ts r q h l = either p kin (is_absent b.tree) ts h (λ k. same p kin ts r q k l) (λ k. let z = sorted p kin is_block c b f k.0 r q k.2 l in let y = kin.take_word c finally_kind ts k.0 z.0 k.1 z.1 in (y.0, y.1, (z.0, y.2, z.2)))

  pub try_on : (c : Code) (s : Span) (b x e : Child) → Moved p kin b → Moved p kin x → Moved p kin e → Moves p kin (Try c s b x e) (Try (placing p c) s b x e)
  try_on c s b x e f g k ts r q h l = let z = finally_on c e k h.2 r q h.7 l in let y = maybe p kin (Sorted is_catch) c x (λ ts r q h l. sorted p kin is_catch c x g ts r q h l) h.1 h.2 z.0 h.6 z.1 in
      let w = sorted p kin is_block c b f h.0 h.1 y.0 h.5 y.1 in let v = kin.take_word c try_kind ts h.0 w.0 h.4 w.1 in (v.0, v.1, (w.0, y.0, z.0, h.3, v.2, w.2, y.2, z.2, spans_like p kin s ts v.0 r q v.1 l h.8))

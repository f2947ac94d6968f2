-- Statements and declarations that produce tokens can be printed.
use Rattle.std.proofs.Common.{◌||◌, ℕ, Bool, true, false}
use Rattle.base_token.specs.declared.place.Span.{Span}
use Rattle.base_token.specs.Kinds.{semicolon_kind, right_paren_kind}
use Rattle.tree_spec.specs.Tree.{Tree, Trees, none, more, block_stmt, with_stmt, return_stmt, labeled_stmt, break_stmt, continue_stmt, if_stmt, switch_stmt, switch_case, throw_stmt, try_stmt, catch_clause, while_stmt, do_while_stmt, for_stmt, for_in_stmt, for_of_stmt, expr_stmt, var_decl, using_decl, var_declarator}
use Rattle.grammar_spec.specs.Tokens.Input.{Input, Code, without_in}
use Rattle.grammar_spec.specs.Tokens.Shape.{is_declarator, is_default_case, is_item}
use Rattle.grammar_spec.specs.Children.{child, Sorted}
use Rattle.grammar_spec.specs.Statements.{InParens, ClosesBlock, Bindings, UsingBindings, Clause, ForRest, ForExpression, ForIn, ForOf, HeadVariables, HeadUsing, HeadTarget, OfTarget, ClosesCase, Cases}
use Rattle.grammar_spec.specs.Grammar.{Produces, children}
use Rattle.print_layout_spec.specs.declared.look.Look.{Look}
use Rattle.print_layout_spec.specs.declared.look.Stand.TheVariants.{Alone}
use Rattle.print_layout_laws.proofs.Fine.{◌▸◌, ok, when_fine, if_fine, maybe, in_parens_fine, closing_fine, initial_fine, indented_or_line_fine}
use Rattle.print_layout_laws.proofs.PrintedLists.{Good, AllGood, rows_fine, commas_fine}
use Rattle.print_layout_laws.proofs.Forms.{Sound, AllSound, maybe_good, commas, items}
use Rattle.print_layout_laws.proofs.PrintedFunctions.{block_good}

module _ (look : Look) where
  parens : (e : Tree) → Sound look e → (c : Code) (ts r : Input) → InParens c (child e (λ y. Produces e y)) ts r → Good look e
  parens e f c ts r h = f _ _ _ h.3.1

  -- ---- 14.2 to 14.5

  pub block : (s : Span) (ss : Trees) → AllSound look ss → Sound look (block_stmt s ss)
  block s ss a c ts r h = block_good look s ss (items look is_item ClosesBlock c false ss a h.0 r h.2)

  pub declarator : (s : Span) (n e : Tree) → Sound look n → Sound look e → Sound look (var_declarator s n e)
  declarator s n e f g c ts r h st = ok ▸ f _ _ _ h.2 Alone ▸ initial_fine look e (maybe_good look _ e h.3 (λ z. g _ _ _ z.2.1) Alone)

  var_good : (s : Span) (k : ℕ) (ds : Trees) → AllGood look ds → Good look (var_decl s k ds)
  var_good s k ds a st = ok ▸ ok ▸ ok ▸ if_fine _ (maybe _ _) ok ▸ commas_fine look ds a

  using_good : (s : Span) (w : Bool) (ds : Trees) → AllGood look ds → Good look (using_decl s w ds)
  using_good s w ds a st = ok ▸ when_fine _ (ok ▸ ok) ▸ ok ▸ ok ▸ commas_fine look ds a

  bindings : (s : Span) (k : ℕ) (ds : Trees) → AllSound look ds → (c : Code) (ts r : Input) → Bindings c k (children ds) ts r → Good look (var_decl s k ds)
  bindings s k ds a c ts r h = var_good s k ds (commas look (Sorted is_declarator c) (λ t f m n k. f _ _ _ k.1) c ds a h.0 r h.3)

  using_bindings : (s : Span) (w : Bool) (ds : Trees) → AllSound look ds → (c : Code) (ts r : Input) → UsingBindings c w (children ds) ts r → Good look (using_decl s w ds)
  using_bindings s false ds a c ts r h = using_good s false ds (commas look (Sorted is_declarator c) (λ t f m n k. f _ _ _ k.1) c ds a h.0 r h.5)
  using_bindings s true ds a c ts r h = using_good s true ds (commas look (Sorted is_declarator c) (λ t f m n k. f _ _ _ k.1) c ds a h.1 r h.9)

  pub variables : (s : Span) (k : ℕ) (ds : Trees) → AllSound look ds → Sound look (var_decl s k ds)
  variables s k ds a c ts r h = bindings s k ds a c ts h.0 h.1

  pub using_on : (s : Span) (w : Bool) (ds : Trees) → AllSound look ds → Sound look (using_decl s w ds)
  using_on s w ds a c ts r h = using_bindings s w ds a c ts h.0 h.1

  pub expression_statement : (s : Span) (e : Tree) → Sound look e → Sound look (expr_stmt s e)
  expression_statement s e f c ts r h st = f _ _ _ h.2.1 Alone ▸ ok

  -- ---- 14.6, 14.7

  pub if_on : (s : Span) (t a b : Tree) → Sound look t → Sound look a → Sound look b → Sound look (if_stmt s t a b)
  if_on s t a b f g k c ts r h st =
      ok ▸ ok ▸ ok ▸ maybe _ _ ▸ in_parens_fine (parens t f c h.0 h.1 h.4 Alone) ▸ maybe _ _ ▸ g _ _ _ h.5.1 Alone ▸ closing_fine look a
      ▸ when_fine _ (when_fine _ (maybe _ _) ▸ ok ▸ maybe _ _ ▸ maybe_good look _ b h.6 (λ z. k _ _ _ z.2.1) Alone ▸ closing_fine look b)

  pub do_while : (s : Span) (t b : Tree) → Sound look t → Sound look b → Sound look (do_while_stmt s t b)
  do_while s t b f g c ts r h st =
      ok ▸ ok ▸ ok ▸ maybe _ _ ▸ g _ _ _ h.5.1 Alone ▸ closing_fine look b ▸ ok ▸ maybe _ _ ▸ in_parens_fine (parens t f c h.2 h.3 h.7 Alone) ▸ ok ▸ ok

  pub while_on : (s : Span) (t b : Tree) → Sound look t → Sound look b → Sound look (while_stmt s t b)
  while_on s t b f g c ts r h st = ok ▸ ok ▸ ok ▸ in_parens_fine (parens t f c h.0 h.1 h.3 Alone) ▸ g _ _ _ h.4.1 Alone ▸ closing_fine look b

  clause : (close : ℕ) (e : Tree) → Sound look e → (c : Code) (ts r : Input) → Clause c close (child e (λ y. Produces e y)) ts r → Good look e
  clause close e f c ts r h = maybe_good look _ e h.1 (λ z. f _ _ _ z.1)

  for_good : (s : Span) (i t u b : Tree) → Good look i → Sound look t → Sound look u → Sound look b → (c : Code) (ts r : Input)
      → ForRest c (child t (λ y. Produces t y)) (child u (λ y. Produces u y)) (child b (λ y. Produces b y)) ts r → Good look (for_stmt s i t u b)
  for_good s i t u b p f g k c ts r h st =
      ok ▸ ok ▸ ok ▸ ok ▸ p Alone ▸ ok ▸ when_fine _ (maybe _ _ ▸ clause semicolon_kind t f c ts h.0 h.2 Alone)
      ▸ ok ▸ when_fine _ (maybe _ _ ▸ clause right_paren_kind u g c h.0 h.1 h.3 Alone) ▸ ok ▸ k _ _ _ h.4.1 Alone ▸ closing_fine look b

  pub for_expression : (s : Span) (i t u b : Tree) → Sound look i → Sound look t → Sound look u → Sound look b → (c : Code) (ts r : Input)
      → ForExpression c s (child i (λ y. Produces i y)) (child t (λ y. Produces t y)) (child u (λ y. Produces u y)) (child b (λ y. Produces b y)) ts r → Good look (for_stmt s i t u b)
  for_expression s i t u b e f g k c ts r h = for_good s i t u b (maybe_good look _ i h.4 (λ z. e _ _ _ z.1.1)) f g k c h.2 r h.6

  pub for_variables : (s v : Span) (n : ℕ) (ds : Trees) (t u b : Tree) → AllSound look ds → Sound look t → Sound look u → Sound look b → Sound look (for_stmt s (var_decl v n ds) t u b)
  for_variables s v n ds t u b a f g k c ts r h = for_good s (var_decl v n ds) t u b (bindings v n ds a (without_in c) h.0 h.1 h.4) f g k c h.2 r h.7

  pub for_using : (s v : Span) (w : Bool) (ds : Trees) (t u b : Tree) → AllSound look ds → Sound look t → Sound look u → Sound look b → Sound look (for_stmt s (using_decl v w ds) t u b)
  for_using s v w ds t u b a f g k c ts r h = for_good s (using_decl v w ds) t u b (using_bindings v w ds a (without_in c) h.0 h.1 h.5) f g k c h.2 r h.8

  pub head_variables : (v : Span) (k : ℕ) (ds : Trees) → AllSound look ds → (c : Code) (ts r : Input) → HeadVariables c v k (children ds) ts r → Good look (var_decl v k ds)
  head_variables v k ds a c ts r h = bindings v k ds a (without_in c) ts r h.1

  pub head_using : (v : Span) (w : Bool) (ds : Trees) → AllSound look ds → (c : Code) (ts r : Input) → HeadUsing c v w (children ds) ts r → Good look (using_decl v w ds)
  head_using v w ds a c ts r h = using_bindings v w ds a (without_in c) ts r h.2

  pub head_target : (a : Tree) → Sound look a → (c : Code) (ts r : Input) → HeadTarget c (child a (λ y. Produces a y)) ts r → Good look a
  head_target a f c ts r h = f _ _ _ h.2

  pub of_target : (w : Bool) (a : Tree) → Sound look a → (c : Code) (ts r : Input) → OfTarget c w (child a (λ y. Produces a y)) ts r → Good look a
  of_target w a f c ts r h = f _ _ _ h.1.2

  pub for_in : (s : Span) (a e b : Tree) (c : Code) (A : Input → Input → Type 0) → ((m n : Input) → A m n → Good look a) → Sound look e → Sound look b → (ts r : Input)
      → ForIn c s A (child e (λ y. Produces e y)) (child b (λ y. Produces b y)) ts r → Good look (for_in_stmt s a e b)
  for_in s a e b c A k f g ts r h st =
      ok ▸ ok ▸ ok ▸ ok ▸ k _ _ h.3 Alone ▸ maybe _ _ ▸ ok ▸ maybe _ _ ▸ f _ _ _ h.4.4.1 Alone ▸ ok ▸ g _ _ _ h.4.6.1 Alone ▸ closing_fine look b

  pub for_of : (s : Span) (w : Bool) (a e b : Tree) (c : Code) (A : Input → Input → Type 0) → ((m n : Input) → A m n → Good look a) → Sound look e → Sound look b → (ts r : Input)
      → ForOf c s w A (child e (λ y. Produces e y)) (child b (λ y. Produces b y)) ts r → Good look (for_of_stmt s w a e b)
  for_of s w a e b c A k f g ts r h st =
      ok ▸ ok ▸ ok ▸ when_fine w (ok ▸ ok) ▸ maybe _ _ ▸ ok ▸ k _ _ h.3 Alone ▸ maybe _ _ ▸ ok ▸ maybe _ _ ▸ f _ _ _ h.4.4.1 Alone ▸ ok ▸ g _ _ _ h.4.6.1 Alone ▸ closing_fine look b

  -- ---- 14.8 to 14.14

  pub continue_on : (s : Span) (l : Tree) → Sound look l → Sound look (continue_stmt s l)
  continue_on s l f c ts r h st = ok ▸ ok ▸ ok ▸ when_fine _ (ok ▸ maybe_good look _ l h.3 (λ z. f _ _ _ z.1.1) Alone) ▸ ok

  pub break_on : (s : Span) (l : Tree) → Sound look l → Sound look (break_stmt s l)
  break_on s l f c ts r h st = ok ▸ ok ▸ ok ▸ when_fine _ (ok ▸ maybe_good look _ l h.3 (λ z. f _ _ _ z.1.1) Alone) ▸ ok

  pub return_on : (s : Span) (e : Tree) → Sound look e → Sound look (return_stmt s e)
  return_on s e f c ts r h st = ok ▸ ok ▸ ok ▸ when_fine _ (maybe _ _ ▸ maybe_good look _ e h.2 (λ z. f _ _ _ z.2.1) Alone) ▸ ok

  pub throw_on : (s : Span) (e : Tree) → Sound look e → Sound look (throw_stmt s e)
  throw_on s e f c ts r h st = ok ▸ ok ▸ maybe _ _ ▸ f _ _ _ h.4.1 Alone ▸ ok

  pub with_on : (s : Span) (e b : Tree) → Sound look e → Sound look b → Sound look (with_stmt s e b)
  with_on s e b f g c ts r h st = ok ▸ ok ▸ ok ▸ maybe _ _ ▸ in_parens_fine (parens e f c h.0 h.1 h.3 Alone) ▸ g _ _ _ h.4.1 Alone ▸ closing_fine look b

  pub labelled : (s : Span) (l b : Tree) → Sound look l → Sound look b → Sound look (labeled_stmt s l b)
  labelled s l b f g c ts r h st = ok ▸ f _ _ _ h.2.1 Alone ▸ ok ▸ maybe _ _ ▸ g _ _ _ h.4.1 Alone ▸ closing_fine look b

  pub case_on : (s : Span) (t : Tree) (ss : Trees) → Sound look t → AllSound look ss → Sound look (switch_case s t ss)
  case_on s t ss f a c ts r h st =
      ok ▸ if_fine _ (ok ▸ maybe _ _ ▸ maybe_good look _ t h.2 (λ z. f _ _ _ z.2.1) Alone) ok ▸ ok
      ▸ when_fine _ (maybe _ _ ▸ maybe _ _ ▸ rows_fine look true ss (items look is_item ClosesCase c false ss a h.1 r h.4) ▸ maybe _ _)

  cases : (had : Bool) (xs : Trees) → AllSound look xs → (c : Code) (ts r : Input) → Cases c had (children xs) ts r → AllGood look xs
  cases had none a c ts r h = tt
  cases had (more x xs) a c ts r h = (a.0 _ _ _ h.2.1, cases (had || is_default_case x) xs a.1 c h.0 r h.3)

  pub switch_on : (s : Span) (e : Tree) (xs : Trees) → Sound look e → AllSound look xs → Sound look (switch_stmt s e xs)
  switch_on s e xs f a c ts r h st =
      ok ▸ ok ▸ ok ▸ in_parens_fine (parens e f c h.0 h.1 h.4 Alone) ▸ ok ▸ indented_or_line_fine look xs (rows_fine look false xs (cases false xs a c h.2 r h.6)) ▸ ok ▸ ok

  -- ---- 14.15

  pub catch_on : (s : Span) (p b : Tree) → Sound look p → Sound look b → Sound look (catch_clause s p b)
  catch_on s p b f g c ts r h st = ok ▸ ok ▸ maybe _ _ ▸ when_fine _ (in_parens_fine (maybe_good look _ p h.3 (λ z. f _ _ _ z.4) Alone)) ▸ maybe _ _ ▸ g _ _ _ h.4.1 Alone

  pub try_on : (s : Span) (b k f : Tree) → Sound look b → Sound look k → Sound look f → Sound look (try_stmt s b k f)
  try_on s b k f p q o c ts r h st =
      ok ▸ ok ▸ ok ▸ maybe _ _ ▸ p _ _ _ h.5.1 Alone ▸ when_fine _ (maybe _ _ ▸ maybe_good look _ k h.6 (λ z. q _ _ _ z.1) Alone)
      ▸ when_fine _ (maybe _ _ ▸ ok ▸ maybe_good look _ f h.7 (λ z. o _ _ _ z.2.1) Alone)

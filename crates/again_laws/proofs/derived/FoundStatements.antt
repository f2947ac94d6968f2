-- Statements that are derived from known tokens are read from these.
use Rattle.std.proofs.Common.{◌≡◌, ◌⊎◌, inl, inr, ℕ, Bool, true, false, ◌||◌, refl}
use Rattle.std.specs.Prelude.{nat_le}
use Rattle.base_token.specs.declared.place.Span.{Span}
use Rattle.base_token.specs.Kinds.{semicolon_kind}
use Rattle.tree_spec.specs.Tree.{Tree, Trees, none, more, block_stmt, debugger_stmt, with_stmt, return_stmt, labeled_stmt, break_stmt, continue_stmt, if_stmt, switch_stmt, switch_case, throw_stmt, try_stmt, catch_clause, while_stmt, do_while_stmt, for_stmt, for_in_stmt, for_of_stmt, expr_stmt, var_decl, using_decl, var_declarator}
use Rattle.grammar_spec.specs.Tokens.Input.{Input, Code, Takes, without_in}
use Rattle.grammar_spec.specs.Tokens.Shape.{is_absent, is_binding, is_statement, is_case, is_block, is_item, is_declarator, is_catch, is_default_case}
use Rattle.grammar_spec.specs.Tokens.Operators.{assignment_level, expression_level}
use Rattle.grammar_spec.specs.Children.{child, Expr, Sorted, is_ident}
use Rattle.grammar_spec.specs.Statements.{ClosesBlock, ClosesCase, InParens, Bindings, UsingBindings, Clause, ForRest, ForOpen, ForAwaitOpen, Over, HeadVariables, HeadUsing, HeadTarget, OfTarget, Cases, ForExpression, ForIn, ForOf, Jump}
use Rattle.grammar_spec.specs.Grammar.{Produces, children}
use Rattle.again_laws.specs.Derived.Redo.{Mode, Plain}
use Rattle.again_laws.specs.Derived.Every.{every}
use Rattle.again_laws.specs.Derived.Read.{Knowledge, Read}
use Rattle.again_laws.proofs.derived.FoundParts.{Fine, AllFine, Found, AllFound, took, word, at, ended, whole_test, whole_level, whole_place, whole_sub, expr, sorted, choice, maybe, joined, items, closes}

module _ (know : Knowledge) where
  -- ---- statements

  pub parens : (c : Code) (e : Tree) → Found know e → (ts r : Input) → InParens c (child e (λ y. Produces e y)) ts r → know.Known ts.places → Fine know Plain e r
  parens c e f ts r h l = let y = f Plain refl (whole_level know expression_level e refl h.3.0) _ h.0 h.1 h.3.1 (took know c _ ts h.0 h.2 l) in (y.0, took know c _ h.1 r h.4 y.1)

  pub block_found : (s : Span) (ss : Trees) → AllFound know ss → Found know (block_stmt s ss)
  block_found s ss a mode n whole c ts r h l = let z = items know is_item (λ s b w u. refl) ClosesBlock (closes know) c false ss a h.0 r h.2 (took know c _ ts h.0 h.1 l) in ((tt, z.0), z.1)

  pub bindings : (c : Code) (k : ℕ) (ds : Trees) → AllFound know ds → (ts r : Input) → Bindings c k (children ds) ts r → know.Known ts.places → AllFine know Plain ds r
  bindings c k ds a ts r h l = joined know _ (sorted know is_declarator (λ s b w u. refl) c) c ds a h.0 r h.3 (word know c k ts h.0 h.2 l)

  pub using_bindings : (c : Code) (w : Bool) (ds : Trees) → AllFound know ds → (ts r : Input) → UsingBindings c w (children ds) ts r → know.Known ts.places → AllFine know Plain ds r
  using_bindings c false ds a ts r h l = joined know _ (sorted know is_declarator (λ s b w u. refl) c) c ds a h.0 r h.5 (word know c _ ts h.0 h.2 l)
  using_bindings c true ds a ts r h l = joined know _ (sorted know is_declarator (λ s b w u. refl) c) c ds a h.1 r h.9 (word know c _ h.0 h.1 h.6 (word know c _ ts h.0 h.4 l))

  pub variables_found : (s : Span) (k : ℕ) (ds : Trees) → AllFound know ds → Found know (var_decl s k ds)
  variables_found s k ds a mode n whole c ts r h l = let z = bindings c k ds a ts h.0 h.1 l in ((tt, z.0), ended know c _ _ h.0 r h.2 z.1)

  pub using_found : (s : Span) (w : Bool) (ds : Trees) → AllFound know ds → Found know (using_decl s w ds)
  using_found s w ds a mode n whole c ts r h l = let z = using_bindings c w ds a ts h.0 h.1 l in ((tt, z.0), ended know c _ _ h.0 r h.2 z.1)

  pub declarator_found : (s : Span) (k e : Tree) → Found know k → Found know e → Found know (var_declarator s k e)
  declarator_found s k e f g mode n whole c ts r h l =
      let y = f Plain refl (whole_test know is_binding k (λ s b w u. refl) h.1) _ ts h.0 h.2 l in let v = choice know (is_absent e) e refl _ _ r h.3 (λ i. at know h.0 r i y.1) (λ i. g Plain refl (whole_level know assignment_level e refl i.2.0) _ i.0 r i.2.1 (took know c _ h.0 i.0 i.1 y.1)) in ((tt, y.0, v.0), v.1)

  pub statement_found : (s : Span) (e : Tree) → Found know e → Found know (expr_stmt s e)
  statement_found s e f mode n whole c ts r h l = let y = f Plain refl (whole_level know expression_level e refl h.2.0) _ ts h.0 h.2.1 l in ((tt, y.0), ended know c _ _ h.0 r h.3 y.1)

  pub debugger_found : (s : Span) → Found know (debugger_stmt s)
  debugger_found s mode n whole c ts r h l = (tt, ended know c _ _ h.0 r h.2 (word know c _ ts h.0 h.1 l))

  pub if_found : (s : Span) (t a b : Tree) → Found know t → Found know a → Found know b → Found know (if_stmt s t a b)
  if_found s t a b f g j mode n whole c ts r h l =
      let y = parens c t f h.0 h.1 h.4 (word know c _ ts h.0 h.3 l) in let z = g Plain refl (whole_sub know c a h.5.0) _ h.1 h.2 h.5.1 y.1 in
      let v = choice know (is_absent b) b refl _ _ r h.6 (λ e. at know h.2 r e.1 z.1) (λ e. j Plain refl (whole_sub know c b e.2.0) _ e.0 r e.2.1 (word know c _ h.2 e.0 e.1 z.1)) in ((tt, y.0, z.0, v.0), v.1)

  pub semicolon : (c : Code) (A : Type 0) (m r : Input) → Takes c semicolon_kind m r ⊎ (A × (m ≡ r)) → know.Known m.places → know.Known r.places
  semicolon c A m r (inl h) l = took know c _ m r h l
  semicolon c A m r (inr h) l = at know m r h.1 l

  pub do_while_found : (s : Span) (t b : Tree) → Found know t → Found know b → Found know (do_while_stmt s t b)
  do_while_found s t b f g mode n whole c ts r h l =
      let z = g Plain refl (whole_test know is_statement b (λ s b w u. refl) h.5.0) _ h.0 h.1 h.5.1 (word know c _ ts h.0 h.4 l) in let y = parens c t f h.2 h.3 h.7 (word know c _ h.1 h.2 h.6 z.1) in ((tt, y.0, z.0), semicolon c _ h.3 r h.8 y.1)

  pub while_found : (s : Span) (t b : Tree) → Found know t → Found know b → Found know (while_stmt s t b)
  while_found s t b f g mode n whole c ts r h l = let y = parens c t f h.0 h.1 h.3 (word know c _ ts h.0 h.2 l) in let z = g Plain refl (whole_test know is_statement b (λ s b w u. refl) h.4.0) _ h.1 r h.4.1 y.1 in ((tt, y.0, z.0), z.1)

  pub clause : (c : Code) (close : ℕ) (e : Tree) → Found know e → (ts r : Input) → Clause c close (child e (λ y. Produces e y)) ts r → know.Known ts.places → Fine know Plain e r
  clause c close e f ts r h l = let y = maybe know (Expr expression_level) c (expr know expression_level refl c) e f ts h.0 h.1 l in (y.0, took know c close h.0 r h.2 y.1)

  pub for_rest : (c : Code) (t u b : Tree) → Found know t → Found know u → Found know b → (ts r : Input) → ForRest c (child t (λ y. Produces t y)) (child u (λ y. Produces u y)) (child b (λ y. Produces b y)) ts r → know.Known ts.places
      → every (Read know.Known) Plain t × every (Read know.Known) Plain u × every (Read know.Known) Plain b × know.Known r.places
  for_rest c t u b f g j ts r h l = let y = clause c _ t f ts h.0 h.2 l in let z = clause c _ u g h.0 h.1 h.3 y.1 in let v = j Plain refl (whole_test know is_statement b (λ s b w u. refl) h.4.0) _ h.1 r h.4.1 z.1 in (y.0, z.0, v.0, v.1)

  pub for_open : (c : Code) (ts r : Input) → ForOpen c ts r → know.Known ts.places → know.Known r.places
  for_open c ts r h l = took know c _ h.0 r h.2 (word know c _ ts h.0 h.1 l)

  pub for_await_open : (w : Bool) (c : Code) (ts r : Input) → ForAwaitOpen w c ts r → know.Known ts.places → know.Known r.places
  for_await_open false c ts r h l = for_open c ts r h l
  for_await_open true c ts r h l = took know c _ h.1 r h.5 (word know c _ h.0 h.1 h.4 (word know c _ ts h.0 h.3 l))

  pub for_expression_found : (s : Span) (i t u b : Tree) → Found know i → Found know t → Found know u → Found know b → (mode : Mode) (c : Code) (ts r : Input)
      → ForExpression c s (child i (λ y. Produces i y)) (child t (λ y. Produces t y)) (child u (λ y. Produces u y)) (child b (λ y. Produces b y)) ts r → know.Known ts.places → Fine know mode (for_stmt s i t u b) r
  for_expression_found s i t u b e f g j mode c ts r h l =
      let o = for_open c ts h.0 h.3 l in let x = choice know (is_absent i) i refl _ _ h.1 h.4 (λ k. at know h.0 h.1 k o) (λ k. e Plain refl (whole_level know expression_level i refl k.1.0) _ h.0 h.1 k.1.1 o) in
      let v = for_rest c t u b f g j h.2 r h.6 (took know c _ h.1 h.2 h.5 x.1) in ((tt, x.0, v.0, v.1, v.2), v.3)

  pub for_variables_found : (s p : Span) (k : ℕ) (ds : Trees) (t u b : Tree) → AllFound know ds → Found know t → Found know u → Found know b → Found know (for_stmt s (var_decl p k ds) t u b)
  for_variables_found s p k ds t u b a f g j mode n whole c ts r h l =
      let x = bindings _ k ds a h.0 h.1 h.4 (for_open c ts h.0 h.3 l) in let v = for_rest c t u b f g j h.2 r h.7 (took know c _ h.1 h.2 h.6 x.1) in ((tt, (tt, x.0), v.0, v.1, v.2), v.3)

  pub for_using_found : (s p : Span) (w : Bool) (ds : Trees) (t u b : Tree) → AllFound know ds → Found know t → Found know u → Found know b → Found know (for_stmt s (using_decl p w ds) t u b)
  for_using_found s p w ds t u b a f g j mode n whole c ts r h l =
      let x = using_bindings (without_in c) w ds a h.0 h.1 h.5 (for_open c ts h.0 h.3 l) in let v = for_rest c t u b f g j h.2 r h.8 (took know c _ h.1 h.2 h.7 x.1) in ((tt, (tt, x.0), v.0, v.1, v.2), v.3)

  pub over : (c : Code) (w k : ℕ) → nat_le 1 k ≡ true → (e b : Tree) → Found know e → Found know b → (ts r : Input) → Over c w k (child e (λ y. Produces e y)) (child b (λ y. Produces b y)) ts r → know.Known ts.places → every (Read know.Known) Plain e × every (Read know.Known) Plain b × know.Known r.places
  over c w k o e b f g ts r h l = let y = f Plain refl (whole_level know k e o h.4.0) _ h.0 h.1 h.4.1 (word know c w ts h.0 h.3 l) in let z = g Plain refl (whole_test know is_statement b (λ s b w u. refl) h.6.0) _ h.2 r h.6.1 (took know c _ h.1 h.2 h.5 y.1) in (y.0, z.0, z.1)

  -- what heads a loop over something
  abbrev pub Heads : Tree → (Code → Input → Input → Type 0) → Type 0
  Heads a Head = (c : Code) (ts r : Input) → Head c ts r → know.Known ts.places → Fine know Plain a r

  pub head_variables : (p : Span) (k : ℕ) (ds : Trees) → AllFound know ds → Heads (var_decl p k ds) (λ c m n. HeadVariables c p k (children ds) m n)
  head_variables p k ds a c ts r h l = let z = bindings _ k ds a ts r h.1 l in ((tt, z.0), z.1)

  pub head_using : (p : Span) (w : Bool) (ds : Trees) → AllFound know ds → Heads (using_decl p w ds) (λ c m n. HeadUsing c p w (children ds) m n)
  head_using p w ds a c ts r h l = let z = using_bindings (without_in c) w ds a ts r h.2 l in ((tt, z.0), z.1)

  pub head_target : (a : Tree) → Found know a → Heads a (λ c m n. HeadTarget c (child a (λ y. Produces a y)) m n)
  head_target a f c ts r h l = f Plain refl (whole_place know false a h.1) _ ts r h.2 l

  pub of_target : (w : Bool) (a : Tree) → Found know a → Heads a (λ c m n. OfTarget c w (child a (λ y. Produces a y)) m n)
  of_target w a f c ts r h l = head_target a f c ts r h.1 l

  pub for_in_found : (s : Span) (a e b : Tree) (Head : Code → Input → Input → Type 0) → Heads a Head → Found know e → Found know b → (mode : Mode) (c : Code) (ts r : Input)
      → ForIn c s (λ m n. Head c m n) (child e (λ y. Produces e y)) (child b (λ y. Produces b y)) ts r → know.Known ts.places → Fine know mode (for_in_stmt s a e b) r
  for_in_found s a e b Head d f g mode c ts r h l = let x = d c h.0 h.1 h.3 (for_open c ts h.0 h.2 l) in let v = over c _ expression_level refl e b f g h.1 r h.4 x.1 in ((tt, x.0, v.0, v.1), v.2)

  pub for_of_found : (s : Span) (w : Bool) (a e b : Tree) (Head : Code → Input → Input → Type 0) → Heads a Head → Found know e → Found know b → (mode : Mode) (c : Code) (ts r : Input)
      → ForOf c s w (λ m n. Head c m n) (child e (λ y. Produces e y)) (child b (λ y. Produces b y)) ts r → know.Known ts.places → Fine know mode (for_of_stmt s w a e b) r
  for_of_found s w a e b Head d f g mode c ts r h l = let x = d c h.0 h.1 h.3 (for_await_open w c ts h.0 h.2 l) in let v = over c _ assignment_level refl e b f g h.1 r h.4 x.1 in ((tt, x.0, v.0, v.1), v.2)

  -- a word know, what may stand on its line, and the end
  pub jump : (w : ℕ) (s : Span) (k : Tree) → Found know k → (c : Code) (ts r : Input) → Jump w c s (child k (λ y. Produces k y)) ts r → know.Known ts.places → Fine know Plain k r
  jump w s k f c ts r h l = let o = word know c w ts h.0 h.2 l in let y = choice know (is_absent k) k refl _ _ h.1 h.3 (λ i. at know h.0 h.1 i o) (λ i. f Plain refl (whole_test know is_ident k (λ s b w u. refl) i.1.0) _ h.0 h.1 i.1.1 o) in (y.0, ended know c _ _ h.1 r h.4 y.1)

  pub break_found : (s : Span) (k : Tree) → Found know k → Found know (break_stmt s k)
  break_found s k f mode n whole c ts r h l = let y = jump _ s k f c ts r h l in ((tt, y.0), y.1)

  pub continue_found : (s : Span) (k : Tree) → Found know k → Found know (continue_stmt s k)
  continue_found s k f mode n whole c ts r h l = let y = jump _ s k f c ts r h l in ((tt, y.0), y.1)

  pub return_found : (s : Span) (e : Tree) → Found know e → Found know (return_stmt s e)
  return_found s e f mode n whole c ts r h l =
      let o = word know c _ ts h.0 h.1 l in let v = choice know (is_absent e) e refl _ _ r h.2 (λ i. ended know c _ _ h.0 r i o) (λ i. let y = f Plain refl (whole_level know expression_level e refl i.2.0) _ h.0 i.0 i.2.1 o in (y.0, ended know c _ _ i.0 r i.3 y.1)) in ((tt, v.0), v.1)

  pub throw_found : (s : Span) (e : Tree) → Found know e → Found know (throw_stmt s e)
  throw_found s e f mode n whole c ts r h l = let y = f Plain refl (whole_level know expression_level e refl h.4.0) _ h.0 h.1 h.4.1 (word know c _ ts h.0 h.2 l) in ((tt, y.0), ended know c _ _ h.1 r h.5 y.1)

  pub with_found : (s : Span) (e b : Tree) → Found know e → Found know b → Found know (with_stmt s e b)
  with_found s e b f g mode n whole c ts r h l = let y = parens c e f h.0 h.1 h.3 (word know c _ ts h.0 h.2 l) in let z = g Plain refl (whole_test know is_statement b (λ s b w u. refl) h.4.0) _ h.1 r h.4.1 y.1 in ((tt, y.0, z.0), z.1)

  pub labelled_found : (s : Span) (k b : Tree) → Found know k → Found know b → Found know (labeled_stmt s k b)
  labelled_found s k b f g mode n whole c ts r h l = let y = f Plain refl (whole_test know is_ident k (λ s b w u. refl) h.2.0) _ ts h.0 h.2.1 l in let z = g Plain refl (whole_sub know c b h.4.0) _ h.1 r h.4.1 (took know c _ h.0 h.1 h.3 y.1) in ((tt, y.0, z.0), z.1)

  pub closes_case : (c : Code) (m r : Input) → ClosesCase c m r → know.Known m.places → know.Known r.places
  closes_case c m r h l = at know m r h.1 l

  pub case_found : (s : Span) (t : Tree) (ss : Trees) → Found know t → AllFound know ss → Found know (switch_case s t ss)
  case_found s t ss f a mode n whole c ts r h l =
      let y = choice know (is_absent t) t refl _ _ h.0 h.2 (λ i. word know c _ ts h.0 i l) (λ i. f Plain refl (whole_level know expression_level t refl i.2.0) _ i.0 h.0 i.2.1 (word know c _ ts i.0 i.1 l)) in
      let z = items know is_item (λ s b w u. refl) ClosesCase closes_case c false ss a h.1 r h.4 (took know c _ h.0 h.1 h.3 y.1) in ((tt, y.0, z.0), z.1)

  pub cases_found : (c : Code) (had : Bool) (xs : Trees) → AllFound know xs → (ts r : Input) → Cases c had (children xs) ts r → know.Known ts.places → AllFine know Plain xs r
  cases_found c had none a ts r h l = (tt, took know c _ ts r h l)
  cases_found c had (more t us) a ts r h l = let y = a.0 Plain refl (whole_test know is_case t (λ s b w u. refl) h.2.0) _ ts h.0 h.2.1 l in let z = cases_found c (had || is_default_case t) us a.1 h.0 r h.3 y.1 in ((y.0, z.0), z.1)

  pub switch_found : (s : Span) (e : Tree) (xs : Trees) → Found know e → AllFound know xs → Found know (switch_stmt s e xs)
  switch_found s e xs f a mode n whole c ts r h l = let y = parens c e f h.0 h.1 h.4 (word know c _ ts h.0 h.3 l) in let z = cases_found c false xs a h.2 r h.6 (took know c _ h.1 h.2 h.5 y.1) in ((tt, y.0, z.0), z.1)

  pub catch_found : (s : Span) (p b : Tree) → Found know p → Found know b → Found know (catch_clause s p b)
  catch_found s p b f g mode n whole c ts r h l =
      let o = word know c _ ts h.0 h.2 l in
      let y = choice know (is_absent p) p refl _ _ h.1 h.3 (λ i. at know h.0 h.1 i o) (λ i. let v = f Plain refl (whole_test know is_binding p (λ s b w u. refl) i.3) _ i.0 i.1 i.4 (took know c _ h.0 i.0 i.2 o) in (v.0, took know c _ i.1 h.1 i.5 v.1)) in
      let z = g Plain refl (whole_test know is_block b (λ s b w u. refl) h.4.0) _ h.1 r h.4.1 y.1 in ((tt, y.0, z.0), z.1)

  pub try_found : (s : Span) (b k e : Tree) → Found know b → Found know k → Found know e → Found know (try_stmt s b k e)
  try_found s b k e f g j mode n whole c ts r h l =
      let y = f Plain refl (whole_test know is_block b (λ s b w u. refl) h.5.0) _ h.0 h.1 h.5.1 (word know c _ ts h.0 h.4 l) in let z = maybe know (Sorted is_catch) c (λ t i ts r h l. i Plain refl (whole_test know is_catch t (λ s b w u. refl) h.0) _ ts r h.1 l) k g h.1 h.2 h.6 y.1 in
      let v = choice know (is_absent e) e refl _ _ r h.7 (λ i. at know h.2 r i z.1) (λ i. j Plain refl (whole_test know is_block e (λ s b w u. refl) i.2.0) _ i.0 r i.2.1 (word know c _ h.2 i.0 i.1 z.1)) in ((tt, y.0, z.0, v.0), v.1)

-- Statements that produce tokens.
use Rattle.std.proofs.Common.{◌≡◌, ℕ, Bool, true, false, ◌||◌, refl, ap}
use Rattle.std.proofs.lemmas.Bool.{false≢true, and_right, or_left}
use Rattle.base_token.specs.declared.place.Span.{Span}
use Rattle.tree_spec.specs.Tree.{Tree, Trees, none, more, ident, absent, block_stmt, with_stmt, labeled_stmt, break_stmt, continue_stmt, switch_stmt, switch_case, throw_stmt, try_stmt, catch_clause, while_stmt, do_while_stmt, for_stmt, for_in_stmt, for_of_stmt, using_decl, var_decl, var_declarator}
use Rattle.grammar_spec.specs.Tokens.Input.{Input, Code, without_in}
use Rattle.grammar_spec.specs.Tokens.Shape.{is_block, is_case, is_catch, is_declarator, is_default_case, is_statement}
use Rattle.print_gaps.specs.Edges.{is_there}
use Rattle.grammar_spec.specs.Grammar.{Produces, children}
use Rattle.print_layout_spec.specs.declared.look.Look.{Look}
use Rattle.print_layout_spec.specs.declared.look.Stand.TheVariants.{Alone}
use Rattle.grammar_spec.specs.Children.{child, Sorted, Maybe, Commas}
use Rattle.grammar_spec.specs.Statements.{Sub, Bindings, UsingBindings, ForRest, ForExpression, ForIn, ForOf, HeadVariables, HeadUsing, HeadTarget, OfTarget, Cases, ClosesCase, ClosesBlock}
use Rattle.again_laws.specs.Tiling.Categories.{State, Worded}
use Rattle.again_laws.proofs.text.Admits.{admits, is_ended, is_nothing, is_free}
use Rattle.again_laws.proofs.text.Steps.{Steps}
use Rattle.again_laws.proofs.text.Forms.{Good, Sound, AllSound, maybe_good}
use Rattle.again_laws.proofs.text.Statements.{Item, all_items, sub_item}
use Rattle.again_laws.proofs.text.VariablesAndMethods.{declarator, variables_good, for_in_good}
use Rattle.again_laws.proofs.text.Patterns.{place_plain}
use Rattle.again_laws.proofs.text.Loops.{AllRows, var_text, break_node, continue_node, throw_node, label_node, while_node, with_node, do_node, for_node, for_of_node, using_node, case_node, switch_node, catch_on, try_node}
use Rattle.again_laws.proofs.text.GrammarToLayout.{by_there, assigned, bracketed_worded, all_declared, whole_test, Wholes, wholes_commas}

case_ended : (t : Tree) → is_case t ≡ true → is_ended t ≡ true
case_ended (switch_case s t ss) e = refl
case_ended _ e = absurd (false≢true e)

block_ended : (t : Tree) → is_block t ≡ true → is_ended t ≡ true
block_ended (block_stmt s ss) e = refl
block_ended _ e = absurd (false≢true e)

block_worded : (t : Tree) → is_block t ≡ true → admits Worded t ≡ true
block_worded (block_stmt s ss) e = refl
block_worded _ e = absurd (false≢true e)

var_plain : (p : Span) (k : ℕ) (ds : Trees) → (is_ended (var_decl p k ds) || is_nothing (var_decl p k ds)) ≡ false
var_plain p k ds = ap (λ b. b || false) (and_right _ false refl)

pub cases_whole : (c : Code) (had : Bool) (xs : Trees) (ts r : Input) → Cases c had (children xs) ts r → Wholes xs
cases_whole c had none ts r h = tt
cases_whole c had (more t xs) ts r h = (whole_test is_case (λ s t w u. refl) (λ s b l. refl) (λ s b l. refl) (λ s p b. refl) t h.2.0, cases_whole c (had || is_default_case t) xs h.0 r h.3)

declared_whole : (c : Code) (ds : Trees) (ts r : Input) → Commas (Sorted is_declarator c) c (children ds) ts r → Wholes ds
declared_whole c ds ts r h = wholes_commas (Sorted is_declarator c) (λ t m o k. whole_test is_declarator (λ s t w u. refl) (λ s b l. refl) (λ s b l. refl) (λ s p b. refl) t k.0) c ds ts r h

pub bindings_whole : (c : Code) (k : ℕ) (ds : Trees) (ts r : Input) → Bindings c k (children ds) ts r → Wholes ds
bindings_whole c k ds ts r h = declared_whole c ds _ _ h.3

pub using_whole : (c : Code) (w : Bool) (ds : Trees) (ts r : Input) → UsingBindings c w (children ds) ts r → Wholes ds
using_whole c false ds ts r h = declared_whole c ds _ _ h.5
using_whole c true ds ts r h = declared_whole c ds _ _ h.9

module _ (look : Look) where
  sub : (c : Code) (b : Tree) → Sound look b → (m n : Input) → Sub c (child b (λ y. Produces b y)) m n → Item look b
  sub c b g m n h = (g _ _ _ h.1, or_left (is_statement b) _ h.0)

  pub do_while : (s : Span) (t b : Tree) → Sound look t → Sound look b → Sound look (do_while_stmt s t b)
  do_while s t b f g c ts r h = do_node look s t b (f _ _ _ h.7.3.1) (sub c b g _ _ h.5)

  pub while_on : (s : Span) (t b : Tree) → Sound look t → Sound look b → Sound look (while_stmt s t b)
  while_on s t b f g c ts r h = while_node look s t b (f _ _ _ h.3.3.1) (sub c b g _ _ h.4)

  pub with_on : (s : Span) (t b : Tree) → Sound look t → Sound look b → Sound look (with_stmt s t b)
  with_on s t b f g c ts r h = with_node look s t b (f _ _ _ h.3.3.1) (sub c b g _ _ h.4)

  pub labelled : (s : Span) (l b : Tree) → Sound look l → Sound look b → Sound look (labeled_stmt s l b)
  labelled s (ident t n) b f g c ts r h = label_node look s t n b (f c ts h.0 h.2.1) (g _ _ _ h.4.1, sub_item look c b h.4.0)
  labelled s _ b f g c ts r h = absurd (false≢true h.2.0)

  pub throw_on : (s : Span) (e : Tree) → Sound look e → Sound look (throw_stmt s e)
  throw_on s e f c ts r h = throw_node look s e (f _ _ _ h.4.1) h.4.0

  pub break_on : (s : Span) (l : Tree) → Sound look l → Sound look (break_stmt s l)
  break_on s l f c ts r h = break_node look s l (λ i. f _ _ _ (by_there l _ _ h.3 i).1.1)

  pub continue_on : (s : Span) (l : Tree) → Sound look l → Sound look (continue_stmt s l)
  continue_on s l f c ts r h = continue_node look s l (λ i. f _ _ _ (by_there l _ _ h.3 i).1.1)

  pub declared_by : (s : Span) (n e : Tree) → Sound look n → Sound look e → Sound look (var_declarator s n e)
  declared_by s n e f g c ts r h = declarator look s n e (f _ _ _ h.2) h.1 (λ i. let q = by_there e _ _ h.3 i in (g _ _ _ q.2.1, assigned e q.2.0))

  bindings_good : (p : Span) (k : ℕ) (ds : Trees) → AllSound look ds → (c : Code) (ts r : Input) → Bindings c k (children ds) ts r → Good look (var_decl p k ds)
  bindings_good p k none a c ts r h = absurd h.3
  bindings_good p k (more t ds) a c ts r h = variables_good look p k t ds (var_text k h.1) (all_declared look c t ds a _ _ h.3) (bracketed_worded t ds)

  pub variables : (p : Span) (k : ℕ) (ds : Trees) → AllSound look ds → Sound look (var_decl p k ds)
  variables p k ds a c ts r h = bindings_good p k ds a c ts h.0 h.1

  using_good : (p : Span) (w : Bool) (ds : Trees) → AllSound look ds → (c : Code) (ts r : Input) → UsingBindings c w (children ds) ts r → Good look (using_decl p w ds)
  using_good p false none a c ts r h = absurd h.5
  using_good p true none a c ts r h = absurd h.9
  using_good p false (more t ds) a c ts r h = using_node look p false t ds (all_declared look c t ds a _ _ h.5)
  using_good p true (more t ds) a c ts r h = using_node look p true t ds (all_declared look c t ds a _ _ h.9)

  pub using_on : (p : Span) (w : Bool) (ds : Trees) → AllSound look ds → Sound look (using_decl p w ds)
  using_on p w ds a c ts r h = using_good p w ds a c ts h.0 h.1

  -- ---- `for`

  for_good : (s : Span) (i t u b : Tree) → Good look i → Sound look t → Sound look u → Sound look b → (c : Code) (ts r : Input) → ForRest c (child t (λ y. Produces t y)) (child u (λ y. Produces u y)) (child b (λ y. Produces b y)) ts r → Good look (for_stmt s i t u b)
  for_good s i t u b e f g k c ts r h = for_node look s i t u b e (λ x. f _ _ _ (by_there t _ _ h.2.1 x).1) (λ x. g _ _ _ (by_there u _ _ h.3.1 x).1) (sub c b k _ _ h.4)

  pub for_expression : (s : Span) (i t u b : Tree) → Sound look i → Sound look t → Sound look u → Sound look b → (c : Code) (ts r : Input)
      → ForExpression c s (child i (λ y. Produces i y)) (child t (λ y. Produces t y)) (child u (λ y. Produces u y)) (child b (λ y. Produces b y)) ts r → Good look (for_stmt s i t u b)
  for_expression s i t u b e f g k c ts r h = for_good s i t u b (maybe_good look _ i h.4 (λ q. e _ _ _ q.1.1)) f g k c _ _ h.6

  pub for_variables : (s v : Span) (k : ℕ) (ds : Trees) (t u b : Tree) → AllSound look ds → Sound look t → Sound look u → Sound look b → Sound look (for_stmt s (var_decl v k ds) t u b)
  for_variables s v k ds t u b a f g j c ts r h = for_good s (var_decl v k ds) t u b (bindings_good v k ds a (without_in c) h.0 h.1 h.4) f g j c _ _ h.7

  pub for_using : (s v : Span) (w : Bool) (ds : Trees) (t u b : Tree) → AllSound look ds → Sound look t → Sound look u → Sound look b → Sound look (for_stmt s (using_decl v w ds) t u b)
  for_using s v w ds t u b a f g j c ts r h = for_good s (using_decl v w ds) t u b (using_good v w ds a (without_in c) h.0 h.1 h.5) f g j c _ _ h.8

  -- what heads a loop over something
  abbrev pub Heads : Tree → (Input → Input → Type 0) → Type 0
  Heads a Head = (ts r : Input) → Head ts r → Good look a × ((is_ended a || is_nothing a) ≡ false)

  pub head_variables : (v : Span) (k : ℕ) (ds : Trees) → AllSound look ds → (c : Code) → Heads (var_decl v k ds) (λ m n. HeadVariables c v k (children ds) m n)
  head_variables v k ds a c ts r h = (bindings_good v k ds a (without_in c) ts r h.1, var_plain v k ds)

  pub head_using : (v : Span) (w : Bool) (ds : Trees) → AllSound look ds → (c : Code) → Heads (using_decl v w ds) (λ m n. HeadUsing c v w (children ds) m n)
  head_using v w ds a c ts r h = (using_good v w ds a (without_in c) ts r h.2, refl)

  pub head_target : (a : Tree) → Sound look a → (c : Code) → Heads a (λ m n. HeadTarget c (child a (λ y. Produces a y)) m n)
  head_target a f c ts r h = (f _ _ _ h.2, (place_plain false a h.1).plain)

  pub of_target : (w : Bool) (a : Tree) → Sound look a → (c : Code) → Heads a (λ m n. OfTarget c w (child a (λ y. Produces a y)) m n)
  of_target w a f c ts r h = head_target a f c ts r h.1

  pub for_in : (s : Span) (a e b : Tree) (c : Code) (Head : Input → Input → Type 0) → Heads a Head → Sound look e → Sound look b → (ts r : Input)
      → ForIn c s Head (child e (λ y. Produces e y)) (child b (λ y. Produces b y)) ts r → Good look (for_in_stmt s a e b)
  for_in s a e b c Head d f g ts r h = let x = d _ _ h.3 in for_in_good look s a e b x.0 x.1 (f _ _ _ h.4.4.1) h.4.4.0 (sub c b g _ _ h.4.6)

  pub for_of : (s : Span) (w : Bool) (a e b : Tree) (c : Code) (Head : Input → Input → Type 0) → Heads a Head → Sound look e → Sound look b → (ts r : Input)
      → ForOf c s w Head (child e (λ y. Produces e y)) (child b (λ y. Produces b y)) ts r → Good look (for_of_stmt s w a e b)
  for_of s w a e b c Head d f g ts r h = let x = d _ _ h.3 in for_of_node look s w a e b x.0 x.1 (f _ _ _ h.4.4.1) (assigned e h.4.4.0) (sub c b g _ _ h.4.6)

  -- ---- `switch` and `try`

  pub case_on : (s : Span) (t : Tree) (ss : Trees) → Sound look t → AllSound look ss → Sound look (switch_case s t ss)
  case_on s t ss f a c ts r h = case_node look s t ss (λ i. let q = by_there t _ _ h.2 i in (f _ _ _ q.2.1, q.2.0)) (all_items look ClosesCase c false ss a _ _ h.4)

  cases : (c : Code) (had : Bool) (xs : Trees) → AllSound look xs → (ts r : Input) → Cases c had (children xs) ts r → AllRows look xs
  cases c had none a ts r h = tt
  cases c had (more t xs) a ts r h = ((a.0 _ _ _ h.2.1, case_ended t h.2.0), cases c (had || is_default_case t) xs a.1 _ _ h.3)

  pub switch_on : (s : Span) (e : Tree) (xs : Trees) → Sound look e → AllSound look xs → Sound look (switch_stmt s e xs)
  switch_on s e xs f a c ts r h = switch_node look s e xs (f _ _ _ h.4.3.1) (cases c false xs a _ _ h.6)

  -- the statements of a block, and a handler
  abbrev pub Held : Tree → Type 0
  Held (block_stmt b ss) = AllSound look ss
  Held (catch_clause s p (block_stmt b ss)) = Sound look p × AllSound look ss
  Held _ = Unit {0}

  handler_on : (k : Tree) → Held k → (c : Code) (ts r : Input) → Maybe (Sorted is_catch) c (child k (λ y. Produces k y)) ts r → is_there k ≡ true → (s : State) → is_free s ≡ true → Steps (Rattle.print_layout_spec.specs.Layout.laid look Alone k) s (λ u. is_free u ≡ true)
  handler_on absent d c ts r h i s g = absurd (false≢true i)
  handler_on (catch_clause cp p (block_stmt b ss)) d c ts r h i s g = catch_on look cp p b ss (λ z. d.0 _ _ _ (by_there p _ _ h.1.3 z).4) (all_items look ClosesBlock _ false ss d.1 _ _ h.1.4.1.2) s g
  handler_on (catch_clause cp p _) d c ts r h i s g = absurd (false≢true h.1.4.0)
  handler_on _ d c ts r h i s g = absurd (false≢true h.0)

  pub try_on : (s : Span) (b k f : Tree) → Held b → Held k → Sound look f → Sound look (try_stmt s b k f)
  try_on s (block_stmt b ss) k f d e g c ts r h =
      try_node look s b ss k f (all_items look ClosesBlock _ false ss d _ _ h.5.1.2) (handler_on k e c _ _ h.6) (λ i. let q = by_there f _ _ h.7 i in (g _ _ _ q.2.1, block_ended f q.2.0, block_worded f q.2.0))
  try_on s _ k f d e g c ts r h = absurd (false≢true h.5.0)

-- Functions and classes that produce tokens can be printed.
use Rattle.std.proofs.Common.{◌==◌, inl, inr, ℕ, Bool, true, false}
use Rattle.std.proofs.lemmas.Option.{none-some}
use Rattle.base_token.specs.declared.place.Span.{Span}
use Rattle.base_token.specs.Kinds.{right_paren_kind}
use Rattle.tree_spec.specs.Tree.{Tree, Trees, none, more, plain_method, block_stmt, function, param, class, constructor, class_method, private_method, class_prop, private_prop, static_block, auto_accessor, fn_decl, class_decl, fn_expr, class_expr, arrow_expr, getter_prop, setter_prop, method_prop}
use Rattle.grammar_spec.specs.Tokens.Input.{Input, Code}
use Rattle.grammar_spec.specs.Tokens.Shape.{is_item, is_param, count_of}
use Rattle.grammar_spec.specs.Children.{child, IsEmpty}
use Rattle.grammar_spec.specs.Functions.{Parameters, SetParameter, Body, Closes, ArrowPattern, BareName, ArrowParameters, ArrowExpression, Method, Members}
use Rattle.grammar_spec.specs.Grammar.{Produces, children}
use Rattle.print_layout_spec.specs.declared.look.Look.{Look}
use Rattle.print_layout_spec.specs.declared.look.Stand.TheVariants.{Alone, Body as BodyState, Key}
use Rattle.print_layout_laws.proofs.Fine.{◌▸◌, ok, when_fine, if_fine, maybe, in_parens_fine, marks_fine, function_tail_fine, indented_fine, initial_fine, field_value_fine, after_static_fine, method_start_fine, class_head_fine, class_tail_fine}
use Rattle.print_layout_laws.proofs.PrintedLists.{Good, AllGood, rows_fine, commas_fine, each_fine}
use Rattle.print_layout_laws.proofs.Forms.{Sound, AllSound, either, maybe_good, none_good, listed, all_sorted, items}

module _ (look : Look) where
  -- what is printed of a function and of a class by the node that holds it
  abbrev pub Inner : Tree → Type 0
  Inner (function at ps ds body g w) = AllGood look ps × Good look body × IsEmpty (children ds)
  Inner (class at ds ms p) = IsEmpty (children ds) × AllGood look ms × Good look p
  Inner _ = Unit {0}

  abbrev pub InnerSound : Tree → Type 0
  InnerSound t = (c : Code) (ts r : Input) → Produces t c ts r → Inner t

  -- ---- 15.1, 15.2 parameters and bodies

  pub block_good : (b : Span) (ss : Trees) → AllGood look ss → Good look (block_stmt b ss)
  block_good b ss a st = maybe _ _ ▸ ok ▸ indented_fine look ss (rows_fine look true ss a) ▸ ok ▸ ok

  pub body_good : (b : Span) (ss : Trees) → AllSound look ss → (c : Code) (ts r : Input) → Body c b (children ss) ts r → Good look (block_stmt b ss)
  body_good b ss a c ts r h = block_good b ss (items look is_item Closes c true ss a h.0 r h.2)

  pub parameter : (s : Span) (ds : Trees) (p : Tree) → Sound look p → Sound look (param s ds p)
  parameter s ds p f c ts r h st = ok ▸ each_fine look ds h.0 ▸ f _ _ _ h.2 Alone ▸ ok

  parameters : (ps : Trees) → AllSound look ps → (c : Code) (ts r : Input) → Parameters c (children ps) ts r → AllGood look ps
  parameters ps a c ts r h = all_sorted look is_param false c right_paren_kind ps a h.0 r h.2

  set_parameter : (ps : Trees) → AllSound look ps → (c : Code) (ts r : Input) → SetParameter c (children ps) ts r → AllGood look ps
  set_parameter none a c ts r h = absurd h
  set_parameter (more p ps) a c ts r h = (a.0 _ _ _ h.5.1, none_good look ps h.2)

  pub function_inner : (at : Span) (ps ds : Trees) (b : Span) (ss : Trees) (g w : Bool) → AllSound look ps → AllSound look ss → InnerSound (function at ps ds (block_stmt b ss) g w)
  function_inner at ps ds b ss g w k l c ts r h = (either c.sets h.2 (λ e z. set_parameter ps k _ ts h.0 z) (λ e z. parameters ps k _ ts h.0 z), body_good b ss l _ h.0 r h.3, h.1)

  pub function_good : (at : Span) (ps ds : Trees) (body : Tree) (g w : Bool) → InnerSound (function at ps ds body g w) → Sound look (function at ps ds body g w)
  function_good at ps ds body g w f c ts r h st = let z = f c ts r h in function_tail_fine look (commas_fine look ps z.0) (z.1 BodyState)

  pub function_declared : (s : Span) (n f : Tree) → Sound look n → InnerSound f → Sound look (fn_decl s n f)
  function_declared s n (function at ps ds body g w) p q c ts r h st = let z = q _ _ _ h.4 in
      ok ▸ ok ▸ when_fine _ (ok ▸ ok) ▸ ok ▸ if_fine _ (ok ▸ maybe _ _) ok ▸ p _ _ _ h.3.1 Alone ▸ function_tail_fine look (commas_fine look ps z.0) (z.1 BodyState)
  function_declared s n _ p q c ts r h st = absurd h

  pub function_expressed : (s : Span) (n f : Tree) → Sound look n → InnerSound f → Sound look (fn_expr s n f)
  function_expressed s n (function at ps ds body g w) p q c ts r h st = let z = q _ _ _ h.4 in
      ok ▸ ok ▸ when_fine _ (ok ▸ ok) ▸ ok ▸ maybe _ _ ▸ when_fine _ (ok ▸ maybe_good look _ n h.3 (λ k. p _ _ _ k.1) Alone) ▸ function_tail_fine look (commas_fine look ps z.0) (z.1 BodyState)
  function_expressed s n _ p q c ts r h st = absurd h

  -- ---- 15.3, 15.9 arrows

  arrow_parameters : (ps : Trees) → AllSound look ps → (c : Code) (ts r : Input) → ArrowParameters c (children ps) ts r → AllGood look ps
  arrow_parameters ps a c ts r (inl h) = bare ps a h
    where
      bare : (ps : Trees) → AllSound look ps → BareName c (children ps) ts r → AllGood look ps
      bare none a h = absurd h
      bare (more p ps) a h = (a.0 _ _ _ h.1.1, none_good look ps h.0)
  arrow_parameters ps a c ts r (inr h) = listed look (ArrowPattern c) (λ t f m n k. f _ _ _ k.1) false c right_paren_kind ps a h.0 r h.2

  arrow_good : (s : Span) (ps : Trees) (e : Tree) (w : Bool) → AllGood look ps → Good look e → Good look (arrow_expr s ps e w)
  arrow_good s ps e w a f st = ok ▸ when_fine _ (ok ▸ maybe _ _) ▸ if_fine _ (commas_fine look ps a) (in_parens_fine (commas_fine look ps a)) ▸ ok ▸ if_fine _ (f BodyState) (maybe _ _ ▸ f Alone ▸ maybe _ _)

  pub arrow_block : (s : Span) (ps : Trees) (b : Span) (ss : Trees) (w : Bool) → AllSound look ps → AllSound look ss → Sound look (arrow_expr s ps (block_stmt b ss) w)
  arrow_block s ps b ss w a l c ts r h = arrow_good s ps (block_stmt b ss) w (arrow_parameters ps a c _ _ h.1.3) (body_good b ss l _ h.0 r h.2)

  pub arrow_expression : (s : Span) (ps : Trees) (e : Tree) (w : Bool) → AllSound look ps → Sound look e → (c : Code) (ts r : Input) → ArrowExpression c s (children ps) (child e (λ y. Produces e y)) w ts r → Good look (arrow_expr s ps e w)
  arrow_expression s ps e w a f c ts r h = arrow_good s ps e w (arrow_parameters ps a c _ _ h.1.3) (f _ _ _ h.3.1)

  -- ---- 15.4 methods

  method : (n : ℕ) (k : Tree) (at : Span) (ps ds : Trees) (body : Tree) (g w : Bool) → Sound look k → InnerSound (function at ps ds body g w) → (c : Code) (ts r : Input)
      → Method c n (child k (λ y. Produces k y)) (record { span = at; generator = g; async = w; count = count_of ps }) (child (function at ps ds body g w) (λ y. Produces (function at ps ds body g w) y)) ts r
      → Good look k × Inner (function at ps ds body g w)
  method n k at ps ds body g w p q c ts r h = either (n == plain_method) h (λ e z. (p _ _ _ z.3, q _ _ _ z.4)) (λ e z. (p _ _ _ z.6, q _ _ _ z.7))

  pub object_method : (s : Span) (k f : Tree) → Sound look k → InnerSound f → Sound look (method_prop s k f)
  object_method s k (function at ps ds body g w) p q c ts r h st = let z = method plain_method k at ps ds body g w p q c ts r h.1 in
      ok ▸ marks_fine w g ▸ z.0 Key ▸ maybe _ _ ▸ function_tail_fine look (commas_fine look ps z.1.0) (z.1.1 BodyState)
  object_method s k _ p q c ts r h st = absurd h

  pub getter : (s : Span) (k : Tree) (b : Span) (ss : Trees) → Sound look k → AllSound look ss → Sound look (getter_prop s k (block_stmt b ss))
  getter s k b ss p l c ts r h st = ok ▸ ok ▸ if_fine _ (maybe _ _) ok ▸ p _ _ _ h.5.1 Key ▸ maybe _ _ ▸ ok ▸ ok ▸ maybe _ _ ▸ body_good b ss l _ h.3 r h.8 Alone

  pub setter : (s : Span) (k a : Tree) (b : Span) (ss : Trees) → Sound look k → Sound look a → AllSound look ss → Sound look (setter_prop s k a (block_stmt b ss))
  setter s k a b ss p q l c ts r h st = ok ▸ ok ▸ if_fine _ (maybe _ _) ok ▸ p _ _ _ h.6.1 Key ▸ maybe _ _ ▸ in_parens_fine (q _ _ _ h.10 Alone) ▸ body_good b ss l _ h.4 r h.12 Alone

  -- ---- 15.7 classes

  members : (ms : Trees) → AllSound look ms → (c : Code) (ts r : Input) → Members c (children ms) ts r → AllGood look ms
  members none a c ts r h = tt
  members (more m ms) a c ts r h = (a.0 _ _ _ h.1.1, members ms a.1 c h.0 r h.2)

  pub class_inner : (at : Span) (ds ms : Trees) (p : Tree) → AllSound look ms → Sound look p → InnerSound (class at ds ms p)
  class_inner at ds ms p a f c ts r h = (h.2, members ms a c h.1 r h.5, maybe_good look _ p h.3 (λ k. f _ _ _ k.2.1))

  pub class_good : (at : Span) (ds ms : Trees) (p : Tree) → InnerSound (class at ds ms p) → Sound look (class at ds ms p)
  class_good at ds ms p f c ts r h st = class_tail_fine look at ms (rows_fine look false ms (f c ts r h).1)

  pub class_declared : (s : Span) (n k : Tree) → Sound look n → InnerSound k → Sound look (class_decl s n k)
  class_declared s n (class at ds ms p) f g c ts r h st = let z = g _ _ _ h.4 in
      ok ▸ each_fine look ds z.0 ▸ class_head_fine look n p (f _ _ _ h.3.1 Alone) (z.2 Alone) ▸ class_tail_fine look at ms (rows_fine look false ms z.1)
  class_declared s n _ f g c ts r h st = absurd (none-some s h.5)

  pub class_expressed : (s : Span) (n k : Tree) → Sound look n → InnerSound k → Sound look (class_expr s n k)
  class_expressed s n (class at ds ms p) f g c ts r h st = let z = g _ _ _ h.4 in
      ok ▸ each_fine look ds z.0 ▸ class_head_fine look n p (maybe_good look _ n h.3 (λ k. f _ _ _ k.1) Alone) (z.2 Alone) ▸ class_tail_fine look at ms (rows_fine look false ms z.1)
  class_expressed s n _ f g c ts r h st = absurd (none-some s h.5)

  pub constructs : (s : Span) (k : Tree) (ps : Trees) (b : Span) (ss : Trees) → AllSound look ps → AllSound look ss → Sound look (constructor s k ps (block_stmt b ss))
  constructs s k ps b ss a l c ts r h st = ok ▸ ok ▸ in_parens_fine (commas_fine look ps (parameters ps a _ h.0 h.1 h.4)) ▸ body_good b ss l _ h.1 r h.5 Alone

  pub class_method_on : (s : Span) (k f : Tree) (n : ℕ) (i : Bool) → Sound look k → InnerSound f → Sound look (class_method s k f n i)
  class_method_on s k (function at ps ds body g w) n i p q c ts r h st = let z = method n k at ps ds body g w p q c h.0 r h.4 in
      ok ▸ each_fine look ds z.1.2 ▸ when_fine _ (ok ▸ after_static_fine look n g w k) ▸ method_start_fine look n g w k ▸ z.0 Key ▸ in_parens_fine (commas_fine look ps z.1.0) ▸ maybe _ _ ▸ z.1.1 Alone
  class_method_on s k _ n i p q c ts r h st = absurd h

  pub private_method_on : (s : Span) (k f : Tree) (n : ℕ) (i : Bool) → Sound look k → InnerSound f → Sound look (private_method s k f n i)
  private_method_on s k (function at ps ds body g w) n i p q c ts r h st = let z = method n k at ps ds body g w p q c h.0 r h.4 in
      ok ▸ when_fine _ (ok ▸ ok) ▸ if_fine (n == plain_method) (marks_fine w g) (ok ▸ ok) ▸ z.0 Key ▸ function_tail_fine look (commas_fine look ps z.1.0) (z.1.1 BodyState)
  private_method_on s k _ n i p q c ts r h st = absurd h

  pub field : (s : Span) (k v : Tree) (i : Bool) (ds : Trees) → Sound look k → Sound look v → Sound look (class_prop s k v i ds)
  field s k v i ds f g c ts r h st = ok ▸ each_fine look ds h.2 ▸ when_fine _ (ok ▸ ok) ▸ f _ _ _ h.5 Key ▸ field_value_fine look v (maybe_good look _ v h.6 (λ z. g _ _ _ z.3.1) Alone) ▸ ok ▸ ok

  pub private_field : (s : Span) (k v : Tree) (i : Bool) (ds : Trees) → Sound look k → Sound look v → Sound look (private_prop s k v i ds)
  private_field s k v i ds f g c ts r h st = ok ▸ each_fine look ds h.2 ▸ when_fine _ (ok ▸ ok) ▸ f _ _ _ h.5 Key ▸ field_value_fine look v (maybe_good look _ v h.6 (λ z. g _ _ _ z.3.1) Alone) ▸ ok ▸ ok

  pub accessor : (s : Span) (k v : Tree) (i : Bool) (ds : Trees) → Sound look k → Sound look v → Sound look (auto_accessor s k v i ds)
  accessor s k v i ds f g c ts r h st = each_fine look ds h.4 ▸ when_fine _ (ok ▸ ok) ▸ ok ▸ ok ▸ f _ _ _ h.8.1 Key ▸ initial_fine look v (maybe_good look _ v h.9 (λ z. g _ _ _ z.3.1) Alone) ▸ ok

  pub static_block_on : (s b : Span) (ss : Trees) → AllSound look ss → Sound look (static_block s (block_stmt b ss))
  static_block_on s b ss a c ts r h st = ok ▸ ok ▸ block_good b ss (items look is_item Closes _ false ss a h.1 r h.4) Alone ▸ ok

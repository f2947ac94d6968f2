-- Expressions and patterns that produce tokens can be printed.
use Rattle.std.proofs.Common.{◌≡◌, ◌+◌, ◌==◌, ℕ, Bool, true, false, Option, Some, None, refl, ap}
use Rattle.std.proofs.lemmas.Bool.{eq-eqb}
use Rattle.base_token.specs.declared.place.Span.{Span}
use Rattle.base_token.specs.Kinds.{right_paren_kind, right_bracket_kind, right_brace_kind}
use Rattle.tree_spec.specs.Tree.{Tree, Trees, none, more, array_lit, object_lit, unary_expr, update_expr, bin_expr, assign_expr, member_expr, super_prop_expr, cond_expr, call_expr, new_expr, seq_expr, tpl, tagged_tpl, yield_expr, await_expr, paren_expr, opt_chain_expr, opt_call, computed_prop_name, super, import, expr_or_spread, spread_element, key_value_prop, assign_prop, number_lit, array_pat, object_pat, rest_pat, assign_pat, key_value_pat_prop, assign_pat_prop, list, absent}
use Rattle.grammar_spec.specs.Tokens.Input.{Input, Code}
use Rattle.grammar_spec.specs.Tokens.Operators.{assignment_level}
use Rattle.grammar_spec.specs.Tokens.Shape.{is_element, is_prop}
use Rattle.grammar_spec.specs.Children.{child, IsEmpty, Expr}
use Rattle.grammar_spec.specs.Expressions.{Bracketed, TemplateSpans, TemplateLiteral, Dotted, AccessedName, Member, SuperProperty, Arguments, Call, ImportArguments, ChainMember, Yield}
use Rattle.grammar_spec.specs.Patterns.{Item, Property}
use Rattle.grammar_spec.specs.Grammar.{Produces, children}
use Rattle.print_layout_spec.specs.declared.look.Look.{Look}
use Rattle.print_layout_spec.specs.declared.look.Stand.TheVariants.{Alone, Operand, Head, Key, Tagged}
use Rattle.print_layout_spec.specs.Layout.{count}
use Rattle.print_layout_laws.proofs.Fine.{◌▸◌, ok, token, empty, when_fine, if_fine, then_fine, maybe, comma_fine, in_parens_fine, number_fine, number_before_fine, initial_fine, indented_fine}
use Rattle.print_layout_laws.proofs.PrintedLists.{Good, AllGood, commas_fine, lines_fine, template_fine}
use Rattle.print_layout_laws.proofs.Forms.{Sound, AllSound, either, maybe_good, none_good, listed, comma_then, all_sorted}

no_count : (ts : Trees) → IsEmpty (children ts) → count ts ≡ 0
no_count none h = refl
no_count (more t ts) h = absurd h

module _ (look : Look) where
  -- ---- 13.2 primary expressions

  pub element : (s : Span) (d : Option Span) (e : Tree) → Sound look e → Sound look (expr_or_spread s d e)
  element s None e f c ts r h st = empty ▸ f _ _ _ h.0.1 Alone
  element s (Some d) e f c ts r h st = ok ▸ f _ _ _ h.3.1 Alone

  pub array : (s : Span) (xs : Trees) → AllSound look xs → Sound look (array_lit s xs)
  array s xs a c ts r h st = ok ▸ ok ▸ indented_fine look xs (lines_fine look xs (all_sorted look is_element true c right_bracket_kind xs a _ _ h.2) ▸ when_fine _ (comma_fine look)) ▸ ok ▸ ok

  pub object : (s : Span) (xs : Trees) → AllSound look xs → Sound look (object_lit s xs)
  object s xs a c ts r h st = ok ▸ ok ▸ indented_fine look xs (lines_fine look xs (all_sorted look is_prop false c right_brace_kind xs a _ _ h.2)) ▸ ok ▸ ok

  pub property : (s : Span) (k v : Tree) → Sound look k → Sound look v → Sound look (key_value_prop s k v)
  property s k v f g c ts r h st = ok ▸ f _ _ _ h.2.1 Key ▸ ok ▸ maybe _ _ ▸ g _ _ _ h.4.1 Alone

  pub cover : (s : Span) (k e : Tree) → Sound look k → Sound look e → Sound look (assign_prop s k e)
  cover s k e f g c ts r h st = ok ▸ f _ _ _ h.2.1 Alone ▸ ok ▸ g _ _ _ h.4.1 Alone

  pub spread : (s : Span) (e : Tree) → Sound look e → Sound look (spread_element s e)
  spread s e f c ts r h st = ok ▸ ok ▸ f _ _ _ h.2.1 Alone ▸ ok

  pub bracketed : (l : ℕ) (s : Span) (e : Tree) → Sound look e → (c : Code) (ts r : Input) → Bracketed l c s (child e (λ y. Produces e y)) ts r → Good look (computed_prop_name s e)
  bracketed l s e f c ts r h st = ok ▸ ok ▸ f _ _ _ h.3.1 Alone ▸ ok ▸ ok

  pub parens : (s : Span) (e : Tree) → Sound look e → Sound look (paren_expr s e)
  parens s e f c ts r h st = ok ▸ ok ▸ ok ▸ f _ _ _ h.3.1 Alone ▸ ok ▸ ok

  -- as many texts as expressions, and one more
  template_spans : (tagged : Bool) (c : Code) (es qs : Trees) → AllSound look es → (ts r : Input) → TemplateSpans tagged c (children es) (children qs) ts r → AllGood look es × (count qs ≡ count es + 1)
  template_spans tagged c es none a ts r h = absurd h
  template_spans tagged c none (more q qs) a ts r h = (tt, ap (λ (n : ℕ). n + 1) (no_count qs h.1))
  template_spans tagged c (more e es) (more q qs) a ts r h = let z = template_spans tagged c es qs a.1 h.3 r h.10 in ((a.0 _ _ _ h.8.1, z.0), ap (λ (n : ℕ). n + 1) z.1)

  pub template : (tagged : Bool) (s : Span) (es qs : Trees) → AllSound look es → (c : Code) (ts r : Input) → TemplateLiteral tagged c s (children es) (children qs) ts r → Good look (tpl s es qs)
  template tagged s es qs a c ts r h st = let z = template_spans tagged c es qs a h.0 _ h.2 in
      then_fine _ (count qs == count es + 1) (eq-eqb (count qs) (count es + 1) z.1) (ok ▸ ok ▸ template_fine look st es qs z.0 ▸ token ▸ ok)

  -- ---- 13.3 left-hand-side expressions

  pub accessed : (b : Bool) (k : Tree) → Sound look k → (c : Code) (ts r : Input) → AccessedName b c (child k (λ y. Produces k y)) ts r → Good look k
  accessed b k f c ts r h = f _ _ _ h.1

  pub dotted : (b : Bool) (k : Tree) → Sound look k → (c : Code) (ts r : Input) → Dotted b c (child k (λ y. Produces k y)) ts r → Good look k
  dotted b k f c ts r h = f _ _ _ h.2.1

  member_good : (s : Span) (o k : Tree) → Good look o → Good look k → Good look (member_expr s o k)
  member_good s (number_lit at value raw) k f g st = ok ▸ number_before_fine look at value raw k ▸ maybe _ _ ▸ g Alone ▸ ok
  member_good s o k f g st = ok ▸ f Head ▸ maybe _ _ ▸ g Alone ▸ ok

  pub member : (s : Span) (o k : Tree) → Sound look o → (c : Code) (A : Input → Input → Type 0) → ((m n : Input) → A m n → Good look k) → (ts r : Input) → Member c s (child o (λ y. Produces o y)) A ts r → Good look (member_expr s o k)
  member s o k f c A g ts r h = member_good s o k (f _ _ _ h.2.1) (g _ _ h.3)

  pub super_property : (s t : Span) (k : Tree) (c : Code) (A : Input → Input → Type 0) → ((m n : Input) → A m n → Good look k) → (ts r : Input) → SuperProperty c s t A ts r → Good look (super_prop_expr s (super t) k)
  super_property s t k c A g ts r h st = ok ▸ (ok ▸ ok ▸ ok ▸ ok) ▸ maybe _ _ ▸ g _ _ h.3 Alone

  arguments : (xs : Trees) → AllSound look xs → (c : Code) (ts r : Input) → Arguments c (children xs) ts r → AllGood look xs
  arguments xs a c ts r h = all_sorted look is_element false c right_paren_kind xs a _ _ h.2

  imported : (xs : Trees) → AllSound look xs → (c : Code) (ts r : Input) → ImportArguments c (children xs) ts r → AllGood look xs
  imported none a c ts r h = absurd h
  imported (more x xs) a c ts r h = either c.syntax.import_attributes h.1
      (λ e k. all_sorted look is_element false c right_paren_kind (more x xs) a _ _ k.1) (λ e k. (a.0 _ _ _ k.2.1, none_good look xs k.0))

  pub call : (s : Span) (e : Tree) (xs : Trees) → Sound look e → AllSound look xs → (c : Code) (ts r : Input) → Call c s (child e (λ y. Produces e y)) (children xs) ts r → Good look (call_expr s e xs)
  call s e xs f a c ts r h st = ok ▸ ok ▸ f _ _ _ h.2.1 Head ▸ in_parens_fine (commas_fine look xs (arguments xs a c h.0 r h.3))

  pub super_call : (s t : Span) (xs : Trees) → AllSound look xs → Sound look (call_expr s (super t) xs)
  super_call s t xs a c ts r h st = ok ▸ ok ▸ (ok ▸ ok ▸ ok ▸ ok) ▸ in_parens_fine (commas_fine look xs (arguments xs a c h.0 r h.3))

  pub import_call : (s t : Span) (xs : Trees) → AllSound look xs → Sound look (call_expr s (import t) xs)
  import_call s t xs a c ts r h st = ok ▸ ok ▸ (ok ▸ ok ▸ ok ▸ ok) ▸ in_parens_fine (commas_fine look xs (imported xs a c h.1 r h.5))

  pub new_with : (s : Span) (e : Tree) (xs : Trees) → Sound look e → AllSound look xs → Sound look (new_expr s e (list xs))
  new_with s e xs f a c ts r h st = ok ▸ ok ▸ ok ▸ maybe _ _ ▸ f _ _ _ h.3.1 Head ▸ when_fine _ (in_parens_fine (commas_fine look xs (arguments xs a c h.1 r h.4)))

  pub new_bare : (s : Span) (e : Tree) → Sound look e → Sound look (new_expr s e absent)
  new_bare s e f c ts r h st = ok ▸ ok ▸ ok ▸ maybe _ _ ▸ f _ _ _ h.3 Head ▸ when_fine _ (in_parens_fine empty)

  chain_good : (s : Span) (q : Bool) (t : Span) (o k : Tree) → Good look o → Good look k → Good look (opt_chain_expr s q (member_expr t o k))
  chain_good s q t (number_lit at value raw) k f g st = if_fine q (ok ▸ number_fine look at value raw ▸ token) (number_before_fine look at value raw k ▸ maybe _ _) ▸ g Alone
  chain_good s q t o k f g st = f Head ▸ if_fine q token (maybe _ _) ▸ g Alone

  pub chain_member : (s : Span) (q : Bool) (t : Span) (o k : Tree) → Sound look o → (c : Code) (A B : Input → Input → Type 0) → ((m n : Input) → A m n → Good look k) → ((m n : Input) → B m n → Good look k)
      → (ts r : Input) → ChainMember c s q t (child o (λ y. Produces o y)) A B ts r → Good look (opt_chain_expr s q (member_expr t o k))
  chain_member s true t o k f c A B g i ts r h = chain_good s true t o k (f _ _ _ h.2.1) (i _ _ h.4)
  chain_member s false t o k f c A B g i ts r h = chain_good s false t o k (f _ _ _ h.2) (g _ _ h.3)

  pub chain_call : (s : Span) (q : Bool) (t : Span) (e : Tree) (xs : Trees) → Sound look e → AllSound look xs → Sound look (opt_chain_expr s q (opt_call t e xs))
  chain_call s true t e xs f a c ts r h st = f _ _ _ h.2.1 Head ▸ token ▸ in_parens_fine (commas_fine look xs (arguments xs a c h.1 r h.4))
  chain_call s false t e xs f a c ts r h st = f _ _ _ h.2 Head ▸ empty ▸ in_parens_fine (commas_fine look xs (arguments xs a c h.0 r h.3))

  pub tagged : (s : Span) (e : Tree) (t : Span) (es qs : Trees) → Sound look e → AllSound look es → Sound look (tagged_tpl s e (tpl t es qs))
  tagged s e t es qs f a c ts r h st = ok ▸ f _ _ _ h.2.1 Head ▸ template true t es qs a c h.0 r h.3 Tagged ▸ ok

  -- ---- 13.4 to 13.16

  pub update : (s : Span) (op : ℕ) (b : Bool) (a : Tree) → Sound look a → Sound look (update_expr s op b a)
  update s op true a f c ts r h st = ok ▸ ok ▸ f _ _ _ h.3.1 Alone
  update s op false a f c ts r h st = ok ▸ f _ _ _ h.2.1 Alone ▸ ok

  pub unary : (s : Span) (op : ℕ) (a : Tree) → Sound look a → Sound look (unary_expr s op a)
  unary s op a f c ts r h st = ok ▸ ok ▸ if_fine _ (maybe _ _) (maybe _ _) ▸ f _ _ _ h.3.1 Alone

  pub awaits : (s : Span) (a : Tree) → Sound look a → Sound look (await_expr s a)
  awaits s a f c ts r h st = ok ▸ ok ▸ ok ▸ f _ _ _ h.3.1 Alone

  pub binary : (s : Span) (op : ℕ) (a b : Tree) → Sound look a → Sound look b → Sound look (bin_expr s op a b)
  binary s op a b f g c ts r h st = maybe _ _ ▸ f _ _ _ h.4 Operand ▸ maybe _ _ ▸ ok ▸ maybe _ _ ▸ g _ _ _ h.6.1 Alone

  pub conditional : (s : Span) (a b d : Tree) → Sound look a → Sound look b → Sound look d → Sound look (cond_expr s a b d)
  conditional s a b d f g k c ts r h st = ok ▸ f _ _ _ h.4.1 Alone ▸ maybe _ _ ▸ ok ▸ maybe _ _ ▸ g _ _ _ h.6.1 Alone ▸ maybe _ _ ▸ ok ▸ maybe _ _ ▸ k _ _ _ h.8.1 Alone

  pub assignment : (s : Span) (op : ℕ) (a b : Tree) → Sound look a → Sound look b → Sound look (assign_expr s op a b)
  assignment s op a b f g c ts r h st = f _ _ _ h.4 Alone ▸ maybe _ _ ▸ ok ▸ maybe _ _ ▸ g _ _ _ h.6.1 Alone

  pub sequence : (s : Span) (xs : Trees) → AllSound look xs → Sound look (seq_expr s xs)
  sequence s none a c ts r h st = absurd h
  sequence s (more x none) a c ts r h st = absurd h
  sequence s (more x (more y ys)) a c ts r h st =
      ok ▸ commas_fine look (more x (more y ys)) (a.0 _ _ _ h.1.1, comma_then look (Expr assignment_level c) (λ t f m n k. f _ _ _ k.1) c (more y ys) a.1 h.0 r h.2)

  yield_good : (s : Span) (a : Tree) (b : Bool) → Good look a → Good look (yield_expr s a b)
  yield_good s a true f st = ok ▸ ok ▸ ok ▸ when_fine _ (maybe _ _ ▸ f Alone)
  yield_good s a false f st = ok ▸ ok ▸ when_fine _ (maybe _ _ ▸ f Alone)

  pub yield_bare : (s : Span) (b : Bool) → Good look (yield_expr s absent b)
  yield_bare s b = yield_good s absent b (λ st. empty)

  pub yields : (s : Span) (a : Tree) (b : Bool) → Sound look a → (c : Code) (ts r : Input) → Yield c s (child a (λ y. Produces a y)) b ts r → Good look (yield_expr s a b)
  yields s a true f c ts r h = yield_good s a true (f _ _ _ h.6.1)
  yields s a false f c ts r h = yield_good s a false (f _ _ _ h.4.1)

  -- ---- patterns (13.15.5, 14.3.3)

  pub array_pattern : (s : Span) (xs : Trees) → AllSound look xs → Sound look (array_pat s xs)
  array_pattern s xs a c ts r h st = ok ▸ ok ▸ commas_fine look xs (listed look (Item c) (λ t f m n k. f _ _ _ k.1) true c right_bracket_kind xs a _ _ h.2) ▸ when_fine _ (comma_fine look) ▸ ok ▸ ok

  pub object_pattern : (s : Span) (xs : Trees) → AllSound look xs → Sound look (object_pat s xs)
  object_pattern s xs a c ts r h st =
      ok ▸ ok ▸ when_fine _ (maybe _ _ ▸ commas_fine look xs (listed look (Property c) (λ t f m n k. f _ _ _ k.2) false c right_brace_kind xs a _ _ h.2) ▸ maybe _ _) ▸ ok ▸ ok

  pub initialised : (s : Span) (a e : Tree) → Sound look a → Sound look e → Sound look (assign_pat s a e)
  initialised s a e f g c ts r h st = ok ▸ f _ _ _ h.3 Alone ▸ maybe _ _ ▸ ok ▸ maybe _ _ ▸ g _ _ _ h.5.1 Alone ▸ ok

  pub rests : (s d : Span) (a : Tree) → Sound look a → Sound look (rest_pat s d a)
  rests s d a f c ts r h st = ok ▸ ok ▸ ok ▸ f _ _ _ h.4 Alone

  pub keyed_item : (s : Span) (k a : Tree) → Sound look k → Sound look a → Sound look (key_value_pat_prop s k a)
  keyed_item s k a f g c ts r h st = ok ▸ f _ _ _ h.2.1 Key ▸ ok ▸ maybe _ _ ▸ g _ _ _ h.4.1 Alone ▸ ok

  pub named_item : (s : Span) (k e : Tree) → Sound look k → Sound look e → Sound look (assign_pat_prop s k e)
  named_item s k e f g c ts r h st = ok ▸ f _ _ _ h.1.1 Alone ▸ initial_fine look e (maybe_good look _ e h.2 (λ z. g _ _ _ z.2.1) Alone) ▸ ok

-- Expressions and patterns that produce tokens.
use Rattle.std.proofs.Common.{◌≡◌, ℕ, ◌+◌, Bool, true, false, ◌||◌, [], refl, ap, arith}
use Rattle.std.proofs.lemmas.Bool.{false≢true, true≢false}
use Rattle.base_token.specs.declared.place.Span.{Span}
use Rattle.base_token.specs.Kinds.{right_bracket_kind, right_brace_kind, right_paren_kind}
use Rattle.tree_spec.specs.Tree.{Tree, Trees, none, more, array_lit, object_lit, key_value_prop, assign_prop, spread_element, computed_prop_name, tpl, member_expr, super_prop_expr, super, call_expr, import, new_expr, list, opt_chain_expr, opt_call, tagged_tpl, await_expr, assign_expr, yield_expr, seq_expr, array_pat, object_pat, assign_pat, rest_pat, key_value_pat_prop, assign_pat_prop, expr_pat, absent}
use Rattle.grammar_spec.specs.Tokens.Input.{Input, Code}
use Rattle.grammar_spec.specs.Tokens.Shape.{is_element, is_prop, is_private, is_word_name}
use Rattle.grammar_spec.specs.Grammar.{Produces, children}
use Rattle.print_layout_spec.specs.declared.look.Look.{Look}
use Rattle.print_layout_spec.specs.declared.look.Stand.{Stand}
use Rattle.print_layout_spec.specs.declared.look.Stand.TheVariants.{Alone, Tagged}
use Rattle.grammar_spec.specs.Children.{is_ident, child}
use Rattle.grammar_spec.specs.Expressions.{ImportArguments, Member, SuperProperty, Dotted, AccessedName, ChainMember, TemplateSpans, Yield}
use Rattle.grammar_spec.specs.Patterns.{Item as PatternItem, Property}
use Rattle.print_layout_spec.specs.Layout.{count}
use Rattle.again_laws.specs.Tiling.Categories.{Operated, Operator}
use Rattle.again_laws.proofs.text.Marks.{equals_mark}
use Rattle.again_laws.proofs.text.Admits.{unstarred, leaves_end, operand_leaves}
use Rattle.again_laws.proofs.text.Steps.{◌▸◌, at, ends, mark, text_by}
use Rattle.again_laws.proofs.text.Forms.{Good, AllGood, Sound, AllSound, none_good, listed, all_sorted}
use Rattle.again_laws.proofs.text.LiteralNodes.{Quasis, template_node}
use Rattle.again_laws.proofs.text.Primaries.{computed_node}
use Rattle.again_laws.proofs.text.Expressions.{array_node, object_node, property_node, assign_node, sequence_node, await_node, yield_node, delegate_node, new_node}
use Rattle.again_laws.proofs.text.Members.{IsObject, word_member, bracket_member, super_dotted, super_bracketed, asked_word, asked_bracket, on_word, on_bracket, chain_call, chain_level, tagged_node, super_call, import_call, spread_node}
use Rattle.again_laws.proofs.text.Patterns.{inner_admits, key_unstarred, place_plain, item_plain, array_pattern, object_pattern, rest_pattern, initialised_pattern, keyed_pattern, named_pattern, target_pattern}
use Rattle.again_laws.proofs.text.GrammarToLayout.{by_there, either_by, assigned, there_of, whole_test, whole_level, Wholes, none_whole, wholes_sorted}

word_or : (a b : Bool) → (a || false) ≡ true → (a || b) ≡ true
word_or true b e = refl
word_or false b e = absurd (false≢true e)

module _ (look : Look) where
  pub array : (s : Span) (xs : Trees) → AllSound look xs → Sound look (array_lit s xs)
  array s xs a c ts r h = array_node look s xs (all_sorted look is_element true c right_bracket_kind xs a _ _ h.2)

  pub object : (s : Span) (ps : Trees) → AllSound look ps → Sound look (object_lit s ps)
  object s ps a c ts r h = object_node look s ps (all_sorted look is_prop false c right_brace_kind ps a _ _ h.2)

  pub property : (s : Span) (k v : Tree) → Sound look k → Sound look v → Sound look (key_value_prop s k v)
  property s k v f g c ts r h = property_node look s k v (λ u a. inner_admits u (key_value_prop s k v) k refl refl refl refl (key_unstarred k h.2.0) a) (f _ _ _ h.2.1) (g _ _ _ h.4.1) (assigned v h.4.0)

  ident_unstarred : (k : Tree) → is_ident k ≡ true → Rattle.again_laws.proofs.text.Admits.is_starred k ≡ false
  ident_unstarred (Rattle.tree_spec.specs.Tree.ident s n) e = refl
  ident_unstarred _ e = absurd (false≢true e)

  pub cover : (s : Span) (k e : Tree) → Sound look k → Sound look e → Sound look (assign_prop s k e)
  cover s k e f g c ts r h st u a =
      mark ▸ at (f _ _ _ h.2.1 Alone u (inner_admits u (assign_prop s k e) k refl refl refl refl (ident_unstarred k h.2.0) a) ▸ λ v l. text_by Operator equals_mark (leaves_end Alone k v l) ▸ at
      (ends (g _ _ _ h.4.1 Alone Operated (unstarred e (assigned e h.4.0))) (λ w m. operand_leaves st e (assign_prop s k e) w (assigned e h.4.0) refl refl m)))

  pub spread : (s : Span) (e : Tree) → Sound look e → Sound look (spread_element s e)
  spread s e f c ts r h = spread_node look s e (f _ _ _ h.2.1) (assigned e h.2.0)

  pub bracketed_key : (s : Span) (e : Tree) → Sound look e → Sound look (computed_prop_name s e)
  bracketed_key s e f c ts r h = computed_node look s e (f _ _ _ h.3.1)

  -- ---- templates

  pub spans_count : (tagged : Bool) (c : Code) (es qs : Trees) (ts r : Input) → TemplateSpans tagged c (children es) (children qs) ts r → count qs ≡ count es + 1
  spans_count tagged c es none ts r h = absurd (no_spans es h)
    where
      no_spans : (es : Trees) → TemplateSpans tagged c (children es) [] ts r → ⊥
      no_spans none h = h
      no_spans (more e es) h = h
  spans_count tagged c none (more q none) ts r h = refl
  spans_count tagged c none (more q (more p qs)) ts r h = absurd h.1
  spans_count tagged c (more e es) (more q qs) ts r h = ap (λ n. n + 1) (spans_count tagged c es qs _ _ h.10)

  pub spans_good : (tagged : Bool) (c : Code) (es qs : Trees) → AllSound look es → (ts r : Input) → TemplateSpans tagged c (children es) (children qs) ts r → AllGood look es
  spans_good tagged c none qs a ts r h = tt
  spans_good tagged c (more e es) none a ts r h = absurd h
  spans_good tagged c (more e es) (more q qs) a ts r h = (a.0 _ _ _ h.8.1, spans_good tagged c es qs a.1 _ _ h.10)

  pub spans_whole : (tagged : Bool) (c : Code) (es qs : Trees) (ts r : Input) → TemplateSpans tagged c (children es) (children qs) ts r → Wholes es
  spans_whole tagged c none qs ts r h = tt
  spans_whole tagged c (more e es) none ts r h = absurd h
  spans_whole tagged c (more e es) (more q qs) ts r h = (whole_level e h.8.0, spans_whole tagged c es qs _ _ h.10)

  pub template : (s : Span) (es qs : Trees) → AllSound look es → ((st : Stand) → Quasis look st qs) → Sound look (tpl s es qs)
  template s es qs a q c ts r h = template_node look s es qs (spans_count false c es qs _ _ h.2) (spans_good false c es qs a _ _ h.2) q

  pub tagged : (s : Span) (t : Tree) (p : Span) (es qs : Trees) → Sound look t → AllSound look es → Quasis look Tagged qs → Sound look (tagged_tpl s t (tpl p es qs))
  tagged s t p es qs f a q c ts r h = tagged_node look s t p es qs (f _ _ _ h.2.1) h.2.0 (spans_count true c es qs _ _ h.3.2) (spans_good true c es qs a _ _ h.3.2) q

  -- ---- members and calls

  pub member_bracketed : (s : Span) (o : Tree) (t : Span) (e : Tree) → IsObject look o → Sound look o → Sound look e → Sound look (member_expr s o (computed_prop_name t e))
  member_bracketed s o t e i f g c ts r h = bracket_member look s o t e i (f _ _ _ h.2.1) h.2.0 (g _ _ _ h.3.3.1)

  pub member_dotted : (s : Span) (o k : Tree) → IsObject look o → Sound look o → Sound look k → (c : Code) (ts r : Input) → Member c s (child o (λ y. Produces o y)) (λ m n. Dotted true c (child k (λ y. Produces k y)) m n) ts r → Good look (member_expr s o k)
  member_dotted s o k i f g c ts r h = word_member look s o k i (f _ _ _ h.2.1) h.2.0 (g _ _ _ h.3.2.1) h.3.2.0

  pub super_bracket : (s t q : Span) (e : Tree) → Sound look e → Sound look (super_prop_expr s (super t) (computed_prop_name q e))
  super_bracket s t q e g c ts r h = super_bracketed look s t q e (g _ _ _ h.3.3.1)

  pub super_word : (s t : Span) (k : Tree) → Sound look k → (c : Code) (ts r : Input) → SuperProperty c s t (λ m n. Dotted false c (child k (λ y. Produces k y)) m n) ts r → Good look (super_prop_expr s (super t) k)
  super_word s t k g c ts r h = super_dotted look s t k (g _ _ _ h.3.2.1) (word_or (is_word_name k) (is_private k) h.3.2.0)

  pub called_super : (s t : Span) (xs : Trees) → AllSound look xs → Sound look (call_expr s (super t) xs)
  called_super s t xs a c ts r h = super_call look s t xs (all_sorted look is_element false c right_paren_kind xs a _ _ h.3.2)

  import_arguments : (c : Code) (xs : Trees) → AllSound look xs → (ts r : Input) → ImportArguments c (children xs) ts r → AllGood look xs
  import_arguments c none a ts r h = tt
  import_arguments c (more x xs) a ts r h = either_by c.syntax.import_attributes _ _ h.1 (λ k. all_sorted look is_element false c right_paren_kind (more x xs) a _ _ k.1) (λ k. (a.0 _ _ _ k.2.1, none_good look xs k.0))

  pub import_whole : (c : Code) (xs : Trees) (ts r : Input) → ImportArguments c (children xs) ts r → Wholes xs
  import_whole c none ts r h = tt
  import_whole c (more x xs) ts r h = either_by c.syntax.import_attributes _ _ h.1 (λ k. wholes_sorted is_element (λ s t w u. refl) (λ s b l. refl) (λ s b l. refl) (λ s p b. refl) false c right_paren_kind (more x xs) _ _ k.1) (λ k. (whole_test is_element (λ s t w u. refl) (λ s b l. refl) (λ s b l. refl) (λ s p b. refl) x k.2.0, none_whole xs k.0))

  pub called_import : (s t : Span) (xs : Trees) → AllSound look xs → Sound look (call_expr s (import t) xs)
  called_import s t xs a c ts r h = import_call look s t xs (import_arguments c xs a _ _ h.5)

  pub new_with : (s : Span) (f : Tree) (xs : Trees) → Sound look f → AllSound look xs → Sound look (new_expr s f (list xs))
  new_with s f xs g a c ts r h = new_node look s f xs (g _ _ _ h.3.1) (omega (arith, h.3.0)) (all_sorted look is_element false c right_paren_kind xs a _ _ h.4.2)

  pub chain_bracketed : (s : Span) (q : Bool) (t : Span) (o : Tree) (b : Span) (e : Tree) → IsObject look o → Sound look o → Sound look e → Sound look (opt_chain_expr s q (member_expr t o (computed_prop_name b e)))
  chain_bracketed s true t o b e i f g c ts r h = asked_bracket look s t o b e i (f _ _ _ h.2.1) h.2.0 (g _ _ _ h.4.3.1)
  chain_bracketed s false t o b e i f g c ts r h = on_bracket look s t o b e h.1 (f _ _ _ h.2) (g _ _ _ h.3.3.1)

  pub chain_dotted : (s : Span) (q : Bool) (t : Span) (o k : Tree) → IsObject look o → Sound look o → Sound look k → (c : Code) (ts r : Input)
      → ChainMember c s q t (child o (λ y. Produces o y)) (λ m n. Dotted true c (child k (λ y. Produces k y)) m n) (λ m n. AccessedName true c (child k (λ y. Produces k y)) m n) ts r → Good look (opt_chain_expr s q (member_expr t o k))
  chain_dotted s true t o k i f g c ts r h = asked_word look s t o k i (f _ _ _ h.2.1) h.2.0 (g _ _ _ h.4.1) h.4.0
  chain_dotted s false t o k i f g c ts r h = on_word look s t o k h.1 (f _ _ _ h.2) (g _ _ _ h.3.2.1) h.3.2.0

  pub chain_called : (s : Span) (q : Bool) (t : Span) (f : Tree) (xs : Trees) → Sound look f → AllSound look xs → Sound look (opt_chain_expr s q (opt_call t f xs))
  chain_called s true t f xs g a c ts r h = chain_call look s true t f xs (g _ _ _ h.2.1) h.2.0 (all_sorted look is_element false c right_paren_kind xs a _ _ h.4.2)
  chain_called s false t f xs g a c ts r h = chain_call look s false t f xs (g _ _ _ h.2) (chain_level look f h.1) (all_sorted look is_element false c right_paren_kind xs a _ _ h.3.2)

  -- ---- operators

  pub awaited : (s : Span) (e : Tree) → Sound look e → Sound look (await_expr s e)
  awaited s e f c ts r h = await_node look s e (f _ _ _ h.3.1) (omega (arith, h.3.0))

  pub assignment : (s : Span) (op : ℕ) (a b : Tree) → Sound look a → Sound look b → Sound look (assign_expr s op a b)
  assignment s op a b f g c ts r h = assign_node look s op a b h.2 h.3 (f _ _ _ h.4) (g _ _ _ h.6.1) (assigned b h.6.0)

  pub yield_bare : (s : Span) (g : Bool) → Sound look (yield_expr s absent g)
  yield_bare s true c ts r h = absurd (true≢false h.0)
  yield_bare s false c ts r h = yield_node look s absent (λ i. absurd (false≢true i))

  pub yields : (s : Span) (e : Tree) (g : Bool) → Sound look e → (c : Code) (ts r : Input) → Yield c s (child e (λ y. Produces e y)) g ts r → Good look (yield_expr s e g)
  yields s e false f c ts r h = yield_node look s e (λ i. (f _ _ _ h.4.1, assigned e h.4.0))
  yields s e true f c ts r h = delegate_node look s e (there_of e (assigned e h.6.0)) (f _ _ _ h.6.1) (assigned e h.6.0)

  pub sequence : (s : Span) (xs : Trees) → AllSound look xs → Sound look (seq_expr s xs)
  sequence s none a c ts r h = absurd h
  sequence s (more x none) a c ts r h = absurd h
  sequence s (more x (more y ys)) a c ts r h = sequence_node look s x y ys a c ts r h

  -- ---- patterns

  pub of_array : (s : Span) (xs : Trees) → AllSound look xs → Sound look (array_pat s xs)
  of_array s xs a c ts r h = array_pattern look s xs (listed look (PatternItem c) (λ t f m n k. f _ _ _ k.1) true c right_bracket_kind xs a _ _ h.2)

  pub of_object : (s : Span) (ps : Trees) → AllSound look ps → Sound look (object_pat s ps)
  of_object s ps a c ts r h = object_pattern look s ps (listed look (Property c) (λ t f m n k. f _ _ _ k.2) false c right_brace_kind ps a _ _ h.2)

  pub initialised : (s : Span) (p e : Tree) → Sound look p → Sound look e → Sound look (assign_pat s p e)
  initialised s p e f g c ts r h = initialised_pattern look s p e (f _ _ _ h.3) (place_plain c.binds p h.2) (g _ _ _ h.5.1) (assigned e h.5.0)

  pub rests : (s d : Span) (p : Tree) → Sound look p → Sound look (rest_pat s d p)
  rests s d p f c ts r h = rest_pattern look s d p (f _ _ _ h.4) (place_plain c.binds p h.3).plain

  pub keyed_item : (s : Span) (k p : Tree) → Sound look k → Sound look p → Sound look (key_value_pat_prop s k p)
  keyed_item s k p f g c ts r h = keyed_pattern look s k p (f _ _ _ h.2.1) h.2.0 (g _ _ _ h.4.1) (item_plain c.binds p h.4.0).plain

  pub named_item : (s : Span) (k e : Tree) → Sound look k → Sound look e → Sound look (assign_pat_prop s k e)
  named_item s k e f g c ts r h = named_pattern look s k e (f _ _ _ h.1.1) h.1.0 (λ i. let q = by_there e _ _ h.2 i in (g _ _ _ q.2.1, assigned e q.2.0))

  pub target : (e : Tree) → Sound look e → Sound look (expr_pat e)
  target e f c ts r h = target_pattern look e (f _ _ _ h.1) h.0

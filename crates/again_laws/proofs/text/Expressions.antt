-- Expressions of several parts: lists, assignments, operators that are words.
use Rattle.std.proofs.Common.{◌≡◌, ℕ, ◌≤◌, ◌⊎◌, inr, ⊎_elim, Bool, true, false, ◌&&◌, ◌||◌, not, refl, sym, ap, ◌∙◌, arith}
use Rattle.std.specs.Prelude.{◌==◌, nat_le}
use Rattle.std.proofs.lemmas.Bool.{false≢true, true≢false, and_parts, not-true, or_parts}
use Rattle.base_token.specs.declared.place.Span.{Span}
use Rattle.base_token.specs.Kinds.{assign_kind}
use Rattle.tree_spec.specs.Tree.{Tree, Trees, none, more, array_lit, object_lit, assign_expr, seq_expr, await_expr, yield_expr, spread_element, key_value_prop, list, new_expr, binding_ident, member_expr, super_prop_expr, paren_expr, array_pat, object_pat}
use Rattle.grammar_spec.specs.Tokens.Input.{Input, Code}
use Rattle.grammar_spec.specs.Tokens.Operators.{assignment_level, is_assign_op}
use Rattle.grammar_spec.specs.Tokens.Shape.{level, is_target}
use Rattle.print_gaps.specs.Edges.{starts_with_word, is_there}
use Rattle.grammar_spec.specs.Children.{Expr, CommaThen}
use Rattle.grammar_spec.specs.Grammar.{children}
use Rattle.print_layout_spec.specs.declared.look.Look.{Look}
use Rattle.print_layout_spec.specs.declared.look.Stand.TheVariants.{Alone, Head, Key}
use Rattle.print_layout_spec.specs.Looks.{Laid, ◌·◌, when, formats}
use Rattle.print_layout_spec.specs.Layout.{laid, separated, comma, comma_line, indented, ends_with_hole, in_parens, is_head, has_arguments}
use Rattle.again_laws.specs.Tiling.Categories.{State, Fresh, Clear, Shut, Worded, Operated, Dots, Operator, is_open, takes}
use Rattle.again_laws.proofs.text.Keywords.{await_word, yield_word, new_word}
use Rattle.again_laws.proofs.text.Marks.{left_bracket, right_bracket, left_brace, left_paren, right_paren, comma_mark, colon_mark, times_mark}
use Rattle.again_laws.proofs.text.Assignments.{assignments}
use Rattle.again_laws.proofs.text.Admits.{admits, leaves, passes, expression_plain, expression_opens, worded_admits, unstarred, admits_open, admits_word, leaves_open, leaves_end, is_free, free_admits, free_open, loose_admits, operand_leaves}
use Rattle.again_laws.proofs.text.Steps.{Steps, ◌▸◌, ends, at, either, apart, mark, committed, nil, text_by, shut, worded, braced, blanks, when_goes, gaps, gaps_or, lines, deepens, comes_back}
use Rattle.again_laws.proofs.text.Forms.{Good, AllGood, Sound, AllSound}
use Rattle.again_laws.proofs.text.NamesAndCalls.{leaving, commas_go}
use Rattle.again_laws.proofs.text.VariablesAndMethods.{gapped, AllDeclared, declared_go}

module _ (look : Look) where
  -- ---- 13.2.4 arrays, 13.2.5 objects

  -- parts with a comma and the end of a line between them
  lines_go : (ts : Trees) (s : State) → AllGood look ts → is_free s ≡ true → Steps (separated look (comma_line look) ts) s (λ u. is_open u ≡ true)
  lines_go none s a f = ends nil (λ u e. ap is_open e ∙ free_open s f)
  lines_go (more t none) s a f = ends (a.0 Alone s (free_admits s t f)) (λ u l. leaves_open Alone t u l)
  lines_go (more t (more u ts)) s a f =
      a.0 Alone s (free_admits s t f) ▸ λ v l. (shut comma_mark (leaves_open Alone t v l) ▸ at (lines look refl)) ▸ either (lines_go (more u ts) Shut a.1 refl) (lines_go (more u ts) Fresh a.1 refl)

  -- on lines of their own
  pub spread_out : (ts : Trees) (f : Laid) (s : State) → is_free s ≡ true → ((u : State) → is_free u ≡ true → Steps f u (λ v. is_open v ≡ true)) → Steps (indented look ts f) s (λ u. is_open u ≡ true)
  spread_out none f s g k = ends nil (λ u e. ap is_open e ∙ free_open s g)
  spread_out (more t ts) f s g k =
      lines look (free_open s g) ▸ either (inner s g) (inner Fresh refl)
    where
      back_open : (w : State) → is_open w ≡ true → Steps (Rattle.print_layout_spec.specs.Looks.back look · Rattle.print_layout_spec.specs.Looks.line look) w (λ u. is_open u ≡ true)
      back_open w l = comes_back look ▸ at (ends (lines look l) (λ x q. ⊎_elim (λ (e : x ≡ w). ap is_open e ∙ l) (λ (e : x ≡ Fresh). ap is_open e) q))

      inner : (u : State) → is_free u ≡ true → Steps (Rattle.print_layout_spec.specs.Looks.deeper look · f · Rattle.print_layout_spec.specs.Looks.back look · Rattle.print_layout_spec.specs.Looks.line look) u (λ v. is_open v ≡ true)
      inner u h = deepens look ▸ at (k u h ▸ λ w l. back_open w l)

  -- a comma behind a last hole
  pub last_comma : (b : Bool) (v : State) → is_open v ≡ true → Steps (when b (comma look)) v (λ u. is_open u ≡ true)
  last_comma b v o = when_goes b (λ e. shut comma_mark o ▸ at (ends (gaps look refl) (λ u q. ⊎_elim (λ (x : u ≡ Shut). ap is_open x) (λ (x : u ≡ Clear). ap is_open x) q))) (λ e. o)

  pub array_node : (sp : Span) (xs : Trees) → AllGood look xs → Good look (array_lit sp xs)
  array_node sp xs a st s d =
      mark ▸ at (shut left_bracket (admits_open s (array_lit sp xs) d) ▸ at (spread_out xs _ Shut refl (λ u f. lines_go xs u a f ▸ λ v o. last_comma (ends_with_hole xs) v o) ▸ λ v o.
      shut right_bracket o ▸ at (leaving st (array_lit sp xs) mark refl)))

  pub object_node : (sp : Span) (ps : Trees) → AllGood look ps → Good look (object_lit sp ps)
  object_node sp ps a st s d =
      mark ▸ at (shut left_brace (admits_open s (object_lit sp ps) d) ▸ at (spread_out ps _ Shut refl (λ u f. lines_go ps u a f) ▸ λ v o. mark ▸ at (leaving st (object_lit sp ps) (braced o) refl)))

  pub property_node : (sp : Span) (k e : Tree) → ((s : State) → admits s (key_value_prop sp k e) ≡ true → admits s k ≡ true) → Good look k → Good look e → 1 ≤ level e → Good look (key_value_prop sp k e)
  property_node sp k e b f g h st s a =
      mark ▸ at (f Key s (b s a) ▸ λ v l. shut colon_mark (leaves_open Key k v l) ▸ at (gaps look refl ▸ either (value Shut refl) (value Clear refl)))
    where
      value : (u : State) → admits u e ≡ true → Steps (laid look Alone e) u (λ v. leaves st (key_value_prop sp k e) v ≡ true)
      value u q = ends (g Alone u q) (λ v l. operand_leaves st e (key_value_prop sp k e) v h refl refl l)

  dots_stand : (s : State) (sp : Span) (e : Tree) → admits s (spread_element sp e) ≡ true → (takes Dots s ≡ true) ⊎ (is_open s ≡ true)
  dots_stand s sp e a = inr (admits_open s (spread_element sp e) a)

  -- ---- 13.15 assignment

  target_plain : (op : ℕ) (t : Tree) → is_target op t ≡ true → (admits Operated t ≡ true) × (Rattle.again_laws.proofs.text.Admits.starts_otherwise t ≡ false)
  target_plain op (binding_ident s i) e = (refl, refl)
  target_plain op (member_expr s o k) e = (refl, refl)
  target_plain op (super_prop_expr s o k) e = (refl, refl)
  target_plain op (paren_expr s x) e = (refl, refl)
  target_plain op (array_pat s xs) e = (refl, refl)
  target_plain op (object_pat s xs) e = (refl, refl)
  target_plain op _ e = absurd (false≢true (sym (none_of (op == assign_kind)) ∙ e))
    where
      none_of : (b : Bool) → (false || ((false && false) || (b && false))) ≡ false
      none_of true = refl
      none_of false = refl

  target_admits : (s : State) (sp : Span) (op : ℕ) (t e : Tree) → is_target op t ≡ true → admits s (assign_expr sp op t e) ≡ true → admits s t ≡ true
  target_admits Fresh sp op t e i a = refl
  target_admits Clear sp op t e i a = refl
  target_admits Shut sp op t e i a = refl
  target_admits Worded sp op t e i a = worded_admits t (not-true (starts_with_word t) (and_parts (not (starts_with_word t)) _ a).0) (target_plain op t i).1
  target_admits Operated sp op t e i a = (target_plain op t i).0
  target_admits _ sp op t e i a = absurd (false≢true a)

  pub assign_node : (sp : Span) (op : ℕ) (t e : Tree) → is_assign_op op ≡ true → is_target op t ≡ true → Good look t → Good look e → 1 ≤ level e → Good look (assign_expr sp op t e)
  assign_node sp op t e o i f g h st s a =
      f Alone s (target_admits s sp op t e i a) ▸ λ v l. gapped look v (laid look Alone e) (assignments op o) (leaves_end Alone t v l) (value Operated (unstarred e h)) (value Clear refl)
    where
      value : (u : State) → admits u e ≡ true → Steps (laid look Alone e) u (λ v. leaves st (assign_expr sp op t e) v ≡ true)
      value u q = ends (g Alone u q) (λ v l. operand_leaves st e (assign_expr sp op t e) v h refl refl l)

  -- ---- 13.16 the comma

  -- expressions with commas end as the last does
  pub declared : (c : Code) (xs : Trees) → AllSound look xs → (ts r : Input) → CommaThen (Expr assignment_level c) c (children xs) ts r → AllDeclared look xs
  unfolding AllDeclared
  declared c none a ts r h = tt
  declared c (more t xs) a ts r h = (a.0 _ _ _ h.3.1, (expression_plain t (let k = h.3.0 in omega (arith, k)), declared c xs a.1 h.1 r h.4))

  pub sequence_node : (sp : Span) (t u : Tree) (xs : Trees) → AllSound look (more t (more u xs)) → Sound look (seq_expr sp (more t (more u xs)))
  unfolding AllDeclared
  sequence_node sp t u xs a c ts r h st s d =
      let l : 1 ≤ level t = let k = h.1.0 in omega (arith, k) in
      mark ▸ at (declared_go look (more u xs) t s (a.0 _ _ _ h.1.1, (expression_plain t l, declared c (more u xs) a.1 h.0 r h.2)) (loose_admits s (seq_expr sp (more t (more u xs))) t refl refl refl refl l d)
      (seq_expr sp (more t (more u xs))) st (λ e. refl) refl)

  -- ---- operators that are words

  pub await_node : (sp : Span) (e : Tree) → Good look e → 1 ≤ level e → Good look (await_expr sp e)
  await_node sp e f h st s a =
      mark ▸ at (worded await_word (admits_word s (await_expr sp e) a refl) ▸ at (blanks refl ▸ at (ends (f Alone Clear refl) (λ v l. operand_leaves st e (await_expr sp e) v h refl refl l))))

  pub yield_node : (sp : Span) (e : Tree) → (is_there e ≡ true → Good look e × (1 ≤ level e)) → Good look (yield_expr sp e false)
  yield_node sp e f st s a =
      mark ▸ at (worded yield_word (admits_word s (yield_expr sp e false) a refl) ▸ at (when_goes (is_there e)
      (λ t. gaps_or look (starts_with_word e) refl ▸ apart (λ n. value t Worded (worded_admits e n (expression_opens e (f t).1))) (value t Clear refl)) (λ t. refl)))
    where
      value : is_there e ≡ true → (u : State) → admits u e ≡ true → Steps (laid look Alone e) u (λ v. leaves st (yield_expr sp e false) v ≡ true)
      value t u q = ends ((f t).0 Alone u q) (λ v l. operand_leaves st e (yield_expr sp e false) v (f t).1 refl refl l)

  pub delegate_node : (sp : Span) (e : Tree) → is_there e ≡ true → Good look e → 1 ≤ level e → Good look (yield_expr sp e true)
  delegate_node sp e t f h st s a =
      mark ▸ at (worded yield_word (admits_word s (yield_expr sp e true) a refl) ▸ at (text_by Operator times_mark refl ▸ at (when_goes (is_there e)
      (λ i. gaps look refl ▸ either (value Operated (unstarred e h)) (value Clear refl)) (λ i. absurd (true≢false (sym t ∙ i))))))
    where
      value : (u : State) → admits u e ≡ true → Steps (laid look Alone e) u (λ v. leaves st (yield_expr sp e true) v ≡ true)
      value u q = ends (f Alone u q) (λ v l. operand_leaves st e (yield_expr sp e true) v h refl refl l)

  -- ---- 13.3.5 `new` with arguments

  pub new_node : (sp : Span) (g : Tree) (xs : Trees) → Good look g → 1 ≤ level g → AllGood look xs → Good look (new_expr sp g (list xs))
  new_node sp g xs f h b st s a =
      committed ▸ at (mark ▸ at (worded new_word (admits_word s (new_expr sp g (list xs)) a refl) ▸ at (gaps_or look (starts_with_word g) refl ▸ apart (λ n. callee Worded (worded_admits g n (expression_opens g h))) (callee Clear refl))))
    where
      bare : (xs : Trees) (v : State) → (formats look || (has_arguments (list xs) || is_head st)) ≡ false → leaves Head g v ≡ true → leaves st (new_expr sp g (list xs)) v ≡ true
      bare none v n l = passes Head st g (new_expr sp g (list none)) v l (expression_plain g h) (λ e. refl) (λ e. ap (λ b. not b || (not (nat_le 17 19 || false))) (or_parts (formats look) (is_head st) n).1)
      bare (more t ts) v n l = absurd (true≢false (or_parts (formats look) _ n).1)

      callee : (u : State) → admits u g ≡ true → Steps (laid look Head g · when (formats look || (has_arguments (list xs) || is_head st)) (in_parens (laid look Alone (list xs)))) u (λ v. leaves st (new_expr sp g (list xs)) v ≡ true)
      callee u q = f Head u q ▸ λ v l. when_goes (formats look || (has_arguments (list xs) || is_head st))
          (λ t. shut left_paren (leaves_open Head g v l) ▸ at (commas_go look xs Shut b refl ▸ λ w o. leaving st (new_expr sp g (list xs)) (shut right_paren o) refl))
          (λ n. bare xs v n l)

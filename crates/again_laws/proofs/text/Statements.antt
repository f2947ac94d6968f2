-- Statements and arrows.
use Rattle.std.proofs.Common.{◌≡◌, ◌≤◌, ◌⊎◌, inl, inr, ⊎_elim, Bool, true, false, ◌&&◌, ◌||◌, not, refl, sym, ap, ◌∙◌}
use Rattle.std.specs.Prelude.{codes, if◌then◌else◌}
use Rattle.std.proofs.lemmas.Bool.{false≢true, true≢false, and_parts, or_cases, and_right, and_from, or_parts}
use Rattle.base_token.specs.declared.place.Span.{Span}
use Rattle.tree_spec.specs.Tree.{Tree, Trees, none, more, block_stmt, if_stmt, arrow_expr, fn_decl, function, binding_ident}
use Rattle.grammar_spec.specs.Tokens.Input.{Input, Code, turned_strict}
use Rattle.grammar_spec.specs.Tokens.Shape.{level, is_item, is_statement, is_declaration, is_plain_function, is_absent, is_use_strict, is_directive}
use Rattle.print_gaps.specs.Edges.{starts_with_word, ends_with_word, is_there}
use Rattle.grammar_spec.specs.Children.{Items}
use Rattle.grammar_spec.specs.Statements.{ClosesBlock}
use Rattle.grammar_spec.specs.Grammar.{children}
use Rattle.print_layout_spec.specs.declared.look.Look.{Look}
use Rattle.print_layout_spec.specs.declared.look.Stand.{Stand}
use Rattle.print_layout_spec.specs.declared.look.Stand.TheVariants.{Alone, Body}
use Rattle.print_layout_spec.specs.Looks.{Laid, ◌·◌, text, when, gap_or, formats, semi, line, gap}
use Rattle.print_layout_spec.specs.Layout.{laid, rows, closing, indented, is_variables, is_block, marked_as_body, in_parens, separated, comma, is_one_name, word}
use Rattle.again_laws.proofs.text.Keywords.{async_word, else_word, if_word}
use Rattle.again_laws.proofs.text.Marks.{arrow_mark, left_brace, left_paren, right_paren}
use Rattle.again_laws.proofs.text.Admits.{admits, admits_open, admits_word, expression_plain, free_admits, free_open, is_ended, is_free, leaves, leaves_end, leaves_open, leaves_wordless, passes, starts_otherwise, worded_admits, free_wordless}
use Rattle.again_laws.proofs.text.Forms.{AllGood, AllSound, Good, Sound, by_second, not_absent}
use Rattle.again_laws.proofs.text.NamesAndCalls.{commas_go, leaving}
use Rattle.again_laws.proofs.text.Steps.{Steps, apart, at, blanks, braced, comes_back, committed, deepens, either, gaps, gaps_or, if_goes, lines, mark, nil, semicolons, shut, text_by, when_goes, worded, ◌▸◌, ends}
use Rattle.again_laws.specs.Tiling.Categories.{Arrow, Clear, Fresh, Operated, Shut, State, Worded, blank_behind, is_end, is_open}
use Rattle.again_laws.proofs.Layouts.{block_no_variables}

module _ (look : Look) where
  -- a statement or a declaration that goes well
  abbrev pub Item : Tree → Type 0
  Item t = Good look t × (is_item t ≡ true)

  abbrev pub AllItems : Trees → Type 0
  AllItems none = Unit {0}
  AllItems (more t ts) = Item t × AllItems ts

  pub all_items : (close : Code → Input → Input → Type 0) (c : Code) (starts : Bool) (ss : Trees) → AllSound look ss → (ts r : Input) → Items is_item close c starts (children ss) ts r → AllItems ss
  all_items close c starts none a ts r h = tt
  all_items close c starts (more s ss) a ts r h = ((a.0 _ ts h.0 h.2, h.1), all_items close (if starts && is_use_strict s then turned_strict c else c) (starts && is_directive s) ss a.1 h.0 r h.3)

  -- what an item leaves, other than variables
  pub ended_free : (t : Tree) (v : State) → is_item t ≡ true → is_variables t ≡ false → leaves Alone t v ≡ true → is_free v ≡ true
  ended_free t v i n l = leaves_wordless Alone t v (ap (λ b. ends_with_word t && not b) ended ∙ and_right (ends_with_word t) false refl) l
    where
      ended : is_ended t ≡ true
      ended = and_from _ (not (is_variables t)) (ap (λ b. b || (Rattle.grammar_spec.specs.Tokens.Shape.is_module_decl t || (Rattle.grammar_spec.specs.Tokens.Shape.is_case t || Rattle.grammar_spec.specs.Tokens.Shape.is_member t))) i) (ap not n)

  pub closes : (t : Tree) (v : State) → is_item t ≡ true → leaves Alone t v ≡ true → Steps (closing look t) v (λ u. is_free u ≡ true)
  unfolding closing
  closes t v i l = when_goes (not (is_block t))
      (λ e. by_variables (is_variables t) refl)
      (λ e. ended_free t v i (block_no_variables t (not_not (is_block t) e)) l)
    where
      not_not : (b : Bool) → not b ≡ false → b ≡ true
      not_not true e = refl
      not_not false e = absurd (true≢false e)

      lined : (w : State) → is_free w ≡ true → Steps (line look) w (λ u. is_free u ≡ true)
      lined w f = ends (lines look (free_open w f)) (λ u q. ⊎_elim (λ (e : u ≡ w). ap is_free e ∙ f) (λ (e : u ≡ Fresh). ap is_free e) q)

      by_variables : (b : Bool) → is_variables t ≡ b → Steps (when b semi · line look) v (λ u. is_free u ≡ true)
      by_variables true e = semicolons (leaves_open Alone t v l) ▸ at (lined Clear refl)
      by_variables false e = nil ▸ at (lined v (ended_free t v i e l))

  pub free_line : (w : State) {g : Laid} {P : State → Type 0} → is_free w ≡ true → ((u : State) → is_free u ≡ true → Steps g u P) → Steps (line look · g) w P
  free_line w f k = lines look (free_open w f) ▸ either (k w f) (k Fresh refl)

  pub rows_go : (ss : Trees) (s : State) → AllItems ss → is_free s ≡ true → Steps (rows look true ss) s (λ u. is_free u ≡ true)
  rows_go none s a f = ends nil (λ u e. ap is_free e ∙ f)
  rows_go (more t none) s a f = a.0.0 Alone s (free_admits s t f) ▸ λ v l. closes t v a.0.1 l
  rows_go (more t (more u ts)) s a f = a.0.0 Alone s (free_admits s t f) ▸ λ v l. closes t v a.0.1 l ▸ λ w g. free_line w g (λ x k. rows_go (more u ts) x a.1 k)

  pub indents : (ss : Trees) (f : Laid) (s : State) → is_free s ≡ true → ((u : State) → is_free u ≡ true → Steps f u (λ v. is_free v ≡ true)) → Steps (indented look ss f) s (λ u. is_free u ≡ true)
  indents none f s g k = ends nil (λ u e. ap is_free e ∙ g)
  indents (more t ts) f s g k = free_line s g (λ u h. deepens look ▸ at (k u h ▸ λ w l. comes_back look ▸ at (ends (lines look (free_open w l)) (λ x q. ⊎_elim (λ (e : x ≡ w). ap is_free e ∙ l) (λ (e : x ≡ Fresh). ap is_free e) q))))

  -- ---- 14.2 blocks

  pub block_good : (sp : Span) (ss : Trees) → AllItems ss → Good look (block_stmt sp ss)
  block_good sp ss a st s b =
      when_goes (marked_as_body st) (λ t. mark) (λ t. refl) ▸ at (shut left_brace (admits_open s (block_stmt sp ss) b) ▸ at (indents ss (rows look true ss) Shut refl (λ u f. rows_go ss u a f) ▸ λ v l. mark ▸ at
      (leaving st (block_stmt sp ss) (braced (free_open v l)) refl)))

  pub block : (sp : Span) (ss : Trees) → AllSound look ss → Sound look (block_stmt sp ss)
  block sp ss a c ts r h = block_good sp ss (all_items ClosesBlock c false ss a _ _ h.2)

  -- ---- 14.6 `if`

  plain_item : (t : Tree) → is_plain_function t ≡ true → is_item t ≡ true
  plain_item (fn_decl s n (function t ps ds b g a)) e = refl
  plain_item _ e = absurd (false≢true e)

  pub sub_item : (c : Code) (t : Tree) → (is_statement t || (not (Rattle.grammar_spec.specs.Tokens.Input.is_strict c) && is_plain_function t)) ≡ true → is_item t ≡ true
  sub_item c t e = ⊎_elim
      (λ (k : is_statement t ≡ true). ap (λ b. b || is_declaration t) k)
      (λ (k : (not (Rattle.grammar_spec.specs.Tokens.Input.is_strict c) && is_plain_function t) ≡ true). plain_item t (and_parts (not (Rattle.grammar_spec.specs.Tokens.Input.is_strict c)) (is_plain_function t) k).1)
      (or_cases (is_statement t) _ e)

  pub item_opens : (t : Tree) → is_item t ≡ true → starts_otherwise t ≡ false
  item_opens t i = by (is_item t) (starts_otherwise t) i (apart_items t)
    where
      by : (a b : Bool) → a ≡ true → (a && b) ≡ false → b ≡ false
      by true b e f = f
      by false b e f = absurd (false≢true e)

      apart_items : (t : Tree) → (is_item t && starts_otherwise t) ≡ false
      apart_items (Rattle.tree_spec.specs.Tree.var_decl s k ds) = and_right _ false refl
      apart_items _ = refl

  pub if_good : (sp : Span) (t a b : Tree) → Good look t → Item a → (is_there b ≡ true → Item b) → Good look (if_stmt sp t a b)
  if_good sp t a b f g h st s d =
      committed ▸ at (mark ▸ at (worded if_word (admits_word s (if_stmt sp t a b) d refl) ▸ at (gaps look refl ▸ either (test Worded refl) (test Clear refl))))
    where
      alternative : (u : State) → is_free u ≡ true → Steps (when (is_there b) (when (is_block a) (gap look) · word (codes "else") · gap_or look (starts_with_word b) · laid look Alone b · closing look b)) u (λ v. leaves st (if_stmt sp t a b) v ≡ true)
      alternative u k = when_goes (is_there b)
          (λ e. when_goes (is_block a) (λ q. gaps look (free_open u k)) (λ q. inl refl) ▸ either (other e u k) (other e (blank_behind u) (blank_free u k)))
          (λ e. if_leaves u k)
        where
          blank_free : (u : State) → is_free u ≡ true → is_free (blank_behind u) ≡ true
          blank_free Fresh k = refl
          blank_free _ k = refl

          if_leaves : (u : State) → is_free u ≡ true → leaves st (if_stmt sp t a b) u ≡ true
          if_leaves Fresh k = refl
          if_leaves Clear k = refl
          if_leaves Shut k = refl
          if_leaves _ k = absurd (false≢true k)

          last_part : is_there b ≡ true → (u : State) → admits u b ≡ true → Steps (laid look Alone b · closing look b) u (λ v. leaves st (if_stmt sp t a b) v ≡ true)
          last_part e u q = (h e).0 Alone u q ▸ λ v l. ends (closes b v (h e).1 l) (λ w k. if_leaves w k)

          other : is_there b ≡ true → (u : State) → is_free u ≡ true → Steps (word (codes "else") · gap_or look (starts_with_word b) · laid look Alone b · closing look b) u (λ v. leaves st (if_stmt sp t a b) v ≡ true)
          other e u k = worded else_word (free_wordless u k) ▸ at (gaps_or look (starts_with_word b) refl ▸ apart (λ n. last_part e Worded (worded_admits b n (item_opens b (h e).1))) (last_part e Clear refl))

      body : (u : State) → is_free u ≡ true → Steps (laid look Alone a · closing look a · when (is_there b) (when (is_block a) (gap look) · word (codes "else") · gap_or look (starts_with_word b) · laid look Alone b · closing look b)) u (λ v. leaves st (if_stmt sp t a b) v ≡ true)
      body u k = g.0 Alone u (free_admits u a k) ▸ λ v l. closes a v g.1 l ▸ λ w m. alternative w m

      test : (u : State) → is_open u ≡ true → Steps (in_parens (laid look Alone t) · gap look · laid look Alone a · closing look a · when (is_there b) (when (is_block a) (gap look) · word (codes "else") · gap_or look (starts_with_word b) · laid look Alone b · closing look b)) u (λ v. leaves st (if_stmt sp t a b) v ≡ true)
      test u o = (shut left_paren o ▸ at (f Alone Shut refl ▸ λ v l. shut right_paren (leaves_open Alone t v l))) ▸ at (gaps look refl ▸ either (body Shut refl) (body Clear refl))

  pub if_on : (sp : Span) (t a b : Tree) → Sound look t → Sound look a → Sound look b → Sound look (if_stmt sp t a b)
  if_on sp t a b f g h c ts r k = if_good sp t a b (f _ _ _ k.4.3.1) (g _ _ _ k.5.1, sub_item c a k.5.0)
      (λ e. let q = by_second (is_absent b) _ _ k.6 (not_absent b e) in (h _ _ _ q.2.1, sub_item c b q.2.0))

  -- ---- 15.3 arrows

  -- what is not written in parentheses is one name
  one_name_starts : (ps : Trees) → is_one_name ps ≡ true → (sp : Span) (b : Tree) → starts_with_word (arrow_expr sp ps b false) ≡ true
  one_name_starts (more (binding_ident s i) none) e sp b = refl
  one_name_starts _ e sp b = absurd (false≢true e)

  arrow_name : (s : State) (sp : Span) (ps : Trees) (b : Tree) → admits s (arrow_expr sp ps b false) ≡ true → is_one_name ps ≡ true → (at' : Span) (i : Tree) → admits s (binding_ident at' i) ≡ true
  arrow_name Fresh sp ps b d o at' i = refl
  arrow_name Clear sp ps b d o at' i = refl
  arrow_name Shut sp ps b d o at' i = refl
  arrow_name Worded sp ps b d o at' i = absurd (false≢true (sym (ap not (one_name_starts ps o sp b)) ∙ (and_parts (not (starts_with_word (arrow_expr sp ps b false))) _ d).0))
  arrow_name Operated sp ps b d o at' i = refl
  arrow_name _ sp ps b d o at' i = absurd (false≢true d)

  module _ (ps : Trees) (a : AllGood look ps) where
    one_name : (ps : Trees) → AllGood look ps → (u : State) → is_one_name ps ≡ true → ((at' : Span) (i : Tree) → admits u (binding_ident at' i) ≡ true) → Steps (separated look (comma look) ps) u (λ v. is_end v ≡ true)
    one_name (more (binding_ident s i) none) a u o f = ends (a.0 Alone u (f s i)) (λ v l. leaves_end Alone (binding_ident s i) v l)
    one_name _ a u o f = absurd (false≢true o)

    pub parameters : (u : State) → is_open u ≡ true → (is_one_name ps ≡ true → (at' : Span) (i : Tree) → admits u (binding_ident at' i) ≡ true)
        → Steps (if is_one_name ps && not (formats look) then separated look (comma look) ps else in_parens (separated look (comma look) ps)) u (λ v. is_end v ≡ true)
    parameters u o f = if_goes (is_one_name ps && not (formats look))
        (λ e. let n = (and_parts (is_one_name ps) _ e).0 in one_name ps a u n (f n))
        (λ e. shut left_paren o ▸ at (commas_go look ps Shut a refl ▸ λ v l. ends (shut right_paren l) (λ w q. ap is_end q)))

  pub block_leaves : (b : Tree) (t : Tree) (st : Stand) (v : State) → is_block b ≡ true → leaves Body b v ≡ true → leaves st t v ≡ true
  block_leaves (block_stmt s ss) t st Fresh e l = absurd (false≢true l)
  block_leaves (block_stmt s ss) t st Clear e l = refl
  block_leaves (block_stmt s ss) t st Shut e l = refl
  block_leaves (block_stmt s ss) t st _ e l = absurd (false≢true l)
  block_leaves _ t st v e l = absurd (false≢true e)

  arrow_tail : (b : Tree) → Good look b → (is_block b ≡ false → 1 ≤ level b) → (sp : Span) (ps : Trees) (w : Bool) (st : Stand) (v : State) → is_end v ≡ true → Steps (text (codes "=>") · (if is_block b then laid look Body b else Rattle.print_layout_spec.specs.Looks.deeper look · laid look Alone b · Rattle.print_layout_spec.specs.Looks.back look)) v (λ u. leaves st (arrow_expr sp ps b w) u ≡ true)
  arrow_tail b f h sp ps w st v l =
      text_by Arrow arrow_mark l ▸ at (if_goes (is_block b)
      (λ e. ends (f Body Shut refl) (λ u m. block_leaves b (arrow_expr sp ps b w) st u e m))
      (λ e. deepens look ▸ at (f Alone Shut refl ▸ λ u m. leaving st (arrow_expr sp ps b w) (comes_back look) (passes Alone st b (arrow_expr sp ps b w) u m (expression_plain b (h e)) (λ t. refl) (λ t. refl)))))

  pub arrow_good : (sp : Span) (ps : Trees) (b : Tree) (w : Bool) → AllGood look ps → Good look b → (is_block b ≡ false → 1 ≤ level b) → Good look (arrow_expr sp ps b w)
  arrow_good sp ps b true a f h st s d =
      mark ▸ at ((worded async_word (admits_word s (arrow_expr sp ps b true) d refl) ▸ at (when_goes {P = λ v. ((is_one_name ps ≡ false) × (v ≡ Worded)) ⊎ (v ≡ Clear)} (formats look || is_one_name ps) (λ e. ends (blanks refl) (λ v q. inr q)) (λ e. inl ((or_parts (formats look) (is_one_name ps) e).1, refl)))) ▸ apart
      (λ n. parameters ps a Worded refl (λ o. absurd (true≢false (sym o ∙ n))) ▸ λ v l. arrow_tail b f h sp ps true st v l)
      (parameters ps a Clear refl (λ o at' i. refl) ▸ λ v l. arrow_tail b f h sp ps true st v l))
  arrow_good sp ps b false a f h st s d =
      mark ▸ at (nil ▸ at (parameters ps a s (admits_open s (arrow_expr sp ps b false) d) (λ o. arrow_name s sp ps b d o) ▸ λ v l. arrow_tail b f h sp ps false st v l))

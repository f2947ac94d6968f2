-- Members, chains, calls and templates behind a tag.
use Rattle.std.proofs.Common.{◌≡◌, ℕ, ◌≤◌, ⊎_elim, Bool, true, false, ◌||◌, not, List, Option, Some, None, refl, sym, ap, subst, ◌∙◌, arith}
use Rattle.std.specs.Prelude.{◌+◌, if◌then◌else◌}
use Rattle.std.proofs.lemmas.Bool.{false≢true, true≢false, cases_Bool}
use Rattle.base_token.specs.declared.place.Span.{Span}
use Rattle.base_number.specs.Numbers.{SpecNumber}
use Rattle.print_spelling.specs.Number.Numbers.{before_member}
use Rattle.tree_spec.specs.Tree.{Tree, Trees, computed_prop_name, number_lit, call_expr, member_expr, expr_or_spread, super, import, super_prop_expr, opt_chain_expr, opt_call, tagged_tpl, tpl, spread_element}
use Rattle.grammar_spec.specs.Tokens.Operators.{call_level}
use Rattle.grammar_spec.specs.Tokens.Shape.{level, is_word_name, is_private, is_chain}
use Rattle.print_layout_spec.specs.declared.look.Look.{Look}
use Rattle.print_layout_spec.specs.declared.look.Stand.{Stand}
use Rattle.print_layout_spec.specs.declared.look.Stand.TheVariants.{Alone, Head, Tagged}
use Rattle.print_layout_spec.specs.Looks.{◌·◌, start}
use Rattle.print_layout_spec.specs.Literals.{number_bytes}
use Rattle.print_layout_spec.specs.Layout.{laid, is_computed, optional_dot, point_before, count, in_parens, separated, comma}
use Rattle.lex_token.specs.declared.goal.LexicalGoal.TheVariants.{Div}
use Rattle.again_laws.proofs.text.Keywords.{import_word, super_word}
use Rattle.again_laws.proofs.text.Marks.{dots_mark, left_paren, right_paren}
use Rattle.again_laws.proofs.text.Admits.{admits, admits_word, expression_plain, head_admits, is_number, leaves, leaves_dot, leaves_end, leaves_open, loose_admits, passes}
use Rattle.again_laws.proofs.text.Forms.{AllGood, Good, Sound}
use Rattle.again_laws.proofs.text.NamesAndCalls.{WordKey, bracketed, by_laid, commas_go, head_numeric, key_leaves, leaving, member_bracket, member_word, no_point, point, word_key}
use Rattle.again_laws.proofs.text.Primaries.{optional}
use Rattle.again_laws.proofs.text.Steps.{At, Steps, at, committed, ends, if_goes, mark, nil, shut, text_by, when_goes, worded, ◌▸◌}
use Rattle.again_laws.proofs.text.LiteralNodes.{Quasis, number_admits, template_at}
use Rattle.again_laws.specs.Tiling.Categories.{Clear, Dots, Dotted, Fresh, Member, Number, Numbered, Operated, Shut, State, Worded, is_digitless, is_open, is_wordless, takes}
use Rattle.again_laws.specs.Tiling.Goes.{Fits}

module _ (look : Look) where
  dots_stand : (s : State) (sp d : Span) (e : Tree) → admits s (expr_or_spread sp (Some d) e) ≡ true → takes Dots s ≡ true
  dots_stand Fresh sp d e a = refl
  dots_stand Clear sp d e a = refl
  dots_stand Shut sp d e a = refl
  dots_stand Worded sp d e a = refl
  dots_stand Operated sp d e a = refl
  dots_stand _ sp d e a = absurd (false≢true a)

  pub element : (sp : Span) (d : Option Span) (e : Tree) → Sound look e → Sound look (expr_or_spread sp d e)
  element sp None e f c ts r h st s a =
      nil ▸ at (ends (f _ _ _ h.0.1 Alone s (loose_admits s (expr_or_spread sp None e) e refl refl refl refl (omega (arith, h.0.0)) a))
      (λ v l. passes Alone st e (expr_or_spread sp None e) v l (expression_plain e (omega (arith, h.0.0))) (λ q. refl) (λ q. refl)))
  element sp (Some d) e f c ts r h st s a =
      text_by Dots dots_mark (dots_stand s sp d e a) ▸ at (ends (f _ _ _ h.3.1 Alone Shut refl)
      (λ v l. passes Alone st e (expr_or_spread sp (Some d) e) v l (expression_plain e (omega (arith, h.3.0))) (λ q. refl) (λ q. refl)))

  -- ---- members, of numbers too

  pub number_is : (o : Tree) → is_number o ≡ true → (at' : Span) × (v : SpecNumber) × (w : Option (List ℕ)) × (o ≡ number_lit at' v w)
  number_is (number_lit at' v w) e = (at', v, w, refl)
  number_is _ e = absurd (false≢true e)

  pub number_word : (sp at' : Span) (v : SpecNumber) (w : Option (List ℕ)) (k : Tree) → Fits Div (before_member (number_bytes look.style v w)) Member → Good look k → (is_word_name k || is_private k) ≡ true → Good look (member_expr sp (number_lit at' v w) k)
  number_word sp at' v w k f g i st s a =
      let q = word_key look k i in
      mark ▸ at ((mark ▸ at (if_goes (is_computed k) (λ e. absurd (false≢true (ap not (sym e) ∙ q.uncomputed)))
      (λ e. committed ▸ at (mark ▸ at (text_by Member f (number_admits look s at' v w (head_admits s (member_expr sp (number_lit at' v w) k) (number_lit at' v w) (omega arith) refl refl refl a))))))) ▸ at (point look k q.uncomputed refl ▸ at
      (g Alone Dotted q.dotted ▸ λ u m. leaving st (member_expr sp (number_lit at' v w) k) mark (key_leaves look sp (number_lit at' v w) k st u q m))))

  pub number_bracket : (sp at' : Span) (v : SpecNumber) (w : Option (List ℕ)) (bp : Span) (e : Tree) → Fits Div (number_bytes look.style v w) Number → Good look e → Good look (member_expr sp (number_lit at' v w) (computed_prop_name bp e))
  number_bracket sp at' v w bp e f g st s a =
      mark ▸ at ((mark ▸ at (committed ▸ at (mark ▸ at (text_by Number f (number_admits look s at' v w (head_admits s (member_expr sp (number_lit at' v w) (computed_prop_name bp e)) (number_lit at' v w) (omega arith) refl refl refl a)))))) ▸ at (no_point look (computed_prop_name bp e) refl ▸ at
      (bracketed look bp e g Alone Numbered refl ▸ at (leaving st (member_expr sp (number_lit at' v w) (computed_prop_name bp e)) mark refl))))

  -- ---- any object

  -- the texts of a number as an object
  abbrev pub IsObject : Tree → Type 0
  IsObject o = is_number o ≡ true → (t : Span) (v : SpecNumber) (w : Option (List ℕ)) → o ≡ number_lit t v w → Fits Div (number_bytes look.style v w) Number × Fits Div (before_member (number_bytes look.style v w)) Member

  pub word_member : (sp : Span) (o k : Tree) → IsObject o → Good look o → call_level ≤ level o → Good look k → (is_word_name k || is_private k) ≡ true → Good look (member_expr sp o k)
  word_member sp o k l f h g i = ⊎_elim
      (λ (e : is_number o ≡ true).
      let n = number_is o e in
      subst (λ (x : Tree). Good look (member_expr sp x k)) (sym n.3) (number_word sp n.0 n.1 n.2 k (l e n.0 n.1 n.2 n.3).1 g i))
      (λ (e : is_number o ≡ false). member_word look sp o k e h f g i)
      (cases_Bool (is_number o))

  pub bracket_member : (sp : Span) (o : Tree) (bp : Span) (x : Tree) → IsObject o → Good look o → call_level ≤ level o → Good look x → Good look (member_expr sp o (computed_prop_name bp x))
  bracket_member sp o bp x l f h g = ⊎_elim
      (λ (e : is_number o ≡ true).
      let n = number_is o e in
      subst (λ (y : Tree). Good look (member_expr sp y (computed_prop_name bp x))) (sym n.3) (number_bracket sp n.0 n.1 n.2 bp x (l e n.0 n.1 n.2 n.3).0 g))
      (λ (e : is_number o ≡ false). member_bracket look sp o bp x e h f g)
      (cases_Bool (is_number o))

  -- ---- 13.3.7 `super`

  super_steps : (t : Span) (s : State) → is_wordless s ≡ true → Steps (laid look Alone (super t)) s (At Worded)
  super_steps t s w = committed ▸ at (mark ▸ at (worded super_word w ▸ at mark))

  pub super_dotted : (sp t : Span) (k : Tree) → Good look k → (is_word_name k || is_private k) ≡ true → Good look (super_prop_expr sp (super t) k)
  super_dotted sp t k g i st s a =
      let q = word_key look k i in
      mark ▸ at (super_steps t s (admits_word s (super_prop_expr sp (super t) k) a refl) ▸ at (point look k q.uncomputed refl ▸ at (ends (g Alone Dotted q.dotted)
      (λ u m. passes Alone st k (super_prop_expr sp (super t) k) u m q.plain (λ e. refl) (λ e. absurd (false≢true (sym q.no_number ∙ e)))))))

  pub super_bracketed : (sp t bp : Span) (x : Tree) → Good look x → Good look (super_prop_expr sp (super t) (computed_prop_name bp x))
  super_bracketed sp t bp x g st s a =
      mark ▸ at (super_steps t s (admits_word s (super_prop_expr sp (super t) (computed_prop_name bp x)) a refl) ▸ at (no_point look (computed_prop_name bp x) refl ▸ at
      (leaving st (super_prop_expr sp (super t) (computed_prop_name bp x)) (bracketed look bp x g Alone Worded refl) refl)))

  -- ---- 13.3.9 chains

  chain_laid : (st : Stand) (sp : Span) (q : Bool) (t : Span) (o k : Tree) → is_number o ≡ false
      → laid look st (opt_chain_expr sp q (member_expr t o k)) ≡ (laid look Head o · (if q then optional_dot else point_before k) · laid look Alone k)
  chain_laid st sp q t (number_lit at' value raw) k n = absurd (true≢false n)
  chain_laid st sp q t o k n = refl

  chain_ends : (st : Stand) (sp : Span) (q : Bool) (t : Span) (o k : Tree) (v : State) → WordKey look k → leaves Alone k v ≡ true → leaves st (opt_chain_expr sp q (member_expr t o k)) v ≡ true
  chain_ends st sp q t o k v w l = passes Alone st k (opt_chain_expr sp q (member_expr t o k)) v l w.plain (λ e. refl) (λ e. absurd (false≢true (sym w.no_number ∙ e)))

  chain_word : (sp : Span) (q : Bool) (t : Span) (o k : Tree) → is_number o ≡ false → call_level ≤ level o → Good look o → Good look k → (is_word_name k || is_private k) ≡ true → Good look (opt_chain_expr sp q (member_expr t o k))
  chain_word sp q t o k n h f g i st s a =
      let w = word_key look k i in
      by_laid look (laid look st (opt_chain_expr sp q (member_expr t o k))) (laid look Head o · (if q then optional_dot else point_before k) · laid look Alone k) (chain_laid st sp q t o k n)
      (f Head s (head_admits s (opt_chain_expr sp q (member_expr t o k)) o (omega (arith, h)) refl refl refl a) ▸ λ v l.
      if_goes q (λ e. optional (leaves_end Head o v l)) (λ e. point look k w.uncomputed (leaves_dot Head o v (head_numeric look o n h) l)) ▸ at (ends (g Alone Dotted w.dotted) (λ u m. chain_ends st sp q t o k u w m)))

  chain_bracket : (sp : Span) (q : Bool) (t : Span) (o : Tree) (bp : Span) (x : Tree) → is_number o ≡ false → call_level ≤ level o → Good look o → Good look x → Good look (opt_chain_expr sp q (member_expr t o (computed_prop_name bp x)))
  chain_bracket sp q t o bp x n h f g st s a =
      by_laid look (laid look st (opt_chain_expr sp q (member_expr t o (computed_prop_name bp x)))) (laid look Head o · (if q then optional_dot else point_before (computed_prop_name bp x)) · laid look Alone (computed_prop_name bp x)) (chain_laid st sp q t o (computed_prop_name bp x) n)
      (f Head s (head_admits s (opt_chain_expr sp q (member_expr t o (computed_prop_name bp x))) o (omega (arith, h)) refl refl refl a) ▸ λ v l.
      if_goes {P = λ u. is_open u ≡ true} q (λ e. ends (optional (leaves_end Head o v l)) (λ u z. ap is_open z)) (λ e. ends (no_point look (computed_prop_name bp x) refl) (λ u z. ap is_open z ∙ leaves_open Head o v l)) ▸ λ u z.
      leaving st (opt_chain_expr sp q (member_expr t o (computed_prop_name bp x))) (bracketed look bp x g Alone u z) refl)

  -- a number at the head
  number_asked : (t at' : Span) (v : SpecNumber) (w : Option (List ℕ)) (s : State) → Fits Div (number_bytes look.style v w) Number → is_digitless s ≡ true → Steps (start at' · Rattle.print_layout_spec.specs.Literals.number look at' v w · optional_dot) s (At Dotted)
  number_asked t at' v w s f d = mark ▸ at ((committed ▸ at (mark ▸ at (text_by Number f d))) ▸ at (optional refl))

  pub asked_word : (sp t : Span) (o k : Tree) → IsObject o → Good look o → call_level ≤ level o → Good look k → (is_word_name k || is_private k) ≡ true → Good look (opt_chain_expr sp true (member_expr t o k))
  asked_word sp t o k l f h g i = ⊎_elim
      (λ (e : is_number o ≡ true).
      let n = number_is o e in
      subst (λ (x : Tree). Good look (opt_chain_expr sp true (member_expr t x k))) (sym n.3) (λ st s a.
      let w = word_key look k i in
      number_asked t n.0 n.1 n.2 s (l e n.0 n.1 n.2 n.3).0 (number_admits look s n.0 n.1 n.2 (head_admits s (opt_chain_expr sp true (member_expr t (number_lit n.0 n.1 n.2) k)) (number_lit n.0 n.1 n.2) (omega arith) refl refl refl a)) ▸ at
      (ends (g Alone Dotted w.dotted) (λ u m. chain_ends st sp true t (number_lit n.0 n.1 n.2) k u w m))))
      (λ (e : is_number o ≡ false). chain_word sp true t o k e h f g i)
      (cases_Bool (is_number o))

  pub asked_bracket : (sp t : Span) (o : Tree) (bp : Span) (x : Tree) → IsObject o → Good look o → call_level ≤ level o → Good look x → Good look (opt_chain_expr sp true (member_expr t o (computed_prop_name bp x)))
  asked_bracket sp t o bp x l f h g = ⊎_elim
      (λ (e : is_number o ≡ true).
      let n = number_is o e in
      subst (λ (y : Tree). Good look (opt_chain_expr sp true (member_expr t y (computed_prop_name bp x)))) (sym n.3) (λ st s a.
      number_asked t n.0 n.1 n.2 s (l e n.0 n.1 n.2 n.3).0 (number_admits look s n.0 n.1 n.2 (head_admits s (opt_chain_expr sp true (member_expr t (number_lit n.0 n.1 n.2) (computed_prop_name bp x))) (number_lit n.0 n.1 n.2) (omega arith) refl refl refl a)) ▸ at
      (leaving st (opt_chain_expr sp true (member_expr t (number_lit n.0 n.1 n.2) (computed_prop_name bp x))) (bracketed look bp x g Alone Dotted refl) refl)))
      (λ (e : is_number o ≡ false). chain_bracket sp true t o bp x e h f g)
      (cases_Bool (is_number o))

  -- what goes on with a chain
  chain_plain : (o : Tree) → is_chain o ≡ true → (is_number o ≡ false) × (call_level ≤ level o)
  chain_plain (opt_chain_expr s q b) e = (refl, omega arith)
  chain_plain _ e = absurd (false≢true e)

  pub on_word : (sp t : Span) (o k : Tree) → is_chain o ≡ true → Good look o → Good look k → (is_word_name k || is_private k) ≡ true → Good look (opt_chain_expr sp false (member_expr t o k))
  on_word sp t o k e f g i = let p = chain_plain o e in chain_word sp false t o k p.0 p.1 f g i

  pub on_bracket : (sp t : Span) (o : Tree) (bp : Span) (x : Tree) → is_chain o ≡ true → Good look o → Good look x → Good look (opt_chain_expr sp false (member_expr t o (computed_prop_name bp x)))
  on_bracket sp t o bp x e f g = let p = chain_plain o e in chain_bracket sp false t o bp x p.0 p.1 f g

  pub chain_call : (sp : Span) (q : Bool) (t : Span) (g : Tree) (xs : Trees) → Good look g → call_level ≤ level g → AllGood look xs → Good look (opt_chain_expr sp q (opt_call t g xs))
  chain_call sp q t g xs f h b st s a =
      f Head s (head_admits s (opt_chain_expr sp q (opt_call t g xs)) g (omega (arith, h)) refl refl refl a) ▸ λ v l.
      when_goes {P = λ u. is_open u ≡ true} q (λ e. ends (optional (leaves_end Head g v l)) (λ u z. ap is_open z)) (λ e. leaves_open Head g v l) ▸ λ u o.
      leaving st (opt_chain_expr sp q (opt_call t g xs)) (shut left_paren o ▸ at (commas_go look xs Shut b refl ▸ λ w k. shut right_paren k)) refl

  pub chain_level : (o : Tree) → is_chain o ≡ true → call_level ≤ level o
  chain_level o e = (chain_plain o e).1

  -- ---- 13.3.11 tagged templates

  pub tagged_node : (sp : Span) (t : Tree) (p : Span) (es qs : Trees) → Good look t → call_level ≤ level t → count qs ≡ count es + 1 → AllGood look es → Quasis look Tagged qs → Good look (tagged_tpl sp t (tpl p es qs))
  tagged_node sp t p es qs f h n b q st s a =
      mark ▸ at (f Head s (head_admits s (tagged_tpl sp t (tpl p es qs)) t (omega (arith, h)) refl refl refl a) ▸ λ v l.
      template_at look p es qs n b Tagged q v (leaves_open Head t v l) ▸ at (leaving st (tagged_tpl sp t (tpl p es qs)) mark refl))

  -- ---- calls of `super` and `import`

  import_steps : (t : Span) (s : State) → is_wordless s ≡ true → Steps (laid look Head (import t)) s (At Worded)
  import_steps t s w = committed ▸ at (mark ▸ at (worded import_word w ▸ at mark))

  args_go : (xs : Trees) → AllGood look xs → (v : State) → is_open v ≡ true → Steps (in_parens (separated look (comma look) xs)) v (At Shut)
  args_go xs b v o = shut left_paren o ▸ at (commas_go look xs Shut b refl ▸ λ w k. shut right_paren k)

  pub super_call : (sp t : Span) (xs : Trees) → AllGood look xs → Good look (call_expr sp (super t) xs)
  super_call sp t xs b st s a = committed ▸ at (mark ▸ at (super_steps t s (admits_word s (call_expr sp (super t) xs) a refl) ▸ at (leaving st (call_expr sp (super t) xs) (args_go xs b Worded refl) refl)))

  pub import_call : (sp t : Span) (xs : Trees) → AllGood look xs → Good look (call_expr sp (import t) xs)
  import_call sp t xs b st s a = committed ▸ at (mark ▸ at (import_steps t s (admits_word s (call_expr sp (import t) xs) a refl) ▸ at (leaving st (call_expr sp (import t) xs) (args_go xs b Worded refl) refl)))

  -- ---- spread

  spread_stands : (s : State) (sp : Span) (e : Tree) → admits s (spread_element sp e) ≡ true → takes Dots s ≡ true
  spread_stands Fresh sp e a = refl
  spread_stands Clear sp e a = refl
  spread_stands Shut sp e a = refl
  spread_stands Worded sp e a = refl
  spread_stands Operated sp e a = refl
  spread_stands _ sp e a = absurd (false≢true a)

  pub spread_node : (sp : Span) (e : Tree) → Good look e → 1 ≤ level e → Good look (spread_element sp e)
  spread_node sp e f h st s a =
      mark ▸ at (text_by Dots dots_mark (spread_stands s sp e a) ▸ at (f Alone Shut refl ▸ λ v l. leaving st (spread_element sp e) mark (passes Alone st e (spread_element sp e) v l (expression_plain e h) (λ q. refl) (λ q. refl))))

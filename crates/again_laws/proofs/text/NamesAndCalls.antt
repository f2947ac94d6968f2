-- Nodes: each goes well where its parts do.
use Rattle.std.proofs.Common.{◌≡◌, ℕ, ◌≤◌, Bool, true, false, ◌&&◌, ◌||◌, not, List, None, refl, sym, ap, subst, ◌∙◌, arith}
use Rattle.std.proofs.lemmas.Bool.{false≢true, true≢false, and_parts, and_right}
use Rattle.base_token.specs.declared.place.Span.{Span}
use Rattle.base_token.specs.Kinds.{right_paren_kind}
use Rattle.tree_spec.specs.Tree.{Tree, Trees, none, more, ident, ident_name, private_name, computed_prop_name, number_lit, paren_expr, call_expr, member_expr, expr_stmt}
use Rattle.grammar_spec.specs.Tokens.Input.{Input, Code}
use Rattle.grammar_spec.specs.Tokens.Operators.{call_level}
use Rattle.grammar_spec.specs.Tokens.Shape.{level, is_element, is_private, is_word_name}
use Rattle.print_gaps.specs.Edges.{ends_with_word}
use Rattle.grammar_spec.specs.Children.{child}
use Rattle.grammar_spec.specs.Grammar.{Produces, children}
use Rattle.print_layout_spec.specs.declared.look.Look.{Look}
use Rattle.print_layout_spec.specs.declared.look.Stand.{Stand}
use Rattle.print_layout_spec.specs.declared.look.Stand.TheVariants.{Alone, Head}
use Rattle.print_layout_spec.specs.Looks.{Laid, ◌·◌, start, end}
use Rattle.print_layout_spec.specs.Literals.{name, identifier as own_name, name_bytes}
use Rattle.print_layout_spec.specs.Layout.{laid, separated, comma, in_parens, is_computed, point_before}
use Rattle.lex_token.specs.declared.goal.LexicalGoal.TheVariants.{Div}
use Rattle.again_laws.proofs.text.Marks.{comma_mark, dot_mark, left_bracket, left_paren, right_bracket, right_paren}
use Rattle.again_laws.proofs.text.Admits.{admits, admits_open, admits_word, at_least, free_admits, free_open, head_admits, is_ended, is_free, is_new, is_nothing, is_number, leaves, leaves_dot, leaves_open, loose_admits, numeric, passes}
use Rattle.again_laws.proofs.text.Forms.{AllGood, AllSound, Good, Sound, all_sorted}
use Rattle.again_laws.proofs.text.Steps.{At, Steps, at, committed, either, gaps, mark, nil, semicolons, shut, text_by, when_goes, worded, ◌▸◌, ends}
use Rattle.again_laws.specs.Tiling.Categories.{Clear, Dot, Dotted, Fresh, Numbered, Shut, State, Word, Worded, is_open, is_wordless, takes}
use Rattle.again_laws.specs.Tiling.Goes.{Fits}

-- at its end a tree leaves this state
pub leaving : {f : Laid} {s v : State} (st : Stand) (t : Tree) → Steps f s (At v) → leaves st t v ≡ true → Steps f s (λ u. leaves st t u ≡ true)
leaving st t x e = ends x (λ u h. ap (leaves st t) h ∙ e)

module _ (look : Look) where
  -- ---- names

  pub named : {s : State} (sp : Span) (n : List ℕ) → Fits Div (name_bytes look.style n) Word → is_wordless s ≡ true → Steps (name look sp n) s (At Worded)
  named sp n f w = committed ▸ at (mark ▸ at (worded f w))

  pub placed : {s : State} (sp : Span) (n : List ℕ) → Fits Div (name_bytes look.style n) Word → is_wordless s ≡ true → Steps (own_name look sp n) s (At Worded)
  placed sp n f w = record { so = (worded {span = None} f w).so }

  pub identifier : (sp : Span) (n : List ℕ) → Fits Div (name_bytes look.style n) Word → Sound look (ident sp n)
  identifier sp n f c ts r h st s a = leaving st (ident sp n) (placed sp n f (admits_word s (ident sp n) a refl)) refl

  -- ---- lists

  pub commas_go : (ts : Trees) (s : State) → AllGood look ts → is_free s ≡ true → Steps (separated look (comma look) ts) s (λ u. is_open u ≡ true)
  commas_go none s a f = ends nil (λ u e. ap is_open e ∙ free_open s f)
  commas_go (more t none) s a f = ends (a.0 Alone s (free_admits s t f)) (λ u l. leaves_open Alone t u l)
  commas_go (more t (more u ts)) s a f =
      a.0 Alone s (free_admits s t f) ▸ λ v l. (shut comma_mark (leaves_open Alone t v l) ▸ at (gaps look refl)) ▸ either (commas_go (more u ts) Shut a.1 refl) (commas_go (more u ts) Clear a.1 refl)

  -- ---- 13.2 parentheses

  pub parens : (sp : Span) (e : Tree) → Sound look e → Sound look (paren_expr sp e)
  parens sp e f c ts r h st s a =
      committed ▸ at (mark ▸ at (shut left_paren (admits_open s (paren_expr sp e) a) ▸ at (f _ _ _ h.3.1 Alone Shut refl ▸ λ v l. mark ▸ at
      (leaving st (paren_expr sp e) (shut right_paren (leaves_open Alone e v l)) refl))))

  -- ---- 13.3 calls

  pub arguments : (c : Code) (xs : Trees) (s : State) → AllGood look xs → is_open s ≡ true → Steps (in_parens (separated look (comma look) xs)) s (At Shut)
  arguments c xs s a o = shut left_paren o ▸ at (commas_go xs Shut a refl ▸ λ v l. shut right_paren l)

  pub call : (sp : Span) (g : Tree) (xs : Trees) → Sound look g → AllSound look xs → (c : Code) (ts r : Input) → Rattle.grammar_spec.specs.Expressions.Call c sp (child g (λ y. Produces g y)) (children xs) ts r → Good look (call_expr sp g xs)
  call sp g xs f fs c ts r h st s a =
      committed ▸ at (mark ▸ at (f _ _ _ h.2.1 Head s (head_admits s (call_expr sp g xs) g (omega (arith, h.2.0)) refl refl refl a) ▸ λ v l.
      leaving st (call_expr sp g xs) (arguments c xs v (all_sorted look is_element false c right_paren_kind xs fs _ _ h.3.2) (leaves_open Head g v l)) refl))

  -- ---- 14.5, 14.10

  pub expression_statement : (sp : Span) (e : Tree) → Sound look e → Sound look (expr_stmt sp e)
  expression_statement sp e f c ts r h st s a =
      f _ _ _ h.2.1 Alone s (loose_admits s (expr_stmt sp e) e refl refl refl refl h.2.0 a) ▸ λ v l. leaving st (expr_stmt sp e) (semicolons (leaves_open Alone e v l)) refl

  -- ---- 13.3 members

  -- a name behind a point
  pub record WordKey (k : Tree) : Type 0 where
    pub uncomputed : not (is_computed k) ≡ true
    pub dotted : admits Dotted k ≡ true
    pub plain : (is_ended k || is_nothing k) ≡ false
    pub no_number : numeric Alone k ≡ false
    pub ending : (sp : Span) (o : Tree) → (ends_with_word (member_expr sp o k) && not (is_ended (member_expr sp o k))) ≡ true

  pub word_key : (k : Tree) → (is_word_name k || is_private k) ≡ true → WordKey k
  word_key (ident_name s n) e = record { uncomputed = refl; dotted = refl; plain = refl; no_number = refl; ending = λ sp o. refl }
  word_key (private_name s n) e = record { uncomputed = refl; dotted = refl; plain = refl; no_number = refl; ending = λ sp o. refl }
  word_key _ e = absurd (false≢true e)

  -- no head of a member ends in a number
  pub head_numeric : (o : Tree) → is_number o ≡ false → call_level ≤ level o → numeric Head o ≡ false
  head_numeric o n h = neither (is_number o) _ n (neither (is_new o && false) _ (and_right (is_new o) false refl) (ap (λ b. not (b || (is_word_name o || is_private o))) (at_least call_level (level o) h)))
    where
      neither : (a b : Bool) → a ≡ false → b ≡ false → (a || b) ≡ false
      neither true b e f = e
      neither false b e f = f

  pub point : (k : Tree) {s : State} → not (is_computed k) ≡ true → takes Dot s ≡ true → Steps (point_before k) s (At Dotted)
  point k {s = s} u o = when_goes (not (is_computed k)) (λ e. text_by Dot dot_mark o) (λ e. absurd (false≢true (sym e ∙ u)))

  pub no_point : (k : Tree) {s : State} → not (is_computed k) ≡ false → Steps (point_before k) s (At s)
  no_point k {s = s} u = when_goes (not (is_computed k)) (λ e. absurd (false≢true (sym u ∙ e))) (λ e. refl)

  pub key_leaves : (sp : Span) (o k : Tree) (st : Stand) (v : State) → WordKey k → leaves Alone k v ≡ true → leaves st (member_expr sp o k) v ≡ true
  key_leaves sp o k st v w l = passes Alone st k (member_expr sp o k) v l w.plain (λ e. w.ending sp o) (λ e. absurd (false≢true (sym w.no_number ∙ e)))

  pub bracket_admits : (st : Stand) (o : Tree) (sp : Span) (e : Tree) (v : State) → numeric st o ≡ false → leaves st o v ≡ true → admits v (computed_prop_name sp e) ≡ true
  bracket_admits st o sp e Fresh n l = refl
  bracket_admits st o sp e Clear n l = refl
  bracket_admits st o sp e Shut n l = refl
  bracket_admits st o sp e Worded n l = refl
  bracket_admits st o sp e Numbered n l = absurd (false≢true (sym n ∙ (and_parts _ (numeric st o) l).1))
  bracket_admits st o sp e _ n l = absurd (false≢true l)

  pub bracketed : (sp : Span) (e : Tree) → Good look e → (st : Stand) (s : State) → is_open s ≡ true → Steps (laid look st (computed_prop_name sp e)) s (At Shut)
  bracketed sp e f st s o = mark ▸ at (shut left_bracket o ▸ at (f Alone Shut refl ▸ λ v l. shut right_bracket (leaves_open Alone e v l) ▸ at mark))

  -- a member of what is no number
  member_laid : (st : Stand) (sp : Span) (o k : Tree) → is_number o ≡ false → laid look st (member_expr sp o k) ≡ (start sp · laid look Head o · point_before k · laid look Alone k · end sp)
  member_laid st sp (number_lit at' value raw) k n = absurd (true≢false n)
  member_laid st sp o k n = refl

  pub by_laid : (f g : Laid) {s : State} {P : State → Type 0} → f ≡ g → Steps g s P → Steps f s P
  by_laid f g {s = s} {P = P} e x = subst (λ (l : Laid). Steps l s P) (sym e) x

  pub member_word : (sp : Span) (o k : Tree) → is_number o ≡ false → call_level ≤ level o → Good look o → Good look k → (is_word_name k || is_private k) ≡ true → Good look (member_expr sp o k)
  member_word sp o k n h f g w st s a =
      let q = word_key k w in
      by_laid (laid look st (member_expr sp o k)) (start sp · laid look Head o · point_before k · laid look Alone k · end sp) (member_laid st sp o k n)
      (mark ▸ at (f Head s (head_admits s (member_expr sp o k) o (omega (arith, h)) refl refl refl a) ▸ λ v l. point k q.uncomputed (leaves_dot Head o v (head_numeric o n h) l) ▸ at
      (g Alone Dotted q.dotted ▸ λ u m. leaving st (member_expr sp o k) mark (key_leaves sp o k st u q m))))

  pub member_bracket : (sp : Span) (o : Tree) (bp : Span) (e : Tree) → is_number o ≡ false → call_level ≤ level o → Good look o → Good look e → Good look (member_expr sp o (computed_prop_name bp e))
  member_bracket sp o bp e n h f g st s a =
      by_laid (laid look st (member_expr sp o (computed_prop_name bp e))) (start sp · laid look Head o · point_before (computed_prop_name bp e) · laid look Alone (computed_prop_name bp e) · end sp) (member_laid st sp o (computed_prop_name bp e) n)
      (mark ▸ at (f Head s (head_admits s (member_expr sp o (computed_prop_name bp e)) o (omega (arith, h)) refl refl refl a) ▸ λ v l. no_point (computed_prop_name bp e) refl ▸ at
      (bracketed bp e g Alone v (admits_open v (computed_prop_name bp e) (bracket_admits Head o bp e v (head_numeric o n h) l)) ▸ at (leaving st (member_expr sp o (computed_prop_name bp e)) mark refl))))

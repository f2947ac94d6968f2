-- Conditionals, variables, `for` with `in`, and methods of classes.
use Rattle.std.proofs.Common.{◌≡◌, ℕ, ◌≤◌, ◌⊎◌, inl, inr, ⊎_elim, Bool, true, false, ◌&&◌, ◌||◌, not, List, refl, sym, ap, subst, ◌∙◌, arith}
use Rattle.std.specs.Prelude.{◌==◌, codes, if◌then◌else◌}
use Rattle.std.proofs.lemmas.Bool.{false≢true, and_parts, not-true, and_right, and_from}
use Rattle.base_token.specs.declared.place.Span.{Span}
use Rattle.base_token.specs.Words.{own_text}
use Rattle.base_token.specs.Kinds.{get_kind, set_kind}
use Rattle.tree_spec.specs.Tree.{Tree, Trees, none, more, plain_method, cond_expr, var_declarator, var_decl, for_in_stmt, class_method, function, absent, array_pat, object_pat, binding_ident, ident_name, str_lit, number_lit, big_int_lit, computed_prop_name}
use Rattle.grammar_spec.specs.Tokens.Shape.{level, is_binding, is_key}
use Rattle.print_gaps.specs.Edges.{starts_with_word, ends_with_word, is_there, last_ends_with_word}
use Rattle.print_layout_spec.specs.declared.look.Look.{Look}
use Rattle.print_layout_spec.specs.declared.look.Stand.{Stand}
use Rattle.print_layout_spec.specs.declared.look.Stand.TheVariants.{Alone, Key}
use Rattle.print_layout_spec.specs.Looks.{Laid, ◌·◌, text, when, gap_or, gap}
use Rattle.print_layout_spec.specs.Layout.{laid, separated, comma, closing, starts_bracketed, word, after_static, method_marks}
use Rattle.lex_token.specs.declared.goal.LexicalGoal.TheVariants.{Div}
use Rattle.unicode_ident.proofs.Computing.{unicode_ident}
use Rattle.again_laws.proofs.tokens.PlainWords.{are_parts, is_plain_word}
use Rattle.again_laws.proofs.text.Keywords.{for_word, static_word, async_word, in_word}
use Rattle.again_laws.proofs.text.Marks.{colon_mark, comma_mark, equals_mark, left_paren, question_mark, right_paren, times_mark}
use Rattle.again_laws.proofs.text.Words.{keyword}
use Rattle.again_laws.proofs.text.Admits.{unstarred, admits, admits_word, expression_opens, expression_plain, free_admits, free_open, is_ended, is_free, is_nothing, leaves, leaves_end, leaves_open, leaves_wordless, loose_admits, numeric, passes, starts_otherwise, worded_admits, free_wordless, free_end, operand_leaves}
use Rattle.again_laws.proofs.text.Forms.{AllGood, Good, Sound}
use Rattle.again_laws.proofs.text.NamesAndCalls.{commas_go}
use Rattle.again_laws.proofs.text.Statements.{Item, closes}
use Rattle.again_laws.proofs.text.Steps.{Steps, apart, at, blanks, committed, either, gaps, gaps_or, if_goes, mark, nil, shut, text_by, when_goes, worded, ◌▸◌, ends}
use Rattle.again_laws.specs.Tiling.Categories.{Clear, Fresh, Numbered, Operated, Operator, Shut, State, Word, Worded, blank_behind, is_end, is_open, is_wordless}
use Rattle.again_laws.specs.Tiling.Goes.{Fits}

pub blank_end : (u : State) → is_end u ≡ true → is_end (blank_behind u) ≡ true
blank_end Fresh e = refl
blank_end _ e = refl

pub blank_free : (u : State) → is_free (blank_behind u) ≡ true
blank_free Fresh = refl
blank_free _ = refl

pub end_open : (u : State) → is_end u ≡ true → is_open u ≡ true
end_open Fresh e = refl
end_open Clear e = refl
end_open Shut e = refl
end_open Worded e = refl
end_open Numbered e = refl
end_open _ e = absurd (false≢true e)

module _ (look : Look) where
  -- an operator with a gap on each side where formatting has them, and an expression behind it
  pub gapped : {bytes : List ℕ} {P : State → Type 0} (v : State) (g : Laid) → Fits Div bytes Operator → is_end v ≡ true → Steps g Operated P → Steps g Clear P → Steps (gap look · text bytes · gap look · g) v P
  gapped {bytes = bytes} {P = P} v g f e x y = gaps look (end_open v e) ▸ either (sign v e) (sign (blank_behind v) (blank_end v e))
    where
      sign : (u : State) → is_end u ≡ true → Steps (text bytes · gap look · g) u P
      sign u e = text_by Operator f e ▸ at (gaps look refl ▸ either x y)

  -- ---- 13.14

  pub conditional : (sp : Span) (a b d : Tree) → Sound look a → Sound look b → Sound look d → Sound look (cond_expr sp a b d)
  conditional sp a b d f g k c ts r h st s z =
      mark ▸ at (f _ _ _ h.4.1 Alone s (loose_admits s (cond_expr sp a b d) a refl refl refl refl (omega (arith, h.4.0)) z) ▸ λ v l.
      gapped v _ question_mark (leaves_end Alone a v l) (second Operated (unstarred b (omega (arith, h.6.0)))) (second Clear refl))
    where
      third : (u : State) → admits u d ≡ true → Steps (laid look Alone d) u (λ v. leaves st (cond_expr sp a b d) v ≡ true)
      third u q = ends (k _ _ _ h.8.1 Alone u q) (λ v l. operand_leaves st d (cond_expr sp a b d) v (omega (arith, h.8.0)) refl refl l)

      colon : (u : State) → is_open u ≡ true → Steps (text (codes ":") · gap look · laid look Alone d) u (λ v. leaves st (cond_expr sp a b d) v ≡ true)
      colon u o = shut colon_mark o ▸ at (gaps look refl ▸ either (third Shut refl) (third Clear refl))

      second : (u : State) → admits u b ≡ true → Steps (laid look Alone b · gap look · text (codes ":") · gap look · laid look Alone d) u (λ v. leaves st (cond_expr sp a b d) v ≡ true)
      second u q = g _ _ _ h.6.1 Alone u q ▸ λ v l. gaps look (leaves_open Alone b v l) ▸ either (colon v (leaves_open Alone b v l)) (colon (blank_behind v) (free_open _ (blank_free v)))

  -- ---- 14.3 variables

  name_worded : (sp : Span) (n e : Tree) → is_binding n ≡ true → admits Worded (var_declarator sp n e) ≡ true → admits Worded n ≡ true
  name_worded sp (array_pat s xs) e i a = refl
  name_worded sp (object_pat s ps) e i a = refl
  name_worded sp (binding_ident s x) e i a = absurd (false≢true a)
  name_worded sp _ e i a = absurd (false≢true i)

  name_operated : (n : Tree) → is_binding n ≡ true → admits Operated n ≡ true
  name_operated (array_pat s xs) i = refl
  name_operated (object_pat s ps) i = refl
  name_operated (binding_ident s x) i = refl
  name_operated _ i = absurd (false≢true i)

  name_admits : (s : State) (sp : Span) (n e : Tree) → is_binding n ≡ true → admits s (var_declarator sp n e) ≡ true → admits s n ≡ true
  name_admits Fresh sp n e i a = refl
  name_admits Clear sp n e i a = refl
  name_admits Shut sp n e i a = refl
  name_admits Worded sp n e i a = name_worded sp n e i a
  name_admits Operated sp n e i a = name_operated n i
  name_admits _ sp n e i a = absurd (false≢true a)

  pub binding_plain : (n : Tree) → is_binding n ≡ true → (is_ended n || is_nothing n) ≡ false
  binding_plain (array_pat s xs) i = refl
  binding_plain (object_pat s ps) i = refl
  binding_plain (binding_ident s x) i = refl
  binding_plain _ i = absurd (false≢true i)

  bare_ending : (sp : Span) (n e : Tree) → is_there e ≡ false → ends_with_word n ≡ true → (ends_with_word (var_declarator sp n e) && not (is_ended (var_declarator sp n e))) ≡ true
  bare_ending sp n e t w = ap (λ b. (if b then ends_with_word e else ends_with_word n) && true) t ∙ ap (λ b. b && true) w

  value_ending : (sp : Span) (n e : Tree) → is_there e ≡ true → ends_with_word e ≡ true → (ends_with_word (var_declarator sp n e) && not (is_ended (var_declarator sp n e))) ≡ true
  value_ending sp n e t w = ap (λ b. (if b then ends_with_word e else ends_with_word n) && true) t ∙ ap (λ b. b && true) w

  pub declarator : (sp : Span) (n e : Tree) → Good look n → is_binding n ≡ true → (is_there e ≡ true → Good look e × (1 ≤ level e)) → Good look (var_declarator sp n e)
  declarator sp n e f p g st s a =
      mark ▸ at (f Alone s (name_admits s sp n e p a) ▸ λ v l. when_goes (is_there e)
      (λ t. gapped v (laid look Alone e) equals_mark (leaves_end Alone n v l) (value t Operated (unstarred e (g t).1)) (value t Clear refl))
      (λ t. passes Alone st n (var_declarator sp n e) v l (binding_plain n p) (bare_ending sp n e t) (λ q. refl)))
    where
      value : is_there e ≡ true → (u : State) → admits u e ≡ true → Steps (laid look Alone e) u (λ v. leaves st (var_declarator sp n e) v ≡ true)
      value t u q = ends ((g t).0 Alone u q) (λ v l. passes Alone st e (var_declarator sp n e) v l (expression_plain e (g t).1) (value_ending sp n e t) (λ q. refl))

  -- a list ends as its last part does
  unfoldable pub AllDeclared : Trees → Type 0
  AllDeclared none = Unit {0}
  AllDeclared (more t ts) = Good look t × (((is_ended t || is_nothing t) ≡ false) × AllDeclared ts)

  pub declared_go : (ts : Trees) (t : Tree) (s : State) → AllDeclared (more t ts) → admits s t ≡ true → (k : Tree) (st : Stand) → (last_ends_with_word (more t ts) ≡ true → (ends_with_word k && not (is_ended k)) ≡ true) → numeric st k ≡ true
      → Steps (separated look (comma look) (more t ts)) s (λ u. leaves st k u ≡ true)
  unfolding AllDeclared
  declared_go none t s a q k st w n = ends (a.0 Alone s q) (λ v l. passes Alone st t k v l a.1.0 w (λ e. n))
  declared_go (more u ts) t s a q k st w n =
      a.0 Alone s q ▸ λ v l. (shut comma_mark (leaves_open Alone t v l) ▸ at (gaps look refl)) ▸ either (declared_go ts u Shut a.1.1 refl k st w n) (declared_go ts u Clear a.1.1 refl k st w n)

  pub variables_good : (sp : Span) (kind : ℕ) (t : Tree) (ts : Trees) → Fits Div (own_text kind) Word → AllDeclared (more t ts) → (starts_bracketed (more t ts) ≡ true → admits Worded t ≡ true) → Good look (var_decl sp kind (more t ts))
  variables_good sp kind t ts f a b st s q =
      committed ▸ at (mark ▸ at (worded f (admits_word s (var_decl sp kind (more t ts)) q refl) ▸ at (if_goes {P = λ u. admits u t ≡ true} (starts_bracketed (more t ts))
      (λ e. ends (gaps look refl) (λ u z. ⊎_elim (λ (x : u ≡ Worded). ap (λ v. admits v t) x ∙ b e) (λ (x : u ≡ Clear). ap (λ v. admits v t) x) z))
      (λ e. ends (blanks refl) (λ u z. ap (λ v. admits v t) z)) ▸ λ u z. declared_go ts t u a z (var_decl sp kind (more t ts)) st (λ e. and_from (ends_with_word (var_decl sp kind (more t ts))) (not (is_ended (var_decl sp kind (more t ts)))) e (ap not (and_right _ false refl))) refl)))

  -- ---- 14.7.5 `for`-`in`

  pub for_in_good : (sp : Span) (left right body : Tree) → Good look left → (is_ended left || is_nothing left) ≡ false → Good look right → 1 ≤ level right → Item look body → Good look (for_in_stmt sp left right body)
  for_in_good sp left right body f p g h k st s a =
      committed ▸ at (mark ▸ at (worded for_word (admits_word s (for_in_stmt sp left right body) a refl) ▸ at (shut left_paren refl ▸ at (f Alone Shut refl ▸ λ v l.
      gaps_or look (ends_with_word left) (leaves_open Alone left v l) ▸ apart
      (λ n. behind_left v (free_wordless v (leaves_wordless Alone left v (ap (λ b. b && not (is_ended left)) n) l)))
      (behind_left (blank_behind v) (free_wordless _ (blank_free v)))))))
    where
      statement : (v : State) → is_open v ≡ true → Steps (text (codes ")") · laid look Alone body · closing look body) v (λ u. leaves st (for_in_stmt sp left right body) u ≡ true)
      statement v o = shut right_paren o ▸ at (k.0 Alone Shut refl ▸ λ u l. ends (closes look body u k.1 l) (λ w e. loop_leaves w e))
        where
          loop_leaves : (w : State) → is_free w ≡ true → leaves st (for_in_stmt sp left right body) w ≡ true
          loop_leaves Fresh e = refl
          loop_leaves Clear e = refl
          loop_leaves Shut e = refl
          loop_leaves _ e = absurd (false≢true e)

      over : (u : State) → admits u right ≡ true → Steps (laid look Alone right · text (codes ")") · laid look Alone body · closing look body) u (λ v. leaves st (for_in_stmt sp left right body) v ≡ true)
      over u q = g Alone u q ▸ λ v l. statement v (leaves_open Alone right v l)

      behind_left : (v : State) → is_wordless v ≡ true → Steps (word (codes "in") · gap_or look (starts_with_word right) · laid look Alone right · text (codes ")") · laid look Alone body · closing look body) v (λ u. leaves st (for_in_stmt sp left right body) u ≡ true)
      behind_left v w = worded in_word w ▸ at (gaps_or look (starts_with_word right) refl ▸ apart (λ n. over Worded (worded_admits right n (expression_opens right h))) (over Clear refl))

  -- ---- 15.7 methods

  -- behind `static` touches a star, or a key that no word runs into
  pub Touches : ℕ → Bool → Bool → Tree → Type 0
  Touches kind generates waits key = ((kind == plain_method && not waits) ≡ true) × ((generates ≡ true) ⊎ ((generates ≡ false) × (starts_with_word key ≡ false)))

  pub static_gap : (kind : ℕ) (generates waits : Bool) (key : Tree) → Steps (after_static look kind generates waits key) Worded (λ u. (Touches kind generates waits key × (u ≡ Worded)) ⊎ (u ≡ Clear))
  unfolding Touches
  static_gap kind generates waits key = if_goes (kind == plain_method && not waits)
      (λ e. if_goes generates
      (λ g. ends (gaps look refl) (λ u q. ⊎_elim (λ (x : u ≡ Worded). inl ((e, inl g), x)) (λ (x : u ≡ Clear). inr x) q))
      (λ g. ends (gaps_or look (starts_with_word key) refl) (λ u q. ⊎_elim (λ (x : (starts_with_word key ≡ false) × (u ≡ Worded)). inl ((e, inr (g, x.0)), x.1)) (λ (x : u ≡ Clear). inr x) q)))
      (λ e. ends (blanks refl) (λ u q. inr q))

  pub key_opens : (k : Tree) → is_key k ≡ true → starts_otherwise k ≡ false
  key_opens k e = by (is_key k) (starts_otherwise k) e (apart_keys k)
    where
      by : (a b : Bool) → a ≡ true → (a && b) ≡ false → b ≡ false
      by true b e f = f
      by false b e f = absurd (false≢true e)

      apart_keys : (k : Tree) → (is_key k && starts_otherwise k) ≡ false
      apart_keys (absent) = refl
      apart_keys _ = refl

  pub key_operated : (k : Tree) → is_key k ≡ true → admits Operated k ≡ true
  key_operated (ident_name s n) e = refl
  key_operated (str_lit s u w) e = refl
  key_operated (number_lit s v w) e = refl
  key_operated (big_int_lit s b d w) e = refl
  key_operated (computed_prop_name s x) e = refl
  key_operated _ e = absurd (false≢true e)

  -- `async` and `*` of a method, before its key
  pub marks_go : (waits generates : Bool) (key : Tree) (s : State) → is_key key ≡ true → is_wordless s ≡ true → is_end s ≡ true → admits s key ≡ true → Steps (method_marks waits generates) s (λ u. admits u key ≡ true)
  marks_go true true key s i w e a = (worded async_word w ▸ at (blanks refl)) ▸ at (ends (text_by Operator times_mark refl) (λ u q. ap (λ v. admits v key) q ∙ key_operated key i))
  marks_go true false key s i w e a = (worded async_word w ▸ at (blanks refl)) ▸ at (ends nil (λ u q. ap (λ v. admits v key) q))
  marks_go false true key s i w e a = nil ▸ at (ends (text_by Operator times_mark e) (λ u q. ap (λ v. admits v key) q ∙ key_operated key i))
  marks_go false false key s i w e a = nil ▸ at (ends nil (λ u q. ap (λ v. admits v key) q ∙ a))

  star_go : (key : Tree) → is_key key ≡ true → Steps (method_marks false true) Worded (λ u. admits u key ≡ true)
  star_go key i = nil ▸ at (ends (text_by Operator times_mark refl) (λ u q. ap (λ v. admits v key) q ∙ key_operated key i))

  pub get_or_set : (kind : ℕ) → ((kind ≡ get_kind) ⊎ (kind ≡ set_kind)) → Fits Div (own_text kind) Word
  unfolding own_text is_plain_word are_parts unicode_ident
  get_or_set kind (inl e) = subst (λ n. Fits Div (own_text n) Word) (sym e) (keyword (codes "get") refl)
  get_or_set kind (inr e) = subst (λ n. Fits Div (own_text n) Word) (sym e) (keyword (codes "set") refl)

  -- behind `static`, or where none stands: `async` and `*`, or `get` or `set`, and then the key
  Kind : ℕ → Bool → Bool → Type 0
  Kind kind generates waits = (kind == plain_method) ≡ false → ((kind ≡ get_kind) ⊎ (kind ≡ set_kind))

  pub accessed : (kind : ℕ) (generates waits : Bool) (key : Tree) (s : State) → ((kind == plain_method) ≡ false → ((kind ≡ get_kind) ⊎ (kind ≡ set_kind))) → is_key key ≡ true → is_wordless s ≡ true → is_end s ≡ true → admits s key ≡ true
      → Steps (if kind == plain_method then method_marks waits generates else word (own_text kind) · gap_or look (starts_with_word key)) s (λ u. admits u key ≡ true)
  accessed kind generates waits key s k i w e a = if_goes (kind == plain_method)
      (λ p. marks_go waits generates key s i w e a)
      (λ p. worded (get_or_set kind (k p)) w ▸ at (ends (gaps_or look (starts_with_word key) refl) (λ u q. ⊎_elim
      (λ (x : (starts_with_word key ≡ false) × (u ≡ Worded)). ap (λ v. admits v key) x.1 ∙ worded_admits key x.0 (key_opens key i))
      (λ (x : u ≡ Clear). ap (λ v. admits v key) x) q)))

  -- `static`, `async` and `*`, or `get` or `set`, up to the key
  unfoldable pub Head_of : Bool → ℕ → Bool → Bool → Tree → Laid
  Head_of is_static kind generates waits key = when is_static (word (codes "static") · after_static look kind generates waits key)
      · (if kind == plain_method then method_marks waits generates else word (own_text kind) · gap_or look (starts_with_word key))

  touching : (kind : ℕ) (generates waits : Bool) (key : Tree) → is_key key ≡ true → Touches kind generates waits key
      → Steps (if kind == plain_method then method_marks waits generates else word (own_text kind) · gap_or look (starts_with_word key)) Worded (λ u. admits u key ≡ true)
  unfolding Touches
  touching kind generates waits key i h =
      let p = and_parts (kind == plain_method) (not waits) h.0 in
      if_goes (kind == plain_method)
      (λ e. subst (λ (w : Bool). Steps (method_marks w generates) Worded (λ u. admits u key ≡ true)) (sym (not-true waits p.1)) (⊎_elim
      (λ (g : generates ≡ true). subst (λ (b : Bool). Steps (method_marks false b) Worded (λ u. admits u key ≡ true)) (sym g) (star_go key i))
      (λ (g : (generates ≡ false) × (starts_with_word key ≡ false)). subst (λ (b : Bool). Steps (method_marks false b) Worded (λ u. admits u key ≡ true)) (sym g.0)
      (nil ▸ at (ends nil (λ u q. ap (λ v. admits v key) q ∙ worded_admits key g.1 (key_opens key i)))))
      h.1))
      (λ e. absurd (false≢true (sym e ∙ p.0)))

  pub heads : (is_static : Bool) (kind : ℕ) (generates waits : Bool) (key : Tree) (s : State) → ((kind == plain_method) ≡ false → ((kind ≡ get_kind) ⊎ (kind ≡ set_kind))) → is_key key ≡ true → is_free s ≡ true
      → Steps (Head_of is_static kind generates waits key) s (λ u. admits u key ≡ true)
  unfolding Head_of
  heads is_static kind generates waits key s k i f =
      when_goes {P = λ u. (Touches kind generates waits key × (u ≡ Worded)) ⊎ (is_free u ≡ true)} is_static
      (λ e. worded static_word (free_wordless s f) ▸ at (ends (static_gap kind generates waits key) (λ u q. ⊎_elim (λ (d : Touches kind generates waits key × (u ≡ Worded)). inl d) (λ (d : u ≡ Clear). inr (ap is_free d)) q)))
      (λ e. inr f) ▸ λ u q. ⊎_elim
      (λ (d : Touches kind generates waits key × (u ≡ Worded)). at (touching kind generates waits key i d.0) u d.1)
      (λ (d : is_free u ≡ true). accessed kind generates waits key u k i (free_wordless u d) (free_end u d) (free_admits u key d))
      q

  -- ---- a method of a class, without decorators (the grammar has none)

  -- both sides compute to one
  regroup : {f g h : Laid} {s : State} {P : State → Type 0} → Steps ((f · g) · h) s P → Steps (f · g · h) s P
  regroup x = record { so = x.so }

  member_free : (s : State) (sp : Span) (key f : Tree) (kind : ℕ) (b : Bool) → admits s (class_method sp key f kind b) ≡ true → is_free s ≡ true
  member_free Fresh sp key f kind b a = refl
  member_free Clear sp key f kind b a = refl
  member_free Shut sp key f kind b a = refl
  member_free _ sp key f kind b a = absurd (false≢true a)

  pub method_good : (sp : Span) (key : Tree) (at' : Span) (ps : Trees) (body : Tree) (g w : Bool) (kind : ℕ) (is_static : Bool) → ((kind == plain_method) ≡ false → ((kind ≡ get_kind) ⊎ (kind ≡ set_kind))) → is_key key ≡ true
      → Good look key → AllGood look ps → Good look body → is_ended body ≡ true → Good look (class_method sp key (function at' ps none body g w) kind is_static)
  unfolding Head_of
  method_good sp key at' ps body g w kind is_static k i f a b z st s q =
      mark ▸ at (nil ▸ at (regroup (heads is_static kind g w key s k i (member_free s sp key (function at' ps none body g w) kind is_static q) ▸ λ u c. f Key u c ▸ λ v l.
      (shut left_paren (leaves_open Key key v l) ▸ at (commas_go look ps Shut a refl ▸ λ x o. shut right_paren o)) ▸ at (gaps look refl ▸ either (last_part Shut refl) (last_part Clear refl)))))
    where
      method_leaves : (u : State) → is_free u ≡ true → leaves st (class_method sp key (function at' ps none body g w) kind is_static) u ≡ true
      method_leaves Fresh e = refl
      method_leaves Clear e = refl
      method_leaves Shut e = refl
      method_leaves _ e = absurd (false≢true e)

      last_part : (u : State) → is_free u ≡ true → Steps (laid look Alone body) u (λ v. leaves st (class_method sp key (function at' ps none body g w) kind is_static) v ≡ true)
      last_part u e = ends (b Alone u (free_admits u body e)) (λ v l. method_leaves v (leaves_wordless Alone body v (ap (λ c. ends_with_word body && not c) z ∙ and_right (ends_with_word body) false refl) l))

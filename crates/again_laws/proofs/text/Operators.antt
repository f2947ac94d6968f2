-- Operators, `new` and statements: each goes well where its parts do.
use Rattle.std.proofs.Common.{◌≡◌, ℕ, ◌≤◌, ◌⊎◌, inl, inr, ⊎_elim, true, false, ◌||◌, not, refl, sym, ap, subst, ◌∙◌, arith}
use Rattle.std.specs.Prelude.{◌==◌}
use Rattle.std.proofs.lemmas.Bool.{false≢true, eqb-true, or_cases, or_parts}
use Rattle.base_token.specs.declared.place.Span.{Span}
use Rattle.base_token.specs.Kinds.{plus_plus_kind, minus_minus_kind}
use Rattle.tree_spec.specs.Tree.{Tree, update_expr, new_expr, return_stmt, absent}
use Rattle.grammar_spec.specs.Tokens.Operators.{unary_level, new_level}
use Rattle.grammar_spec.specs.Tokens.Shape.{level, is_absent}
use Rattle.print_gaps.specs.Edges.{starts_with_word, is_there}
use Rattle.print_layout_spec.specs.declared.look.Look.{Look}
use Rattle.print_layout_spec.specs.declared.look.Stand.{Stand}
use Rattle.print_layout_spec.specs.declared.look.Stand.TheVariants.{Alone, Head}
use Rattle.print_layout_spec.specs.Looks.{when, formats}
use Rattle.print_layout_spec.specs.Layout.{laid, is_head, in_parens}
use Rattle.print_layout_spec.specs.Words.{sign_of}
use Rattle.again_laws.proofs.text.Keywords.{new_word, return_word}
use Rattle.again_laws.proofs.text.Marks.{decrement_mark, increment_mark, left_paren, right_paren}
use Rattle.again_laws.proofs.text.Admits.{admits, admits_word, at_least, expression_opens, expression_plain, head_admits, leaves, leaves_open, no_lines, numeric, passes, starts_otherwise, worded_admits, operand_leaves}
use Rattle.again_laws.proofs.text.Forms.{Good, Sound, by_second, maybe_good, not_absent}
use Rattle.again_laws.proofs.text.NamesAndCalls.{leaving}
use Rattle.again_laws.proofs.text.Steps.{Steps, apart, at, committed, gaps_or, mark, nil, semicolons, shut, text_by, when_goes, worded, ◌▸◌, ends}
use Rattle.again_laws.specs.Tiling.Categories.{Clear, Decr, Fresh, Incr, LessBanged, Minused, Numbered, Plused, Pointed, Quasied, Shut, State, Worded, behind, is_open, takes}

module _ (look : Look) where
  -- ---- 13.4 update expressions

  update_kinds : (op : ℕ) → ((op == plus_plus_kind) || (op == minus_minus_kind)) ≡ true → (op ≡ plus_plus_kind) ⊎ (op ≡ minus_minus_kind)
  update_kinds op e = ⊎_elim (λ (t : (op == plus_plus_kind) ≡ true). inl (eqb-true op plus_plus_kind t)) (λ (t : (op == minus_minus_kind) ≡ true). inr (eqb-true op minus_minus_kind t)) (or_cases (op == plus_plus_kind) (op == minus_minus_kind) e)

  incr_takes : (s : State) (sp : Span) (x : Tree) → admits s (update_expr sp plus_plus_kind true x) ≡ true → takes Incr s ≡ true
  incr_takes Plused sp x e = absurd (false≢true e)
  incr_takes Pointed sp x e = absurd (false≢true e)
  incr_takes Quasied sp x e = absurd (false≢true e)
  incr_takes _ sp x e = refl

  decr_takes : (s : State) (sp : Span) (x : Tree) → admits s (update_expr sp minus_minus_kind true x) ≡ true → takes Decr s ≡ true
  decr_takes Minused sp x e = absurd (false≢true e)
  decr_takes LessBanged sp x e = absurd (false≢true e)
  decr_takes Pointed sp x e = absurd (false≢true e)
  decr_takes Quasied sp x e = absurd (false≢true e)
  decr_takes _ sp x e = refl

  decr_admits : (s : State) (x : Tree) → unary_level ≤ level x → admits (behind Decr s) x ≡ true
  decr_admits Fresh x h = at_least unary_level (level x) h
  decr_admits _ x h = refl

  increment : (sp : Span) (x : Tree) → unary_level ≤ level x → Good look x → Good look (update_expr sp plus_plus_kind true x)
  unfolding sign_of
  increment sp x h f st s a = mark ▸ at (text_by Incr increment_mark (incr_takes s sp x a) ▸ at (ends (f Alone Shut refl) (λ v l. operand_leaves st x (update_expr sp plus_plus_kind true x) v (omega arith) refl refl l)))

  decrement : (sp : Span) (x : Tree) → unary_level ≤ level x → Good look x → Good look (update_expr sp minus_minus_kind true x)
  unfolding sign_of
  decrement sp x h f st s a = mark ▸ at (text_by Decr decrement_mark (decr_takes s sp x a) ▸ at (ends (f Alone (behind Decr s) (decr_admits s x h)) (λ v l. operand_leaves st x (update_expr sp minus_minus_kind true x) v (omega arith) refl refl l)))

  pub update_before : (sp : Span) (op : ℕ) (x : Tree) → Sound look x → Sound look (update_expr sp op true x)
  update_before sp op x f c ts r h = ⊎_elim
      (λ (e : op ≡ plus_plus_kind). subst (λ k. Good look (update_expr sp k true x)) (sym e) (increment sp x h.3.0 (f _ _ _ h.3.1)))
      (λ (e : op ≡ minus_minus_kind). subst (λ k. Good look (update_expr sp k true x)) (sym e) (decrement sp x h.3.0 (f _ _ _ h.3.1)))
      (update_kinds op h.1)

  -- behind an operand
  sign_takes : (x : Tree) (v : State) → 1 ≤ level x → leaves Alone x v ≡ true → (takes Incr v ≡ true) × (takes Decr v ≡ true) × (behind Decr v ≡ Shut)
  sign_takes x Fresh h l = absurd (false≢true (sym (no_lines x (expression_plain x h)) ∙ l))
  sign_takes x Clear h l = (refl, refl, refl)
  sign_takes x Shut h l = (refl, refl, refl)
  sign_takes x Worded h l = (refl, refl, refl)
  sign_takes x Numbered h l = (refl, refl, refl)
  sign_takes x _ h l = absurd (false≢true l)

  increments : (sp : Span) (x : Tree) → new_level ≤ level x → Good look x → Good look (update_expr sp plus_plus_kind false x)
  unfolding sign_of
  increments sp x h f st s a = mark ▸ at (f Alone s (head_admits s (update_expr sp plus_plus_kind false x) x h refl refl refl a) ▸ λ v l. leaving st (update_expr sp plus_plus_kind false x) (text_by Incr increment_mark (sign_takes x v (omega arith) l).0) refl)

  decrements : (sp : Span) (x : Tree) → new_level ≤ level x → Good look x → Good look (update_expr sp minus_minus_kind false x)
  unfolding sign_of
  decrements sp x h f st s a = mark ▸ at (f Alone s (head_admits s (update_expr sp minus_minus_kind false x) x h refl refl refl a) ▸ λ v l.
      let k = sign_takes x v (omega arith) l in ends (text_by Decr decrement_mark k.1) (λ u e. ap (leaves st (update_expr sp minus_minus_kind false x)) (e ∙ k.2)))

  pub update_behind : (sp : Span) (op : ℕ) (x : Tree) → Sound look x → Sound look (update_expr sp op false x)
  update_behind sp op x f c ts r h = ⊎_elim
      (λ (e : op ≡ plus_plus_kind). subst (λ k. Good look (update_expr sp k false x)) (sym e) (increments sp x h.2.0 (f _ _ _ h.2.1)))
      (λ (e : op ≡ minus_minus_kind). subst (λ k. Good look (update_expr sp k false x)) (sym e) (decrements sp x h.2.0 (f _ _ _ h.2.1)))
      (update_kinds op h.1)

  -- ---- 13.3.5 `new`

  bare_numeric : (sp : Span) (g : Tree) (st : Stand) → is_head st ≡ false → numeric st (new_expr sp g absent) ≡ true
  bare_numeric sp g st e = ap (λ b. not b || true) e

  pub new_bare : (sp : Span) (g : Tree) → Sound look g → Sound look (new_expr sp g absent)
  new_bare sp g f c ts r h st s a =
      committed ▸ at (mark ▸ at (worded new_word (admits_word s (new_expr sp g absent) a refl) ▸ at (gaps_or look (starts_with_word g) refl ▸ apart (λ n. callee Worded (worded_admits g n (expression_opens g high))) (callee Clear refl))))
    where
      high : 1 ≤ level g
      high = ⊎_elim (λ (e : level g ≡ new_level). omega arith) (λ (e : Rattle.grammar_spec.specs.Tokens.Operators.member_level ≤ level g). omega arith) h.2

      callee : (u : State) → admits u g ≡ true → Steps (Rattle.print_layout_spec.specs.Looks.◌·◌ (laid look Head g) (when (formats look || is_head st) (in_parens Rattle.print_layout_spec.specs.Looks.nothing))) u (λ v. leaves st (new_expr sp g absent) v ≡ true)
      callee u b = f _ _ _ h.3 Head u b ▸ λ v l. when_goes (formats look || is_head st)
          (λ t. shut left_paren (leaves_open Head g v l) ▸ at (nil ▸ at (leaving st (new_expr sp g absent) (shut right_paren refl) refl)))
          (λ n. passes Head st g (new_expr sp g absent) v l (expression_plain g high) (λ e. refl) (λ e. bare_numeric sp g st (or_parts (formats look) (is_head st) n).1))

  -- ---- 14.10 `return`

  pub returns : (sp : Span) (e : Tree) → Sound look e → Sound look (return_stmt sp e)
  returns sp e f c ts r h st s a =
      committed ▸ at (mark ▸ at (worded return_word (admits_word s (return_stmt sp e) a refl) ▸ at
      (when_goes (is_there e) (λ t. gaps_or look (starts_with_word e) refl ▸ apart (λ n. value t Worded (worded_admits e n (opens t))) (value t Clear refl)) (λ t. refl) ▸ λ v l. leaving st (return_stmt sp e) (semicolons l) refl)))
    where
      opens : is_there e ≡ true → starts_otherwise e ≡ false
      opens t = expression_opens e (by_second (is_absent e) _ _ h.2 (not_absent e t)).2.0

      value : is_there e ≡ true → (u : State) → admits u e ≡ true → Steps (laid look Alone e) u (λ v. is_open v ≡ true)
      value t u b = ends (maybe_good look _ e h.2 (λ k. f _ _ _ k.2.1) Alone u b) (λ v l. leaves_open Alone e v l)

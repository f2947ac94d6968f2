-- Loops, `switch`, `try` and the other statements.
use Rattle.std.proofs.Common.{◌≡◌, ℕ, ◌≤◌, ◌⊎◌, inl, inr, ⊎_elim, Bool, true, false, ◌&&◌, ◌||◌, not, List, refl, sym, ap, subst, ◌∙◌}
use Rattle.std.specs.Prelude.{◌==◌, codes}
use Rattle.std.proofs.lemmas.Bool.{false≢true, eqb-true, or_cases, and_right, and_from}
use Rattle.unicode_ident.proofs.Computing.{unicode_ident}
use Rattle.base_token.specs.declared.place.Span.{Span}
use Rattle.base_token.specs.Words.{own_text}
use Rattle.base_token.specs.Kinds.{var_kind, let_kind, const_kind}
use Rattle.tree_spec.specs.Tree.{Tree, Trees, none, more, ident, block_stmt, empty_stmt, debugger_stmt, with_stmt, labeled_stmt, break_stmt, continue_stmt, switch_stmt, switch_case, throw_stmt, try_stmt, catch_clause, while_stmt, do_while_stmt, for_stmt, for_of_stmt, using_decl}
use Rattle.grammar_spec.specs.Tokens.Shape.{level}
use Rattle.print_gaps.specs.Edges.{starts_with_word, ends_with_word, is_there}
use Rattle.grammar_spec.specs.Statements.{is_var_word}
use Rattle.lex_token.specs.declared.goal.LexicalGoal.TheVariants.{Div}
use Rattle.print_layout_spec.specs.declared.look.Look.{Look}
use Rattle.print_layout_spec.specs.declared.look.Stand.{Stand}
use Rattle.print_layout_spec.specs.declared.look.Stand.TheVariants.{Alone}
use Rattle.print_layout_spec.specs.Looks.{Laid, ◌·◌, text, when, gap, gap_or, blank, semi, line, end}
use Rattle.print_layout_spec.specs.Layout.{laid, rows, closing, indented_or_line, is_block, in_parens, word, is_empty}
use Rattle.again_laws.specs.Tiling.Categories.{State, Fresh, Clear, Shut, Worded, Operated, Word, is_open, is_wordless, blank_behind}
use Rattle.again_laws.specs.Tiling.Goes.{Fits}
use Rattle.again_laws.proofs.tiling.Marks.{semicolon_mark}
use Rattle.again_laws.proofs.tokens.PlainWords.{is_plain_word, are_parts}
use Rattle.again_laws.proofs.text.Words.{keyword}
use Rattle.again_laws.proofs.text.Keywords.{debugger_word, with_word, break_word, continue_word, switch_word, case_word, default_word, throw_word, try_word, catch_word, finally_word, while_word, do_word, for_word, await_word, of_word, using_word}
use Rattle.again_laws.proofs.text.Marks.{left_paren, right_paren, left_brace, colon_mark}
use Rattle.again_laws.proofs.text.Admits.{admits, leaves, is_ended, is_nothing, worded_admits, expression_opens, admits_open, admits_word, leaves_open, leaves_wordless, is_free, free_admits, free_open, free_wordless}
use Rattle.again_laws.proofs.text.Steps.{Steps, At, ◌▸◌, ends, at, either, apart, mark, committed, nil, shut, worded, braced, blanks, semicolons, when_goes, if_goes, gaps, gaps_or, lines, deepens, comes_back}
use Rattle.again_laws.proofs.text.Forms.{Good}
use Rattle.again_laws.proofs.text.NamesAndCalls.{leaving}
use Rattle.again_laws.proofs.text.Statements.{Item, AllItems, closes, free_line, rows_go, item_opens, block_good}
use Rattle.again_laws.proofs.text.VariablesAndMethods.{blank_free, AllDeclared, declared_go}
use Rattle.again_laws.proofs.text.Patterns.{first_admits}

-- ---- what is left behind a statement, a case, a member

-- each of the three that nothing runs into
pub free_leaves : (st : Stand) (t : Tree) (v : State) → (is_ended t && not (is_block t)) ≡ true → is_free v ≡ true → leaves st t v ≡ true
free_leaves st t Fresh h e = ap (λ b. b || is_nothing t) h
free_leaves st t Clear h e = refl
free_leaves st t Shut h e = refl
free_leaves st t _ h e = absurd (false≢true e)

pub ended_leaves : (st : Stand) (t : Tree) (v : State) → is_ended t ≡ true → leaves st t v ≡ true → is_free v ≡ true
ended_leaves st t v h l = leaves_wordless st t v (ap (λ b. ends_with_word t && not b) h ∙ and_right (ends_with_word t) false refl) l

pub var_text : (k : ℕ) → is_var_word k ≡ true → Fits Div (own_text k) Word
unfolding own_text is_plain_word are_parts unicode_ident
var_text k e = ⊎_elim
    (λ (t : (k == var_kind) ≡ true). subst (λ n. Fits Div (own_text n) Word) (sym (eqb-true k var_kind t)) (keyword (codes "var") refl))
    (λ (f : ((k == let_kind) || (k == const_kind)) ≡ true). ⊎_elim
    (λ (t : (k == let_kind) ≡ true). subst (λ n. Fits Div (own_text n) Word) (sym (eqb-true k let_kind t)) (keyword (codes "let") refl))
    (λ (t : (k == const_kind) ≡ true). subst (λ n. Fits Div (own_text n) Word) (sym (eqb-true k const_kind t)) (keyword (codes "const") refl))
    (or_cases (k == let_kind) (k == const_kind) f))
    (or_cases (k == var_kind) _ e)

module _ (look : Look) where
  -- a case or a member
  abbrev pub Row : Tree → Type 0
  Row t = Good look t × (is_ended t ≡ true)

  abbrev pub AllRows : Trees → Type 0
  AllRows none = Unit {0}
  AllRows (more t ts) = Row t × AllRows ts

  pub rows_on : (ts : Trees) (s : State) → AllRows ts → is_free s ≡ true → Steps (rows look false ts) s (λ u. is_free u ≡ true)
  rows_on none s a f = ends nil (λ u e. ap is_free e ∙ f)
  rows_on (more t none) s a f = a.0.0 Alone s (free_admits s t f) ▸ λ v l. ends nil (λ u e. ap is_free e ∙ ended_leaves Alone t v a.0.1 l)
  rows_on (more t (more u ts)) s a f =
      a.0.0 Alone s (free_admits s t f) ▸ λ v l. nil ▸ at (free_line look v (ended_leaves Alone t v a.0.1 l) (λ x k. rows_on (more u ts) x a.1 k))

  pub line_on : (w : State) → is_free w ≡ true → Steps (line look) w (λ u. is_free u ≡ true)
  line_on w f = ends (lines look (free_open w f)) (λ u q. ⊎_elim (λ (e : u ≡ w). ap is_free e ∙ f) (λ (e : u ≡ Fresh). ap is_free e) q)

  pub rows_out : (ts : Trees) (f : Laid) (s : State) → is_free s ≡ true → ((u : State) → is_free u ≡ true → Steps f u (λ v. is_free v ≡ true)) → Steps (indented_or_line look ts f) s (λ u. is_free u ≡ true)
  rows_out none f s g k = line_on s g
  rows_out (more t ts) f s g k = free_line look s g (λ u h. deepens look ▸ at (k u h ▸ λ w l. comes_back look ▸ at (line_on w l)))

  pub parens_on : (e : Tree) → Good look e → (s : State) → is_open s ≡ true → Steps (in_parens (laid look Alone e)) s (At Shut)
  parens_on e f s o = shut left_paren o ▸ at (f Alone Shut refl ▸ λ v l. shut right_paren (leaves_open Alone e v l))

  -- the statement of a loop, and what ends it
  body_on : (t b : Tree) (st : Stand) → (is_ended t && not (is_block t)) ≡ true → Item look b → (u : State) → is_free u ≡ true → Steps (laid look Alone b · closing look b) u (λ v. leaves st t v ≡ true)
  body_on t b st h k u f = k.0 Alone u (free_admits u b f) ▸ λ v l. ends (closes look b v k.1 l) (λ w e. free_leaves st t w h e)

  -- ---- statements of a word

  pub empty_node : (sp : Span) → Good look (empty_stmt sp)
  empty_node sp st s a = leaving st (empty_stmt sp) (shut semicolon_mark (admits_open s (empty_stmt sp) a)) refl

  pub debugger_node : (sp : Span) → Good look (debugger_stmt sp)
  debugger_node sp st s a = committed ▸ at (mark ▸ at (worded debugger_word (admits_word s (debugger_stmt sp) a refl) ▸ at (mark ▸ at (leaving st (debugger_stmt sp) (semicolons refl) refl))))

  -- a label, where there is one, and the semicolon
  label_on : (t l : Tree) (st : Stand) → (is_there l ≡ true → Good look l) → leaves st t Clear ≡ true → Steps (when (is_there l) (blank · laid look Alone l) · semi) Worded (λ v. leaves st t v ≡ true)
  label_on t l st f k = when_goes {P = λ u. is_open u ≡ true} (is_there l) (λ e. blanks refl ▸ at (ends (f e Alone Clear refl) (λ v m. leaves_open Alone l v m))) (λ e. refl) ▸ λ v o. leaving st t (semicolons o) k

  pub break_node : (sp : Span) (l : Tree) → (is_there l ≡ true → Good look l) → Good look (break_stmt sp l)
  break_node sp l f st s a = committed ▸ at (mark ▸ at (worded break_word (admits_word s (break_stmt sp l) a refl) ▸ at (label_on (break_stmt sp l) l st f refl)))

  pub continue_node : (sp : Span) (l : Tree) → (is_there l ≡ true → Good look l) → Good look (continue_stmt sp l)
  continue_node sp l f st s a = committed ▸ at (mark ▸ at (worded continue_word (admits_word s (continue_stmt sp l) a refl) ▸ at (label_on (continue_stmt sp l) l st f refl)))

  pub throw_node : (sp : Span) (e : Tree) → Good look e → 1 ≤ level e → Good look (throw_stmt sp e)
  throw_node sp e f h st s a =
      mark ▸ at (worded throw_word (admits_word s (throw_stmt sp e) a refl) ▸ at (gaps_or look (starts_with_word e) refl ▸ apart (λ n. value Worded (worded_admits e n (expression_opens e h))) (value Clear refl)))
    where
      value : (u : State) → admits u e ≡ true → Steps (laid look Alone e · semi) u (λ v. leaves st (throw_stmt sp e) v ≡ true)
      value u q = f Alone u q ▸ λ v l. leaving st (throw_stmt sp e) (semicolons (leaves_open Alone e v l)) refl

  pub label_node : (sp t : Span) (n : List ℕ) (b : Tree) → Good look (ident t n) → Item look b → Good look (labeled_stmt sp (ident t n) b)
  label_node sp t n b f k st s a =
      committed ▸ at (f Alone s (first_admits s (labeled_stmt sp (ident t n) b) (ident t n) refl refl refl refl refl refl a) ▸ λ v l. shut colon_mark (leaves_open Alone (ident t n) v l) ▸ at (gaps look refl ▸ either
      (body_on (labeled_stmt sp (ident t n) b) b st refl k Shut refl) (body_on (labeled_stmt sp (ident t n) b) b st refl k Clear refl)))

  -- ---- loops

  pub while_node : (sp : Span) (e b : Tree) → Good look e → Item look b → Good look (while_stmt sp e b)
  while_node sp e b f k st s a =
      committed ▸ at (mark ▸ at (worded while_word (admits_word s (while_stmt sp e b) a refl) ▸ at (parens_on e f Worded refl ▸ at (body_on (while_stmt sp e b) b st refl k Shut refl))))

  pub with_node : (sp : Span) (e b : Tree) → Good look e → Item look b → Good look (with_stmt sp e b)
  with_node sp e b f k st s a =
      committed ▸ at (mark ▸ at (worded with_word (admits_word s (with_stmt sp e b) a refl) ▸ at (gaps look refl ▸ either (inner Worded refl) (inner Clear refl))))
    where
      inner : (u : State) → is_open u ≡ true → Steps (in_parens (laid look Alone e) · laid look Alone b · closing look b) u (λ v. leaves st (with_stmt sp e b) v ≡ true)
      inner u o = parens_on e f u o ▸ at (body_on (with_stmt sp e b) b st refl k Shut refl)

  pub do_node : (sp : Span) (e b : Tree) → Good look e → Item look b → Good look (do_while_stmt sp e b)
  do_node sp e b f k st s a =
      committed ▸ at (mark ▸ at (worded do_word (admits_word s (do_while_stmt sp e b) a refl) ▸ at (gaps_or look (starts_with_word b) refl ▸ apart (λ n. inner Worded (worded_admits b n (item_opens look b k.1))) (inner Clear refl))))
    where
      last : (u : State) → is_open u ≡ true → Steps (in_parens (laid look Alone e) · semi · end sp) u (λ v. leaves st (do_while_stmt sp e b) v ≡ true)
      last u o = parens_on e f u o ▸ at (semicolons refl ▸ at (leaving st (do_while_stmt sp e b) mark refl))

      inner : (u : State) → admits u b ≡ true → Steps (laid look Alone b · closing look b · word (codes "while") · gap look · in_parens (laid look Alone e) · semi · end sp) u (λ v. leaves st (do_while_stmt sp e b) v ≡ true)
      inner u q = k.0 Alone u q ▸ λ v l. closes look b v k.1 l ▸ λ w g. worded while_word (free_wordless w g) ▸ at (gaps look refl ▸ either (last Worded refl) (last Clear refl))

  -- a part that may be left out, behind a spacing
  clause_on : (e : Tree) → (is_there e ≡ true → Good look e) → Steps (when (is_there e) (gap look · laid look Alone e)) Shut (λ u. is_open u ≡ true)
  clause_on e f = when_goes (is_there e)
      (λ t. gaps look refl ▸ either (ends (f t Alone Shut refl) (λ v l. leaves_open Alone e v l)) (ends (f t Alone Clear refl) (λ v l. leaves_open Alone e v l)))
      (λ t. refl)

  pub for_node : (sp : Span) (i t u b : Tree) → Good look i → (is_there t ≡ true → Good look t) → (is_there u ≡ true → Good look u) → Item look b → Good look (for_stmt sp i t u b)
  for_node sp i t u b f g h k st s a =
      committed ▸ at (mark ▸ at (worded for_word (admits_word s (for_stmt sp i t u b) a refl) ▸ at (shut left_paren refl ▸ at (f Alone Shut refl ▸ λ v l. shut semicolon_mark (leaves_open Alone i v l) ▸ at
      (clause_on t g ▸ λ w o. shut semicolon_mark o ▸ at (clause_on u h ▸ λ x p. shut right_paren p ▸ at (body_on (for_stmt sp i t u b) b st refl k Shut refl)))))))

  -- over the left side, `of` and the right
  pub for_of_node : (sp : Span) (w : Bool) (left right body : Tree) → Good look left → (is_ended left || is_nothing left) ≡ false → Good look right → 1 ≤ level right → Item look body → Good look (for_of_stmt sp w left right body)
  for_of_node sp w left right body f p g h k st s a =
      committed ▸ at (mark ▸ at (worded for_word (admits_word s (for_of_stmt sp w left right body) a refl) ▸ at
      (when_goes {P = λ u. u ≡ Worded} w (λ e. blanks refl ▸ at (ends (worded await_word refl) (λ u q. q))) (λ e. refl) ▸ at (gaps look refl ▸ either (opened Worded refl) (opened Clear refl)))))
    where
      over : (u : State) → admits u right ≡ true → Steps (laid look Alone right · text (codes ")") · laid look Alone body · closing look body) u (λ v. leaves st (for_of_stmt sp w left right body) v ≡ true)
      over u q = g Alone u q ▸ λ v l. shut right_paren (leaves_open Alone right v l) ▸ at (body_on (for_of_stmt sp w left right body) body st refl k Shut refl)

      behind_left : (v : State) → is_wordless v ≡ true → Steps (word (codes "of") · gap_or look (starts_with_word right) · laid look Alone right · text (codes ")") · laid look Alone body · closing look body) v (λ u. leaves st (for_of_stmt sp w left right body) u ≡ true)
      behind_left v o = worded of_word o ▸ at (gaps_or look (starts_with_word right) refl ▸ apart (λ n. over Worded (worded_admits right n (expression_opens right h))) (over Clear refl))

      opened : (u : State) → is_open u ≡ true → Steps (text (codes "(") · laid look Alone left · gap_or look (ends_with_word left) · word (codes "of") · gap_or look (starts_with_word right) · laid look Alone right · text (codes ")") · laid look Alone body · closing look body) u (λ v. leaves st (for_of_stmt sp w left right body) v ≡ true)
      opened u o = shut left_paren o ▸ at (f Alone Shut refl ▸ λ v l. gaps_or look (ends_with_word left) (leaves_open Alone left v l) ▸ apart
          (λ n. behind_left v (free_wordless v (leaves_wordless Alone left v (ap (λ b. b && not (is_ended left)) n) l)))
          (behind_left (blank_behind v) (free_wordless _ (blank_free v))))

  -- ---- `using`

  pub using_node : (sp : Span) (w : Bool) (t : Tree) (ts : Trees) → AllDeclared look (more t ts) → Good look (using_decl sp w (more t ts))
  using_node sp w t ts a st s q =
      committed ▸ at (when_goes {P = λ u. is_wordless u ≡ true} w (λ e. worded await_word (admits_word s (using_decl sp w (more t ts)) q refl) ▸ at (ends (blanks refl) (λ u z. ap is_wordless z))) (λ e. admits_word s (using_decl sp w (more t ts)) q refl) ▸ λ u o.
      worded using_word o ▸ at (blanks refl ▸ at (declared_go look ts t Clear a refl (using_decl sp w (more t ts)) st
      (λ e. and_from (ends_with_word (using_decl sp w (more t ts))) (not (is_ended (using_decl sp w (more t ts)))) e refl) refl)))

  -- ---- `switch`

  pub case_node : (sp : Span) (t : Tree) (ss : Trees) → (is_there t ≡ true → Good look t × (1 ≤ level t)) → AllItems look ss → Good look (switch_case sp t ss)
  case_node sp t ss f a st s d =
      mark ▸ at (if_goes {P = λ u. is_open u ≡ true} (is_there t)
      (λ e. worded case_word (case_wordless s d) ▸ at (gaps_or look (starts_with_word t) refl ▸ apart (λ n. value e Worded (worded_admits t n (expression_opens t (f e).1))) (value e Clear refl)))
      (λ e. ends (worded default_word (case_wordless s d)) (λ u q. ap is_open q)) ▸ λ v o. shut colon_mark o ▸ at (when_goes (not (is_empty ss))
      (λ e. free_line look Shut refl (λ u g. deepens look ▸ at (rows_go look ss u a g ▸ λ w h. ends (comes_back look) (λ x q. free_leaves st (switch_case sp t ss) x refl (ap is_free q ∙ h)))))
      (λ e. refl)))
    where
      case_wordless : (s : State) → admits s (switch_case sp t ss) ≡ true → is_wordless s ≡ true
      case_wordless Fresh d = refl
      case_wordless Clear d = refl
      case_wordless Shut d = refl
      case_wordless Operated d = refl
      case_wordless _ d = absurd (false≢true d)

      value : is_there t ≡ true → (u : State) → admits u t ≡ true → Steps (laid look Alone t) u (λ v. is_open v ≡ true)
      value e u q = ends ((f e).0 Alone u q) (λ v l. leaves_open Alone t v l)

  pub switch_node : (sp : Span) (e : Tree) (cs : Trees) → Good look e → AllRows cs → Good look (switch_stmt sp e cs)
  switch_node sp e cs f a st s d =
      committed ▸ at (mark ▸ at (worded switch_word (admits_word s (switch_stmt sp e cs) d refl) ▸ at (parens_on e f Worded refl ▸ at (shut left_brace refl ▸ at
      (rows_out cs (rows look false cs) Shut refl (λ u g. rows_on cs u a g) ▸ λ v g. mark ▸ at (leaving st (switch_stmt sp e cs) (braced (free_open v g)) refl))))))

  -- ---- `try`

  pub block_on : (b : Span) (ss : Trees) → AllItems look ss → (u : State) → admits u (block_stmt b ss) ≡ true → Steps (laid look Alone (block_stmt b ss)) u (λ v. is_free v ≡ true)
  block_on b ss a u q = ends (block_good look b ss a Alone u q) (λ v l. ended_leaves Alone (block_stmt b ss) v refl l)

  -- a handler, which ends with a block
  pub catch_on : (sp : Span) (p : Tree) (b : Span) (ss : Trees) → (is_there p ≡ true → Good look p) → AllItems look ss → (s : State) → is_free s ≡ true → Steps (laid look Alone (catch_clause sp p (block_stmt b ss))) s (λ u. is_free u ≡ true)
  catch_on sp p b ss f a s g = mark ▸ at (worded catch_word (free_wordless s g) ▸ at (gaps look refl ▸ either (inner Worded (inl refl)) (inner Clear (inr refl))))
    where
      gap_body : (u : State) → (u ≡ Shut) ⊎ ((u ≡ Worded) ⊎ (u ≡ Clear)) → Steps (gap look · laid look Alone (block_stmt b ss)) u (λ v. is_free v ≡ true)
      gap_body u (inl e) = subst (λ (x : State). Steps (gap look · laid look Alone (block_stmt b ss)) x (λ v. is_free v ≡ true)) (sym e) (gaps look refl ▸ either (block_on b ss a Shut refl) (block_on b ss a Clear refl))
      gap_body u (inr (inl e)) = subst (λ (x : State). Steps (gap look · laid look Alone (block_stmt b ss)) x (λ v. is_free v ≡ true)) (sym e) (gaps look refl ▸ either (block_on b ss a Worded refl) (block_on b ss a Clear refl))
      gap_body u (inr (inr e)) = subst (λ (x : State). Steps (gap look · laid look Alone (block_stmt b ss)) x (λ v. is_free v ≡ true)) (sym e) (gaps look refl ▸ either (block_on b ss a Clear refl) (block_on b ss a Clear refl))

      inner : (u : State) → ((u ≡ Worded) ⊎ (u ≡ Clear)) → Steps (when (is_there p) (in_parens (laid look Alone p)) · gap look · laid look Alone (block_stmt b ss)) u (λ v. is_free v ≡ true)
      inner u c = when_goes {P = λ x. (x ≡ Shut) ⊎ ((x ≡ Worded) ⊎ (x ≡ Clear))} (is_there p) (λ e. ends (parens_on p (f e) u (opens u c)) (λ x q. inl q)) (λ e. inr c) ▸ λ x q. gap_body x q
        where
          opens : (u : State) → ((u ≡ Worded) ⊎ (u ≡ Clear)) → is_open u ≡ true
          opens u (inl e) = ap is_open e
          opens u (inr e) = ap is_open e

  pub try_node : (sp b : Span) (ss : Trees) (h f : Tree) → AllItems look ss → (is_there h ≡ true → (s : State) → is_free s ≡ true → Steps (laid look Alone h) s (λ u. is_free u ≡ true)) → (is_there f ≡ true → Good look f × (is_ended f ≡ true) × (admits Worded f ≡ true))
      → Good look (try_stmt sp (block_stmt b ss) h f)
  try_node sp b ss h f a g k st s d =
      committed ▸ at (mark ▸ at (worded try_word (admits_word s (try_stmt sp (block_stmt b ss) h f) d refl) ▸ at (gaps look refl ▸ either (inner Worded refl) (inner Clear refl))))
    where
      final : (u : State) → is_free u ≡ true → Steps (when (is_there f) (gap look · word (codes "finally") · laid look Alone f)) u (λ v. leaves st (try_stmt sp (block_stmt b ss) h f) v ≡ true)
      final u q = when_goes (is_there f)
          (λ e. gaps look (free_open u q) ▸ either (last e u (free_wordless u q)) (last e (blank_behind u) (free_wordless _ (blank_free u))))
          (λ e. free_leaves st (try_stmt sp (block_stmt b ss) h f) u refl q)
        where
          last : is_there f ≡ true → (u : State) → is_wordless u ≡ true → Steps (word (codes "finally") · laid look Alone f) u (λ v. leaves st (try_stmt sp (block_stmt b ss) h f) v ≡ true)
          last e u o = worded finally_word o ▸ at (ends ((k e).0 Alone Worded (k e).2) (λ v l. free_leaves st (try_stmt sp (block_stmt b ss) h f) v refl (ended_leaves Alone f v (k e).1 l)))

      handler : (u : State) → is_free u ≡ true → Steps (when (is_there h) (gap look · laid look Alone h)) u (λ v. is_free v ≡ true)
      handler u q = when_goes (is_there h) (λ e. gaps look (free_open u q) ▸ either (g e u q) (g e (blank_behind u) (blank_free u))) (λ e. q)

      inner : (u : State) → admits u (block_stmt b ss) ≡ true → Steps (laid look Alone (block_stmt b ss) · when (is_there h) (gap look · laid look Alone h) · when (is_there f) (gap look · word (codes "finally") · laid look Alone f)) u (λ v. leaves st (try_stmt sp (block_stmt b ss) h f) v ≡ true)
      inner u q = block_on b ss a u q ▸ λ v e. handler v e ▸ λ w i. final w i

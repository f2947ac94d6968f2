-- Functions, and methods of objects.
use Rattle.std.proofs.Common.{◌≡◌, ⊎_elim, Bool, true, refl, sym, ap, subst, ◌∙◌}
use Rattle.std.specs.Prelude.{codes, if◌then◌else◌}
use Rattle.std.proofs.lemmas.Bool.{false≢true}
use Rattle.base_token.specs.declared.place.Span.{Span}
use Rattle.tree_spec.specs.Tree.{Tree, Trees, fn_expr, fn_decl, function, block_stmt, getter_prop, setter_prop, method_prop}
use Rattle.grammar_spec.specs.Tokens.Shape.{is_key}
use Rattle.print_gaps.specs.Edges.{is_there}
use Rattle.print_layout_spec.specs.declared.look.Look.{Look}
use Rattle.print_layout_spec.specs.declared.look.Stand.{Stand}
use Rattle.print_layout_spec.specs.declared.look.Stand.TheVariants.{Alone, Body, Key}
use Rattle.print_layout_spec.specs.Looks.{◌·◌, text, when, gap, blank}
use Rattle.print_layout_spec.specs.Layout.{laid, separated, comma, function_tail, in_parens, word, is_bracketed_key}
use Rattle.again_laws.specs.Tiling.Categories.{State, Fresh, Clear, Shut, Worded, Operated, Operator, is_open, is_wordless, blank_behind}
use Rattle.again_laws.proofs.text.Keywords.{async_word, function_word, get_word, set_word}
use Rattle.again_laws.proofs.text.Marks.{left_paren, right_paren, times_mark}
use Rattle.again_laws.proofs.text.Admits.{admits, leaves, admits_word, leaves_open, is_free, free_admits, free_wordless, free_end}
use Rattle.again_laws.proofs.text.Steps.{Steps, ◌▸◌, ends, at, either, mark, committed, text_by, shut, worded, blanks, when_goes, if_goes, gaps}
use Rattle.again_laws.proofs.text.Forms.{Good, AllGood}
use Rattle.again_laws.proofs.text.NamesAndCalls.{commas_go}
use Rattle.again_laws.proofs.text.Statements.{AllItems, block_good, block_leaves}
use Rattle.again_laws.proofs.text.VariablesAndMethods.{marks_go}
use Rattle.again_laws.proofs.text.Patterns.{blank_open}

module _ (look : Look) where
  -- parameters and a body, which leaves what a block leaves
  pub tail : (t : Tree) (st : Stand) (ps : Trees) (b : Span) (ss : Trees) → AllGood look ps → AllItems look ss → (s : State) → is_open s ≡ true
      → Steps (function_tail look (separated look (comma look) ps) (laid look Body (block_stmt b ss))) s (λ u. leaves st t u ≡ true)
  tail t st ps b ss a i s o =
      (shut left_paren o ▸ at (commas_go look ps Shut a refl ▸ λ v k. shut right_paren k)) ▸ at (gaps look refl ▸ either (body Shut refl) (body Clear refl))
    where
      body : (u : State) → admits u (block_stmt b ss) ≡ true → Steps (laid look Body (block_stmt b ss)) u (λ v. leaves st t v ≡ true)
      body u q = ends (block_good look b ss i Body u q) (λ v l. block_leaves look (block_stmt b ss) t st v refl l)

  -- `async`, and then `function`
  waiting : (w : Bool) (s : State) → is_wordless s ≡ true → Steps (when w (word (codes "async") · blank)) s (λ u. is_wordless u ≡ true)
  waiting w s o = when_goes w (λ e. worded async_word o ▸ at (ends (blanks refl) (λ u q. ap is_wordless q))) (λ e. o)

  -- a function as an expression, behind which stands what stands behind a block
  pub function_on : (t : Tree) (st : Stand) (sp : Span) (k : Tree) (at' : Span) (ps ds : Trees) (b : Span) (ss : Trees) (g w : Bool) → (is_there k ≡ true → Good look k) → AllGood look ps → AllItems look ss → (s : State) → is_wordless s ≡ true
      → Steps (laid look st (fn_expr sp k (function at' ps ds (block_stmt b ss) g w))) s (λ u. leaves st t u ≡ true)
  function_on t st sp k at' ps ds b ss g w f a i s d =
      committed ▸ at (mark ▸ at (waiting w s d ▸ λ u o. worded function_word o ▸ at
      (when_goes {P = λ v. is_open v ≡ true} g (λ e. ends (text_by Operator times_mark refl) (λ v q. ap is_open q)) (λ e. refl) ▸ λ v p.
      when_goes {P = λ x. is_open x ≡ true} (is_there k) (λ e. ends (blanks p) (λ x q. q) ▸ λ x q. subst (λ (y : State). Steps (laid look Alone k) y (λ z. is_open z ≡ true)) (sym q) (named e v)) (λ e. p) ▸ λ x q.
      tail t st ps b ss a i x q)))
    where
      free_blank : (v : State) → is_free (blank_behind v) ≡ true
      free_blank Fresh = refl
      free_blank _ = refl

      named : is_there k ≡ true → (v : State) → Steps (laid look Alone k) (blank_behind v) (λ z. is_open z ≡ true)
      named e v = ends (f e Alone (blank_behind v) (free_admits (blank_behind v) k (free_blank v))) (λ z l. leaves_open Alone k z l)

  pub function_node : (sp : Span) (k : Tree) (at' : Span) (ps ds : Trees) (b : Span) (ss : Trees) (g w : Bool) → (is_there k ≡ true → Good look k) → AllGood look ps → AllItems look ss → Good look (fn_expr sp k (function at' ps ds (block_stmt b ss) g w))
  function_node sp k at' ps ds b ss g w f a i st s d =
      function_on (fn_expr sp k (function at' ps ds (block_stmt b ss) g w)) st sp k at' ps ds b ss g w f a i s (admits_word s (fn_expr sp k (function at' ps ds (block_stmt b ss) g w)) d refl)

  pub declaration_node : (sp : Span) (k : Tree) (at' : Span) (ps ds : Trees) (b : Span) (ss : Trees) (g w : Bool) → Good look k → AllGood look ps → AllItems look ss → admits Operated k ≡ true
      → Good look (fn_decl sp k (function at' ps ds (block_stmt b ss) g w))
  declaration_node sp k at' ps ds b ss g w f a i n st s d =
      committed ▸ at (mark ▸ at (waiting w s (admits_word s (fn_decl sp k (function at' ps ds (block_stmt b ss) g w)) d refl) ▸ λ u o. worded function_word o ▸ at
      (if_goes {P = λ v. admits v k ≡ true} g
      (λ e. text_by Operator times_mark refl ▸ at (ends (gaps look refl) (λ v q. ⊎_elim (λ (x : v ≡ Operated). ap (λ y. admits y k) x ∙ n) (λ (x : v ≡ Clear). ap (λ y. admits y k) x) q)))
      (λ e. ends (blanks refl) (λ v q. ap (λ y. admits y k) q)) ▸ λ v p. f Alone v p ▸ λ x l.
      tail (fn_decl sp k (function at' ps ds (block_stmt b ss) g w)) st ps b ss a i x (leaves_open Alone k x l))))

  -- ---- methods of objects

  method_free : (s : State) (sp : Span) (k f : Tree) → admits s (method_prop sp k f) ≡ true → is_free s ≡ true
  method_free Fresh sp k f a = refl
  method_free Clear sp k f a = refl
  method_free Shut sp k f a = refl
  method_free _ sp k f a = absurd (false≢true a)

  pub method_node : (sp : Span) (k : Tree) (at' : Span) (ps ds : Trees) (b : Span) (ss : Trees) (g w : Bool) → Good look k → is_key k ≡ true → AllGood look ps → AllItems look ss → Good look (method_prop sp k (function at' ps ds (block_stmt b ss) g w))
  method_node sp k at' ps ds b ss g w f i a j st s d =
      let r = method_free s sp k (function at' ps ds (block_stmt b ss) g w) d in
      mark ▸ at (marks_go look w g k s i (free_wordless s r) (free_end s r) (free_admits s k r) ▸ λ u q. f Key u q ▸ λ v l. gaps look (leaves_open Key k v l) ▸ either
      (tail (method_prop sp k (function at' ps ds (block_stmt b ss) g w)) st ps b ss a j v (leaves_open Key k v l))
      (tail (method_prop sp k (function at' ps ds (block_stmt b ss) g w)) st ps b ss a j (blank_behind v) (blank_open v)))

  -- `get` or `set` and a key, where a bracket or a quote may touch the word
  accessor_key : (k : Tree) → is_key k ≡ true → is_bracketed_key k ≡ true → admits Worded k ≡ true
  accessor_key (Rattle.tree_spec.specs.Tree.str_lit s u w) i e = refl
  accessor_key (Rattle.tree_spec.specs.Tree.computed_prop_name s x) i e = refl
  accessor_key _ i e = absurd (false≢true e)

  to_key : (k : Tree) → is_key k ≡ true → Steps (if is_bracketed_key k then gap look else blank) Worded (λ u. admits u k ≡ true)
  to_key k i = if_goes (is_bracketed_key k)
      (λ e. ends (gaps look refl) (λ v q. ⊎_elim (λ (x : v ≡ Worded). ap (λ y. admits y k) x ∙ accessor_key k i e) (λ (x : v ≡ Clear). ap (λ y. admits y k) x) q))
      (λ e. ends (blanks refl) (λ v q. ap (λ y. admits y k) q))

  getter_wordless : (s : State) (sp : Span) (k b : Tree) → admits s (getter_prop sp k b) ≡ true → is_wordless s ≡ true
  getter_wordless Fresh sp k b a = refl
  getter_wordless Clear sp k b a = refl
  getter_wordless Shut sp k b a = refl
  getter_wordless Operated sp k b a = refl
  getter_wordless _ sp k b a = absurd (false≢true a)

  setter_wordless : (s : State) (sp : Span) (k p b : Tree) → admits s (setter_prop sp k p b) ≡ true → is_wordless s ≡ true
  setter_wordless Fresh sp k p b a = refl
  setter_wordless Clear sp k p b a = refl
  setter_wordless Shut sp k p b a = refl
  setter_wordless Operated sp k p b a = refl
  setter_wordless _ sp k p b a = absurd (false≢true a)

  block_body : (t : Tree) (st : Stand) (b : Span) (ss : Trees) → AllItems look ss → (u : State) → admits u (block_stmt b ss) ≡ true → Steps (laid look Alone (block_stmt b ss)) u (λ v. leaves st t v ≡ true)
  block_body t st b ss i u q = ends (block_good look b ss i Alone u q) (λ v l. alone_leaves v l)
    where
      alone_leaves : (v : State) → leaves Alone (block_stmt b ss) v ≡ true → leaves st t v ≡ true
      alone_leaves Clear l = refl
      alone_leaves Shut l = refl
      alone_leaves _ l = absurd (false≢true l)

  pub getter_node : (sp : Span) (k : Tree) (b : Span) (ss : Trees) → Good look k → is_key k ≡ true → AllItems look ss → Good look (getter_prop sp k (block_stmt b ss))
  getter_node sp k b ss f i j st s d =
      mark ▸ at (worded get_word (getter_wordless s sp k (block_stmt b ss) d) ▸ at (to_key k i ▸ λ u q. f Key u q ▸ λ v l. gaps look (leaves_open Key k v l) ▸ either (rest v (leaves_open Key k v l)) (rest (blank_behind v) (blank_open v))))
    where
      rest : (v : State) → is_open v ≡ true → Steps (text (codes "(") · text (codes ")") · gap look · laid look Alone (block_stmt b ss)) v (λ u. leaves st (getter_prop sp k (block_stmt b ss)) u ≡ true)
      rest v o = shut left_paren o ▸ at (shut right_paren refl ▸ at (gaps look refl ▸ either (block_body (getter_prop sp k (block_stmt b ss)) st b ss j Shut refl) (block_body (getter_prop sp k (block_stmt b ss)) st b ss j Clear refl)))

  pub setter_node : (sp : Span) (k p : Tree) (b : Span) (ss : Trees) → Good look k → is_key k ≡ true → Good look p → AllItems look ss → Good look (setter_prop sp k p (block_stmt b ss))
  setter_node sp k p b ss f i g j st s d =
      mark ▸ at (worded set_word (setter_wordless s sp k p (block_stmt b ss) d) ▸ at (to_key k i ▸ λ u q. f Key u q ▸ λ v l. gaps look (leaves_open Key k v l) ▸ either (rest v (leaves_open Key k v l)) (rest (blank_behind v) (blank_open v))))
    where
      rest : (v : State) → is_open v ≡ true → Steps (in_parens (laid look Alone p) · laid look Alone (block_stmt b ss)) v (λ u. leaves st (setter_prop sp k p (block_stmt b ss)) u ≡ true)
      rest v o = (shut left_paren o ▸ at (g Alone Shut refl ▸ λ w l. shut right_paren (leaves_open Alone p w l))) ▸ at (block_body (setter_prop sp k p (block_stmt b ss)) st b ss j Shut refl)

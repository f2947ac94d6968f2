-- Patterns, statements, functions and classes (ECMA-262, clauses 14 and 15): their rules over two such lists.
use Rattle.std.proofs.Common.{◌≡◌, ℕ, Bool, true, false, not, ◌&&◌, ◌||◌, ◌==◌, cond, if◌then◌else◌, List, [], ◌∷◌, ◌++◌, Result, Ok, refl, sym, ap, ◌∙◌, true≢false}
use Rattle.base_proofs.proofs.Bools.{not_and_false}
use Rattle.base_token.specs.declared.place.Span.{Span}
use Rattle.base_token.specs.Kinds.{dot_dot_dot_kind, left_paren_kind, right_paren_kind, left_bracket_kind, right_bracket_kind, left_brace_kind, right_brace_kind, semicolon_kind, comma_kind, colon_kind, hash_kind, mul_kind, assign_kind, await_kind, break_kind, case_kind, catch_kind, continue_kind, debugger_kind, default_kind, do_kind, else_kind, finally_kind, for_kind, function_kind, if_kind, return_kind, switch_kind, throw_kind, try_kind, var_kind, let_kind, const_kind, while_kind, with_kind, class_kind, extends_kind, in_kind, async_kind, of_kind, using_kind, static_kind, accessor_kind, get_kind, set_kind}
use Rattle.tree_spec.specs.Tree.{Tree, none, more, pack, block_stmt, labeled_stmt, break_stmt, continue_stmt, switch_case, try_stmt, catch_clause, do_while_stmt, for_stmt, for_in_stmt, for_of_stmt, expr_stmt, class_decl, fn_decl, var_decl, using_decl, var_declarator, function, static_block, auto_accessor, ident, binding_ident, rest_pat, assign_pat, key_value_pat_prop, assign_pat_prop, absent}
use Rattle.grammar_spec.specs.Tokens.Input.{PlacedToken, Input, Code, kind, kind2, brk, brk2, lo, dots_at, span, rest, barred, is_strict, with_in, without_in, in_list, alone, in_body, in_field, in_static, turned_strict, lo_of}
use Rattle.grammar_spec.specs.Tokens.Operators.{expression_level, assignment_level, new_level, starts_key, plain_end, key_end}
use Rattle.grammar_spec.specs.Tokens.Shape.{ends, is_name, is_absent, is_private, is_structured, is_default_case, is_use_strict, is_plain_function, constructs, field_end, declarators_end, is_statement}
use Rattle.grammar_spec.specs.Reader.Source.{Fault, unexpected, ◌>>=◌, State, input, past, operand, spanned, at, eat, name, end_of, go_on, finished, Inner}
use Rattle.grammar_spec.specs.Reader.Expressions.{first, key_by, function_by, is_async_head}
use Rattle.grammar_spec.specs.Reader.Statements.{initial_pat, after_item, array_item, array_pat_by, keyed_item, named_item, pattern_prop, object_item, object_pat_by, pat_by, block_step, block_rest, block_by, body_item, body_step, body_by, declarator_by, declarator_step, declarators_by, starts_let, starts_variables, variables_by, starts_using, starts_await_using, using_by, function_decl_by, class_decl_by, field_value, class_key, method_tree, class_method_by, class_getter, class_setter, accessor_by, field_or_method, generator_member, member_rest, starts_static, static_by, member_step, members_by, class_tail_by, in_parens, sub_by, with_by, while_by, do_by, branched, else_by, if_step, if_by, ends_here, return_by, throw_by, label_by, jump_by, debugger_by, case_step, case_rest, case_by, has_default, cases_step, switch_by, catch_by, finally_by, try_by, clause_by, for_rest, over_rest, in_rest, of_rest, one_bare, head_rest, for_variables, for_using, for_expression_rest, for_expression, for_head, for_by, statement_class, labelled_by, expression_by, starts_async, keyword_stmt, stmt_by, stmt_from, Body, Chain}
use Rattle.grammar_laws.proofs.slash.SlashExpressions.{key_by_twin, private_by_twin, function_by_twin, setter_parameter_twin, star_twin}
use Rattle.grammar_laws.proofs.slash.Twins.{lm, Parting, regexps, slashes, slashes_by, on, Twins, twin_ok, never, twin_then, twin_if, twin_no, cut, parted, same, Plain, plain_at, lo_same, no_and2, off_first, off_left, off_deep, end_as, eat_on, eat_at, eat_none, word_on, word_at, word_none, name_on, name_none, placed_none, placed_on, end_at, twin_placed, iterate_twin, Told}

module _ (w : Parting) (inner : Inner Input) (told : Told w inner) where
  pub initial_pat_twin : (c : Code) (starto : List ℕ) (startn : ℕ) (startl : List PlacedToken) (p : Tree) (o : List ℕ) (n : ℕ) (l : List PlacedToken) → Twins w (initial_pat lm inner c (lo_of startn (startl ++ regexps w)) p (on o n ((l ++ regexps w)))) (initial_pat lm inner c (lo_of startn (startl ++ slashes w)) p (on o n ((l ++ slashes w))))
  unfolding initial_pat
  initial_pat_twin c starto startn startl p o n [] = twin_no w (at lm assign_kind (on o n (slashes w))) (parted w (λ z. at lm assign_kind (on o n z)) refl refl) _ _ _ (twin_ok w _ _ o n [] refl)
  initial_pat_twin c starto startn startl p o n (p1 ∷ l) = twin_if w (at lm assign_kind (on o n (p1 ∷ (l ++ regexps w)))) (at lm assign_kind (on o n (p1 ∷ (l ++ slashes w)))) refl _ _ _ _ (λ yes. twin_then w _ _ _ _ (told.expr (with_in c) assignment_level o p1.spot.hi l) (λ ev eo en el. twin_ok w _ _ eo en el (ap (λ (z : ℕ). assign_pat (span z en) p ev) (lo_same w starto startn startl)))) (λ no. twin_ok w _ _ o n (p1 ∷ l) refl)

  pub after_item_twin : (close : ℕ) (shut : Plain w close) (last : Bool) (items : List Tree) (o : List ℕ) (n : ℕ) (l : List PlacedToken) → Twins w (after_item lm inner close last items (on o n ((l ++ regexps w)))) (after_item lm inner close last items (on o n ((l ++ slashes w))))
  unfolding after_item
  after_item_twin close shut last items o n [] = twin_no w (at lm comma_kind (on o n (slashes w)) && not last) (parted w (λ z. at lm comma_kind (on o n z) && not last) refl refl) _ _ _ (eat_none w close shut o n _ _)
  after_item_twin close shut last items o n (p ∷ l) = twin_if w (at lm comma_kind (on o n (p ∷ (l ++ regexps w))) && not last) (at lm comma_kind (on o n (p ∷ (l ++ slashes w))) && not last) refl _ _ _ _ (λ yes. twin_ok w _ _ o p.spot.hi l refl) (λ no. eat_on w close o n p l _ _ (twin_ok w _ _ o p.spot.hi l refl))

  pub array_item_twin : (c : Code) (xs : List Tree) (o : List ℕ) (n : ℕ) (l : List PlacedToken) → Twins w (array_item lm inner c xs (on o n ((l ++ regexps w)))) (array_item lm inner c xs (on o n ((l ++ slashes w))))
  unfolding array_item
  array_item_twin c xs o n [] = twin_no w (at lm right_bracket_kind (on o n (slashes w))) (parted w (λ z. at lm right_bracket_kind (on o n z)) refl refl) _ _ _ (twin_no w (at lm comma_kind (on o n (slashes w))) (parted w (λ z. at lm comma_kind (on o n z)) refl refl) _ _ _ (twin_no w (at lm dot_dot_dot_kind (on o n (slashes w))) (parted w (λ z. at lm dot_dot_dot_kind (on o n z)) refl refl) _ _ _ (twin_then w _ _ _ _ (told.pat (with_in c) o n []) (λ pv po pn pl. twin_then w _ _ _ _ (initial_pat_twin c o n [] pv po pn pl) (λ qv qo qn ql. after_item_twin right_bracket_kind (refl, refl, refl) false (xs ++ qv ∷ []) qo qn ql)))))
  array_item_twin c xs o n (p1 ∷ l) = twin_if w (at lm right_bracket_kind (on o n (p1 ∷ (l ++ regexps w)))) (at lm right_bracket_kind (on o n (p1 ∷ (l ++ slashes w)))) refl _ _ _ _ (λ yes. twin_ok w _ _ o p1.spot.hi l refl) (λ no. twin_if w (at lm comma_kind (on o n (p1 ∷ (l ++ regexps w)))) (at lm comma_kind (on o n (p1 ∷ (l ++ slashes w)))) refl _ _ _ _ (λ yes. twin_ok w _ _ o p1.spot.hi l refl) (λ no. twin_if w (at lm dot_dot_dot_kind (on o n (p1 ∷ (l ++ regexps w)))) (at lm dot_dot_dot_kind (on o n (p1 ∷ (l ++ slashes w)))) refl _ _ _ _ (λ yes. twin_then w _ _ _ _ (told.pat (with_in c) o p1.spot.hi l) (λ pv po pn pl. after_item_twin right_bracket_kind (refl, refl, refl) true (xs ++ rest_pat (spanned lm (lo_of n (p1 ∷ (l ++ regexps w))) (on po pn ((pl ++ regexps w)))) (dots_at (lo (input lm (on o n (p1 ∷ (l ++ regexps w)))))) pv ∷ []) po pn pl)) (λ no. twin_then w _ _ _ _ (told.pat (with_in c) o n (p1 ∷ l)) (λ pv po pn pl. twin_then w _ _ _ _ (initial_pat_twin c o n (p1 ∷ l) pv po pn pl) (λ qv qo qn ql. after_item_twin right_bracket_kind (refl, refl, refl) false (xs ++ qv ∷ []) qo qn ql)))))

  pub array_pat_by_twin : (c : Code) (o : List ℕ) (n : ℕ) (p : PlacedToken) (l : List PlacedToken) → Twins w (array_pat_by lm inner c (on o n (p ∷ (l ++ regexps w)))) (array_pat_by lm inner c (on o n (p ∷ (l ++ slashes w))))
  unfolding array_pat_by
  array_pat_by_twin c o n p l = twin_then w _ _ _ _ (iterate_twin w _ _ (λ x xo xn xl. array_item_twin c x xo xn xl) [] o p.spot.hi l) (λ xsv xso xsn xsl. twin_ok w _ _ xso xsn xsl refl)

  pub keyed_item_twin : (c : Code) (starto : List ℕ) (startn : ℕ) (startl : List PlacedToken) (k : Tree) (o : List ℕ) (n : ℕ) (l : List PlacedToken) → Twins w (keyed_item lm inner c (lo_of startn (startl ++ regexps w)) k (on o n ((l ++ regexps w)))) (keyed_item lm inner c (lo_of startn (startl ++ slashes w)) k (on o n ((l ++ slashes w))))
  unfolding keyed_item
  keyed_item_twin c starto startn startl k o n l = twin_then w _ _ _ _ (told.pat (with_in c) o n l) (λ pv po pn pl. twin_then w _ _ _ _ (initial_pat_twin c o n l pv po pn pl) (λ qv qo qn ql. twin_ok w _ _ qo qn ql (ap (λ (z : ℕ). key_value_pat_prop (span z qn) k qv) (lo_same w starto startn startl))))

  pub named_item_twin : (c : Code) (i : List ℕ) (j : ℕ) (k : List PlacedToken) (o : List ℕ) (n1 : ℕ) (l : List PlacedToken) → Twins w (named_item lm inner c (on i j (k ++ regexps w)) (on o n1 ((l ++ regexps w)))) (named_item lm inner c (on i j (k ++ slashes w)) (on o n1 ((l ++ slashes w))))
  unfolding named_item
  named_item_twin c i j k o n1 [] = placed_none w _ c o n1 _ _
  named_item_twin c i j k o n1 (p ∷ l) = placed_on w _ _ c o n1 p l _ _ (λ nv. cut w (λ z. Twins w (if at lm assign_kind (on o p.spot.hi ((z ++ regexps w))) then (inner.expr (with_in c) assignment_level (past lm (on o p.spot.hi ((z ++ regexps w)))) >>= λ e. Ok (assign_pat_prop (spanned lm (lo_of n1 (p ∷ (l ++ regexps w))) e.1) (binding_ident (first lm inner (on o n1 (p ∷ (l ++ regexps w)))) (ident (first lm inner (on o n1 (p ∷ (l ++ regexps w)))) nv)) e.0, e.1)) else Ok (assign_pat_prop (first lm inner (on o n1 (p ∷ (l ++ regexps w)))) (binding_ident (first lm inner (on o n1 (p ∷ (l ++ regexps w)))) (ident (first lm inner (on o n1 (p ∷ (l ++ regexps w)))) nv)) absent, (on o p.spot.hi ((z ++ regexps w))))) (if at lm assign_kind (on o p.spot.hi ((z ++ slashes w))) then (inner.expr (with_in c) assignment_level (past lm (on o p.spot.hi ((z ++ slashes w)))) >>= λ e. Ok (assign_pat_prop (spanned lm (lo_of n1 (p ∷ (l ++ slashes w))) e.1) (binding_ident (first lm inner (on o n1 (p ∷ (l ++ slashes w)))) (ident (first lm inner (on o n1 (p ∷ (l ++ slashes w)))) nv)) e.0, e.1)) else Ok (assign_pat_prop (first lm inner (on o n1 (p ∷ (l ++ slashes w)))) (binding_ident (first lm inner (on o n1 (p ∷ (l ++ slashes w)))) (ident (first lm inner (on o n1 (p ∷ (l ++ slashes w)))) nv)) absent, (on o p.spot.hi ((z ++ slashes w)))))) l (twin_no w (at lm assign_kind (on o p.spot.hi (slashes w))) (parted w (λ z. at lm assign_kind (on o p.spot.hi z)) refl refl) _ _ _ (twin_ok w _ _ o p.spot.hi [] refl)) (λ np nq. twin_if w (at lm assign_kind (on o p.spot.hi (np ∷ (nq ++ regexps w)))) (at lm assign_kind (on o p.spot.hi (np ∷ (nq ++ slashes w)))) refl _ _ _ _ (λ yes. twin_then w _ _ _ _ (told.expr (with_in c) assignment_level o np.spot.hi nq) (λ ev eo en el. twin_ok w _ _ eo en el refl)) (λ no. twin_ok w _ _ o p.spot.hi (np ∷ nq) refl)))

  pub pattern_prop_twin : (c : Code) (o : List ℕ) (n : ℕ) (l : List PlacedToken) → Twins w (pattern_prop lm inner c (on o n ((l ++ regexps w)))) (pattern_prop lm inner c (on o n ((l ++ slashes w))))
  unfolding pattern_prop
  pattern_prop_twin c o n l = twin_then w _ _ _ _ (key_by_twin w inner told c o n l) (λ kv ko kn kl. cut w (λ z. Twins w (if at lm colon_kind (on ko kn ((z ++ regexps w))) then keyed_item lm inner c (lo_of n (l ++ regexps w)) kv (past lm (on ko kn ((z ++ regexps w)))) else named_item lm inner c (on ko kn ((z ++ regexps w))) (on o n ((l ++ regexps w)))) (if at lm colon_kind (on ko kn ((z ++ slashes w))) then keyed_item lm inner c (lo_of n (l ++ slashes w)) kv (past lm (on ko kn ((z ++ slashes w)))) else named_item lm inner c (on ko kn ((z ++ slashes w))) (on o n ((l ++ slashes w))))) kl (twin_no w (at lm colon_kind (on ko kn (slashes w))) (parted w (λ z. at lm colon_kind (on ko kn z)) refl refl) _ _ _ (named_item_twin c ko kn [] o n l)) (λ kp kq. twin_if w (at lm colon_kind (on ko kn (kp ∷ (kq ++ regexps w)))) (at lm colon_kind (on ko kn (kp ∷ (kq ++ slashes w)))) refl _ _ _ _ (λ yes. keyed_item_twin c o n l kv ko kp.spot.hi kq) (λ no. named_item_twin c ko kn (kp ∷ kq) o n l)))

  pub object_item_twin : (c : Code) (xs : List Tree) (o : List ℕ) (n : ℕ) (l : List PlacedToken) → Twins w (object_item lm inner c xs (on o n ((l ++ regexps w)))) (object_item lm inner c xs (on o n ((l ++ slashes w))))
  unfolding object_item
  object_item_twin c xs o n [] = twin_no w (at lm right_brace_kind (on o n (slashes w))) (parted w (λ z. at lm right_brace_kind (on o n z)) refl refl) _ _ _ (twin_no w (at lm dot_dot_dot_kind (on o n (slashes w))) (parted w (λ z. at lm dot_dot_dot_kind (on o n z)) refl refl) _ _ _ (twin_then w _ _ _ _ (pattern_prop_twin c o n []) (λ pv po pn pl. after_item_twin right_brace_kind (refl, refl, refl) false (xs ++ pv ∷ []) po pn pl)))
  object_item_twin c xs o n (p1 ∷ l) = twin_if w (at lm right_brace_kind (on o n (p1 ∷ (l ++ regexps w)))) (at lm right_brace_kind (on o n (p1 ∷ (l ++ slashes w)))) refl _ _ _ _ (λ yes. twin_ok w _ _ o p1.spot.hi l refl) (λ no. twin_if w (at lm dot_dot_dot_kind (on o n (p1 ∷ (l ++ regexps w)))) (at lm dot_dot_dot_kind (on o n (p1 ∷ (l ++ slashes w)))) refl _ _ _ _ (λ yes. twin_then w _ _ _ _ (told.pat (with_in c) o p1.spot.hi l) (λ pv po pn pl. twin_if w (is_structured pv) (is_structured pv) refl _ _ _ _ (λ yes. never w _ _) (λ no. after_item_twin right_brace_kind (refl, refl, refl) true (xs ++ rest_pat (spanned lm (lo_of n (p1 ∷ (l ++ regexps w))) (on po pn ((pl ++ regexps w)))) (dots_at (lo (input lm (on o n (p1 ∷ (l ++ regexps w)))))) pv ∷ []) po pn pl))) (λ no. twin_then w _ _ _ _ (pattern_prop_twin c o n (p1 ∷ l)) (λ pv po pn pl. after_item_twin right_brace_kind (refl, refl, refl) false (xs ++ pv ∷ []) po pn pl)))

  pub object_pat_by_twin : (c : Code) (o : List ℕ) (n : ℕ) (p : PlacedToken) (l : List PlacedToken) → Twins w (object_pat_by lm inner c (on o n (p ∷ (l ++ regexps w)))) (object_pat_by lm inner c (on o n (p ∷ (l ++ slashes w))))
  unfolding object_pat_by
  object_pat_by_twin c o n p l = twin_then w _ _ _ _ (iterate_twin w _ _ (λ x xo xn xl. object_item_twin c x xo xn xl) [] o p.spot.hi l) (λ xsv xso xsn xsl. twin_ok w _ _ xso xsn xsl refl)

  pub pat_by_twin : (c : Code) (o : List ℕ) (n1 : ℕ) (l : List PlacedToken) → Twins w (pat_by lm inner c (on o n1 ((l ++ regexps w)))) (pat_by lm inner c (on o n1 ((l ++ slashes w))))
  unfolding pat_by
  pat_by_twin c o n1 [] = twin_no w (at lm left_bracket_kind (on o n1 (slashes w))) (parted w (λ z. at lm left_bracket_kind (on o n1 z)) refl refl) _ _ _ (twin_no w (at lm left_brace_kind (on o n1 (slashes w))) (parted w (λ z. at lm left_brace_kind (on o n1 z)) refl refl) _ _ _ (name_none w c o n1 _ _))
  pat_by_twin c o n1 (p ∷ l) = twin_if w (at lm left_bracket_kind (on o n1 (p ∷ (l ++ regexps w)))) (at lm left_bracket_kind (on o n1 (p ∷ (l ++ slashes w)))) refl _ _ _ _ (λ yes. array_pat_by_twin c o n1 p l) (λ no. twin_if w (at lm left_brace_kind (on o n1 (p ∷ (l ++ regexps w)))) (at lm left_brace_kind (on o n1 (p ∷ (l ++ slashes w)))) refl _ _ _ _ (λ yes. object_pat_by_twin c o n1 p l) (λ no. name_on w c o n1 p l _ _ (λ nv. twin_ok w _ _ o p.spot.hi l refl)))

  pub block_step_twin : (c : Code) (ss : List Tree) (o : List ℕ) (n : ℕ) (l : List PlacedToken) → Twins w (block_step lm inner c ss (on o n ((l ++ regexps w)))) (block_step lm inner c ss (on o n ((l ++ slashes w))))
  unfolding block_step
  block_step_twin c ss o n [] = twin_no w (at lm right_brace_kind (on o n (slashes w))) (parted w (λ z. at lm right_brace_kind (on o n z)) refl refl) _ _ _ (twin_then w _ _ _ _ (told.stmt (in_list c) o n []) (λ tv to tn tl. twin_ok w _ _ to tn tl refl))
  block_step_twin c ss o n (p ∷ l) = twin_if w (at lm right_brace_kind (on o n (p ∷ (l ++ regexps w)))) (at lm right_brace_kind (on o n (p ∷ (l ++ slashes w)))) refl _ _ _ _ (λ yes. twin_ok w _ _ o p.spot.hi l refl) (λ no. twin_then w _ _ _ _ (told.stmt (in_list c) o n (p ∷ l)) (λ tv to tn tl. twin_ok w _ _ to tn tl refl))

  pub block_rest_twin : (c : Code) (starto : List ℕ) (startn : ℕ) (startl : List PlacedToken) (o : List ℕ) (n : ℕ) (l : List PlacedToken) → Twins w (block_rest lm inner c (lo_of startn (startl ++ regexps w)) (on o n ((l ++ regexps w)))) (block_rest lm inner c (lo_of startn (startl ++ slashes w)) (on o n ((l ++ slashes w))))
  unfolding block_rest
  block_rest_twin c starto startn startl o n l = twin_then w _ _ _ _ (iterate_twin w _ _ (λ x xo xn xl. block_step_twin c x xo xn xl) [] o n l) (λ ssv sso ssn ssl. twin_ok w _ _ sso ssn ssl (ap (λ (z : ℕ). block_stmt (span z ssn) (pack ssv)) (lo_same w starto startn startl)))

  pub block_by_twin : (c : Code) (o : List ℕ) (n : ℕ) (l : List PlacedToken) → Twins w (block_by lm inner c (on o n ((l ++ regexps w)))) (block_by lm inner c (on o n ((l ++ slashes w))))
  unfolding block_by
  block_by_twin c o n l = eat_at w left_brace_kind (refl, refl, refl) o n l _ _ (λ rn rl. block_rest_twin c o n l o rn rl)

  pub body_item_twin : (b : Body) (o : List ℕ) (n : ℕ) (l : List PlacedToken) → Twins w (body_item lm inner b (on o n ((l ++ regexps w)))) (body_item lm inner b (on o n ((l ++ slashes w))))
  unfolding body_item
  body_item_twin b o n l = twin_then w _ _ _ _ (told.stmt (in_list b.code) o n l) (λ tv to tn tl. twin_if w (b.starts && is_use_strict tv) (b.starts && is_use_strict tv) refl _ _ _ _ (λ yes. twin_ok w _ _ to tn tl refl) (λ no. twin_ok w _ _ to tn tl refl))

  pub body_step_twin : (b : Body) (o : List ℕ) (n : ℕ) (l : List PlacedToken) → Twins w (body_step lm inner b (on o n ((l ++ regexps w)))) (body_step lm inner b (on o n ((l ++ slashes w))))
  unfolding body_step
  body_step_twin b o n [] = twin_no w (at lm right_brace_kind (on o n (slashes w))) (parted w (λ z. at lm right_brace_kind (on o n z)) refl refl) _ _ _ (body_item_twin b o n [])
  body_step_twin b o n (p ∷ l) = twin_if w (at lm right_brace_kind (on o n (p ∷ (l ++ regexps w)))) (at lm right_brace_kind (on o n (p ∷ (l ++ slashes w)))) refl _ _ _ _ (λ yes. twin_ok w _ _ o p.spot.hi l refl) (λ no. body_item_twin b o n (p ∷ l))

  pub body_by_twin : (c : Code) (o : List ℕ) (n : ℕ) (l : List PlacedToken) → Twins w (body_by lm inner c (on o n ((l ++ regexps w)))) (body_by lm inner c (on o n ((l ++ slashes w))))
  unfolding body_by
  body_by_twin c o n [] = eat_none w left_brace_kind (refl, refl, refl) o n _ _
  body_by_twin c o n (p ∷ l) = eat_on w left_brace_kind o n p l _ _ (twin_then w _ _ _ _ (iterate_twin w _ _ (λ x xo xn xl. body_step_twin x xo xn xl) (record { items = []; code = c; starts = true }) o p.spot.hi l) (λ bv bo bn bl. twin_ok w _ _ bo bn bl refl))

  pub declarator_by_twin : (c : Code) (o : List ℕ) (n : ℕ) (l : List PlacedToken) → Twins w (declarator_by lm inner c (on o n ((l ++ regexps w)))) (declarator_by lm inner c (on o n ((l ++ slashes w))))
  unfolding declarator_by
  declarator_by_twin c o n [] = twin_then w _ _ _ _ (told.pat c o n []) (λ pv po pn pl. cut w (λ z. Twins w (if at lm assign_kind (on po pn ((z ++ regexps w))) then (inner.expr c assignment_level (past lm (on po pn ((z ++ regexps w)))) >>= λ e. Ok (var_declarator (spanned lm (lo_of n (regexps w)) e.1) pv e.0, e.1)) else Ok (var_declarator (spanned lm (lo_of n (regexps w)) (on po pn ((z ++ regexps w)))) pv absent, (on po pn ((z ++ regexps w))))) (if at lm assign_kind (on po pn ((z ++ slashes w))) then (inner.expr c assignment_level (past lm (on po pn ((z ++ slashes w)))) >>= λ e. Ok (var_declarator (spanned lm (lo_of n (slashes w)) e.1) pv e.0, e.1)) else Ok (var_declarator (spanned lm (lo_of n (slashes w)) (on po pn ((z ++ slashes w)))) pv absent, (on po pn ((z ++ slashes w)))))) pl (twin_no w (at lm assign_kind (on po pn (slashes w))) (parted w (λ z. at lm assign_kind (on po pn z)) refl refl) _ _ _ (twin_ok w _ _ po pn [] refl)) (λ pp pq. twin_if w (at lm assign_kind (on po pn (pp ∷ (pq ++ regexps w)))) (at lm assign_kind (on po pn (pp ∷ (pq ++ slashes w)))) refl _ _ _ _ (λ yes. twin_then w _ _ _ _ (told.expr c assignment_level po pp.spot.hi pq) (λ ev eo en el. twin_ok w _ _ eo en el refl)) (λ no. twin_ok w _ _ po pn (pp ∷ pq) refl)))
  declarator_by_twin c o n (p1 ∷ l) = twin_then w _ _ _ _ (told.pat c o n (p1 ∷ l)) (λ pv po pn pl. cut w (λ z. Twins w (if at lm assign_kind (on po pn ((z ++ regexps w))) then (inner.expr c assignment_level (past lm (on po pn ((z ++ regexps w)))) >>= λ e. Ok (var_declarator (spanned lm (lo_of n (p1 ∷ (l ++ regexps w))) e.1) pv e.0, e.1)) else Ok (var_declarator (spanned lm (lo_of n (p1 ∷ (l ++ regexps w))) (on po pn ((z ++ regexps w)))) pv absent, (on po pn ((z ++ regexps w))))) (if at lm assign_kind (on po pn ((z ++ slashes w))) then (inner.expr c assignment_level (past lm (on po pn ((z ++ slashes w)))) >>= λ e. Ok (var_declarator (spanned lm (lo_of n (p1 ∷ (l ++ slashes w))) e.1) pv e.0, e.1)) else Ok (var_declarator (spanned lm (lo_of n (p1 ∷ (l ++ slashes w))) (on po pn ((z ++ slashes w)))) pv absent, (on po pn ((z ++ slashes w)))))) pl (twin_no w (at lm assign_kind (on po pn (slashes w))) (parted w (λ z. at lm assign_kind (on po pn z)) refl refl) _ _ _ (twin_ok w _ _ po pn [] refl)) (λ pp pq. twin_if w (at lm assign_kind (on po pn (pp ∷ (pq ++ regexps w)))) (at lm assign_kind (on po pn (pp ∷ (pq ++ slashes w)))) refl _ _ _ _ (λ yes. twin_then w _ _ _ _ (told.expr c assignment_level po pp.spot.hi pq) (λ ev eo en el. twin_ok w _ _ eo en el refl)) (λ no. twin_ok w _ _ po pn (pp ∷ pq) refl)))

  pub declarator_step_twin : (c : Code) (ds : List Tree) (o : List ℕ) (n : ℕ) (l : List PlacedToken) → Twins w (declarator_step lm inner c ds (on o n ((l ++ regexps w)))) (declarator_step lm inner c ds (on o n ((l ++ slashes w))))
  unfolding declarator_step
  declarator_step_twin c ds o n l = twin_then w _ _ _ _ (declarator_by_twin c o n l) (λ dv do1 dn dl. cut w (λ z. Twins w (if at lm comma_kind (on do1 dn ((z ++ regexps w))) then Ok (go_on (ds ++ dv ∷ []), past lm (on do1 dn ((z ++ regexps w)))) else Ok (finished (ds ++ dv ∷ []), (on do1 dn ((z ++ regexps w))))) (if at lm comma_kind (on do1 dn ((z ++ slashes w))) then Ok (go_on (ds ++ dv ∷ []), past lm (on do1 dn ((z ++ slashes w)))) else Ok (finished (ds ++ dv ∷ []), (on do1 dn ((z ++ slashes w)))))) dl (twin_no w (at lm comma_kind (on do1 dn (slashes w))) (parted w (λ z. at lm comma_kind (on do1 dn z)) refl refl) _ _ _ (twin_ok w _ _ do1 dn [] refl)) (λ dp dq. twin_if w (at lm comma_kind (on do1 dn (dp ∷ (dq ++ regexps w)))) (at lm comma_kind (on do1 dn (dp ∷ (dq ++ slashes w)))) refl _ _ _ _ (λ yes. twin_ok w _ _ do1 dp.spot.hi dq refl) (λ no. twin_ok w _ _ do1 dn (dp ∷ dq) refl)))

  pub declarators_by_twin : (c : Code) (o : List ℕ) (n : ℕ) (l : List PlacedToken) → Twins w (declarators_by lm inner c (on o n ((l ++ regexps w)))) (declarators_by lm inner c (on o n ((l ++ slashes w))))
  unfolding declarators_by
  declarators_by_twin c o n l = iterate_twin w _ _ (λ x xo xn xl. declarator_step_twin c x xo xn xl) [] o n l

  pub variables_by_twin : (c : Code) (o : List ℕ) (n : ℕ) (p : PlacedToken) (l : List PlacedToken) → Twins w (variables_by lm inner c (on o n (p ∷ (l ++ regexps w)))) (variables_by lm inner c (on o n (p ∷ (l ++ slashes w))))
  unfolding variables_by
  variables_by_twin c o n p l = word_on w c (kind (input lm (on o n (p ∷ (l ++ regexps w))))) o n p l _ _ (twin_then w _ _ _ _ (declarators_by_twin c o p.spot.hi l) (λ dsv dso dsn dsl. end_at w c (declarators_end (pack dsv)) dso dsn dsl _ _ (λ en el. twin_ok w _ _ dso en el refl)))

  pub using_by_twin : (c : Code) (starto : List ℕ) (startn : ℕ) (startl : List PlacedToken) (awaits : Bool) (o : List ℕ) (n : ℕ) (l : List PlacedToken) → Twins w (using_by lm inner c (lo_of startn (startl ++ regexps w)) awaits (on o n ((l ++ regexps w)))) (using_by lm inner c (lo_of startn (startl ++ slashes w)) awaits (on o n ((l ++ slashes w))))
  unfolding using_by
  using_by_twin c starto startn startl awaits o n l = word_at w c using_kind (refl, refl, refl) o n l _ _ (λ rn rl. twin_then w _ _ _ _ (declarators_by_twin c o rn rl) (λ dsv dso dsn dsl. end_at w c (declarators_end (pack dsv)) dso dsn dsl _ _ (λ en el. twin_ok w _ _ dso en el (ap (λ (z : ℕ). using_decl (span z en) awaits (pack dsv)) (lo_same w starto startn startl)))))

  pub function_decl_by_twin : (c : Code) (starto : List ℕ) (startn : ℕ) (startp : PlacedToken) (startl : List PlacedToken) (async : Bool) (o : List ℕ) (n1 : ℕ) (l : List PlacedToken) → Twins w (function_decl_by lm inner c (lo_of startn (startp ∷ (startl ++ regexps w))) async (on o n1 ((l ++ regexps w)))) (function_decl_by lm inner c (lo_of startn (startp ∷ (startl ++ slashes w))) async (on o n1 ((l ++ slashes w))))
  unfolding function_decl_by
  function_decl_by_twin c starto startn startp startl async o n1 l = word_at w c function_kind (refl, refl, refl) o n1 l _ _ (λ rn rl. twin_then w _ _ _ _ (star_twin w inner told o rn rl) (λ gv go gn gl. cut w (λ z. Twins w (name lm c (on go gn ((z ++ regexps w))) >>= λ n. function_by lm inner c (lo (input lm (on starto startn (startp ∷ (startl ++ regexps w))))) gv async n.1 >>= λ f. Ok (fn_decl (spanned lm (lo_of startn (startp ∷ (startl ++ regexps w))) f.1) (ident (first lm inner (on go gn ((z ++ regexps w)))) n.0) f.0, f.1)) (name lm c (on go gn ((z ++ slashes w))) >>= λ n. function_by lm inner c (lo (input lm (on starto startn (startp ∷ (startl ++ slashes w))))) gv async n.1 >>= λ f. Ok (fn_decl (spanned lm (lo_of startn (startp ∷ (startl ++ slashes w))) f.1) (ident (first lm inner (on go gn ((z ++ slashes w)))) n.0) f.0, f.1))) gl (name_none w c go gn _ _) (λ gp gq. name_on w c go gn gp gq _ _ (λ nv. twin_then w _ _ _ _ (function_by_twin w inner told c (lo (input lm (on starto startn (startp ∷ (startl ++ regexps w))))) gv async go gp.spot.hi gq) (λ fv fo fn fl. twin_ok w _ _ fo fn fl refl)))))

  pub class_decl_by_twin : (c : Code) (o : List ℕ) (n1 : ℕ) (l : List PlacedToken) → Twins w (class_decl_by lm inner c (on o n1 ((l ++ regexps w)))) (class_decl_by lm inner c (on o n1 ((l ++ slashes w))))
  unfolding class_decl_by
  class_decl_by_twin c o n1 [] = word_none w c class_kind (refl, refl, refl) o n1 _ _
  class_decl_by_twin c o n1 (p ∷ l) = word_on w c class_kind o n1 p l _ _ (cut w (λ z. Twins w (name lm (turned_strict c) (on o p.spot.hi ((z ++ regexps w))) >>= λ n. inner.class_tail (turned_strict (with_in c)) (lo (input lm (on o n1 (p ∷ (l ++ regexps w))))) n.1 >>= λ k. Ok (class_decl (spanned lm (lo_of n1 (p ∷ (l ++ regexps w))) k.1) (ident (first lm inner (on o p.spot.hi ((z ++ regexps w)))) n.0) k.0, k.1)) (name lm (turned_strict c) (on o p.spot.hi ((z ++ slashes w))) >>= λ n. inner.class_tail (turned_strict (with_in c)) (lo (input lm (on o n1 (p ∷ (l ++ slashes w))))) n.1 >>= λ k. Ok (class_decl (spanned lm (lo_of n1 (p ∷ (l ++ slashes w))) k.1) (ident (first lm inner (on o p.spot.hi ((z ++ slashes w)))) n.0) k.0, k.1))) l (name_none w (turned_strict c) o p.spot.hi _ _) (λ rp rq. name_on w (turned_strict c) o p.spot.hi rp rq _ _ (λ nv. twin_then w _ _ _ _ (told.class_tail (turned_strict (with_in c)) (lo (input lm (on o n1 (p ∷ (l ++ regexps w))))) o rp.spot.hi rq) (λ kv ko kn kl. twin_ok w _ _ ko kn kl refl))))

  pub field_value_twin : (c : Code) (e : ℕ) (o : List ℕ) (n : ℕ) (l : List PlacedToken) → Twins w (field_value lm inner c e (on o n ((l ++ regexps w)))) (field_value lm inner c e (on o n ((l ++ slashes w))))
  unfolding field_value
  field_value_twin c e o n [] = twin_no w (at lm assign_kind (on o n (slashes w))) (parted w (λ z. at lm assign_kind (on o n z)) refl refl) _ _ _ (end_at w c e o n [] _ _ (λ rn rl. twin_ok w _ _ o rn rl refl))
  field_value_twin c e o n (p ∷ l) = twin_if w (at lm assign_kind (on o n (p ∷ (l ++ regexps w)))) (at lm assign_kind (on o n (p ∷ (l ++ slashes w)))) refl _ _ _ _ (λ yes. twin_then w _ _ _ _ (told.expr (in_field c) assignment_level o p.spot.hi l) (λ vv vo vn vl. end_at w c (ends vv) vo vn vl _ _ (λ rn rl. twin_ok w _ _ vo rn rl refl))) (λ no. end_at w c e o n (p ∷ l) _ _ (λ rn rl. twin_ok w _ _ o rn rl refl))

  pub class_key_twin : (c : Code) (o : List ℕ) (n : ℕ) (l : List PlacedToken) → Twins w (class_key lm inner c (on o n ((l ++ regexps w)))) (class_key lm inner c (on o n ((l ++ slashes w))))
  unfolding class_key
  class_key_twin c o n l = twin_if w (at lm hash_kind (on o n ((l ++ regexps w)))) (at lm hash_kind (on o n ((l ++ slashes w)))) (same w (λ z. at lm hash_kind (on o n z)) refl refl (λ p. refl) (λ p. refl) (λ p q. refl) (λ p q. refl) (λ p q r l m n. refl) l) _ _ _ _ (λ yes. private_by_twin w inner told o n l) (λ no. key_by_twin w inner told c o n l)

  -- where they part, no key of a class stands, and so no member
  pub class_key_nil : {A : Type 0} (c : Code) (o : List ℕ) (n : ℕ) (f : Tree × State Input → Result (A × State Input) Fault) (y : Result (A × State Input) Fault) → Twins w (class_key lm inner c (on o n (regexps w)) >>= f) y
  unfolding class_key key_by
  class_key_nil c o n f y = never w _ _

  pub class_method_by_twin : (c : Code) (starto : List ℕ) (startn : ℕ) (startp : PlacedToken) (startl : List PlacedToken) (is_static : Bool) (generator : Bool) (async : Bool) (k : Tree) (o : List ℕ) (n : ℕ) (l : List PlacedToken) → Twins w (class_method_by lm inner c (lo_of startn (startp ∷ (startl ++ regexps w))) is_static generator async k (on o n ((l ++ regexps w)))) (class_method_by lm inner c (lo_of startn (startp ∷ (startl ++ slashes w))) is_static generator async k (on o n ((l ++ slashes w))))
  unfolding class_method_by
  class_method_by_twin c starto startn startp startl is_static generator async k o n l = twin_then w _ _ _ _ (function_by_twin w inner told c (lo (input lm (on starto startn (startp ∷ (startl ++ regexps w))))) generator async o n l) (λ fv fo fn fl. twin_if w (constructs k && (not is_static && (not generator && not async))) (constructs k && (not is_static && (not generator && not async))) refl _ _ _ _ (λ yes. twin_ok w _ _ fo fn fl refl) (λ no. twin_ok w _ _ fo fn fl refl))

  pub class_getter_twin : (c : Code) (starto : List ℕ) (startn : ℕ) (startl : List PlacedToken) (is_static : Bool) (o1 : List ℕ) (n : ℕ) (p1 : PlacedToken) (l : List PlacedToken) → Twins w (class_getter lm inner c (lo_of startn (startl ++ regexps w)) is_static (on o1 n (p1 ∷ (l ++ regexps w)))) (class_getter lm inner c (lo_of startn (startl ++ slashes w)) is_static (on o1 n (p1 ∷ (l ++ slashes w))))
  unfolding class_getter
  class_getter_twin c starto startn startl is_static o1 n p1 l = twin_then w _ _ _ _ (class_key_twin c o1 p1.spot.hi l) (λ kv ko kn kl. eat_at w left_paren_kind (refl, refl, refl) ko kn kl _ _ (λ on1 ol. eat_at w right_paren_kind (refl, refl, refl) ko on1 ol _ _ (λ pn pl. twin_then w _ _ _ _ (told.body (in_body false false c) ko pn pl) (λ bv bo bn bl. twin_ok w _ _ bo bn bl (ap (λ (z : ℕ). method_tree lm inner (span z bn) kv (function (span z bn) none none bv false false) get_kind is_static) (lo_same w starto startn startl))))))

  pub class_setter_twin : (c : Code) (starto : List ℕ) (startn : ℕ) (startl : List PlacedToken) (is_static : Bool) (o : List ℕ) (n : ℕ) (p1 : PlacedToken) (l : List PlacedToken) → Twins w (class_setter lm inner c (lo_of startn (startl ++ regexps w)) is_static (on o n (p1 ∷ (l ++ regexps w)))) (class_setter lm inner c (lo_of startn (startl ++ slashes w)) is_static (on o n (p1 ∷ (l ++ slashes w))))
  unfolding class_setter
  class_setter_twin c starto startn startl is_static o n p1 l = twin_then w _ _ _ _ (class_key_twin c o p1.spot.hi l) (λ kv ko kn kl. twin_then w _ _ _ _ (setter_parameter_twin w inner told (in_body false false c) ko kn kl) (λ pv po pn pl. twin_then w _ _ _ _ (told.body (in_body false false c) po pn pl) (λ bv bo bn bl. twin_ok w _ _ bo bn bl (ap (λ (z : ℕ). method_tree lm inner (span z bn) kv (function (span z bn) (more pv none) none bv false false) set_kind is_static) (lo_same w starto startn startl)))))

  pub accessor_by_twin : (c : Code) (starto : List ℕ) (startn : ℕ) (startl : List PlacedToken) (is_static : Bool) (o : List ℕ) (n : ℕ) (p : PlacedToken) (l : List PlacedToken) → Twins w (accessor_by lm inner c (lo_of startn (startl ++ regexps w)) is_static (on o n (p ∷ (l ++ regexps w)))) (accessor_by lm inner c (lo_of startn (startl ++ slashes w)) is_static (on o n (p ∷ (l ++ slashes w))))
  unfolding accessor_by
  accessor_by_twin c starto startn startl is_static o n p [] = class_key_nil c o p.spot.hi _ _
  accessor_by_twin c starto startn startl is_static o n p (q ∷ l) = twin_then w _ _ _ _ (class_key_twin c o p.spot.hi (q ∷ l)) (λ kv ko kn kl. twin_then w _ _ _ _ (field_value_twin c key_end ko kn kl)
      (λ vv vo vn vl. twin_ok w _ _ vo vn vl (ap (λ (z : ℕ). auto_accessor (span z vn) kv vv is_static none) (lo_same w starto startn startl))))

  pub field_or_method_twin : (c : Code) (starto : List ℕ) (startn : ℕ) (startp : PlacedToken) (startl : List PlacedToken) (is_static : Bool) (o : List ℕ) (n : ℕ) (l : List PlacedToken) → Twins w (field_or_method lm inner c (lo_of startn (startp ∷ (startl ++ regexps w))) is_static (on o n ((l ++ regexps w)))) (field_or_method lm inner c (lo_of startn (startp ∷ (startl ++ slashes w))) is_static (on o n ((l ++ slashes w))))
  unfolding field_or_method class_key key_by
  field_or_method_twin c starto startn startp startl is_static o n [] = never w _ _
  field_or_method_twin c starto startn startp startl is_static o n (p ∷ l) = twin_then w _ _ _ _ (class_key_twin c o n (p ∷ l)) (λ kv ko kn kl. twin_if w (at lm left_paren_kind (on ko kn ((kl ++ regexps w)))) (at lm left_paren_kind (on ko kn ((kl ++ slashes w)))) (same w (λ z. at lm left_paren_kind (on ko kn z)) refl refl (λ p. refl) (λ p. refl) (λ p q. refl) (λ p q. refl) (λ p q r l m n. refl) kl) _ _ _ _ (λ yes. class_method_by_twin c starto startn startp startl is_static false false kv ko kn kl) (λ no. twin_then w _ _ _ _ (field_value_twin c (field_end is_static (kind (input lm (on o n (p ∷ (l ++ regexps w)))))) ko kn kl) (λ vv vo vn vl. twin_if w (is_private kv) (is_private kv) refl _ _ _ _ (λ yes. twin_ok w _ _ vo vn vl refl) (λ no. twin_ok w _ _ vo vn vl refl))))

  pub generator_member_twin : (c : Code) (starto : List ℕ) (startn : ℕ) (startp : PlacedToken) (startl : List PlacedToken) (is_static : Bool) (async : Bool) (o : List ℕ) (n : ℕ) (l : List PlacedToken) → Twins w (generator_member lm inner c (lo_of startn (startp ∷ (startl ++ regexps w))) is_static async (on o n ((l ++ regexps w)))) (generator_member lm inner c (lo_of startn (startp ∷ (startl ++ slashes w))) is_static async (on o n ((l ++ slashes w))))
  unfolding generator_member
  generator_member_twin c starto startn startp startl is_static async o n l = twin_then w _ _ _ _ (star_twin w inner told o n l) (λ gv go gn gl. twin_then w _ _ _ _ (class_key_twin c go gn gl) (λ kv ko kn kl. class_method_by_twin c starto startn startp startl is_static gv async kv ko kn kl))

  pub member_rest_twin : (c : Code) (starto : List ℕ) (startn : ℕ) (startp : PlacedToken) (startl : List PlacedToken) (is_static : Bool) (o : List ℕ) (n : ℕ) (l : List PlacedToken) → Twins w (member_rest lm inner c (lo_of startn (startp ∷ (startl ++ regexps w))) is_static (on o n ((l ++ regexps w)))) (member_rest lm inner c (lo_of startn (startp ∷ (startl ++ slashes w))) is_static (on o n ((l ++ slashes w))))
  unfolding member_rest
  member_rest_twin c starto startn startp startl is_static o n [] = twin_no w (at lm mul_kind (on o n (slashes w))) (parted w (λ z. at lm mul_kind (on o n z)) refl refl) _ _ _ (twin_no w (is_async_head lm inner (on o n (slashes w))) (parted w (λ z. is_async_head lm inner (on o n z)) refl refl) _ _ _ (twin_no w (at lm get_kind (on o n (slashes w)) && starts_key (kind2 (input lm (on o n (slashes w))))) (parted w (λ z. at lm get_kind (on o n z) && starts_key (kind2 (input lm (on o n z)))) refl refl) _ _ _ (twin_no w (at lm set_kind (on o n (slashes w)) && starts_key (kind2 (input lm (on o n (slashes w))))) (parted w (λ z. at lm set_kind (on o n z) && starts_key (kind2 (input lm (on o n z)))) refl refl) _ _ _ (twin_if w (c.syntax.auto_accessors && (at lm accessor_kind (on o n (regexps w)) && (starts_key (kind2 (input lm (on o n (regexps w)))) && not (brk2 (input lm (on o n (regexps w))))))) (c.syntax.auto_accessors && (at lm accessor_kind (on o n (slashes w)) && (starts_key (kind2 (input lm (on o n (slashes w)))) && not (brk2 (input lm (on o n (slashes w))))))) (parted w (λ z. c.syntax.auto_accessors && (at lm accessor_kind (on o n z) && (starts_key (kind2 (input lm (on o n z))) && not (brk2 (input lm (on o n z)))))) refl refl) _ _ _ _ (λ yes. absurd (not_and_false _ yes)) (λ no. field_or_method_twin c starto startn startp startl is_static o n [])))))
  member_rest_twin c starto startn startp startl is_static o n (p ∷ l) = twin_if w (at lm mul_kind (on o n (p ∷ (l ++ regexps w)))) (at lm mul_kind (on o n (p ∷ (l ++ slashes w)))) refl _ _ _ _ (λ yes. generator_member_twin c starto startn startp startl is_static false o n (p ∷ l)) (λ no. twin_if w (is_async_head lm inner (on o n (p ∷ (l ++ regexps w)))) (is_async_head lm inner (on o n (p ∷ (l ++ slashes w)))) (same w (λ z. is_async_head lm inner (on o n (p ∷ z))) refl refl (λ p. refl) (λ p. refl) (λ p q. refl) (λ p q. refl) (λ p q r l m n. refl) l) _ _ _ _ (λ yes. generator_member_twin c starto startn startp startl is_static true o p.spot.hi l) (λ no. twin_if w (at lm get_kind (on o n (p ∷ (l ++ regexps w))) && starts_key (kind2 (input lm (on o n (p ∷ (l ++ regexps w)))))) (at lm get_kind (on o n (p ∷ (l ++ slashes w))) && starts_key (kind2 (input lm (on o n (p ∷ (l ++ slashes w)))))) (same w (λ z. at lm get_kind (on o n (p ∷ z)) && starts_key (kind2 (input lm (on o n (p ∷ z))))) refl refl (λ p. refl) (λ p. refl) (λ p q. refl) (λ p q. refl) (λ p q r l m n. refl) l) _ _ _ _ (λ yes. class_getter_twin c starto startn (startp ∷ startl) is_static o n p l) (λ no. twin_if w (at lm set_kind (on o n (p ∷ (l ++ regexps w))) && starts_key (kind2 (input lm (on o n (p ∷ (l ++ regexps w)))))) (at lm set_kind (on o n (p ∷ (l ++ slashes w))) && starts_key (kind2 (input lm (on o n (p ∷ (l ++ slashes w)))))) (same w (λ z. at lm set_kind (on o n (p ∷ z)) && starts_key (kind2 (input lm (on o n (p ∷ z))))) refl refl (λ p. refl) (λ p. refl) (λ p q. refl) (λ p q. refl) (λ p q r l m n. refl) l) _ _ _ _ (λ yes. class_setter_twin c starto startn (startp ∷ startl) is_static o n p l) (λ no. twin_if w (c.syntax.auto_accessors && (at lm accessor_kind (on o n (p ∷ (l ++ regexps w))) && (starts_key (kind2 (input lm (on o n (p ∷ (l ++ regexps w))))) && not (brk2 (input lm (on o n (p ∷ (l ++ regexps w)))))))) (c.syntax.auto_accessors && (at lm accessor_kind (on o n (p ∷ (l ++ slashes w))) && (starts_key (kind2 (input lm (on o n (p ∷ (l ++ slashes w))))) && not (brk2 (input lm (on o n (p ∷ (l ++ slashes w)))))))) (same w (λ z. c.syntax.auto_accessors && (at lm accessor_kind (on o n (p ∷ z)) && (starts_key (kind2 (input lm (on o n (p ∷ z)))) && not (brk2 (input lm (on o n (p ∷ z))))))) refl refl (λ p. refl) (λ p. refl) (λ p q. refl) (λ p q. refl) (λ p q r l m n. refl) l) _ _ _ _ (λ yes. accessor_by_twin c starto startn (startp ∷ startl) is_static o n p l) (λ no. field_or_method_twin c starto startn startp startl is_static o n (p ∷ l))))))

  pub member_nil : {A : Type 0} (c : Code) (start : ℕ) (z : Bool) (o : List ℕ) (n : ℕ) (f : Tree × State Input → Result (A × State Input) Fault) (y : Result (A × State Input) Fault) → Twins w (member_rest lm inner c start z (on o n (regexps w)) >>= f) y
  unfolding member_rest field_or_method class_key key_by
  member_nil c start z o n f y = by_syntax c.syntax.auto_accessors
    where
      by_syntax : (b : Bool) → Twins w (cond (b && false) (accessor_by lm inner c start z (on o n (regexps w))) (unexpected lm (on o n (regexps w))) >>= f) y
      by_syntax true = never w _ _
      by_syntax false = never w _ _

  pub static_by_twin : (c : Code) (o : List ℕ) (n : ℕ) (l : List PlacedToken) → Twins w (static_by lm inner c (on o n ((l ++ regexps w)))) (static_by lm inner c (on o n ((l ++ slashes w))))
  unfolding static_by
  static_by_twin c o n [] = word_none w c static_kind (refl, refl, refl) o n _ _
  static_by_twin c o n (p ∷ l) = word_on w c static_kind o n p l _ _ (cut w (λ z. Twins w (if at lm left_brace_kind (on o p.spot.hi ((z ++ regexps w))) then (block_rest lm inner (in_static c) (lo_of p.spot.hi (z ++ regexps w)) (past lm (on o p.spot.hi ((z ++ regexps w)))) >>= λ b. Ok (static_block (spanned lm (lo_of n (p ∷ (l ++ regexps w))) b.1) b.0, b.1)) else member_rest lm inner c (lo_of n (p ∷ (l ++ regexps w))) true (on o p.spot.hi ((z ++ regexps w)))) (if at lm left_brace_kind (on o p.spot.hi ((z ++ slashes w))) then (block_rest lm inner (in_static c) (lo_of p.spot.hi (z ++ slashes w)) (past lm (on o p.spot.hi ((z ++ slashes w)))) >>= λ b. Ok (static_block (spanned lm (lo_of n (p ∷ (l ++ slashes w))) b.1) b.0, b.1)) else member_rest lm inner c (lo_of n (p ∷ (l ++ slashes w))) true (on o p.spot.hi ((z ++ slashes w))))) l (twin_no w (at lm left_brace_kind (on o p.spot.hi (slashes w))) (parted w (λ z. at lm left_brace_kind (on o p.spot.hi z)) refl refl) _ _ _ (member_rest_twin c o n p l true o p.spot.hi [])) (λ rp rq. twin_if w (at lm left_brace_kind (on o p.spot.hi (rp ∷ (rq ++ regexps w)))) (at lm left_brace_kind (on o p.spot.hi (rp ∷ (rq ++ slashes w)))) refl _ _ _ _ (λ yes. twin_then w _ _ _ _ (block_rest_twin (in_static c) o p.spot.hi (rp ∷ rq) o rp.spot.hi rq) (λ bv bo bn bl. twin_ok w _ _ bo bn bl refl)) (λ no. member_rest_twin c o n p l true o p.spot.hi (rp ∷ rq))))

  pub member_step_twin : (c : Code) (ms : List Tree) (o : List ℕ) (n : ℕ) (l : List PlacedToken) → Twins w (member_step lm inner c ms (on o n ((l ++ regexps w)))) (member_step lm inner c ms (on o n ((l ++ slashes w))))
  unfolding member_step
  member_step_twin c ms o n [] = twin_no w (at lm right_brace_kind (on o n (slashes w))) (parted w (λ z. at lm right_brace_kind (on o n z)) refl refl) _ _ _ (twin_no w (at lm semicolon_kind (on o n (slashes w))) (parted w (λ z. at lm semicolon_kind (on o n z)) refl refl) _ _ _ (twin_no w (starts_static lm inner (on o n (slashes w))) (parted w (λ z. starts_static lm inner (on o n z)) refl refl) _ _ _ (member_nil c _ false o n _ _)))
  member_step_twin c ms o n (p ∷ l) = twin_if w (at lm right_brace_kind (on o n (p ∷ (l ++ regexps w)))) (at lm right_brace_kind (on o n (p ∷ (l ++ slashes w)))) refl _ _ _ _ (λ yes. twin_ok w _ _ o p.spot.hi l refl) (λ no. twin_if w (at lm semicolon_kind (on o n (p ∷ (l ++ regexps w)))) (at lm semicolon_kind (on o n (p ∷ (l ++ slashes w)))) refl _ _ _ _ (λ yes. twin_ok w _ _ o p.spot.hi l refl) (λ no. twin_if w (starts_static lm inner (on o n (p ∷ (l ++ regexps w)))) (starts_static lm inner (on o n (p ∷ (l ++ slashes w)))) (same w (λ z. starts_static lm inner (on o n (p ∷ z))) refl refl (λ p. refl) (λ p. refl) (λ p q. refl) (λ p q. refl) (λ p q r l m n. refl) l) _ _ _ _ (λ yes. twin_then w _ _ _ _ (static_by_twin c o n (p ∷ l)) (λ xv xo xn xl. twin_ok w _ _ xo xn xl refl)) (λ no. twin_then w _ _ _ _ (member_rest_twin c o n p l false o n (p ∷ l)) (λ xv xo xn xl. twin_ok w _ _ xo xn xl refl))))

  pub members_by_twin : (c : Code) (whole : ℕ) (super_class : Tree) (o : List ℕ) (n : ℕ) (l : List PlacedToken) → Twins w (members_by lm inner c whole super_class (on o n ((l ++ regexps w)))) (members_by lm inner c whole super_class (on o n ((l ++ slashes w))))
  unfolding members_by
  members_by_twin c whole super_class o n l = eat_at w left_brace_kind (refl, refl, refl) o n l _ _ (λ rn rl. twin_then w _ _ _ _ (iterate_twin w _ _ (λ x xo xn xl. member_step_twin c x xo xn xl) [] o rn rl) (λ msv mso msn msl. twin_ok w _ _ mso msn msl refl))

  pub class_tail_by_twin : (c : Code) (whole : ℕ) (o : List ℕ) (n : ℕ) (l : List PlacedToken) → Twins w (class_tail_by lm inner c whole (on o n ((l ++ regexps w)))) (class_tail_by lm inner c whole (on o n ((l ++ slashes w))))
  unfolding class_tail_by
  class_tail_by_twin c whole o n l = twin_if w (at lm extends_kind (on o n ((l ++ regexps w)))) (at lm extends_kind (on o n ((l ++ slashes w)))) (same w (λ z. at lm extends_kind (on o n z)) refl refl (λ p. refl) (λ p. refl) (λ p q. refl) (λ p q. refl) (λ p q r l m n. refl) l) _ _ _ _ (λ yes. word_at w c extends_kind (refl, refl, refl) o n l _ _ (λ rn rl. twin_then w _ _ _ _ (told.expr c new_level o rn rl) (λ ev eo en el. members_by_twin c whole ev eo en el))) (λ no. members_by_twin c whole absent o n l)

  pub in_parens_twin : (c : Code) (o1 : List ℕ) (n : ℕ) (l : List PlacedToken) → Twins w (in_parens lm inner c (on o1 n ((l ++ regexps w)))) (in_parens lm inner c (on o1 n ((l ++ slashes w))))
  unfolding in_parens
  in_parens_twin c o1 n l = eat_at w left_paren_kind (refl, refl, refl) o1 n l _ _ (λ on1 ol. twin_then w _ _ _ _ (told.expr c expression_level o1 on1 ol) (λ ev eo en el. eat_at w right_paren_kind (refl, refl, refl) eo en el _ _ (λ rn rl. twin_ok w _ _ eo rn rl refl)))

  pub sub_by_twin : (c : Code) (functions : Bool) (o : List ℕ) (n : ℕ) (l : List PlacedToken) → Twins w (sub_by lm inner c functions (on o n ((l ++ regexps w)))) (sub_by lm inner c functions (on o n ((l ++ slashes w))))
  unfolding sub_by
  sub_by_twin c functions o n l = twin_then w _ _ _ _ (told.stmt (alone c) o n l) (λ tv to tn tl. twin_if w (is_statement tv || (functions && (not (is_strict c) && is_plain_function tv))) (is_statement tv || (functions && (not (is_strict c) && is_plain_function tv))) refl _ _ _ _ (λ yes. twin_ok w _ _ to tn tl refl) (λ no. never w _ _))

  pub with_by_twin : (c : Code) (o : List ℕ) (n : ℕ) (l : List PlacedToken) → Twins w (with_by lm inner c (on o n ((l ++ regexps w)))) (with_by lm inner c (on o n ((l ++ slashes w))))
  unfolding with_by
  with_by_twin c o n [] = word_none w c with_kind (refl, refl, refl) o n _ _
  with_by_twin c o n (p ∷ l) = word_on w c with_kind o n p l _ _ (twin_then w _ _ _ _ (in_parens_twin c o p.spot.hi l) (λ ev eo en el. twin_then w _ _ _ _ (sub_by_twin c false eo en el) (λ bv bo bn bl. twin_ok w _ _ bo bn bl refl)))

  pub while_by_twin : (c : Code) (o : List ℕ) (n : ℕ) (l : List PlacedToken) → Twins w (while_by lm inner c (on o n ((l ++ regexps w)))) (while_by lm inner c (on o n ((l ++ slashes w))))
  unfolding while_by
  while_by_twin c o n [] = word_none w c while_kind (refl, refl, refl) o n _ _
  while_by_twin c o n (p ∷ l) = word_on w c while_kind o n p l _ _ (twin_then w _ _ _ _ (in_parens_twin c o p.spot.hi l) (λ ev eo en el. twin_then w _ _ _ _ (sub_by_twin c false eo en el) (λ bv bo bn bl. twin_ok w _ _ bo bn bl refl)))

  pub do_by_twin : (c : Code) (o : List ℕ) (n : ℕ) (l : List PlacedToken) → Twins w (do_by lm inner c (on o n ((l ++ regexps w)))) (do_by lm inner c (on o n ((l ++ slashes w))))
  unfolding do_by
  do_by_twin c o n [] = word_none w c do_kind (refl, refl, refl) o n _ _
  do_by_twin c o n (p ∷ l) = word_on w c do_kind o n p l _ _ (twin_then w _ _ _ _ (sub_by_twin c false o p.spot.hi l) (λ bv bo bn bl. word_at w c while_kind (refl, refl, refl) bo bn bl _ _ (λ wn wl. twin_then w _ _ _ _ (in_parens_twin c bo wn wl) (λ ev eo en el. cut w (λ z. Twins w (if at lm semicolon_kind (on eo en ((z ++ regexps w))) then Ok (do_while_stmt (spanned lm (lo_of n (p ∷ (l ++ regexps w))) (past lm (on eo en ((z ++ regexps w))))) ev bv, past lm (on eo en ((z ++ regexps w)))) else Ok (do_while_stmt (spanned lm (lo_of n (p ∷ (l ++ regexps w))) (on eo en ((z ++ regexps w)))) ev bv, (on eo en ((z ++ regexps w))))) (if at lm semicolon_kind (on eo en ((z ++ slashes w))) then Ok (do_while_stmt (spanned lm (lo_of n (p ∷ (l ++ slashes w))) (past lm (on eo en ((z ++ slashes w))))) ev bv, past lm (on eo en ((z ++ slashes w)))) else Ok (do_while_stmt (spanned lm (lo_of n (p ∷ (l ++ slashes w))) (on eo en ((z ++ slashes w)))) ev bv, (on eo en ((z ++ slashes w)))))) el (twin_no w (at lm semicolon_kind (on eo en (slashes w))) (parted w (λ z. at lm semicolon_kind (on eo en z)) refl refl) _ _ _ (twin_ok w _ _ eo en [] refl)) (λ ep eq. twin_if w (at lm semicolon_kind (on eo en (ep ∷ (eq ++ regexps w)))) (at lm semicolon_kind (on eo en (ep ∷ (eq ++ slashes w)))) refl _ _ _ _ (λ yes. twin_ok w _ _ eo ep.spot.hi eq refl) (λ no. twin_ok w _ _ eo en (ep ∷ eq) refl))))))

  pub else_by_twin : (x : Chain) (o : List ℕ) (n : ℕ) (l : List PlacedToken) → Twins w (else_by lm inner x (on o n ((l ++ regexps w)))) (else_by lm inner x (on o n ((l ++ slashes w))))
  unfolding else_by
  else_by_twin x o n l = twin_if w (at lm if_kind (operand lm (on o n ((l ++ regexps w))))) (at lm if_kind (operand lm (on o n ((l ++ slashes w))))) (same w (λ z. at lm if_kind (operand lm (on o n z))) refl refl (λ p. refl) (λ p. refl) (λ p q. refl) (λ p q. refl) (λ p q r l m n. refl) l) _ _ _ _ (λ yes. twin_ok w _ _ o n l refl) (λ no. twin_then w _ _ _ _ (sub_by_twin x.code true o n l) (λ bv bo bn bl. twin_ok w _ _ bo bn bl refl))

  pub if_step_twin : (x : Chain) (o1 : List ℕ) (n : ℕ) (l : List PlacedToken) → Twins w (if_step lm inner x (on o1 n ((l ++ regexps w)))) (if_step lm inner x (on o1 n ((l ++ slashes w))))
  unfolding if_step
  if_step_twin x o1 n [] = word_none w x.code if_kind (refl, refl, refl) o1 n _ _
  if_step_twin x o1 n (p ∷ l) = word_on w x.code if_kind o1 n p l _ _ (twin_then w _ _ _ _ (in_parens_twin x.code o1 p.spot.hi l) (λ ev eo en el. twin_then w _ _ _ _ (sub_by_twin x.code true eo en el) (λ av ao an al. twin_if w (at lm else_kind (on ao an ((al ++ regexps w)))) (at lm else_kind (on ao an ((al ++ slashes w)))) (same w (λ z. at lm else_kind (on ao an z)) refl refl (λ p. refl) (λ p. refl) (λ p q. refl) (λ p q. refl) (λ p q r l m n. refl) al) _ _ _ _ (λ yes. word_at w x.code else_kind (refl, refl, refl) ao an al _ _ (λ on1 ol. else_by_twin (branched lm inner (lo_of n (p ∷ (l ++ regexps w))) x ev av) ao on1 ol)) (λ no. twin_ok w _ _ ao an al refl))))

  pub if_by_twin : (c : Code) (o : List ℕ) (n : ℕ) (l : List PlacedToken) → Twins w (if_by lm inner c (on o n ((l ++ regexps w)))) (if_by lm inner c (on o n ((l ++ slashes w))))
  unfolding if_by
  if_by_twin c o n l = twin_then w _ _ _ _ (iterate_twin w _ _ (λ x xo xn xl. if_step_twin x xo xn xl) (record { branches = []; code = c; last = absent }) o n l) (λ xv xo xn xl. twin_ok w _ _ xo xn xl refl)

  pub return_by_twin : (c : Code) (o : List ℕ) (n : ℕ) (l : List PlacedToken) → Twins w (return_by lm inner c (on o n ((l ++ regexps w)))) (return_by lm inner c (on o n ((l ++ slashes w))))
  unfolding return_by
  return_by_twin c o n [] = word_none w c return_kind (refl, refl, refl) o n _ _
  return_by_twin c o n (p ∷ l) = word_on w c return_kind o n p l _ _ (twin_if w (ends_here lm inner c (on o p.spot.hi ((l ++ regexps w)))) (ends_here lm inner c (on o p.spot.hi ((l ++ slashes w)))) (same w (λ z. ends_here lm inner c (on o p.spot.hi z)) refl refl (λ p. refl) (λ p. refl) (λ p q. refl) (λ p q. refl) (λ p q r l m n. refl) l) _ _ _ _ (λ yes. end_at w c plain_end o p.spot.hi l _ _ (λ en el. twin_ok w _ _ o en el refl)) (λ no. twin_then w _ _ _ _ (told.expr c expression_level o p.spot.hi l) (λ xv xo xn xl. end_at w c (ends xv) xo xn xl _ _ (λ en el. twin_ok w _ _ xo en el refl))))

  pub throw_by_twin : (c : Code) (o : List ℕ) (n : ℕ) (l : List PlacedToken) → Twins w (throw_by lm inner c (on o n ((l ++ regexps w)))) (throw_by lm inner c (on o n ((l ++ slashes w))))
  unfolding throw_by
  throw_by_twin c o n [] = word_none w c throw_kind (refl, refl, refl) o n _ _
  throw_by_twin c o n (p ∷ l) = word_on w c throw_kind o n p l _ _ (twin_if w (brk (input lm (on o p.spot.hi ((l ++ regexps w))))) (brk (input lm (on o p.spot.hi ((l ++ slashes w))))) (same w (λ z. brk (input lm (on o p.spot.hi z))) refl refl (λ p. refl) (λ p. refl) (λ p q. refl) (λ p q. refl) (λ p q r l m n. refl) l) _ _ _ _ (λ yes. never w _ _) (λ no. twin_then w _ _ _ _ (told.expr c expression_level o p.spot.hi l) (λ xv xo xn xl. end_at w c (ends xv) xo xn xl _ _ (λ en el. twin_ok w _ _ xo en el refl))))

  pub label_by_twin : (c : Code) (o : List ℕ) (n1 : ℕ) (l : List PlacedToken) → Twins w (label_by lm inner c (on o n1 ((l ++ regexps w)))) (label_by lm inner c (on o n1 ((l ++ slashes w))))
  unfolding label_by
  label_by_twin c o n1 [] = twin_if w (ends_here lm inner c (on o n1 (regexps w))) (ends_here lm inner c (on o n1 (slashes w))) (parted w (λ z. ends_here lm inner c (on o n1 z)) refl refl) _ _ _ _ (λ yes. twin_ok w _ _ o n1 [] refl) (λ no. name_none w c o n1 _ _)
  label_by_twin c o n1 (p ∷ l) = twin_if w (ends_here lm inner c (on o n1 (p ∷ (l ++ regexps w)))) (ends_here lm inner c (on o n1 (p ∷ (l ++ slashes w)))) refl _ _ _ _ (λ yes. twin_ok w _ _ o n1 (p ∷ l) refl) (λ no. name_on w c o n1 p l _ _ (λ nv. twin_ok w _ _ o p.spot.hi l refl))

  pub jump_by_twin : (word : ℕ) (shut : Plain w word) (make : Span → Tree → Tree) (c : Code) (o : List ℕ) (n : ℕ) (l1 : List PlacedToken) → Twins w (jump_by lm inner word make c (on o n ((l1 ++ regexps w)))) (jump_by lm inner word make c (on o n ((l1 ++ slashes w))))
  unfolding jump_by
  jump_by_twin word shut make c o n [] = word_none w c word shut o n _ _
  jump_by_twin word shut make c o n (p ∷ l1) = word_on w c word o n p l1 _ _ (twin_then w _ _ _ _ (label_by_twin c o p.spot.hi l1) (λ lv lo ln ll. end_at w c plain_end lo ln ll _ _ (λ en el. twin_ok w _ _ lo en el refl)))

  pub debugger_by_twin : (c : Code) (o : List ℕ) (n : ℕ) (l : List PlacedToken) → Twins w (debugger_by lm inner c (on o n ((l ++ regexps w)))) (debugger_by lm inner c (on o n ((l ++ slashes w))))
  unfolding debugger_by
  debugger_by_twin c o n [] = word_none w c debugger_kind (refl, refl, refl) o n _ _
  debugger_by_twin c o n (p ∷ l) = word_on w c debugger_kind o n p l _ _ (end_at w c plain_end o p.spot.hi l _ _ (λ en el. twin_ok w _ _ o en el refl))

  pub case_step_twin : (c : Code) (ss : List Tree) (o : List ℕ) (n : ℕ) (l : List PlacedToken) → Twins w (case_step lm inner c ss (on o n ((l ++ regexps w)))) (case_step lm inner c ss (on o n ((l ++ slashes w))))
  unfolding case_step
  case_step_twin c ss o n l = twin_if w (at lm case_kind (on o n ((l ++ regexps w))) || (at lm default_kind (on o n ((l ++ regexps w))) || at lm right_brace_kind (on o n ((l ++ regexps w))))) (at lm case_kind (on o n ((l ++ slashes w))) || (at lm default_kind (on o n ((l ++ slashes w))) || at lm right_brace_kind (on o n ((l ++ slashes w))))) (same w (λ z. at lm case_kind (on o n z) || (at lm default_kind (on o n z) || at lm right_brace_kind (on o n z))) refl refl (λ p. refl) (λ p. refl) (λ p q. refl) (λ p q. refl) (λ p q r l m n. refl) l) _ _ _ _ (λ yes. twin_ok w _ _ o n l refl) (λ no. twin_then w _ _ _ _ (told.stmt (in_list c) o n l) (λ tv to tn tl. twin_ok w _ _ to tn tl refl))

  pub case_rest_twin : (c : Code) (starto : List ℕ) (startn : ℕ) (startl : List PlacedToken) (e : Tree) (o : List ℕ) (n : ℕ) (l : List PlacedToken) → Twins w (case_rest lm inner c (lo_of startn (startl ++ regexps w)) e (on o n ((l ++ regexps w)))) (case_rest lm inner c (lo_of startn (startl ++ slashes w)) e (on o n ((l ++ slashes w))))
  unfolding case_rest
  case_rest_twin c starto startn startl e o n l = eat_at w colon_kind (refl, refl, refl) o n l _ _ (λ rn rl. twin_then w _ _ _ _ (iterate_twin w _ _ (λ x xo xn xl. case_step_twin c x xo xn xl) [] o rn rl) (λ ssv sso ssn ssl. twin_ok w _ _ sso ssn ssl (ap (λ (z : ℕ). switch_case (span z ssn) e (pack ssv)) (lo_same w starto startn startl))))

  pub case_by_twin : (c : Code) (o : List ℕ) (n : ℕ) (l : List PlacedToken) → Twins w (case_by lm inner c (on o n ((l ++ regexps w)))) (case_by lm inner c (on o n ((l ++ slashes w))))
  unfolding case_by
  case_by_twin c o n l = twin_if w (at lm default_kind (on o n ((l ++ regexps w)))) (at lm default_kind (on o n ((l ++ slashes w)))) (same w (λ z. at lm default_kind (on o n z)) refl refl (λ p. refl) (λ p. refl) (λ p q. refl) (λ p q. refl) (λ p q r l m n. refl) l) _ _ _ _ (λ yes. word_at w c default_kind (refl, refl, refl) o n l _ _ (λ rn rl. case_rest_twin c o n l absent o rn rl)) (λ no. word_at w c case_kind (refl, refl, refl) o n l _ _ (λ rn rl. twin_then w _ _ _ _ (told.expr c expression_level o rn rl) (λ ev eo en el. case_rest_twin c o n l ev eo en el)))

  pub cases_step_twin : (c : Code) (xs : List Tree) (o : List ℕ) (n : ℕ) (l : List PlacedToken) → Twins w (cases_step lm inner c xs (on o n ((l ++ regexps w)))) (cases_step lm inner c xs (on o n ((l ++ slashes w))))
  unfolding cases_step
  cases_step_twin c xs o n [] = twin_no w (at lm right_brace_kind (on o n (slashes w))) (parted w (λ z. at lm right_brace_kind (on o n z)) refl refl) _ _ _ (twin_then w _ _ _ _ (case_by_twin c o n []) (λ xv xo xn xl. twin_if w (has_default lm inner xs && is_default_case xv) (has_default lm inner xs && is_default_case xv) refl _ _ _ _ (λ yes. never w _ _) (λ no. twin_ok w _ _ xo xn xl refl)))
  cases_step_twin c xs o n (p ∷ l) = twin_if w (at lm right_brace_kind (on o n (p ∷ (l ++ regexps w)))) (at lm right_brace_kind (on o n (p ∷ (l ++ slashes w)))) refl _ _ _ _ (λ yes. twin_ok w _ _ o p.spot.hi l refl) (λ no. twin_then w _ _ _ _ (case_by_twin c o n (p ∷ l)) (λ xv xo xn xl. twin_if w (has_default lm inner xs && is_default_case xv) (has_default lm inner xs && is_default_case xv) refl _ _ _ _ (λ yes. never w _ _) (λ no. twin_ok w _ _ xo xn xl refl)))

  pub switch_by_twin : (c : Code) (o1 : List ℕ) (n : ℕ) (l : List PlacedToken) → Twins w (switch_by lm inner c (on o1 n ((l ++ regexps w)))) (switch_by lm inner c (on o1 n ((l ++ slashes w))))
  unfolding switch_by
  switch_by_twin c o1 n [] = word_none w c switch_kind (refl, refl, refl) o1 n _ _
  switch_by_twin c o1 n (p ∷ l) = word_on w c switch_kind o1 n p l _ _ (twin_then w _ _ _ _ (in_parens_twin c o1 p.spot.hi l) (λ ev eo en el. eat_at w left_brace_kind (refl, refl, refl) eo en el _ _ (λ on1 ol. twin_then w _ _ _ _ (iterate_twin w _ _ (λ x xo xn xl. cases_step_twin c x xo xn xl) [] eo on1 ol) (λ xsv xso xsn xsl. twin_ok w _ _ xso xsn xsl refl))))

  pub catch_by_twin : (c : Code) (o : List ℕ) (n : ℕ) (l : List PlacedToken) → Twins w (catch_by lm inner c (on o n ((l ++ regexps w)))) (catch_by lm inner c (on o n ((l ++ slashes w))))
  unfolding catch_by
  catch_by_twin c o n [] = word_none w c catch_kind (refl, refl, refl) o n _ _
  catch_by_twin c o n (p1 ∷ l) = word_on w c catch_kind o n p1 l _ _ (cut w (λ z. Twins w (if at lm left_paren_kind (on o p1.spot.hi ((z ++ regexps w))) then (inner.pat c (past lm (on o p1.spot.hi ((z ++ regexps w)))) >>= λ p. eat lm right_paren_kind p.1 >>= λ q. block_by lm inner c q >>= λ b. Ok (catch_clause (spanned lm (lo_of n (p1 ∷ (l ++ regexps w))) b.1) p.0 b.0, b.1)) else (block_by lm inner c (on o p1.spot.hi ((z ++ regexps w))) >>= λ b. Ok (catch_clause (spanned lm (lo_of n (p1 ∷ (l ++ regexps w))) b.1) absent b.0, b.1))) (if at lm left_paren_kind (on o p1.spot.hi ((z ++ slashes w))) then (inner.pat c (past lm (on o p1.spot.hi ((z ++ slashes w)))) >>= λ p. eat lm right_paren_kind p.1 >>= λ q. block_by lm inner c q >>= λ b. Ok (catch_clause (spanned lm (lo_of n (p1 ∷ (l ++ slashes w))) b.1) p.0 b.0, b.1)) else (block_by lm inner c (on o p1.spot.hi ((z ++ slashes w))) >>= λ b. Ok (catch_clause (spanned lm (lo_of n (p1 ∷ (l ++ slashes w))) b.1) absent b.0, b.1)))) l (twin_no w (at lm left_paren_kind (on o p1.spot.hi (slashes w))) (parted w (λ z. at lm left_paren_kind (on o p1.spot.hi z)) refl refl) _ _ _ (twin_then w _ _ _ _ (block_by_twin c o p1.spot.hi []) (λ bv bo bn bl. twin_ok w _ _ bo bn bl refl))) (λ rp rq. twin_if w (at lm left_paren_kind (on o p1.spot.hi (rp ∷ (rq ++ regexps w)))) (at lm left_paren_kind (on o p1.spot.hi (rp ∷ (rq ++ slashes w)))) refl _ _ _ _ (λ yes. twin_then w _ _ _ _ (told.pat c o rp.spot.hi rq) (λ pv po pn pl. eat_at w right_paren_kind (refl, refl, refl) po pn pl _ _ (λ qn ql. twin_then w _ _ _ _ (block_by_twin c po qn ql) (λ bv bo bn bl. twin_ok w _ _ bo bn bl refl)))) (λ no. twin_then w _ _ _ _ (block_by_twin c o p1.spot.hi (rp ∷ rq)) (λ bv bo bn bl. twin_ok w _ _ bo bn bl refl))))

  pub finally_by_twin : (c : Code) (starto : List ℕ) (startn : ℕ) (startl : List PlacedToken) (b : Tree) (h : Tree) (o : List ℕ) (n : ℕ) (l : List PlacedToken) → Twins w (finally_by lm inner c (lo_of startn (startl ++ regexps w)) b h (on o n ((l ++ regexps w)))) (finally_by lm inner c (lo_of startn (startl ++ slashes w)) b h (on o n ((l ++ slashes w))))
  unfolding finally_by
  finally_by_twin c starto startn startl b h o n l = twin_if w (at lm finally_kind (on o n ((l ++ regexps w))) && not (barred c.context (input lm (on o n ((l ++ regexps w)))))) (at lm finally_kind (on o n ((l ++ slashes w))) && not (barred c.context (input lm (on o n ((l ++ slashes w)))))) (same w (λ z. at lm finally_kind (on o n z) && not (barred c.context (input lm (on o n z)))) refl refl (λ p. refl) (λ p. refl) (λ p q. refl) (λ p q. refl) (λ p q r l m n. refl) l) _ _ _ _ (λ yes. word_at w c finally_kind (refl, refl, refl) o n l _ _ (λ rn rl. twin_then w _ _ _ _ (block_by_twin c o rn rl) (λ fv fo fn fl. twin_ok w _ _ fo fn fl (ap (λ (z : ℕ). try_stmt (span z fn) b h fv) (lo_same w starto startn startl))))) (λ no. twin_if w (is_absent h) (is_absent h) refl _ _ _ _ (λ yes. never w _ _) (λ no. twin_ok w _ _ o n l (ap (λ (z : ℕ). try_stmt (span z n) b h absent) (lo_same w starto startn startl))))

  pub try_by_twin : (c : Code) (o : List ℕ) (n : ℕ) (l : List PlacedToken) → Twins w (try_by lm inner c (on o n ((l ++ regexps w)))) (try_by lm inner c (on o n ((l ++ slashes w))))
  unfolding try_by
  try_by_twin c o n l = word_at w c try_kind (refl, refl, refl) o n l _ _ (λ rn rl. twin_then w _ _ _ _ (block_by_twin c o rn rl) (λ bv bo bn bl. twin_if w (at lm catch_kind (on bo bn ((bl ++ regexps w)))) (at lm catch_kind (on bo bn ((bl ++ slashes w)))) (same w (λ z. at lm catch_kind (on bo bn z)) refl refl (λ p. refl) (λ p. refl) (λ p q. refl) (λ p q. refl) (λ p q r l m n. refl) bl) _ _ _ _ (λ yes. twin_then w _ _ _ _ (catch_by_twin c bo bn bl) (λ hv ho hn hl. finally_by_twin c o n l bv hv ho hn hl)) (λ no. finally_by_twin c o n l bv absent bo bn bl)))

  pub clause_by_twin : (c : Code) (close : ℕ) (shut : Plain w close) (o : List ℕ) (n : ℕ) (l : List PlacedToken) → Twins w (clause_by lm inner c close (on o n ((l ++ regexps w)))) (clause_by lm inner c close (on o n ((l ++ slashes w))))
  unfolding clause_by
  clause_by_twin c close shut o n [] = twin_if w (at lm close (on o n (regexps w))) (at lm close (on o n (slashes w))) (plain_at w close shut o n []) _ _ _ _ (λ yes. absurd (true≢false (sym yes ∙ shut.0))) (λ no. twin_then w _ _ _ _ (told.expr c expression_level o n []) (λ ev eo en el. eat_at w close shut eo en el _ _ (λ rn rl. twin_ok w _ _ eo rn rl refl)))
  clause_by_twin c close shut o n (p ∷ l) = twin_if w (at lm close (on o n (p ∷ (l ++ regexps w)))) (at lm close (on o n (p ∷ (l ++ slashes w)))) refl _ _ _ _ (λ yes. twin_ok w _ _ o p.spot.hi l refl) (λ no. twin_then w _ _ _ _ (told.expr c expression_level o n (p ∷ l)) (λ ev eo en el. eat_at w close shut eo en el _ _ (λ rn rl. twin_ok w _ _ eo rn rl refl)))

  pub for_rest_twin : (c : Code) (starto : List ℕ) (startn : ℕ) (startl : List PlacedToken) (i : Tree) (o : List ℕ) (n : ℕ) (l : List PlacedToken) → Twins w (for_rest lm inner c (lo_of startn (startl ++ regexps w)) i (on o n ((l ++ regexps w)))) (for_rest lm inner c (lo_of startn (startl ++ slashes w)) i (on o n ((l ++ slashes w))))
  unfolding for_rest
  for_rest_twin c starto startn startl i o n l = eat_at w semicolon_kind (refl, refl, refl) o n l _ _ (λ rn rl. twin_then w _ _ _ _ (clause_by_twin c semicolon_kind (refl, refl, refl) o rn rl) (λ tv to tn tl. twin_then w _ _ _ _ (clause_by_twin c right_paren_kind (refl, refl, refl) to tn tl) (λ uv uo un ul. twin_then w _ _ _ _ (sub_by_twin c false uo un ul) (λ bv bo bn bl. twin_ok w _ _ bo bn bl (ap (λ (z : ℕ). for_stmt (span z bn) i tv uv bv) (lo_same w starto startn startl))))))

  pub over_rest_twin : (c : Code) (l : ℕ) (make : Span → Tree → Tree → Tree) (starto : List ℕ) (startn : ℕ) (startl : List PlacedToken) (o : List ℕ) (n : ℕ) (l1 : List PlacedToken) → Twins w (over_rest lm inner c l make (lo_of startn (startl ++ regexps w)) (on o n ((l1 ++ regexps w)))) (over_rest lm inner c l make (lo_of startn (startl ++ slashes w)) (on o n ((l1 ++ slashes w))))
  unfolding over_rest
  over_rest_twin c l make starto startn startl o n l1 = twin_then w _ _ _ _ (told.expr c l o n l1) (λ ev eo en el. eat_at w right_paren_kind (refl, refl, refl) eo en el _ _ (λ rn rl. twin_then w _ _ _ _ (sub_by_twin c false eo rn rl) (λ bv bo bn bl. twin_ok w _ _ bo bn bl (ap (λ (z : ℕ). make (span z bn) ev bv) (lo_same w starto startn startl)))))

  pub in_rest_twin : (c : Code) (starto : List ℕ) (startn : ℕ) (startl : List PlacedToken) (l : Tree) (o : List ℕ) (n : ℕ) (l1 : List PlacedToken) → Twins w (in_rest lm inner c (lo_of startn (startl ++ regexps w)) l (on o n ((l1 ++ regexps w)))) (in_rest lm inner c (lo_of startn (startl ++ slashes w)) l (on o n ((l1 ++ slashes w))))
  unfolding in_rest
  in_rest_twin c starto startn startl l o n l1 = word_at w c in_kind (refl, refl, refl) o n l1 _ _ (λ rn rl. over_rest_twin c expression_level (λ p e b. for_in_stmt p l e b) starto startn startl o rn rl)

  pub of_rest_twin : (c : Code) (starto : List ℕ) (startn : ℕ) (startl : List PlacedToken) (awaits : Bool) (l : Tree) (o : List ℕ) (n : ℕ) (l1 : List PlacedToken) → Twins w (of_rest lm inner c (lo_of startn (startl ++ regexps w)) awaits l (on o n ((l1 ++ regexps w)))) (of_rest lm inner c (lo_of startn (startl ++ slashes w)) awaits l (on o n ((l1 ++ slashes w))))
  unfolding of_rest
  of_rest_twin c starto startn startl awaits l o n l1 = word_at w c of_kind (refl, refl, refl) o n l1 _ _ (λ rn rl. over_rest_twin c assignment_level (λ p e b. for_of_stmt p awaits l e b) starto startn startl o rn rl)

  pub head_rest_twin : (c : Code) (starto : List ℕ) (startn : ℕ) (startl : List PlacedToken) (awaits : Bool) (ds : List Tree) (l : Tree) (o : List ℕ) (n : ℕ) (l1 : List PlacedToken) → Twins w (head_rest lm inner c (lo_of startn (startl ++ regexps w)) awaits ds l (on o n ((l1 ++ regexps w)))) (head_rest lm inner c (lo_of startn (startl ++ slashes w)) awaits ds l (on o n ((l1 ++ slashes w))))
  unfolding head_rest
  head_rest_twin c starto startn startl awaits ds l o n l1 = twin_if w (at lm of_kind (on o n ((l1 ++ regexps w)))) (at lm of_kind (on o n ((l1 ++ slashes w)))) (same w (λ z. at lm of_kind (on o n z)) refl refl (λ p. refl) (λ p. refl) (λ p q. refl) (λ p q. refl) (λ p q r l m n. refl) l1) _ _ _ _ (λ yes. twin_if w (one_bare lm inner ds) (one_bare lm inner ds) refl _ _ _ _ (λ yes. of_rest_twin c starto startn startl awaits l o n l1) (λ no. never w _ _)) (λ no. twin_if w (awaits) (awaits) refl _ _ _ _ (λ yes. never w _ _) (λ no. twin_if w (at lm in_kind (on o n ((l1 ++ regexps w)))) (at lm in_kind (on o n ((l1 ++ slashes w)))) (same w (λ z. at lm in_kind (on o n z)) refl refl (λ p. refl) (λ p. refl) (λ p q. refl) (λ p q. refl) (λ p q r l m n. refl) l1) _ _ _ _ (λ yes. twin_if w (one_bare lm inner ds) (one_bare lm inner ds) refl _ _ _ _ (λ yes. in_rest_twin c starto startn startl l o n l1) (λ no. never w _ _)) (λ no. for_rest_twin c starto startn startl l o n l1)))

  pub for_variables_twin : (c : Code) (starto : List ℕ) (startn : ℕ) (startl : List PlacedToken) (awaits : Bool) (o : List ℕ) (n : ℕ) (p : PlacedToken) (l : List PlacedToken) → Twins w (for_variables lm inner c (lo_of startn (startl ++ regexps w)) awaits (on o n (p ∷ (l ++ regexps w)))) (for_variables lm inner c (lo_of startn (startl ++ slashes w)) awaits (on o n (p ∷ (l ++ slashes w))))
  unfolding for_variables
  for_variables_twin c starto startn startl awaits o n p l = word_on w c (kind (input lm (on o n (p ∷ (l ++ regexps w))))) o n p l _ _ (twin_then w _ _ _ _ (declarators_by_twin (without_in c) o p.spot.hi l) (λ dsv dso dsn dsl. head_rest_twin c starto startn startl awaits dsv (var_decl (spanned lm (lo_of n (p ∷ (l ++ regexps w))) (on dso dsn ((dsl ++ regexps w)))) (kind (input lm (on o n (p ∷ (l ++ regexps w))))) (pack dsv)) dso dsn dsl))

  using_same : (c : Code) (o : List ℕ) (n : ℕ) (l : List PlacedToken) → (starts_using lm inner c (on o n (l ++ regexps w)) && not (kind2 (input lm (on o n (l ++ regexps w))) == of_kind)) ≡ (starts_using lm inner c (on o n (l ++ slashes w)) && not (kind2 (input lm (on o n (l ++ slashes w))) == of_kind))
  using_same c o n [] = parted w (λ z. starts_using lm inner c (on o n z) && not (kind2 (input lm (on o n z)) == of_kind)) (off_left w _ _ _) (off_left w _ _ _)
  using_same c o n (p ∷ q) = same w (λ z. starts_using lm inner c (on o n (p ∷ z)) && not (kind2 (input lm (on o n (p ∷ z))) == of_kind)) refl refl (λ p. refl) (λ p. refl) (λ p q. refl) (λ p q. refl) (λ p q r l m n. refl) q

  await_same : (c : Code) (o : List ℕ) (n : ℕ) (l : List PlacedToken) → (starts_await_using lm inner c (on o n (l ++ regexps w)) && not (kind2 (rest (input lm (on o n (l ++ regexps w)))) == of_kind)) ≡ (starts_await_using lm inner c (on o n (l ++ slashes w)) && not (kind2 (rest (input lm (on o n (l ++ slashes w)))) == of_kind))
  await_same c o n [] = parted w (λ z. starts_await_using lm inner c (on o n z) && not (kind2 (rest (input lm (on o n z))) == of_kind)) (off_left w _ _ _) (off_left w _ _ _)
  await_same c o n (p ∷ []) = parted w (λ z. starts_await_using lm inner c (on o n (p ∷ z)) && not (kind2 (rest (input lm (on o n (p ∷ z)))) == of_kind)) (off_deep w c.context.in_async (at lm await_kind (on o n (p ∷ regexps w))) (not (barred c.context (input lm (on o n (p ∷ regexps w))))) (not (brk2 (input lm (on o n (p ∷ regexps w))))) c.syntax.explicit_resource_management (not (kind2 (rest (input lm (on o n (p ∷ regexps w)))) == of_kind)) (not (kind2 (rest (input lm (on o n (p ∷ slashes_by true w)))) == of_kind))) (off_deep w c.context.in_async (at lm await_kind (on o n (p ∷ regexps w))) (not (barred c.context (input lm (on o n (p ∷ regexps w))))) (not (brk2 (input lm (on o n (p ∷ regexps w))))) c.syntax.explicit_resource_management (not (kind2 (rest (input lm (on o n (p ∷ regexps w)))) == of_kind)) (not (kind2 (rest (input lm (on o n (p ∷ slashes_by false w)))) == of_kind)))
  await_same c o n (p ∷ (q ∷ l)) = same w (λ z. starts_await_using lm inner c (on o n (p ∷ q ∷ z)) && not (kind2 (rest (input lm (on o n (p ∷ q ∷ z)))) == of_kind)) refl refl (λ p. refl) (λ p. refl) (λ p q. refl) (λ p q. refl) (λ p q r l m n. refl) l

  pub for_using_twin : (c : Code) (starto : List ℕ) (startn : ℕ) (startl : List PlacedToken) (awaits : Bool) (owno : List ℕ) (ownn : ℕ) (ownp : PlacedToken) (ownl : List PlacedToken) (waits : Bool) (o : List ℕ) (n : ℕ) (l : List PlacedToken) → Twins w (for_using lm inner c (lo_of startn (startl ++ regexps w)) awaits (lo_of ownn (ownp ∷ (ownl ++ regexps w))) waits (on o n ((l ++ regexps w)))) (for_using lm inner c (lo_of startn (startl ++ slashes w)) awaits (lo_of ownn (ownp ∷ (ownl ++ slashes w))) waits (on o n ((l ++ slashes w))))
  unfolding for_using
  for_using_twin c starto startn startl awaits owno ownn ownp ownl waits o n l = word_at w c using_kind (refl, refl, refl) o n l _ _ (λ rn rl. twin_then w _ _ _ _ (declarators_by_twin (without_in c) o rn rl) (λ dsv dso dsn dsl. head_rest_twin c starto startn startl awaits dsv (using_decl (spanned lm (lo_of ownn (ownp ∷ (ownl ++ regexps w))) (on dso dsn ((dsl ++ regexps w)))) waits (pack dsv)) dso dsn dsl))

  pub for_expression_rest_twin : (c : Code) (starto : List ℕ) (startn : ℕ) (startl : List PlacedToken) (awaits : Bool) (owno : List ℕ) (ownn : ℕ) (ownl : List PlacedToken) (e : Tree) (o : List ℕ) (n : ℕ) (l1 : List PlacedToken) → Twins w (for_expression_rest lm inner c (lo_of startn (startl ++ regexps w)) awaits (on owno ownn ((ownl ++ regexps w))) e (on o n ((l1 ++ regexps w)))) (for_expression_rest lm inner c (lo_of startn (startl ++ slashes w)) awaits (on owno ownn ((ownl ++ slashes w))) e (on o n ((l1 ++ slashes w))))
  unfolding for_expression_rest
  for_expression_rest_twin c starto startn startl awaits owno ownn ownl e o n l1 = twin_if w (at lm of_kind (on o n ((l1 ++ regexps w)))) (at lm of_kind (on o n ((l1 ++ slashes w)))) (same w (λ z. at lm of_kind (on o n z)) refl refl (λ p. refl) (λ p. refl) (λ p q. refl) (λ p q. refl) (λ p q r l m n. refl) l1) _ _ _ _ (λ yes. twin_if w (at lm let_kind (on owno ownn ((ownl ++ regexps w))) || (not awaits && (at lm async_kind (on owno ownn ((ownl ++ regexps w))) && (kind2 (input lm (on owno ownn ((ownl ++ regexps w)))) == of_kind)))) (at lm let_kind (on owno ownn ((ownl ++ slashes w))) || (not awaits && (at lm async_kind (on owno ownn ((ownl ++ slashes w))) && (kind2 (input lm (on owno ownn ((ownl ++ slashes w)))) == of_kind)))) (same w (λ z. at lm let_kind (on owno ownn z) || (not awaits && (at lm async_kind (on owno ownn z) && (kind2 (input lm (on owno ownn z)) == of_kind)))) refl refl (λ p. refl) (λ p. refl) (λ p q. refl) (λ p q. refl) (λ p q r l m n. refl) ownl) _ _ _ _ (λ yes. never w _ _) (λ no. twin_placed w _ _ _ _ _ (λ lv. of_rest_twin c starto startn startl awaits lv o n l1))) (λ no. twin_if w (awaits) (awaits) refl _ _ _ _ (λ yes. never w _ _) (λ no. twin_if w (at lm in_kind (on o n ((l1 ++ regexps w)))) (at lm in_kind (on o n ((l1 ++ slashes w)))) (same w (λ z. at lm in_kind (on o n z)) refl refl (λ p. refl) (λ p. refl) (λ p q. refl) (λ p q. refl) (λ p q r l m n. refl) l1) _ _ _ _ (λ yes. twin_placed w _ _ _ _ _ (λ lv. in_rest_twin c starto startn startl lv o n l1)) (λ no. for_rest_twin c starto startn startl e o n l1)))

  pub for_expression_twin : (c : Code) (starto : List ℕ) (startn : ℕ) (startl : List PlacedToken) (awaits : Bool) (o : List ℕ) (n : ℕ) (l : List PlacedToken) → Twins w (for_expression lm inner c (lo_of startn (startl ++ regexps w)) awaits (on o n ((l ++ regexps w)))) (for_expression lm inner c (lo_of startn (startl ++ slashes w)) awaits (on o n ((l ++ slashes w))))
  unfolding for_expression
  for_expression_twin c starto startn startl awaits o n l = twin_if w (at lm let_kind (on o n ((l ++ regexps w))) && (kind2 (input lm (on o n ((l ++ regexps w)))) == left_bracket_kind)) (at lm let_kind (on o n ((l ++ slashes w))) && (kind2 (input lm (on o n ((l ++ slashes w)))) == left_bracket_kind)) (same w (λ z. at lm let_kind (on o n z) && (kind2 (input lm (on o n z)) == left_bracket_kind)) refl refl (λ p. refl) (λ p. refl) (λ p q. refl) (λ p q. refl) (λ p q r l m n. refl) l) _ _ _ _ (λ yes. never w _ _) (λ no. twin_then w _ _ _ _ (told.expr (without_in c) expression_level o n l) (λ ev eo en el. for_expression_rest_twin c starto startn startl awaits o n l ev eo en el))

  pub for_head_twin : (c : Code) (starto : List ℕ) (startn : ℕ) (startl : List PlacedToken) (awaits : Bool) (o : List ℕ) (n : ℕ) (l : List PlacedToken) → Twins w (for_head lm inner c (lo_of startn (startl ++ regexps w)) awaits (on o n ((l ++ regexps w)))) (for_head lm inner c (lo_of startn (startl ++ slashes w)) awaits (on o n ((l ++ slashes w))))
  unfolding for_head
  for_head_twin c starto startn startl awaits o n [] = twin_no w (at lm semicolon_kind (on o n (slashes w))) (parted w (λ z. at lm semicolon_kind (on o n z)) refl refl) _ _ _ (twin_no w (at lm var_kind (on o n (slashes w)) || (at lm const_kind (on o n (slashes w)) || starts_let lm inner (on o n (slashes w)))) (parted w (λ z. at lm var_kind (on o n z) || (at lm const_kind (on o n z) || starts_let lm inner (on o n z))) refl refl) _ _ _ (twin_if w (starts_using lm inner c (on o n (regexps w)) && not (kind2 (input lm (on o n (regexps w))) == of_kind)) (starts_using lm inner c (on o n (slashes w)) && not (kind2 (input lm (on o n (slashes w))) == of_kind)) (using_same c o n []) _ _ _ _ (λ yes. absurd (off_first w _ _ yes)) (λ no. twin_if w (starts_await_using lm inner c (on o n (regexps w)) && not (kind2 (rest (input lm (on o n (regexps w)))) == of_kind)) (starts_await_using lm inner c (on o n (slashes w)) && not (kind2 (rest (input lm (on o n (slashes w)))) == of_kind)) (await_same c o n []) _ _ _ _ (λ yes. absurd (off_first w _ _ yes)) (λ no. for_expression_twin c starto startn startl awaits o n []))))
  for_head_twin c starto startn startl awaits o n (p ∷ l) = twin_if w (at lm semicolon_kind (on o n (p ∷ (l ++ regexps w)))) (at lm semicolon_kind (on o n (p ∷ (l ++ slashes w)))) refl _ _ _ _ (λ yes. twin_if w (awaits) (awaits) refl _ _ _ _ (λ yes. never w _ _) (λ no. for_rest_twin c starto startn startl absent o n (p ∷ l))) (λ no. twin_if w (at lm var_kind (on o n (p ∷ (l ++ regexps w))) || (at lm const_kind (on o n (p ∷ (l ++ regexps w))) || starts_let lm inner (on o n (p ∷ (l ++ regexps w))))) (at lm var_kind (on o n (p ∷ (l ++ slashes w))) || (at lm const_kind (on o n (p ∷ (l ++ slashes w))) || starts_let lm inner (on o n (p ∷ (l ++ slashes w))))) (same w (λ z. at lm var_kind (on o n (p ∷ z)) || (at lm const_kind (on o n (p ∷ z)) || starts_let lm inner (on o n (p ∷ z)))) refl refl (λ p. refl) (λ p. refl) (λ p q. refl) (λ p q. refl) (λ p q r l m n. refl) l) _ _ _ _ (λ yes. for_variables_twin c starto startn startl awaits o n p l) (λ no. twin_if w (starts_using lm inner c (on o n (p ∷ (l ++ regexps w))) && not (kind2 (input lm (on o n (p ∷ (l ++ regexps w)))) == of_kind)) (starts_using lm inner c (on o n (p ∷ (l ++ slashes w))) && not (kind2 (input lm (on o n (p ∷ (l ++ slashes w)))) == of_kind)) (using_same c o n (p ∷ l)) _ _ _ _ (λ yes. for_using_twin c starto startn startl awaits o n p l false o n (p ∷ l)) (λ no. twin_if w (starts_await_using lm inner c (on o n (p ∷ (l ++ regexps w))) && not (kind2 (rest (input lm (on o n (p ∷ (l ++ regexps w))))) == of_kind)) (starts_await_using lm inner c (on o n (p ∷ (l ++ slashes w))) && not (kind2 (rest (input lm (on o n (p ∷ (l ++ slashes w))))) == of_kind)) (await_same c o n (p ∷ l)) _ _ _ _ (λ yes. for_using_twin c starto startn startl awaits o n p l true o p.spot.hi l) (λ no. for_expression_twin c starto startn startl awaits o n (p ∷ l)))))

  pub for_by_twin : (c : Code) (o1 : List ℕ) (n : ℕ) (l : List PlacedToken) → Twins w (for_by lm inner c (on o1 n ((l ++ regexps w)))) (for_by lm inner c (on o1 n ((l ++ slashes w))))
  unfolding for_by
  for_by_twin c o1 n l = word_at w c for_kind (refl, refl, refl) o1 n l _ _ (λ rn rl. twin_if w (at lm await_kind (on o1 rn ((rl ++ regexps w)))) (at lm await_kind (on o1 rn ((rl ++ slashes w)))) (same w (λ z. at lm await_kind (on o1 rn z)) refl refl (λ p. refl) (λ p. refl) (λ p q. refl) (λ p q. refl) (λ p q r l m n. refl) rl) _ _ _ _ (λ yes. twin_if w (c.context.in_async) (c.context.in_async) refl _ _ _ _ (λ yes. word_at w c await_kind (refl, refl, refl) o1 rn rl _ _ (λ wn wl. eat_at w left_paren_kind (refl, refl, refl) o1 wn wl _ _ (λ on1 ol. for_head_twin c o1 n l true o1 on1 ol))) (λ no. never w _ _)) (λ no. eat_at w left_paren_kind (refl, refl, refl) o1 rn rl _ _ (λ on1 ol. for_head_twin c o1 n l false o1 on1 ol)))

  pub labelled_by_twin : (c : Code) (starto : List ℕ) (startn : ℕ) (startl : List PlacedToken) (l : Tree) (o : List ℕ) (n : ℕ) (p : PlacedToken) (l1 : List PlacedToken) → Twins w (labelled_by lm inner c (lo_of startn (startl ++ regexps w)) l (on o n (p ∷ (l1 ++ regexps w)))) (labelled_by lm inner c (lo_of startn (startl ++ slashes w)) l (on o n (p ∷ (l1 ++ slashes w))))
  unfolding labelled_by
  labelled_by_twin c starto startn startl l o n p l1 = twin_then w _ _ _ _ (sub_by_twin c true o p.spot.hi l1) (λ bv bo bn bl. twin_ok w _ _ bo bn bl (ap (λ (z : ℕ). labeled_stmt (span z bn) l bv) (lo_same w starto startn startl)))

  pub expression_by_twin : (c : Code) (o : List ℕ) (n : ℕ) (l : List PlacedToken) → Twins w (expression_by lm inner c (on o n ((l ++ regexps w)))) (expression_by lm inner c (on o n ((l ++ slashes w))))
  unfolding expression_by
  expression_by_twin c o n [] = twin_no w (at lm let_kind (on o n (slashes w)) && (kind2 (input lm (on o n (slashes w))) == left_bracket_kind)) (parted w (λ z. at lm let_kind (on o n z) && (kind2 (input lm (on o n z)) == left_bracket_kind)) refl refl) _ _ _ (twin_then w _ _ _ _ (told.expr c expression_level o n []) (λ ev eo en el. cut w (λ z. Twins w (if is_name ev && at lm colon_kind (on eo en ((z ++ regexps w))) then labelled_by lm inner c (lo_of n (regexps w)) ev (on eo en ((z ++ regexps w))) else (end_of lm c (statement_class lm inner c (on o n (regexps w)) ev) (on eo en ((z ++ regexps w))) >>= λ r. Ok (expr_stmt (spanned lm (lo_of n (regexps w)) r) ev, r))) (if is_name ev && at lm colon_kind (on eo en ((z ++ slashes w))) then labelled_by lm inner c (lo_of n (slashes w)) ev (on eo en ((z ++ slashes w))) else (end_of lm c (statement_class lm inner c (on o n (slashes w)) ev) (on eo en ((z ++ slashes w))) >>= λ r. Ok (expr_stmt (spanned lm (lo_of n (slashes w)) r) ev, r)))) el (twin_if w (is_name ev && at lm colon_kind (on eo en (regexps w))) (is_name ev && at lm colon_kind (on eo en (slashes w))) (parted w (λ z. is_name ev && at lm colon_kind (on eo en z)) refl refl) _ _ _ _ (λ yes. absurd (not_and_false _ yes)) (λ no. end_as w c (statement_class lm inner c (on o n (regexps w)) ev) (statement_class lm inner c (on o n (slashes w)) ev) (parted w (λ z. (statement_class lm inner c (on o n z) ev)) refl refl) eo en [] _ _ (λ rn rl. twin_ok w _ _ eo rn rl refl))) (λ ep eq. twin_if w (is_name ev && at lm colon_kind (on eo en (ep ∷ (eq ++ regexps w)))) (is_name ev && at lm colon_kind (on eo en (ep ∷ (eq ++ slashes w)))) refl _ _ _ _ (λ yes. labelled_by_twin c o n [] ev eo en ep eq) (λ no. end_as w c (statement_class lm inner c (on o n (regexps w)) ev) (statement_class lm inner c (on o n (slashes w)) ev) (parted w (λ z. (statement_class lm inner c (on o n z) ev)) refl refl) eo en (ep ∷ eq) _ _ (λ rn rl. twin_ok w _ _ eo rn rl refl)))))
  expression_by_twin c o n (p ∷ l) = twin_if w (at lm let_kind (on o n (p ∷ (l ++ regexps w))) && (kind2 (input lm (on o n (p ∷ (l ++ regexps w)))) == left_bracket_kind)) (at lm let_kind (on o n (p ∷ (l ++ slashes w))) && (kind2 (input lm (on o n (p ∷ (l ++ slashes w)))) == left_bracket_kind)) (same w (λ z. at lm let_kind (on o n (p ∷ z)) && (kind2 (input lm (on o n (p ∷ z))) == left_bracket_kind)) refl refl (λ p. refl) (λ p. refl) (λ p q. refl) (λ p q. refl) (λ p q r l m n. refl) l) _ _ _ _ (λ yes. never w _ _) (λ no. twin_then w _ _ _ _ (told.expr c expression_level o n (p ∷ l)) (λ ev eo en el. cut w (λ z. Twins w (if is_name ev && at lm colon_kind (on eo en ((z ++ regexps w))) then labelled_by lm inner c (lo_of n (p ∷ (l ++ regexps w))) ev (on eo en ((z ++ regexps w))) else (end_of lm c (statement_class lm inner c (on o n (p ∷ (l ++ regexps w))) ev) (on eo en ((z ++ regexps w))) >>= λ r. Ok (expr_stmt (spanned lm (lo_of n (p ∷ (l ++ regexps w))) r) ev, r))) (if is_name ev && at lm colon_kind (on eo en ((z ++ slashes w))) then labelled_by lm inner c (lo_of n (p ∷ (l ++ slashes w))) ev (on eo en ((z ++ slashes w))) else (end_of lm c (statement_class lm inner c (on o n (p ∷ (l ++ slashes w))) ev) (on eo en ((z ++ slashes w))) >>= λ r. Ok (expr_stmt (spanned lm (lo_of n (p ∷ (l ++ slashes w))) r) ev, r)))) el (twin_if w (is_name ev && at lm colon_kind (on eo en (regexps w))) (is_name ev && at lm colon_kind (on eo en (slashes w))) (parted w (λ z. is_name ev && at lm colon_kind (on eo en z)) refl refl) _ _ _ _ (λ yes. absurd (not_and_false _ yes)) (λ no. end_at w c (statement_class lm inner c (on o n (p ∷ (l ++ regexps w))) ev) eo en [] _ _ (λ rn rl. twin_ok w _ _ eo rn rl refl))) (λ ep eq. twin_if w (is_name ev && at lm colon_kind (on eo en (ep ∷ (eq ++ regexps w)))) (is_name ev && at lm colon_kind (on eo en (ep ∷ (eq ++ slashes w)))) refl _ _ _ _ (λ yes. labelled_by_twin c o n (p ∷ l) ev eo en ep eq) (λ no. end_at w c (statement_class lm inner c (on o n (p ∷ (l ++ regexps w))) ev) eo en (ep ∷ eq) _ _ (λ rn rl. twin_ok w _ _ eo rn rl refl)))))

  pub keyword_stmt_twin : (c : Code) (o : List ℕ) (n : ℕ) (l : List PlacedToken) → Twins w (keyword_stmt lm inner c (on o n ((l ++ regexps w)))) (keyword_stmt lm inner c (on o n ((l ++ slashes w))))
  unfolding keyword_stmt
  keyword_stmt_twin c o n [] = twin_no w (at lm if_kind (on o n (slashes w))) (parted w (λ z. at lm if_kind (on o n z)) refl refl) _ _ _ (twin_no w (at lm return_kind (on o n (slashes w))) (parted w (λ z. at lm return_kind (on o n z)) refl refl) _ _ _ (twin_no w (at lm for_kind (on o n (slashes w))) (parted w (λ z. at lm for_kind (on o n z)) refl refl) _ _ _ (twin_no w (at lm while_kind (on o n (slashes w))) (parted w (λ z. at lm while_kind (on o n z)) refl refl) _ _ _ (twin_no w (at lm do_kind (on o n (slashes w))) (parted w (λ z. at lm do_kind (on o n z)) refl refl) _ _ _ (twin_no w (at lm switch_kind (on o n (slashes w))) (parted w (λ z. at lm switch_kind (on o n z)) refl refl) _ _ _ (twin_no w (at lm try_kind (on o n (slashes w))) (parted w (λ z. at lm try_kind (on o n z)) refl refl) _ _ _ (twin_no w (at lm throw_kind (on o n (slashes w))) (parted w (λ z. at lm throw_kind (on o n z)) refl refl) _ _ _ (twin_no w (at lm break_kind (on o n (slashes w))) (parted w (λ z. at lm break_kind (on o n z)) refl refl) _ _ _ (twin_no w (at lm continue_kind (on o n (slashes w))) (parted w (λ z. at lm continue_kind (on o n z)) refl refl) _ _ _ (twin_no w (at lm with_kind (on o n (slashes w))) (parted w (λ z. at lm with_kind (on o n z)) refl refl) _ _ _ (twin_no w (at lm debugger_kind (on o n (slashes w))) (parted w (λ z. at lm debugger_kind (on o n z)) refl refl) _ _ _ (twin_no w (at lm function_kind (on o n (slashes w))) (parted w (λ z. at lm function_kind (on o n z)) refl refl) _ _ _ (twin_no w (at lm class_kind (on o n (slashes w))) (parted w (λ z. at lm class_kind (on o n z)) refl refl) _ _ _ (twin_no w (starts_async lm inner (on o n (slashes w))) (parted w (λ z. starts_async lm inner (on o n z)) refl refl) _ _ _ (twin_if w (starts_variables lm inner c (on o n (regexps w))) (starts_variables lm inner c (on o n (slashes w))) (parted w (λ z. starts_variables lm inner c (on o n z)) refl refl) _ _ _ _ (λ yes. absurd (not_and_false _ yes)) (λ no. twin_if w (c.listed && starts_using lm inner c (on o n (regexps w))) (c.listed && starts_using lm inner c (on o n (slashes w))) (parted w (λ z. c.listed && starts_using lm inner c (on o n z)) refl refl) _ _ _ _ (λ yes. absurd (no_and2 w _ _ yes)) (λ no. twin_if w (c.listed && starts_await_using lm inner c (on o n (regexps w))) (c.listed && starts_await_using lm inner c (on o n (slashes w))) (parted w (λ z. c.listed && starts_await_using lm inner c (on o n z)) refl refl) _ _ _ _ (λ yes. absurd (no_and2 w _ _ yes)) (λ no. expression_by_twin c o n []))))))))))))))))))
  keyword_stmt_twin c o n (p ∷ l) = twin_if w (at lm if_kind (on o n (p ∷ (l ++ regexps w)))) (at lm if_kind (on o n (p ∷ (l ++ slashes w)))) refl _ _ _ _ (λ yes. if_by_twin c o n (p ∷ l)) (λ no. twin_if w (at lm return_kind (on o n (p ∷ (l ++ regexps w)))) (at lm return_kind (on o n (p ∷ (l ++ slashes w)))) refl _ _ _ _ (λ yes. return_by_twin c o n (p ∷ l)) (λ no. twin_if w (at lm for_kind (on o n (p ∷ (l ++ regexps w)))) (at lm for_kind (on o n (p ∷ (l ++ slashes w)))) refl _ _ _ _ (λ yes. for_by_twin c o n (p ∷ l)) (λ no. twin_if w (at lm while_kind (on o n (p ∷ (l ++ regexps w)))) (at lm while_kind (on o n (p ∷ (l ++ slashes w)))) refl _ _ _ _ (λ yes. while_by_twin c o n (p ∷ l)) (λ no. twin_if w (at lm do_kind (on o n (p ∷ (l ++ regexps w)))) (at lm do_kind (on o n (p ∷ (l ++ slashes w)))) refl _ _ _ _ (λ yes. do_by_twin c o n (p ∷ l)) (λ no. twin_if w (at lm switch_kind (on o n (p ∷ (l ++ regexps w)))) (at lm switch_kind (on o n (p ∷ (l ++ slashes w)))) refl _ _ _ _ (λ yes. switch_by_twin c o n (p ∷ l)) (λ no. twin_if w (at lm try_kind (on o n (p ∷ (l ++ regexps w)))) (at lm try_kind (on o n (p ∷ (l ++ slashes w)))) refl _ _ _ _ (λ yes. try_by_twin c o n (p ∷ l)) (λ no. twin_if w (at lm throw_kind (on o n (p ∷ (l ++ regexps w)))) (at lm throw_kind (on o n (p ∷ (l ++ slashes w)))) refl _ _ _ _ (λ yes. throw_by_twin c o n (p ∷ l)) (λ no. twin_if w (at lm break_kind (on o n (p ∷ (l ++ regexps w)))) (at lm break_kind (on o n (p ∷ (l ++ slashes w)))) refl _ _ _ _ (λ yes. jump_by_twin break_kind (refl, refl, refl) break_stmt c o n (p ∷ l)) (λ no. twin_if w (at lm continue_kind (on o n (p ∷ (l ++ regexps w)))) (at lm continue_kind (on o n (p ∷ (l ++ slashes w)))) refl _ _ _ _ (λ yes. jump_by_twin continue_kind (refl, refl, refl) continue_stmt c o n (p ∷ l)) (λ no. twin_if w (at lm with_kind (on o n (p ∷ (l ++ regexps w)))) (at lm with_kind (on o n (p ∷ (l ++ slashes w)))) refl _ _ _ _ (λ yes. with_by_twin c o n (p ∷ l)) (λ no. twin_if w (at lm debugger_kind (on o n (p ∷ (l ++ regexps w)))) (at lm debugger_kind (on o n (p ∷ (l ++ slashes w)))) refl _ _ _ _ (λ yes. debugger_by_twin c o n (p ∷ l)) (λ no. twin_if w (at lm function_kind (on o n (p ∷ (l ++ regexps w)))) (at lm function_kind (on o n (p ∷ (l ++ slashes w)))) refl _ _ _ _ (λ yes. function_decl_by_twin c o n p l false o n (p ∷ l)) (λ no. twin_if w (at lm class_kind (on o n (p ∷ (l ++ regexps w)))) (at lm class_kind (on o n (p ∷ (l ++ slashes w)))) refl _ _ _ _ (λ yes. twin_if w (c.listed) (c.listed) refl _ _ _ _ (λ yes. class_decl_by_twin c o n (p ∷ l)) (λ no. never w _ _)) (λ no. twin_if w (starts_async lm inner (on o n (p ∷ (l ++ regexps w)))) (starts_async lm inner (on o n (p ∷ (l ++ slashes w)))) (same w (λ z. starts_async lm inner (on o n (p ∷ z))) refl refl (λ p. refl) (λ p. refl) (λ p q. refl) (λ p q. refl) (λ p q r l m n. refl) l) _ _ _ _ (λ yes. twin_if w (c.listed) (c.listed) refl _ _ _ _ (λ yes. function_decl_by_twin c o n p l true o p.spot.hi l) (λ no. never w _ _)) (λ no. twin_if w (starts_variables lm inner c (on o n (p ∷ (l ++ regexps w)))) (starts_variables lm inner c (on o n (p ∷ (l ++ slashes w)))) (same w (λ z. starts_variables lm inner c (on o n (p ∷ z))) refl refl (λ p. refl) (λ p. refl) (λ p q. refl) (λ p q. refl) (λ p q r l m n. refl) l) _ _ _ _ (λ yes. variables_by_twin c o n p l) (λ no. twin_if w (c.listed && starts_using lm inner c (on o n (p ∷ (l ++ regexps w)))) (c.listed && starts_using lm inner c (on o n (p ∷ (l ++ slashes w)))) (same w (λ z. c.listed && starts_using lm inner c (on o n (p ∷ z))) refl refl (λ p. refl) (λ p. refl) (λ p q. refl) (λ p q. refl) (λ p q r l m n. refl) l) _ _ _ _ (λ yes. using_by_twin c o n (p ∷ l) false o n (p ∷ l)) (λ no. twin_if w (c.listed && starts_await_using lm inner c (on o n (p ∷ (l ++ regexps w)))) (c.listed && starts_await_using lm inner c (on o n (p ∷ (l ++ slashes w)))) (same w (λ z. c.listed && starts_await_using lm inner c (on o n (p ∷ z))) refl refl (λ p. refl) (λ p. refl) (λ p q. refl) (λ p q. refl) (λ p q r l m n. refl) l) _ _ _ _ (λ yes. using_by_twin c o n (p ∷ l) true o p.spot.hi l) (λ no. expression_by_twin c o n (p ∷ l)))))))))))))))))))

  pub stmt_by_twin : (c : Code) (o : List ℕ) (n : ℕ) (l : List PlacedToken) → Twins w (stmt_by lm inner c (on o n ((l ++ regexps w)))) (stmt_by lm inner c (on o n ((l ++ slashes w))))
  unfolding stmt_by
  stmt_by_twin c o n [] = twin_no w (at lm semicolon_kind (on o n (slashes w))) (parted w (λ z. at lm semicolon_kind (on o n z)) refl refl) _ _ _ (twin_no w (at lm left_brace_kind (on o n (slashes w))) (parted w (λ z. at lm left_brace_kind (on o n z)) refl refl) _ _ _ (keyword_stmt_twin c o n []))
  stmt_by_twin c o n (p ∷ l) = twin_if w (at lm semicolon_kind (on o n (p ∷ (l ++ regexps w)))) (at lm semicolon_kind (on o n (p ∷ (l ++ slashes w)))) refl _ _ _ _ (λ yes. twin_ok w _ _ o p.spot.hi l refl) (λ no. twin_if w (at lm left_brace_kind (on o n (p ∷ (l ++ regexps w)))) (at lm left_brace_kind (on o n (p ∷ (l ++ slashes w)))) refl _ _ _ _ (λ yes. block_by_twin c o n (p ∷ l)) (λ no. keyword_stmt_twin c o n (p ∷ l)))

  pub stmt_from_twin : (c : Code) (o : List ℕ) (n : ℕ) (l : List PlacedToken) → Twins w (stmt_from lm inner c (on o n ((l ++ regexps w)))) (stmt_from lm inner c (on o n ((l ++ slashes w))))
  unfolding stmt_from
  stmt_from_twin c o n l = stmt_by_twin c o n l

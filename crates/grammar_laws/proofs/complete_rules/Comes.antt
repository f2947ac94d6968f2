-- What a tree produces is read: the tree comes out of a prefix, or the loop goes on to it.
use Rattle.std.proofs.Common.{◌≡◌, ℕ, zero, suc, ◌+◌, ◌<◌, ◌≤◌, ◌⊎◌, inl, inr, max, Bool, true, false, not, ◌&&◌, ◌||◌, ◌==◌, eqb, leb, ltb, List, [], ◌∷◌, ◌++◌, Option, Some, refl, sym, ap, ◌∙◌, subst, ⊎_elim, true≢false, append_assoc, arith, cond, Result, Ok}
use Rattle.std.proofs.lemmas.Bool.{leb-true, and_parts, or_left, false_from_ne_true, eqb-true, eq-eqb, cases_Bool, cases_eq, le-leb, le-ltb, and_from, and_left}
use Rattle.base_proofs.proofs.Bools.{cond_second, cond_first}
use Rattle.base_token.specs.declared.place.Span.{Span}
use Rattle.base_token.specs.Kinds.{assign_kind, in_kind, new_kind, import_kind, target_kind, meta_kind, back_quote_kind, question_mark_kind, hash_kind, async_kind, comma_kind, dot_kind, left_paren_kind, left_bracket_kind, right_bracket_kind, right_paren_kind, function_kind, arrow_kind, left_brace_kind, class_kind}
use Rattle.tree_spec.specs.Tree.{Tree, Trees, none, more, pack, unpack, this_expr, null_lit, bool_lit, ident, str_lit, number_lit, big_int_lit, regex_lit, paren_expr, array_lit, unary_expr, update_expr, await_expr, bin_expr, cond_expr, seq_expr, member_expr, call_expr, new_expr, computed_prop_name, ident_name, private_name, expr_or_spread, hole, absent, list, tpl, tagged_tpl, opt_chain_expr, opt_call, super, import, super_prop_expr, meta_prop_expr, yield_expr, object_lit, key_value_prop, assign_prop, spread_element, binding_ident, array_pat, object_pat, assign_pat, rest_pat, key_value_pat_prop, assign_pat_prop, expr_pat, assign_expr, arrow_expr, block_stmt, fn_expr, class_expr}
use Rattle.tree_spec.proofs.PackLemmas.{unpack_pack, pack_unpack}
use Rattle.grammar_spec.specs.Tokens.Input.{in_list, TakesWord, text, no_name, barred, brk2, Input, Code, kind, kind2, brk, lo, rest, span, first_span, with_in, is_word, Takes, in_arrow}
use Rattle.grammar_spec.specs.Tokens.Operators.{assignment_level, binary_level, right_level, operates, goes_expr, is_assign_op}
use Rattle.grammar_spec.specs.Tokens.Shape.{is_absent, is_block, is_target, is_structured, is_simple, is_chain, is_private, level, ends, last_ends, fits_left}
use Rattle.grammar_spec.specs.Expressions.{is_update_op, is_unary_op, Call, Member, Dotted, TaggedTemplate, Optional, ChainMember, ChainCall, AccessedName, Bracketed, ArgumentList, SuperCall, ImportCall, Yield, Binary, Assignment}
use Rattle.grammar_spec.specs.Children.{child, CommaThen, Expr, Listed}
use Rattle.grammar_spec.specs.Functions.{ArrowPattern, ArrowHead, ArrowExpression, BareName, Async, Body}
use Rattle.grammar_spec.specs.Grammar.{Produces, children}
use Rattle.grammar_spec.specs.Reader.Source.{State, Inner, go_on, Fault, unfit}
use Rattle.grammar_spec.specs.Reader.Expressions.{Elements, assign_by, private_in, private_by, binary_by, member_by, index_by, call_by, chain_by, template_by, on_chain, extended, word_by, async_by, async_group, heads_params, element_step, element_by, expr_by, expr_from, loop_by, loop_step, step_by, prefix_by, elements_by, array_by}
use Rattle.grammar_spec.specs.Reader.Cover.{to_target}
use Rattle.grammar_spec.specs.Reader.Reading.{readers}
use Rattle.grammar_laws.proofs.complete_base.Yields.{reads_deep, reads_told, first_at, IsName, lm, from, len, coded, then_reads, Is, then_is, Loops, loop_on, looped, Reads, here, ended, if_no, if_yes, then_past, then_past_reads, after_one, then_noted}
use Rattle.grammar_laws.proofs.complete_base.Levels.{calm_by, goes_calm, quits_by, goes_comma, closed_by, comma_after, Follow, sober_by, Asked, right_asked, right_five, right_most, tail, tail_high, tail_over, tail_stops, ends_high, fits, operated, binary_four, goes_binary, quiet}
use Rattle.grammar_laws.proofs.complete_base.Trees.{function_word, Covered, CoveredAll, size, sizes, reach, reaches, begins, starts, no_kind, callee_sort, chain_level, ends_low, takes, some_assign, some_binary, some_update, by_unary, by_update}
use Rattle.grammar_laws.proofs.complete_rules.Lengths.{taken, dotted_cut, bracket_cut, accessed_cut, elements_cut, arguments_cut, template_cut}
use Rattle.grammar_laws.proofs.complete_rules.Prefixes.{literal_found, prefix_str, prefix_num, prefix_big, prefix_regex, prefix_this, prefix_null, prefix_true, prefix_false, prefix_unary, prefix_update, prefix_await, unary_found, update_found, await_found, prefix_ident, named_word}
use Rattle.grammar_laws.proofs.complete_rules.Lists.{Finds, Deep, Has, elements_found, one_asked, two_asked}
use Rattle.grammar_laws.proofs.complete_rules.Groups.{paren_found, group_found}
use Rattle.grammar_laws.proofs.complete_rules.Steps.{step_binary, step_cond, step_index, step_member, step_call, step_update, binary_found, cond_found, index_found, call_found}
use Rattle.grammar_laws.proofs.complete_rules.Members.{private_found, Lists, dotted_member, indexed, called, chain_name, chain_index, chain_call, step_chain, step_template, template_found, prefix_template}
use Rattle.grammar_laws.proofs.complete_rules.Objects.{object_found}
use Rattle.grammar_laws.proofs.complete_rules.Words.{super_call, super_index, super_name, meta_found, yield_bare, yield_operand, yield_star, import_found, import_elements}
use Rattle.grammar_laws.proofs.complete_rules.Covers.{Cover_read, Covered_list, covers_found}
use Rattle.grammar_laws.proofs.complete_rules.Arrows.{Body_read, expression_body, block_body, arrow_bare, arrow_paren, async_paren, async_bare, params_loosen, params_names}
use Rattle.grammar_laws.proofs.complete_rules.Coverings.{coverings, structured_read, structured_starts}
use Rattle.grammar_laws.proofs.complete_rules.News.{callee_of, callee_found, firm_callee, no_dot, bare_found, with_found}
use Rattle.grammar_laws.proofs.complete_rules.Finds.{bare_by, paren_goes, quiet_binary, far_binary, goes_question, goes_update, goes_bracket, goes_dot, finds, lasts, firmly, firm, firm_leads, Behind, Leads, NoParams, Bare, Comes}

-- a call of the name `async`, which the reader of words reads whole, since its parenthesis may hold an arrow's parameters
async_call : (inner : Inner Input) (c : Code) (lev : ℕ) (ts : Input) (k : List ℕ) (q s : Span) (x : List ℕ) (xs : Trees) (r : Input) (P : Type 0) {Q : Type 0} → IsName c ts → kind ts ≡ async_kind → text ts ≡ x → q ≡ first_span ts → kind (rest ts) ≡ left_paren_kind → brk (rest ts) ≡ false
    → ((j : List ℕ) → Reads (from (rest (rest ts)) j) (elements_by lm inner c false right_paren_kind (from (rest (rest ts)) j)) (Has (unpack xs) r) P) → (P → Q) → ((z : Elements × State Input) → elements_by lm inner (with_in c) false right_paren_kind (from (rest (rest ts)) k) ≡ Ok z → z.1.source ≡ r → heads_params lm inner lev z.0 z.1 ≡ false) → s ≡ span (lo ts) r.last → Reads (from ts k) (prefix_by lm inner c lev (from ts k)) (Is (call_expr s (ident q x) xs) r) Q
unfolding word_by async_by async_group elements_by element_step element_by
async_call inner c lev ts k q s x xs r P {Q = Q} i e t f g b y u a p =
    named_word inner c lev ts k (Is (call_expr s (ident q x) xs) r) Q i (if_yes (eqb (kind ts) async_kind) _ _ _ _ (eq-eqb (kind ts) async_kind e)
    (if_no (((kind (rest ts) == function_kind) && not (brk (rest ts))) && not (barred c.context (rest ts))) _ _ _ _ (and_left _ _ (and_left (kind (rest ts) == function_kind) _ (subst (λ (n : ℕ). eqb n function_kind ≡ false) (sym g) refl)))
    (if_no ((is_word (kind (rest ts)) && (not (no_name c.context (kind (rest ts))) && not (barred c.context (rest ts)))) && ((not (brk (rest ts)) && (kind2 (rest ts) == arrow_kind) && not (brk2 (rest ts))) && leb lev assignment_level)) _ _ _ _
    (and_left _ _ (and_left (is_word (kind (rest ts))) _ (subst (λ (n : ℕ). is_word n ≡ false) (sym g) refl)))
    (if_yes ((kind (rest ts) == left_paren_kind) && not (brk (rest ts))) _ _ _ _ (and_from _ _ (eq-eqb (kind (rest ts)) left_paren_kind g) (ap not b))
    (after_one (from ts k) _ _ Q (then_past_reads (rest ts) (rest (rest ts)) k (elements_by lm inner (with_in c) false right_paren_kind) _ (λ z. Has (unpack xs) r z × (elements_by lm inner (with_in c) false right_paren_kind (from (rest (rest ts)) k) ≡ Ok z)) P _ Q refl (reads_told _ (y k)) u
    (λ z h. if_no (heads_params lm inner lev z.0 z.1 && not (brk (rest ts))) _ _ _ _ (and_left (heads_params lm inner lev z.0 z.1) _ (a z h.1 h.0.1))
    (ended _ _ Q (
      ap (λ ys. call_expr (span (lo ts) z.1.source.last) (ident (first_span ts) (text ts)) (pack ys)) h.0.0 ∙ ap (λ ys. call_expr (span (lo ts) z.1.source.last) (ident (first_span ts) (text ts)) ys) (pack_unpack xs)
          ∙ ap (λ (w : Input). call_expr (span (lo ts) w.last) (ident (first_span ts) (text ts)) xs) h.0.1 ∙ ap (λ w. call_expr w (ident (first_span ts) (text ts)) xs) (sym p) ∙ ap (λ w. call_expr s (ident w (text ts)) xs) (sym f) ∙ ap (λ w. call_expr s (ident q w) xs) t,
      h.0.1,
    )))))))))

abbrev IsAsync : Tree → Input → Input → Type 0
IsAsync f ts m = (q : Span) × (x : List ℕ) × (f ≡ ident q x) × (kind ts ≡ async_kind) × (brk m ≡ false)

bare_or : (f : Tree) (ts m : Input) → Bare f ts m ⊎ IsAsync f ts m
bare_or (ident q x) ts m = ⊎_elim
    (λ (e : kind ts ≡ async_kind). ⊎_elim (λ (b : brk m ≡ true). inl (λ u v. b)) (λ (b : brk m ≡ false). inr (q, x, refl, e, b)) (cases_Bool (brk m)))
    (λ (e : kind ts ≡ async_kind → ⊥). inl (λ u v. absurd (e u))) (cases_eq (kind ts) async_kind)
bare_or _ ts m = inl tt

goes_paren : (c : Code) (e : ℕ) (m : Input) → e ≡ 0 → kind m ≡ left_paren_kind → goes_expr c e m ≡ 19
goes_paren c e m z q = subst (λ (e : ℕ). goes_expr c e m ≡ 19) (sym z) (paren_goes c m q)

extended_plain : (x e : Tree) (n : Span) → 2 ≤ level x → extended x e n ≡ seq_expr n (more x (more e none))
extended_plain (seq_expr s xs) e n h = absurd (omega arith)
extended_plain _ e n h = refl

abbrev is_seq : Tree → Bool
is_seq (seq_expr s xs) = true
is_seq _ = false

seq_is : (e : Tree) → is_seq e ≡ true → (q : Span) × (xs : Trees) × (e ≡ seq_expr q xs)
seq_is (seq_expr q xs) h = (q, xs, refl)
seq_is _ h = absurd (true≢false (sym h))

-- what is no sequence is an expression of the next level
two_or : (e : Tree) (c : Code) (ts r : Input) → Covered e → Produces e c ts r → 1 ≤ level e → is_seq e ≡ false → 2 ≤ level e
two_or (seq_expr s xs) c ts r g h l q = absurd (true≢false q)
two_or (bin_expr s op a b) c ts r g h l q = omega (arith, binary_four op (operated c op h.2))
two_or (member_expr s o k) c ts r g h l q = omega (arith, two_or_object s o k c ts r g h)
  where
    two_or_object : (s : Span) (o k : Tree) (c : Code) (ts r : Input) → Covered (member_expr s o k) → Produces (member_expr s o k) c ts r → 19 ≤ level o
    two_or_object s o (computed_prop_name t e) c ts r g h = h.2.0
    two_or_object s o k c ts r g h = h.2.0
two_or (tagged_tpl s t (tpl u es qs)) c ts r g h l q = omega (arith, h.2.0)
two_or (tagged_tpl s t u) c ts r g h l q = absurd h
two_or (tpl s es qs) c ts r g h l q = omega arith
two_or (opt_chain_expr s u b) c ts r g h l q = omega arith
two_or (super_prop_expr s o k) c ts r g h l q = omega arith
two_or (meta_prop_expr s k) c ts r g h l q = omega arith
two_or (yield_expr s a u) c ts r g h l q = omega arith
two_or (object_lit s ps) c ts r g h l q = omega arith
two_or (assign_expr s op a b) c ts r g h l q = omega arith
two_or (arrow_expr s ps b i) c ts r g h l q = omega arith
two_or (binding_ident s i) c ts r g h l q = absurd (omega arith)
two_or (array_pat s xs) c ts r g h l q = absurd (omega arith)
two_or (object_pat s ps) c ts r g h l q = absurd (omega arith)
two_or (assign_pat s a e) c ts r g h l q = absurd (omega arith)
two_or (rest_pat s d a) c ts r g h l q = absurd (omega arith)
two_or (key_value_pat_prop s k a) c ts r g h l q = absurd (omega arith)
two_or (assign_pat_prop s k e) c ts r g h l q = absurd (omega arith)
two_or (expr_pat e) c ts r g h l q = absurd (omega arith)
two_or (key_value_prop s k v) c ts r g h l q = absurd (omega arith)
two_or (assign_prop s k v) c ts r g h l q = absurd (omega arith)
two_or (spread_element s v) c ts r g h l q = absurd (omega arith)
two_or (opt_call s f xs) c ts r g h l q = absurd h
two_or (super s) c ts r g h l q = absurd h
two_or (import s) c ts r g h l q = absurd h
two_or absent c ts r g h l q = absurd h
two_or hole c ts r g h l q = absurd h
two_or (list xs) c ts r g h l q = absurd h
two_or (expr_or_spread s d e) c ts r g h l q = absurd (omega arith)
two_or (computed_prop_name s e) c ts r g h l q = absurd (omega arith)
two_or (ident_name s n) c ts r g h l q = absurd (omega arith)
two_or (private_name s n) c ts r g h l q = absurd (omega arith)
two_or (paren_expr s e) c ts r g h l q = omega arith
two_or (array_lit s xs) c ts r g h l q = omega arith
two_or (unary_expr s op a) c ts r g h l q = omega arith
two_or (update_expr s op b a) c ts r g h l q = omega arith
two_or (await_expr s a) c ts r g h l q = omega arith
two_or (cond_expr s a b d) c ts r g h l q = omega arith
two_or (call_expr s f xs) c ts r g h l q = omega arith
two_or (new_expr s f absent) c ts r g h l q = omega arith
two_or (new_expr s f xs) c ts r g h l q = omega arith
two_or (this_expr s) c ts r g h l q = omega arith
two_or (null_lit s) c ts r g h l q = omega arith
two_or (bool_lit s v) c ts r g h l q = omega arith
two_or (ident s n) c ts r g h l q = omega arith
two_or (str_lit s u w) c ts r g h l q = omega arith
two_or (number_lit s v w) c ts r g h l q = omega arith
two_or (big_int_lit s x y w) c ts r g h l q = omega arith
two_or (regex_lit s e f) c ts r g h l q = omega arith
two_or (fn_expr s n f) c ts r g h l q = omega arith
two_or (class_expr s n k) c ts r g h l q = omega arith
two_or _ c ts r g h l q = absurd (omega (arith, l))

accessed_starts : (x : Tree) (c : Code) (m r : Input) → AccessedName true c (child x (λ y. Produces x y)) m r → (kind m ≡ left_paren_kind → ⊥) × (kind m ≡ left_bracket_kind → ⊥)
accessed_starts (ident_name s n) c m r h = (λ e. true≢false (sym h.1.0.0 ∙ ap is_word e), λ e. true≢false (sym h.1.0.0 ∙ ap is_word e))
accessed_starts (private_name s n) c m r h = (λ e. omega (arith, e, h.1.1.0), λ e. omega (arith, e, h.1.1.0))
accessed_starts _ c m r h = absurd (true≢false (sym h.0))

bare_chain : (t : Tree) (ts m : Input) → is_chain t ≡ true → Bare t ts m
bare_chain (opt_chain_expr s q b) ts m e = tt
bare_chain _ ts m e = absurd (true≢false (sym e))

private_is : (a : Tree) → is_private a ≡ true → (s : Span) × (x : List ℕ) × (a ≡ private_name s x)
private_is (private_name s x) e = (s, x, refl)
private_is _ e = absurd (true≢false (sym e))

is_in : (op : ℕ) (a : Tree) → is_private a ≡ true → fits_left op a ≡ true → op ≡ in_kind
is_in op (private_name s x) e h = eqb-true op in_kind h
is_in op _ e h = absurd (true≢false (sym e))

goes_quote : (c : Code) (m : Input) → kind m ≡ back_quote_kind → goes_expr c 0 m ≡ 20
goes_quote c m e = rw e refl

goes_optional : (c : Code) (m : Input) → kind m ≡ question_mark_kind → kind2 m ≡ dot_kind → goes_expr c 0 m ≡ 19
goes_optional c m e d = rw (e, d) refl

-- the expression that stands in the place of a simple target
record TargetView (op : ℕ) (a : Tree) (c : Code) (ts m : Input) : Type 0 where
  tree : Tree
  small : size tree ≤ size a
  covered : Covered a → Covered tree
  produced : Produces tree c ts m
  tight : 2 ≤ level tree
  last : ends tree ≡ 0
  none_after : tail tree ≡ 21
  shallow : reach tree ≤ reach a
  target : (j : List ℕ) → to_target op j tree ≡ Ok a

target_of : (b : Bool) (x : Tree) → b ≡ true → cond {A = Result Tree Fault} b (Ok x) unfit ≡ Ok x
target_of true x e = refl
target_of false x e = absurd (true≢false (sym e))

target_view : (op : ℕ) (a : Tree) (c : Code) (ts m : Input) → is_target op a ≡ true → Produces a c ts m → is_structured a ≡ false → TargetView op a c ts m
target_view op (binding_ident s (ident t x)) c ts m e h st = record { tree = ident t x; small = omega arith; covered = λ g. g; produced = subst (λ (y : Span). Produces (ident y x) c ts m) h.0 h.1; tight = omega arith; last = refl; none_after = refl; shallow = omega arith; target = λ j. ap (λ (y : Span). Ok (binding_ident y (ident t x))) (sym h.0) }
target_view op (binding_ident s i) c ts m e h st = absurd h
target_view op (member_expr s o (computed_prop_name t x)) c ts m e h st = record { tree = member_expr s o (computed_prop_name t x); small = omega arith; covered = λ g. g; produced = h; tight = omega (arith, h.2.0); last = refl; none_after = refl; shallow = omega arith; target = λ j. refl }
target_view op (member_expr s o k) c ts m e h st = record { tree = member_expr s o k; small = omega arith; covered = λ g. g; produced = h; tight = omega (arith, h.2.0); last = refl; none_after = refl; shallow = omega arith; target = λ j. refl }
target_view op (super_prop_expr s o k) c ts m e h st = record { tree = super_prop_expr s o k; small = omega arith; covered = λ g. g; produced = h; tight = omega arith; last = refl; none_after = refl; shallow = omega arith; target = λ j. refl }
target_view op (paren_expr s x) c ts m e h st = record { tree = paren_expr s x; small = omega arith; covered = λ g. g; produced = h; tight = omega arith; last = refl; none_after = refl; shallow = omega arith; target = λ j. target_of (is_simple x) (paren_expr s x) (simple_of (is_simple x) (op == 60) e) }
  where
    simple_of : (b o : Bool) → (b || (o && false)) ≡ true → b ≡ true
    simple_of true o h = refl
    simple_of false true h = absurd (true≢false (sym h))
    simple_of false false h = absurd (true≢false (sym h))
target_view op (array_pat s xs) c ts m e h st = absurd (true≢false st)
target_view op (object_pat s ps) c ts m e h st = absurd (true≢false st)
target_view op _ c ts m e h st = absurd (never (op == 60) e)
  where
    never : (b : Bool) → (b && false) ≡ true → ⊥
    never true h = true≢false (sym h)
    never false h = true≢false (sym h)

op_assigns : (op : ℕ) (a : Tree) → is_structured a ≡ true → is_target op a ≡ true → op ≡ assign_kind
op_assigns op (array_pat s xs) e h = eqb-true op assign_kind (and_parts (op == assign_kind) true h).0
op_assigns op (object_pat s xs) e h = eqb-true op assign_kind (and_parts (op == assign_kind) true h).0
op_assigns op _ e h = absurd (true≢false (sym e))

-- what isn't closed ends as its last part
unclosed : (b : Bool) (c : Code) (e l : ℕ) (r : Input) → b ≡ false → goes_expr c (cond b 2 e) r < l → goes_expr c e r < l
unclosed true c e l r n f = absurd (true≢false n)
unclosed false c e l r n f = f

-- an array in brackets
prefix_array : (inner : Inner Input) (c : Code) (lev : ℕ) (ts : Input) (k : List ℕ) (s : Span) (xs : Trees) (m r : Input) (P : Type 0) {Q : Type 0} → kind ts ≡ left_bracket_kind → rest ts ≡ m → ((j : List ℕ) → Reads (from m j) (elements_by lm inner c true right_bracket_kind (from m j)) (Has (unpack xs) r) P) → (P → Q) → s ≡ span (lo ts) r.last
    → Reads (from ts k) (prefix_by lm inner c lev (from ts k)) (Is (array_lit s xs) r) Q
unfolding prefix_by array_by
prefix_array inner c lev ts k s xs m r P {Q = Q} e q y i p = rw e (then_noted ts m k (elements_by lm inner c true right_bracket_kind) _ _ (Has (unpack xs) r) P (Is (array_lit s xs) r) Q (λ u. omega (arith, e, u)) (λ u. omega (arith, e, u)) q (y k) i
    (λ x h. (ap (λ ys. array_lit (span (lo ts) x.1.source.last) (pack ys)) h.0 ∙ ap (λ ys. array_lit (span (lo ts) x.1.source.last) ys) (pack_unpack xs) ∙ ap (λ (z : Input). array_lit (span (lo ts) z.last) xs) h.1 ∙ ap (λ z. array_lit z xs) (sym p), h.1)))

module _ (z d : ℕ) (ih : (e : ℕ) → Comes z e) (deep : Deep z d) (F : Behind) (leads : Leads F) (p : Bool) (c : Code) (l : ℕ) (ts : Input) (k : List ℕ) (W : Tree × State Input → Type 0) (n : ℕ) (one : 1 ≤ l) where
  abbrev found : Finds z d
  found = finds z d ih

  -- the same of the last operand, behind which the same stands
  last_found : (t : Tree) (q : Bool) (e : Code) (i : ℕ) (a r : Input) (j : List ℕ) → size t < z → Covered t → Produces t (coded q e) a r → 1 ≤ i → i < 20 → Asked i → i ≤ level t → goes_expr e (ends t) r < i → F.tree q e i t a r → Reads (from a j) ((readers lm d).expr e i (from a j)) (Is t r) (d < reach t)
  last_found = lasts z d ih F leads

  abbrev inner : Inner Input
  inner = readers lm d

  abbrev On : Tree → Input → Type 0
  On t r = (j : List ℕ) → Loops (loop_step lm inner c l (lo ts)) t r j W (suc d < n)

  abbrev Ours : Type 0
  Ours = Reads (from ts k) (expr_by lm inner c l (from ts k)) W (suc d < n)

  begin : (t : Tree) (r : Input) → eqb (kind ts) hash_kind ≡ false → l ≤ level t → Reads (from ts k) (prefix_by lm inner c l (from ts k)) (Is t r) (suc d < n) → On t r → Ours
  unfolding expr_by expr_from loop_by
  begin t r e le y K = if_no (eqb (kind ts) hash_kind) _ _ W _ e (then_is (prefix_by lm inner c l (from ts k)) _ t r _ W _ y (λ u. u) (λ j. if_yes (leb l (level t)) _ _ W _ (le-leb l (level t) le) (looped (loop_step lm inner c l (lo ts)) t r j W _ (K j))))

  after : (t a : Tree) (m r : Input) → size a < z → Covered a → Produces a (coded p c) ts m → Follow c (ends a) (tail a) m → Bare a ts m → reach a ≤ n → l ≤ level a → l ≤ goes_expr c (ends a) m → len r < len m
      → ((j : List ℕ) → Reads (from m j) (step_by lm inner c (lo ts) a (from m j)) (Is t r) (suc d < n)) → On t r → Ours
  unfolding loop_step
  after t a m r sz g h fo ba le la lp cu y K = firmly z d (ih d) a p c l ts m k W n sz g h one la fo ba (record { calm = λ _ _. goes_calm c (ends a) m (omega arith) }) le
      (λ j. loop_on (loop_step lm inner c l (lo ts)) a t m r j (suc d < n) W _ (if_no (ltb (goes_expr c (ends a) m) l) _ _ _ _ (le-ltb (goes_expr c (ends a) m) l lp)
      (then_is (step_by lm inner c (lo ts) a (from m j)) _ t r (suc d < n) _ _ (y j) (λ u. u) (λ i. here refl))) (λ u. u) cu K)

  not_hash : (k : ℕ) → kind ts ≡ k → eqb k hash_kind ≡ false → eqb (kind ts) hash_kind ≡ false
  not_hash k e h = subst (λ (k : ℕ). eqb k hash_kind ≡ false) (sym e) h

  word_no_hash : is_word (kind ts) ≡ true → eqb (kind ts) hash_kind ≡ false
  word_no_hash h = no_kind is_word (kind ts) hash_kind h refl

  unary_no_hash : (op : ℕ) → kind ts ≡ op → is_unary_op op ≡ true → eqb (kind ts) hash_kind ≡ false
  unary_no_hash op e u = by_unary op (λ o. kind ts ≡ o → eqb (kind ts) hash_kind ≡ false) u (λ e. not_hash 42 e refl) (λ e. not_hash 41 e refl) (λ e. not_hash 6 e refl) (λ e. not_hash 22 e refl) (λ e. not_hash 132 e refl) (λ e. not_hash 133 e refl) (λ e. not_hash 134 e refl) e

  update_no_hash : (op : ℕ) → kind ts ≡ op → is_update_op op ≡ true → eqb (kind ts) hash_kind ≡ false
  update_no_hash op e u = by_update op (λ o. kind ts ≡ o → eqb (kind ts) hash_kind ≡ false) u (λ e. not_hash 20 e refl) (λ e. not_hash 21 e refl) e

  -- the loop goes on from what has been read
  arrived : (t : Tree) (r : Input) → l ≤ level t → On t r → (j : List ℕ) → Reads (from r j) (loop_by lm inner c l (lo ts) t (from r j)) W (suc d < n)
  unfolding loop_by
  arrived t r le K j = if_yes (leb l (level t)) _ _ W _ (le-leb l (level t) le) (looped (loop_step lm inner c l (lo ts)) t r j W _ (K j))

  -- what hangs on an object: a member, a call, a template
  hangs : (t o : Tree) (m r : Input) (x v : ℕ) → size o < z → Covered o → Produces o (coded p c) ts m → 19 ≤ level o → Bare o ts m → reach o ≤ n → l ≤ level o → kind m ≡ x → quiet x ≡ true → goes_expr c 0 m ≡ v → v ≤ 20 → l ≤ v → len r < len m
      → ((j : List ℕ) → Reads (from m j) (step_by lm inner c (lo ts) o (from m j)) (Is t r) (suc d < n)) → On t r → Ours
  hangs t o m r x v sz g h lv ba ne lo e qu gv v20 lg cu y K =
      let z0 : ends o ≡ 0 = ends_high o (omega (arith, lv)) in
      let gm : goes_expr c (ends o) m ≡ v = subst (λ (e : ℕ). goes_expr c e m ≡ v) (sym z0) gv in
      let ta : tail o ≡ 21 = tail_high o (omega (arith, lv)) in
      after t o m r sz g h (record { stop = omega arith; calm = λ _ _. goes_calm c (ends o) m (omega arith); sober = sober_by c x m e qu; quits = λ q. absurd (omega (arith, q, z0)) }) ba ne lo (omega arith) cu y K

  -- members by name
  comes_member : (s : Span) (o x : Tree) (r : Input) → size o < z → Covered o → Member (coded p c) s (child o (λ y. Produces o y)) (λ a b. Dotted true (coded p c) (child x (λ y. Produces x y)) a b) ts r → l ≤ level (member_expr s o x) → reach o ≤ n → On (member_expr s o x) r → Ours
  comes_member s o x r sz g h le ne K =
      hangs (member_expr s o x) o h.0 r 4 20 sz g h.2.1 h.2.0 (bare_by o ts h.0 (λ e. omega (arith, e, h.3.1.0))) ne (omega (arith, le)) h.3.1.0 refl (goes_dot c h.0 h.3.1.0) (omega arith) (omega (arith, le)) (dotted_cut true x (coded p c) h.0 r h.3)
      (λ j. step_member inner c (from ts k) o h.0 j _ _ h.3.1.0 h.2.0 (subst (λ (b : Bool). Reads (from h.0 j) (member_by lm inner c (lo ts) o (from h.0 j)) (Is (on_chain lm inner b s (member_expr s o x)) r) (suc d < n)) h.1 (dotted_member inner c ts k o h.0 j (coded p c) s x r h.3 h.4))) K

  -- a template after a tag
  comes_tagged : (s q : Span) (o : Tree) (es qs : Trees) (r : Input) → size o < z → sizes es < z → Covered o → CoveredAll es → TaggedTemplate (coded p c) s (child o (λ y. Produces o y)) q (children es) (children qs) ts r → l ≤ level (tagged_tpl s o (tpl q es qs)) → reach o ≤ n → suc (reaches es) ≤ n
      → On (tagged_tpl s o (tpl q es qs)) r → Ours
  comes_tagged s q o es qs r sz szs g gs h le ne nes K =
      hangs (tagged_tpl s o (tpl q es qs)) o h.0 r 15 20 sz g h.2.1 h.2.0 (bare_by o ts h.0 (λ e. omega (arith, e, h.3.1.0))) ne (omega (arith, le)) h.3.1.0 refl (goes_quote c h.0 h.3.1.0) (omega arith) (omega (arith, le))
      (omega (arith, takes 15 h.0 h.3.0 h.3.1.0 (omega arith) h.3.1.2, template_cut true (coded p c) es qs h.3.0 r h.3.2))
      (λ j. step_template inner c (from ts k) o h.0 j _ _ h.3.1.0 h.2.0 h.1 (then_is (template_by lm inner c true (from h.0 j)) _ (tpl q es qs) r (d < reaches es) _ _ (template_found z d found p c true q es qs h.0 r j (reaches es) szs gs h.3 (omega arith)) (λ u. omega arith)
      (λ i. here (ap (λ (y : Span). tagged_tpl y o (tpl q es qs)) (sym h.4))))) K

  -- chains: what `?.` goes on with, and what goes on a chain
  comes_optional : (t o : Tree) (m a r : Input) → size o < z → Covered o → Expr 19 (coded p c) (child o (λ y. Produces o y)) ts m → Optional (coded p c) m a → l ≤ 19 → reach o ≤ n → len r < len a → ((j : List ℕ) → Reads (from a j) (chain_by lm inner c (lo ts) o (from a j)) (Is t r) (suc d < n)) → On t r → Ours
  comes_optional t o m a r sz g h q le ne cu y K =
      let d0 : kind2 m ≡ 4 = ap (λ (x : Input). kind x) q.1.2 ∙ q.2.0 in
      hangs t o m r 19 19 sz g h.1 h.0 (bare_by o ts m (λ e. omega (arith, e, q.1.0))) ne (omega (arith, h.0)) q.1.0 refl (goes_optional c m q.1.0 d0) (omega arith) le (omega (arith, cu, takes 19 m q.0 q.1.0 (omega arith) q.1.2, takes 4 q.0 a q.2.0 (omega arith) q.2.2))
      (λ j. step_chain inner c (from ts k) o m j _ _ q.1.0 d0 h.0 (subst (λ (x : Input). Reads (from x j) (chain_by lm inner c (lo ts) o (from x j)) (Is t r) (suc d < n)) (sym (ap (λ (x : Input). rest x) q.1.2 ∙ q.2.2)) (y j))) K

  comes_chained : (t o : Tree) (x v : ℕ) (m r : Input) → size o < z → Covered o → is_chain o ≡ true → Produces o (coded p c) ts m → l ≤ 19 → reach o ≤ n → kind m ≡ x → quiet x ≡ true → goes_expr c 0 m ≡ v → 19 ≤ v → v ≤ 20 → len r < len m
      → ((j : List ℕ) → Reads (from m j) (step_by lm inner c (lo ts) o (from m j)) (Is t r) (suc d < n)) → On t r → Ours
  comes_chained t o x v m r sz g ch h le ne e qu gv v19 v20 cu y K = let lv = chain_level o ch in hangs t o m r x v sz g h (omega (arith, lv)) (bare_chain o ts m ch) ne (omega (arith, lv)) e qu gv v20 (omega arith) cu y K

  -- what stands in brackets
  inside : (e : Tree) (a b : Input) → size e < z → Covered e → Expr 1 (coded p (with_in c)) (child e (λ y. Produces e y)) a b → kind b ≡ right_bracket_kind → (j : List ℕ) → Reads (from a j) (inner.expr (with_in c) 1 (from a j)) (Is e b) (d < reach e)
  inside e a b sz g h q j = found e p (with_in c) 1 a b j sz g h.1 (omega arith) (omega arith) one_asked h.0 (closed_by (with_in c) (ends e) 1 10 b q refl refl (omega arith))

  args : (xs : Trees) (a b : Input) → sizes xs < z → CoveredAll xs → ArgumentList (coded p c) (children xs) a b → Lists inner c xs a b (d < reaches xs)
  args xs a b sz g h j = elements_found z d found p c false 8 refl refl refl xs a b j (reaches xs) sz g h (omega arith)

  optional_index : (s t b : Span) (o e : Tree) (r : Input) → ChainMember (coded p c) s true t (child o (λ y. Produces o y)) (λ m n. Bracketed 1 (coded p c) b (child e (λ y. Produces e y)) m n) (λ m n. Bracketed 1 (coded p c) b (child e (λ y. Produces e y)) m n) ts r
      → size o < z → size e < z → Covered o → Covered e → l ≤ 19 → max (reach o) (suc (reach e)) ≤ n → On (opt_chain_expr s true (member_expr t o (computed_prop_name b e))) r → Ours
  optional_index s t b o e r h so se go ge le ne K = comes_optional (opt_chain_expr s true (member_expr t o (computed_prop_name b e))) o h.0 h.1 r so go h.2 h.3 le (omega arith) (bracket_cut 1 (coded p c) b e h.1 r (omega arith) h.4)
      (λ j. subst (λ (y : Span). Reads (from h.1 j) (chain_by lm inner c (lo ts) o (from h.1 j)) (Is (opt_chain_expr s true (member_expr y o (computed_prop_name b e))) r) (suc d < n)) (h.5 ∙ sym h.6)
      (chain_index inner c ts k o h.1 j s b e h.4.0 h.4.1 r (d < reach e) h.4.2.0 h.4.2.2 (inside e h.4.0 h.4.1 se ge h.4.3 h.4.4.0) (λ u. omega arith) h.4.4.0 h.4.4.2 h.4.5 h.5)) K

  optional_name : (s t : Span) (o x : Tree) (A : Input → Input → Type 0) (r : Input) → ChainMember (coded p c) s true t (child o (λ y. Produces o y)) A (λ m n. AccessedName true (coded p c) (child x (λ y. Produces x y)) m n) ts r
      → size o < z → Covered o → l ≤ 19 → reach o ≤ n → On (opt_chain_expr s true (member_expr t o x)) r → Ours
  optional_name s t o x A r h so go le ne K = let w = accessed_starts x (coded p c) h.1 r h.4 in
      comes_optional (opt_chain_expr s true (member_expr t o x)) o h.0 h.1 r so go h.2 h.3 le ne (accessed_cut true x (coded p c) h.1 r h.4)
      (λ j. subst (λ (y : Span). Reads (from h.1 j) (chain_by lm inner c (lo ts) o (from h.1 j)) (Is (opt_chain_expr s true (member_expr y o x)) r) (suc d < n)) (h.5 ∙ sym h.6) (chain_name inner c ts k o h.1 j (coded p c) s x r h.4 h.5 w.0 w.1)) K

  optional_call : (s t : Span) (f : Tree) (xs : Trees) (r : Input) → ChainCall (coded p c) s true t (child f (λ y. Produces f y)) (children xs) ts r → size f < z → sizes xs < z → Covered f → CoveredAll xs → l ≤ 19 → max (reach f) (suc (reaches xs)) ≤ n → On (opt_chain_expr s true (opt_call t f xs)) r → Ours
  optional_call s t f xs r h so se go ge le ne K =
      comes_optional (opt_chain_expr s true (opt_call t f xs)) f h.0 h.1 r so go h.2 h.3 le (omega arith) (arguments_cut (coded p c) xs h.1 r h.4)
      (λ j. subst (λ (y : Span). Reads (from h.1 j) (chain_by lm inner c (lo ts) f (from h.1 j)) (Is (opt_chain_expr s true (opt_call y f xs)) r) (suc d < n)) (h.5 ∙ sym h.6)
      (chain_call inner c ts k f h.1 j s xs h.4.0 r (d < reaches xs) h.4.1.0 h.4.1.2 (args xs h.4.0 r se ge h.4.2) (λ u. omega arith) h.5)) K

  chained_index : (s t b : Span) (o e : Tree) (A : Input → Input → Type 0) (r : Input) → ChainMember (coded p c) s false t (child o (λ y. Produces o y)) (λ m n. Bracketed 1 (coded p c) b (child e (λ y. Produces e y)) m n) A ts r
      → size o < z → size e < z → Covered o → Covered e → l ≤ 19 → max (reach o) (suc (reach e)) ≤ n → On (opt_chain_expr s false (member_expr t o (computed_prop_name b e))) r → Ours
  chained_index s t b o e A r h so se go ge le ne K = let lv = chain_level o h.1 in
      comes_chained (opt_chain_expr s false (member_expr t o (computed_prop_name b e))) o 9 20 h.0 r so go h.1 h.2 le (omega arith) h.3.2.0 refl (goes_bracket c h.0 h.3.2.0) (omega arith) (omega arith) (bracket_cut 1 (coded p c) b e h.0 r (omega arith) h.3)
      (λ j. step_index inner c (from ts k) o h.0 j _ _ h.3.2.0 (omega (arith, lv)) (subst (λ (y : Span). Reads (from h.0 j) (index_by lm inner c (lo ts) o (from h.0 j)) (Is (opt_chain_expr s false (member_expr y o (computed_prop_name b e))) r) (suc d < n)) (h.4 ∙ sym h.5)
      (subst (λ (q : Bool). Reads (from h.0 j) (index_by lm inner c (lo ts) o (from h.0 j)) (Is (on_chain lm inner q s (member_expr s o (computed_prop_name b e))) r) (suc d < n)) h.1
      (indexed inner c ts k o h.0 j s b e h.3.0 h.3.1 r (d < reach e) h.3.2.2 (inside e h.3.0 h.3.1 se ge h.3.3 h.3.4.0) (λ u. omega arith) h.3.4.0 h.3.4.2 h.3.5 h.4)))) K

  chained_name : (s t : Span) (o x : Tree) (A : Input → Input → Type 0) (r : Input) → ChainMember (coded p c) s false t (child o (λ y. Produces o y)) (λ m n. Dotted true (coded p c) (child x (λ y. Produces x y)) m n) A ts r
      → size o < z → Covered o → l ≤ 19 → reach o ≤ n → On (opt_chain_expr s false (member_expr t o x)) r → Ours
  chained_name s t o x A r h so go le ne K = let lv = chain_level o h.1 in
      comes_chained (opt_chain_expr s false (member_expr t o x)) o 4 20 h.0 r so go h.1 h.2 le ne h.3.1.0 refl (goes_dot c h.0 h.3.1.0) (omega arith) (omega arith) (dotted_cut true x (coded p c) h.0 r h.3)
      (λ j. step_member inner c (from ts k) o h.0 j _ _ h.3.1.0 (omega (arith, lv)) (subst (λ (y : Span). Reads (from h.0 j) (member_by lm inner c (lo ts) o (from h.0 j)) (Is (opt_chain_expr s false (member_expr y o x)) r) (suc d < n)) (h.4 ∙ sym h.5)
      (subst (λ (q : Bool). Reads (from h.0 j) (member_by lm inner c (lo ts) o (from h.0 j)) (Is (on_chain lm inner q s (member_expr s o x)) r) (suc d < n)) h.1 (dotted_member inner c ts k o h.0 j (coded p c) s x r h.3 h.4)))) K

  chained_call : (s t : Span) (f : Tree) (xs : Trees) (r : Input) → ChainCall (coded p c) s false t (child f (λ y. Produces f y)) (children xs) ts r → size f < z → sizes xs < z → Covered f → CoveredAll xs → l ≤ 19 → max (reach f) (suc (reaches xs)) ≤ n → On (opt_chain_expr s false (opt_call t f xs)) r → Ours
  chained_call s t f xs r h so se go ge le ne K = let lv = chain_level f h.1 in
      comes_chained (opt_chain_expr s false (opt_call t f xs)) f 7 19 h.0 r so go h.1 h.2 le (omega arith) h.3.1.0 refl (paren_goes c h.0 h.3.1.0) (omega arith) (omega arith)
      (arguments_cut (coded p c) xs h.0 r h.3)
      (λ j. step_call inner c (from ts k) f h.0 j _ _ h.3.1.0 (omega (arith, lv)) (subst (λ (y : Span). Reads (from h.0 j) (call_by lm inner c (lo ts) f (from h.0 j)) (Is (opt_chain_expr s false (opt_call y f xs)) r) (suc d < n)) (h.4 ∙ sym h.5)
      (subst (λ (ys : Trees). Reads (from h.0 j) (call_by lm inner c (lo ts) f (from h.0 j)) (Is (opt_chain_expr s false (opt_call s f ys)) r) (suc d < n)) (pack_unpack xs)
      (subst (λ (y : Tree). Reads (from h.0 j) (call_by lm inner c (lo ts) f (from h.0 j)) (Is y r) (suc d < n)) (cond_first (is_chain f) _ _ _ h.1 refl)
      (called inner c ts k f h.0 j s xs h.3.0 r (d < reaches xs) h.3.1.2 (args xs h.3.0 r se ge h.3.2) (λ u. omega arith) h.4))))) K

  -- calls of `super` and `import`
  comes_super : (s t : Span) (xs : Trees) (r : Input) → SuperCall (coded p c) s t (children xs) ts r → sizes xs < z → CoveredAll xs → l ≤ 19 → suc (reaches xs) ≤ n → On (call_expr s (super t) xs) r → Ours
  comes_super s t xs r h se ge le ne K = begin (call_expr s (super t) xs) r (not_hash 124 h.1.0 refl) le
      (super_call inner c l ts k h.0 _ s t xs h.3.0 r (d < reaches xs) h.1.0 h.1.1 h.1.3 h.2 h.3.1.0 h.3.1.2 (args xs h.3.0 r se ge h.3.2) (λ u. omega arith) h.4) K

  comes_import : (s t : Span) (xs : Trees) (r : Input) → ImportCall (coded p c) s t (children xs) ts r → sizes xs < z → CoveredAll xs → l ≤ 19 → suc (reaches xs) ≤ n → On (call_expr s (import t) xs) r → Ours
  comes_import s t xs r h se ge le ne K = begin (call_expr s (import t) xs) r (not_hash 128 h.2.0 refl) le
      (import_found inner c l ts k h.0 _ s t xs h.1 r (d < reaches xs) h.2.0 h.2.1 h.2.3 h.3 h.4.0 h.4.2 (import_elements z d found p c xs h.1 r k (reaches xs) se ge h.5 (omega arith)) (λ u. omega arith) h.6) K

  -- `yield` with an operand
  comes_yield : (s : Span) (a : Tree) (q : Bool) (r : Input) → Yield (coded p c) s (child a (λ y. Produces a y)) q ts r → size (yield_expr s a q) < suc z → Covered a → l ≤ 2 → suc (reach a) ≤ n → is_absent a ≡ false → goes_expr c (cond (is_absent a) 2 (ends a)) r < 2 → F.tree p c l (yield_expr s a q) ts r → On (yield_expr s a q) r → Ours
  comes_yield s a false r h sz g le ne na fo ca K = begin (yield_expr s a false) r (not_hash 129 h.2.0 refl) le
      (yield_operand inner c l ts k h.0 _ s a r (d < reach a) h.2.0 h.2.1 h.2.3 h.1 h.3 (starts a _ h.0 r g (omega (arith, h.4.0)) h.4.1) (λ j. last_found a p c 2 h.0 r j (omega arith) g h.4.1 (omega arith) (omega arith) two_asked h.4.0 (unclosed (is_absent a) c (ends a) 2 r na fo) (leads.yields p c l s a ts r na ca h)) (λ u. omega arith) h.5) K
  comes_yield s a true r h sz g le ne na fo ca K = begin (yield_expr s a true) r (not_hash 129 h.3.0 refl) le
      (yield_star inner c l ts k h.0 _ s a h.1 r (d < reach a) h.3.0 h.3.1 h.3.3 h.2 h.4 h.5.0 h.5.2 (λ j. last_found a p c 2 h.1 r j (omega arith) g h.6.1 (omega arith) (omega arith) two_asked h.6.0 (unclosed (is_absent a) c (ends a) 2 r na fo) (leads.yields_all p c l s a ts r na ca h)) (λ u. omega arith) h.7) K

  -- `#x in`
  comes_private : (s t : Span) (x : List ℕ) (op : ℕ) (b : Tree) (r : Input) → op ≡ in_kind → Binary (coded p c) s op (child (private_name t x) (λ y. Produces (private_name t x) y)) (child b (λ y. Produces b y)) ts r → size b < z → Covered b → l ≤ binary_level op → suc (reach b) ≤ n
      → goes_expr c (ends b) r < right_level op → F.tree p c l (bin_expr s op (private_name t x) b) ts r → On (bin_expr s op (private_name t x) b) r → Ours
  unfolding expr_by expr_from private_in
  comes_private s t x op b r e h sz g le ne fo ca K =
      let o = operated c op h.2 in
      if_yes (eqb (kind ts) hash_kind) _ _ W _ (eq-eqb (kind ts) hash_kind h.4.1.0) (then_is (private_by lm inner (from ts k)) _ (private_name t x) h.0 (suc d < n) W _ (private_found inner (coded p c) t x ts h.0 k h.4) (λ u. u)
      (λ j. if_yes _ _ _ W _ (and_from _ _ (eq-eqb (kind h.0) in_kind (h.5.0 ∙ e)) (and_from _ _ (subst (λ (y : ℕ). operates c y ≡ true) e h.2) (le-leb l 11 (subst (λ (y : ℕ). l ≤ binary_level y) e le))))
      (then_is (binary_by lm inner c (lo ts) (private_name t x) (from h.0 j)) _ (bin_expr s op (private_name t x) b) r (suc d < n) W _
      (binary_found inner c ts k (private_name t x) h.0 j _ op s b h.1 r (d < reach b) h.5.0 h.5.1 h.5.3 (λ i. last_found b p c (right_level op) h.1 r i sz g h.6.1 (omega (arith, right_five op o)) (omega (arith, right_most op)) (right_asked op o) h.6.0 fo (leads.binary p c l s op (private_name t x) b ts r ca h)) (λ u. omega arith) h.7) (λ u. u)
      (λ i. arrived (bin_expr s op (private_name t x) b) r le K i))))

  high : (a : Tree) (m : Input) (g : ℕ) → 18 ≤ level a → ((e : ℕ) → e ≡ 0 → goes_expr c e m ≡ g) → goes_expr c (ends a) m ≡ g
  high a m g le h = h (ends a) (ends_high a le)

  -- an operand of a prefix operator
  operand_found : (a : Tree) (m r : Input) → size a < z → Covered a → Produces a (coded p c) m r → 16 ≤ level a → goes_expr c (ends a) r < 16 → F.tree p c 16 a m r → (j : List ℕ) → Reads (from m j) (inner.expr c 16 (from m j)) (Is a r) (d < reach a)
  operand_found a m r sz g h le fo fa j = last_found a p c 16 m r j sz g h (omega arith) (omega arith) (record { conditional = λ e. omega (arith, e); update = λ e. omega (arith, e) }) le fo fa

  step_comma_found : (u y : Tree) (m a b : Input) (j : List ℕ) (P : Type 0) → kind m ≡ comma_kind → rest m ≡ a → ((i : List ℕ) → Reads (from a i) (inner.expr c 2 (from a i)) (Is y b) P) → (P → suc d < n)
      → Reads (from m j) (step_by lm inner c (lo ts) u (from m j)) (Is (extended u y (span (lo ts) b.last)) b) (suc d < n)
  unfolding step_by
  step_comma_found u y m a b j P e q f i = if_yes (eqb (kind m) comma_kind) _ _ _ _ (eq-eqb (kind m) comma_kind e)
      (then_past m a j (inner.expr c 2) _ y b P _ _ q (f j) i (λ o. here refl))

  -- the expressions after the commas, one by one
  seq_loop : (y : Tree) (ys : Trees) (ds : List Tree) (u : Tree) (m r : Input) (j : List ℕ) (s : Span) → ((e : Tree) (v : Span) → extended u e v ≡ seq_expr v (pack (ds ++ e ∷ []))) → sizes (more y ys) < z → CoveredAll (more y ys) → CommaThen (Expr 2 (coded p c)) (coded p c) (children (more y ys)) m r
      → goes_expr c (last_ends (more y ys)) r < 2 → F.trees p c (more y ys) m r → suc (reaches (more y ys)) ≤ n → l ≤ 1 → s ≡ span (lo ts) r.last → On (seq_expr s (pack (ds ++ (y ∷ unpack ys)))) r → Loops (loop_step lm inner c l (lo ts)) u m j W (suc d < n)
  unfolding loop_step
  seq_loop y none ds u m r j s ext sz g h fo fa ne le sp K =
      loop_on (loop_step lm inner c l (lo ts)) u (seq_expr s (pack (ds ++ y ∷ []))) m r j (suc d < n) W _
      (if_no (ltb (goes_expr c (ends u) m) l) _ _ _ _ (le-ltb (goes_expr c (ends u) m) l (omega (arith, goes_comma c (ends u) m h.2.0)))
      (then_is (step_by lm inner c (lo ts) u (from m j)) _ (extended u y (span (lo ts) h.1.last)) h.1 (suc d < n) _ _
      (step_comma_found u y m h.0 h.1 j (d < reach y) h.2.0 h.2.2 (λ i. subst (λ (x : Input). Reads (from h.0 i) (inner.expr c 2 (from h.0 i)) (Is y x) (d < reach y)) (sym h.4) (last_found y p c 2 h.0 r i (omega arith) g.0 (subst (λ (x : Input). Produces y (coded p c) h.0 x) h.4 h.3.1) (omega arith) (omega arith) two_asked h.3.0 fo (leads.last p c y m r fa h))) (λ v. omega arith)) (λ v. v)
      (λ i. ended _ _ _ (ap (λ (t : Tree). go_on t) (ext y (span (lo ts) h.1.last) ∙ ap (λ (x : Input). seq_expr (span (lo ts) x.last) (pack (ds ++ y ∷ []))) h.4 ∙ ap (λ (x : Span). seq_expr x (pack (ds ++ y ∷ []))) (sym sp)), h.4)))) (λ v. v)
      (omega (arith, takes 14 m h.0 h.2.0 (omega arith) h.2.2, taken y _ h.0 h.1 (omega (arith, h.3.0)) h.3.1, ap (λ (x : Input). len x) h.4)) K
  seq_loop y (more y2 ys) ds u m r j s ext sz g h fo fa ne le sp K =
      loop_on (loop_step lm inner c l (lo ts)) u (seq_expr (span (lo ts) h.1.last) (pack (ds ++ y ∷ []))) m h.1 j (suc d < n) W _
      (if_no (ltb (goes_expr c (ends u) m) l) _ _ _ _ (le-ltb (goes_expr c (ends u) m) l (omega (arith, goes_comma c (ends u) m h.2.0)))
      (then_is (step_by lm inner c (lo ts) u (from m j)) _ (extended u y (span (lo ts) h.1.last)) h.1 (suc d < n) _ _
      (step_comma_found u y m h.0 h.1 j (d < reach y) h.2.0 h.2.2 (λ i. found y p c 2 h.0 h.1 i (omega arith) g.0 h.3.1 (omega arith) (omega arith) two_asked h.3.0 (comma_after c (ends y) 2 h.1 h.4.2.0 (omega arith))) (λ v. omega arith)) (λ v. v)
      (λ i. here (ap (λ (t : Tree). go_on t) (ext y (span (lo ts) h.1.last)))))) (λ v. v)
      (omega (arith, takes 14 m h.0 h.2.0 (omega arith) h.2.2, taken y _ h.0 h.1 (omega (arith, h.3.0)) h.3.1))
      (λ i. seq_loop y2 ys (ds ++ y ∷ []) (seq_expr (span (lo ts) h.1.last) (pack (ds ++ y ∷ []))) h.1 r i s (λ e v. ap (λ xs. seq_expr v (pack (xs ++ e ∷ []))) (unpack_pack (ds ++ y ∷ []))) (omega arith) g.1 h.4 fo (leads.next p c y y2 ys m r fa h) (omega arith) le sp
      (subst (λ xs. On (seq_expr s (pack xs)) r) (sym (append_assoc ds (y ∷ []) (y2 ∷ unpack ys))) K))

  -- an expression in parentheses, by its expressions
  paren_one : (e : Tree) (s : Span) (a b r : Input) → size e < z → suc (reach e) ≤ n → Covered e → 2 ≤ level e → Produces e (coded p (with_in c)) a b → kind ts ≡ left_paren_kind → rest ts ≡ a → kind b ≡ right_paren_kind → rest b ≡ r → NoParams (with_in c) l a r → s ≡ span (lo ts) r.last
      → Reads (from ts k) (prefix_by lm inner c l (from ts k)) (Is (paren_expr s e) r) (suc d < n)
  paren_one e s a b r sz ne g le h o q f t y u = paren_found inner c l ts k s e e [] b.last a r (d < max (reach e) 0) (suc d < n) o q
      (λ j. group_found z d found p c e none a b b r j (max (reach e) 0) sz (omega arith) g tt (le, h) refl f t (omega arith)) (λ v. omega arith) (λ x i w. y d k x i w) refl u

  paren_more : (e : Tree) (v : Span) (xs : Trees) (s : Span) (a b r : Input) → e ≡ seq_expr v xs → size e < z → suc (reach e) ≤ n → Covered (seq_expr v xs) → Produces (seq_expr v xs) (coded p (with_in c)) a b → kind ts ≡ left_paren_kind → rest ts ≡ a → kind b ≡ right_paren_kind → rest b ≡ r → NoParams (with_in c) l a r → s ≡ span (lo ts) r.last
      → Reads (from ts k) (prefix_by lm inner c l (from ts k)) (Is (paren_expr s e) r) (suc d < n)
  paren_more e v none s a b r i sz ne g h o q f t y u = absurd h
  paren_more e v (more x none) s a b r i sz ne g h o q f t y u = absurd h
  paren_more e v (more x (more w ws)) s a b r i sz ne g h o q f t y u =
      let si : size e ≡ suc (suc (size x + suc (size w + sizes ws))) = ap (λ (e : Tree). size e) i in
      let re : reach e ≡ suc (max (reach x) (max (reach w) (reaches ws))) = ap (λ (e : Tree). reach e) i in
      paren_found inner c l ts k s e x (w ∷ unpack ws) b.last a r (d < max (reach x) (max (reach w) (reaches ws))) (suc d < n) o q
      (λ j. group_found z d found p c x (more w ws) a h.0 b r j (max (reach x) (max (reach w) (reaches ws))) (omega arith) (omega arith) g.0 g.1 h.1 h.2 f t (omega arith)) (λ v. omega arith) (λ x i w. y d k x i w)
      (ap (λ (ys : Trees). seq_expr (span (lo a) b.last) (more x (more w ys))) (pack_unpack ws) ∙ ap (λ (y : Span). seq_expr y (more x (more w ws))) (sym h.3) ∙ sym i) u

  comes_binary : (s : Span) (op : ℕ) (a b : Tree) (r : Input) → is_private a ≡ false → size (bin_expr s op a b) < suc z → Covered (bin_expr s op a b) → Produces (bin_expr s op a b) (coded p c) ts r → l ≤ binary_level op → goes_expr c (ends b) r < right_level op → F.tree p c l (bin_expr s op a b) ts r → max (reach a) (suc (reach b)) ≤ n
      → On (bin_expr s op a b) r → Ours
  comes_binary s op a b r q sz g h le fo ca ne K =
      let o = operated c op h.2 in
      let fi = fits op a q o h.3 in
      let low : ends a ≤ 1 = ends_low a _ ts h.0 g.0 (omega (arith, binary_four op o, fi.0)) h.4 in
      let gm : goes_expr c (ends a) h.0 ≡ binary_level op = goes_binary c (ends a) op h.0 h.2 low h.5.0 in
      after _ a h.0 r (omega arith) g.0 h.4 (record { stop = omega (arith, gm, fi.1); calm = λ _ _. goes_calm c (ends a) h.0 (omega (arith, gm, o)); sober = sober_by c op h.0 h.5.0 (quiet_binary c op h.2); quits = λ q. absurd (omega (arith, q, low)) }) (bare_by a ts h.0 (λ e. omega (arith, e, h.5.0, far_binary c op h.2)))
      (omega arith) (omega (arith, fi.0)) (omega (arith, gm)) (omega (arith, takes op h.0 h.1 h.5.0 (some_binary c op h.2) h.5.3, taken b _ h.1 r (omega (arith, h.6.0, right_five op o)) h.6.1))
      (λ j. step_binary inner c (from ts k) a h.0 j _ _ (subst (λ (o : ℕ). operates c o ≡ true) (sym h.5.0) h.2) (subst (λ (o : ℕ). fits_left o a ≡ true) (sym h.5.0) h.3)
      (binary_found inner c ts k a h.0 j _ op s b h.1 r (d < reach b) h.5.0 h.5.1 h.5.3 (λ i. last_found b p c (right_level op) h.1 r i (omega arith) g.1 h.6.1 (omega (arith, right_five op o)) (omega (arith, right_most op)) (right_asked op o) h.6.0 fo (leads.binary p c l s op a b ts r ca h)) (λ u. omega arith) h.7)) K

  comes_call : (s : Span) (f : Tree) (xs : Trees) (r : Input) → ((s : Span) (xs : Trees) (c : Code) (ts r : Input) → Produces (call_expr s f xs) c ts r → Call c s (child f (λ y. Produces f y)) (children xs) ts r) → size (call_expr s f xs) < suc z → Covered (call_expr s f xs) → Produces (call_expr s f xs) (coded p c) ts r
      → l ≤ 19 → F.tree p c l (call_expr s f xs) ts r → max (reach f) (suc (reaches xs)) ≤ n → On (call_expr s f xs) r → Ours
  comes_call s f xs r v sz g w le ca ne K =
      let h = v s xs (coded p c) ts r w in
      let z0 : ends f ≡ 0 = ends_high f (omega (arith, h.2.0)) in
      let gm : goes_expr c (ends f) h.0 ≡ 19 = goes_paren c (ends f) h.0 z0 h.3.1.0 in
      let ta : tail f ≡ 21 = tail_high f (omega (arith, h.2.0)) in
      let listed : (j : List ℕ) → Reads (from h.3.0 j) (elements_by lm inner c false right_paren_kind (from h.3.0 j)) (Has (unpack xs) r) (d < reaches xs) = λ j. elements_found z d found p c false 8 refl refl refl xs h.3.0 r j (reaches xs) (omega arith) g.1 h.3.2 (omega arith) in
      ⊎_elim
      (λ (b : Bare f ts h.0). after _ f h.0 r (omega arith) g.0 h.2.1 (record { stop = omega arith; calm = λ _ _. calm_by 7 h.0 h.3.1.0 refl; sober = sober_by c 7 h.0 h.3.1.0 refl; quits = λ q. absurd (omega (arith, q, z0)) }) b (omega arith) (omega (arith, h.2.0)) (omega arith)
      (omega (arith, takes 7 h.0 h.3.0 h.3.1.0 (omega arith) h.3.1.2, elements_cut (coded p c) xs h.3.0 r h.3.2))
      (λ j. step_call inner c (from ts k) f h.0 j _ _ h.3.1.0 h.2.0 (call_found inner c ts k f h.0 j _ s xs h.3.0 r (d < reaches xs) h.1 h.3.1.2 listed (λ u. omega arith) h.4)) K)
      (λ (b : IsAsync f ts h.0).
      let v : Produces (ident b.0 b.1) (coded p c) ts h.0 = subst (λ (y : Tree). Produces y (coded p c) ts h.0) b.2 h.2.1 in
      let to : (P : Input → Type 0) → P h.0 → P (rest ts) = λ P y. subst P (sym v.0.5) y in
      begin _ r (word_no_hash v.0.0) le (subst (λ (y : Tree). Reads (from ts k) (prefix_by lm inner c l (from ts k)) (Is (call_expr s y xs) r) (suc d < n)) (sym b.2)
      (async_call inner c l ts k b.0 s b.1 xs r (d < reaches xs) (v.0.0, v.0.1, v.0.2) b.3 v.0.3 (sym (first_at ts h.0 b.0 v.0.5 v.1)) (to (λ y. kind y ≡ left_paren_kind) h.3.1.0) (to (λ y. brk y ≡ false) b.4)
      (subst (λ (y : Input). (j : List ℕ) → Reads (from y j) (elements_by lm inner c false right_paren_kind (from y j)) (Has (unpack xs) r) (d < reaches xs)) (sym (ap (λ (y : Input). rest y) v.0.5 ∙ h.3.1.2)) listed)
      (λ u. omega arith) (λ x i o. leads.call p c l s b.0 b.1 xs ts (rest ts) r (subst (λ (y : Tree). F.tree p c l (call_expr s y xs) ts r) b.2 ca) b.3 refl (to (λ y. brk y ≡ false) b.4) (subst (λ (y : Tree). Produces (call_expr s y xs) (coded p c) ts r) b.2 w) d k x i o) h.4)) K)
      (bare_or f ts h.0)

  -- an assignment after its target: the expression that stands there is refined to it, and reading comes to it
  assigns : (s : Span) (op : ℕ) (x a b : Tree) (m o r : Input) (j : List ℕ) → is_assign_op op ≡ true → kind m ≡ op → rest m ≡ o → to_target op j x ≡ Ok a → size b < z → Covered b → Expr 2 (coded p c) (child b (λ y. Produces b y)) o r → s ≡ span (lo ts) r.last → suc (reach b) ≤ n → goes_expr c (ends b) r < 2 → F.tree p c 2 b o r
      → Reads (from m j) (step_by lm inner c (lo ts) x (from m j)) (Is (assign_expr s op a b) r) (suc d < n)
  unfolding step_by assign_by
  assigns s op x a b m o r j w e q t sz g h sp ne fo fa =
      let is : is_assign_op (kind m) ≡ true = subst (λ (y : ℕ). is_assign_op y ≡ true) (sym e) w in
      let to : to_target (kind m) j x ≡ Ok a = subst (λ (y : ℕ). to_target y j x ≡ Ok a) (sym e) t in
      if_no (eqb (kind m) comma_kind) _ _ _ _ (no_kind is_assign_op (kind m) comma_kind is refl) (if_yes (is_assign_op (kind m)) _ _ _ _ is
      (rw to (then_past m o j (inner.expr c 2) _ b r (d < reach b) _ _ q (last_found b p c 2 o r j sz g h.1 (omega arith) (omega arith) two_asked h.0 fo fa) (λ u. omega arith)
      (λ i. here (ap (λ (y : Span). assign_expr y (kind m) a b) (sym sp) ∙ ap (λ (y : ℕ). assign_expr s y a b) e)))))

  goes_assign : (op : ℕ) (m : Input) → is_assign_op op ≡ true → kind m ≡ op → goes_expr c 0 m ≡ 2
  goes_assign op m w e =
      let is : is_assign_op (kind m) ≡ true = subst (λ (y : ℕ). is_assign_op y ≡ true) (sym e) w in
      cond_second (eqb (kind m) comma_kind) _ _ _ (no_kind is_assign_op (kind m) comma_kind is refl) (cond_first (is_assign_op (kind m)) _ _ _ is refl)

  quiet_assign : (op : ℕ) → is_assign_op op ≡ true → quiet op ≡ true
  quiet_assign op w = and_from (not (op == function_kind)) _ (ap not (no_kind is_assign_op op function_kind w refl)) (or_left (not (is_word op)) _ (ap not (false_from_ne_true (is_word op) (λ e. let u : 80 ≤ op = leb-true 80 op e in let v : op ≤ 75 = leb-true op 75 (and_parts (leb 60 op) (leb op 75) w).1 in omega arith))))

  -- a simple target: what is read there ends in nothing, and is the target, or its name
  comes_simple : (s : Span) (op : ℕ) (a b : Tree) (r : Input) → size a < z → size b < z → Covered a → Covered b → Assignment (coded p c) s op (child a (λ y. Produces a y)) (child b (λ y. Produces b y)) ts r → is_structured a ≡ false → l ≤ 2 → max (reach a) (suc (reach b)) ≤ n → goes_expr c (ends b) r < 2 → F.tree p c l (assign_expr s op a b) ts r
      → On (assign_expr s op a b) r → Ours
  comes_simple s op a b r sa sb ga gb h st le ne fo ca K = let w = target_view op a (coded p c) ts h.0 h.3 h.4 st in
      after (assign_expr s op a b) w.tree h.0 r (omega (arith, w.small, sa)) (w.covered ga) w.produced
      (record { stop = subst (λ (e : ℕ). goes_expr c e h.0 < tail w.tree) (sym w.last) (omega (arith, goes_assign op h.0 h.2 h.5.0, w.none_after)); calm = λ _ _. calm_by op h.0 h.5.0 (no_kind is_assign_op op arrow_kind h.2 refl); sober = sober_by c op h.0 h.5.0 (quiet_assign op h.2); quits = λ q. absurd (omega (arith, q, w.last)) })
      (bare_by w.tree ts h.0 (λ e. let u : 60 ≤ op = leb-true 60 op (and_parts (leb 60 op) (leb op 75) h.2).0 in omega (arith, e, h.5.0))) (omega (arith, w.shallow)) (omega (arith, w.tight))
      (subst (λ (e : ℕ). l ≤ goes_expr c e h.0) (sym w.last) (omega (arith, goes_assign op h.0 h.2 h.5.0)))
      (omega (arith, takes op h.0 h.1 h.5.0 (some_assign op h.2) h.5.2, taken b _ h.1 r (omega (arith, h.6.0)) h.6.1))
      (λ j. assigns s op w.tree a b h.0 h.1 r j h.2 h.5.0 h.5.2 (w.target j) sb gb h.6 h.7 (omega arith) fo (leads.assigns p c l s op a b ts r ca h)) K

  -- a pattern in brackets, which is read as an array or an object first
  comes_pattern : (s : Span) (op : ℕ) (a b : Tree) (r : Input) → size a < z → size b < z → Covered a → Covered b → Assignment (coded p c) s op (child a (λ y. Produces a y)) (child b (λ y. Produces b y)) ts r → is_structured a ≡ true → l ≤ 2 → max (reach a) (suc (reach b)) ≤ n → goes_expr c (ends b) r < 2 → F.tree p c l (assign_expr s op a b) ts r
      → On (assign_expr s op a b) r → Ours
  unfolding expr_by expr_from loop_by loop_step
  comes_pattern s op a b r sa sb ga gb h st le ne fo ca K = let e0 = op_assigns op a st h.3 in
      if_no (eqb (kind ts) hash_kind) _ _ W _ (structured_starts a (coded p c) ts h.0 st h.4) (then_reads (prefix_by lm inner c l (from ts k)) _ (Cover_read a h.0) (suc d < n) W _
      (structured_read z d found (coverings z (λ e. finds z e ih) d) p c l a ts h.0 k n (omega (arith, sa)) ga st h.4 (omega arith)) (λ u. u)
      (λ y v. if_yes (leb l (level y.0)) _ _ W _ (le-leb l (level y.0) (omega (arith, v.tight))) (looped (loop_step lm inner c l (lo ts)) y.0 y.1.source y.1.commas W _
      (subst (λ (i : Input). Loops (loop_step lm inner c l (lo ts)) y.0 i y.1.commas W (suc d < n)) (sym v.source)
      (loop_on (loop_step lm inner c l (lo ts)) y.0 (assign_expr s op a b) h.0 r y.1.commas (suc d < n) W _
      (if_no (ltb (goes_expr c (ends y.0) h.0) l) _ _ _ _ (le-ltb (goes_expr c (ends y.0) h.0) l (subst (λ (i : ℕ). l ≤ goes_expr c i h.0) (sym v.closed) (omega (arith, goes_assign op h.0 h.2 h.5.0))))
      (then_is (step_by lm inner c (lo ts) y.0 (from h.0 y.1.commas)) _ (assign_expr s op a b) r (suc d < n) _ _
      (assigns s op y.0 a b h.0 h.1 r y.1.commas h.2 h.5.0 h.5.2 (subst (λ (i : ℕ). to_target i y.1.commas y.0 ≡ Ok a) (sym e0) (v.target y.1.commas ∙ v.refines.so false refl y.1.commas (λ n q. refl))) sb gb h.6 h.7 (omega arith) fo (leads.assigns p c l s op a b ts r ca h)) (λ u. u) (λ i. here refl))) (λ u. u)
      (omega (arith, takes op h.0 h.1 h.5.0 (some_assign op h.2) h.5.2, taken b _ h.1 r (omega (arith, h.6.0)) h.6.1)) K)))))

  -- arrows
  named_arrow : (ps : Trees) (s : Span) (e : Tree) (m o r : Input) → BareName (coded p c) (children ps) ts m → Body_read inner c false e m o r (d < reach e) → (d < reach e → suc d < n) → s ≡ span (lo ts) r.last → l ≤ 2 → On (arrow_expr s ps e false) r → Ours
  named_arrow none s e m o r w y f sp le K = absurd w
  named_arrow (more (binding_ident q (ident t x)) none) s e m o r w y f sp le K = let v = w.1.1.1 in begin (arrow_expr s (more (binding_ident q (ident t x)) none) e false) r (word_no_hash v.0.0) le
      (subst (λ (u : Span). Reads (from ts k) (prefix_by lm inner c l (from ts k)) (Is (arrow_expr s (more (binding_ident q (ident u x)) none) e false) r) (suc d < n)) w.1.1.0 (arrow_bare inner c l le ts k q x s e m o r (d < reach e) (v.0.0, v.0.1, v.0.2) v.0.3 v.0.5 v.1 y f sp)) K
  named_arrow (more (binding_ident q (ident t x)) (more u us)) s e m o r w y f sp le K = absurd w.0
  named_arrow (more (binding_ident q i) us) s e m o r w y f sp le K = absurd w.1.1
  named_arrow (more x us) s e m o r w y f sp le K = absurd (true≢false (sym w.1.0))

  async_arrow : (ps : Trees) (s : Span) (e : Tree) (a m o r : Input) → Async true (coded p c) ts a → BareName (coded p c) (children ps) a m → Body_read inner c true e m o r (d < reach e) → (d < reach e → suc d < n) → s ≡ span (lo ts) r.last → l ≤ 2 → On (arrow_expr s ps e true) r → Ours
  async_arrow none s e a m o r g w y f sp le K = absurd w
  async_arrow (more (binding_ident q (ident t x)) none) s e a m o r g w y f sp le K = let v = w.1.1.1 in begin (arrow_expr s (more (binding_ident q (ident t x)) none) e true) r (not_hash 143 g.0.0 refl) le
      (subst (λ (u : Span). Reads (from ts k) (prefix_by lm inner c l (from ts k)) (Is (arrow_expr s (more (binding_ident q (ident u x)) none) e true) r) (suc d < n)) w.1.1.0
      (async_bare inner c l le ts k q x s e a m o r (d < reach e) g.0.0 g.0.1 g.0.3 g.1 (v.0.0, v.0.1, v.0.2) v.0.3 v.0.5 v.1 y f sp)) K
  async_arrow (more (binding_ident q (ident t x)) (more u us)) s e a m o r g w y f sp le K = absurd w.0
  async_arrow (more (binding_ident q i) us) s e a m o r g w y f sp le K = absurd w.1.1
  async_arrow (more x us) s e a m o r g w y f sp le K = absurd (true≢false (sym w.1.0))

  params_covered : (ps : Trees) (m o : Input) → sizes ps < z → CoveredAll ps → Listed false (ArrowPattern (coded p c)) (coded p c) 8 (children ps) m o → Reads (from m k) (elements_by lm inner (with_in c) false right_paren_kind (from m k)) (Covered_list false (unpack ps) o) (d < reaches ps)
  params_covered ps m o sz g h = covers_found z d (coverings z (λ e. finds z e ih) d) p (with_in c) false 8 (coded p c) refl refl refl ps m o k (reaches ps) sz g (params_loosen p c ps m o h) (omega arith)

  body_read : (i : Bool) (e : Tree) (m o r : Input) → size e < z → Covered e → brk m ≡ false → Takes (coded p c) arrow_kind m o → (kind o ≡ left_brace_kind → ⊥) → Expr 2 (in_arrow i (coded p c)) (child e (λ y. Produces e y)) o r → goes_expr c (ends e) r < 2 → F.tree p (in_arrow i c) 2 e o r → Body_read inner c i e m o r (d < reach e)
  body_read i e m o r sz g b t nb h fo fa = expression_body inner c i e m o r (d < reach e) (and_from (kind m == arrow_kind) _ (eq-eqb (kind m) arrow_kind t.0) (ap not b)) t.2 nb
      (λ j. last_found e p (in_arrow i c) 2 o r j sz g h.1 (omega arith) (omega arith) two_asked h.0 fo fa)

  block_read : (i : Bool) (s : Span) (ss : Trees) (m o r : Input) → size (block_stmt s ss) < z → brk m ≡ false → Takes (coded p c) arrow_kind m o → Body (in_list (with_in (in_arrow i (coded p c)))) s (children ss) o r → Body_read inner c i (block_stmt s ss) m o r (d < reach (block_stmt s ss))
  block_read i s ss m o r sz b t h = block_body inner c i (block_stmt s ss) m o r (d < reach (block_stmt s ss)) (and_from (kind m == arrow_kind) _ (eq-eqb (kind m) arrow_kind t.0) (ap not b)) t.2 h.1.0
      (λ j. deep.bodies s ss p (in_list (with_in (in_arrow i c))) o r j sz h)

  comes_arrow : (i : Bool) (s : Span) (ps : Trees) (e : Tree) (o r : Input) (a : ArrowHead i (coded p c) (children ps) ts o) → Body_read inner c i e a.1 o r (d < reach e) → s ≡ span (lo ts) r.last → sizes ps < z → CoveredAll ps → l ≤ 2 → suc (max (reaches ps) (reach e)) ≤ n → On (arrow_expr s ps e i) r → Ours
  comes_arrow false s ps e o r a y q sp gp le ne K = ⊎_elim
      (λ (w : BareName (coded p c) (children ps) a.0 a.1). named_arrow ps s e a.1 o r (subst (λ (u : Input). BareName (coded p c) (children ps) u a.1) (sym a.2) w) y (λ u. omega arith) q le K)
      (λ (w : (m : Input) × Takes (coded p c) left_paren_kind a.0 m × Listed false (ArrowPattern (coded p c)) (coded p c) 8 (children ps) m a.1).
      let g : kind ts ≡ left_paren_kind = ap (λ (u : Input). kind u) a.2 ∙ w.1.0 in
      begin (arrow_expr s ps e false) r (not_hash 7 g refl) le (arrow_paren inner c l le ts k ps s e w.0 a.1 o r (d < reach e) (d < reaches ps) g (ap (λ (u : Input). rest u) a.2 ∙ w.1.2) (params_covered ps w.0 a.1 sp gp w.2) (λ u. omega arith) (params_names p c ps w.0 a.1 w.2) y (λ u. omega arith) q) K)
      a.3
  comes_arrow true s ps e o r a y q sp gp le ne K = ⊎_elim
      (λ (w : BareName (coded p c) (children ps) a.0 a.1). async_arrow ps s e a.0 a.1 o r a.2 w y (λ u. omega arith) q le K)
      (λ (w : (m : Input) × Takes (coded p c) left_paren_kind a.0 m × Listed false (ArrowPattern (coded p c)) (coded p c) 8 (children ps) m a.1).
      begin (arrow_expr s ps e true) r (not_hash 143 a.2.0.0 refl) le (async_paren inner c l le ts k ps s e a.0 w.0 a.1 o r (d < reach e) (d < reaches ps) a.2.0.0 a.2.0.1 a.2.0.3 a.2.1 w.1.0 w.1.2 (params_covered ps w.0 a.1 sp gp w.2) (λ u. omega arith) (params_names p c ps w.0 a.1 w.2) y (λ u. omega arith) q) K)
      a.3

  comes_concise : (s : Span) (ps : Trees) (e : Tree) (i : Bool) (r : Input) → ArrowExpression (coded p c) s (children ps) (child e (λ y. Produces e y)) i ts r → size (arrow_expr s ps e i) < suc z → CoveredAll ps × Covered e → l ≤ 2 → suc (max (reaches ps) (reach e)) ≤ n → is_block e ≡ false → goes_expr c (cond (is_block e) 2 (ends e)) r < 2 → F.tree p c l (arrow_expr s ps e i) ts r
      → On (arrow_expr s ps e i) r → Ours
  comes_concise s ps e i r h sz g le ne nb fo ca K = comes_arrow i s ps e h.0 r h.1 (body_read i e h.1.1 h.0 r (omega arith) g.1 h.1.4 h.1.5 h.2 h.3 (unclosed (is_block e) c (ends e) 2 r nb fo) (leads.arrow p c l s ps e i ts r nb ca h)) h.4 (omega arith) g.0 le ne K

  comes_by : (t : Tree) (r : Input) → size t < suc z → Covered t → Produces t (coded p c) ts r → l ≤ level t → goes_expr c (ends t) r < tail t → Bare t ts r → F.tree p c l t ts r → reach t ≤ n → On t r → Ours
  comes_by (this_expr s) r sz g h le fo ba ca ne K = begin _ r (not_hash 123 h.0.0 refl) le (prefix_this inner c l ts k (λ x. Unit {0}) _ r s h.0.0 h.0.1 h.0.3 h.1) K
  comes_by (null_lit s) r sz g h le fo ba ca ne K = begin _ r (not_hash 80 h.0.0 refl) le (prefix_null inner c l ts k (λ x. Unit {0}) _ r s h.0.0 h.0.1 h.0.3 h.1) K
  comes_by (bool_lit s true) r sz g h le fo ba ca ne K = begin _ r (not_hash 81 h.0.0 refl) le (prefix_true inner c l ts k (λ x. Unit {0}) _ r s h.0.0 h.0.1 h.0.3 h.1) K
  comes_by (bool_lit s false) r sz g h le fo ba ca ne K = begin _ r (not_hash 82 h.0.0 refl) le (prefix_false inner c l ts k (λ x. Unit {0}) _ r s h.0.0 h.0.1 h.0.3 h.1) K
  comes_by (ident s x) r sz g h le fo ba ca ne K = begin _ r (word_no_hash h.0.0) le (prefix_ident inner c l ts k (λ x. Unit {0}) _ s x r (h.0.0, h.0.1, h.0.2) h.0.3 h.0.5 h.1 (leads.name p c l s x ts r ca h) ba) K
  comes_by (str_lit s u w) r sz g h le fo ba ca ne K = begin _ r (not_hash 23 h.3.0 refl) le (prefix_str inner c l ts k _ _ h.3.0 (literal_found inner c ts k (λ x. Unit {0}) _ (str_lit s u w) r
      (rw (h.3.0, h.2) (ap Some (ap (λ (y : Span). str_lit y u (Some h.0)) (first_at ts r s h.3.2 h.4) ∙ ap (λ (y : Option (List ℕ)). str_lit s u y) (sym h.1)))) h.3.2)) K
  comes_by (number_lit s v w) r sz g h le fo ba ca ne K = begin _ r (not_hash 25 h.3.0 refl) le (prefix_num inner c l ts k _ _ h.3.0 (literal_found inner c ts k (λ x. Unit {0}) _ (number_lit s v w) r
      (rw (h.3.0, h.2) (ap Some (ap (λ (y : Span). number_lit y v (Some h.0)) (first_at ts r s h.3.2 h.4) ∙ ap (λ (y : Option (List ℕ)). number_lit s v y) (sym h.1)))) h.3.2)) K
  comes_by (big_int_lit s b e w) r sz g h le fo ba ca ne K = begin _ r (not_hash 26 h.3.0 refl) le (prefix_big inner c l ts k _ _ h.3.0 (literal_found inner c ts k (λ x. Unit {0}) _ (big_int_lit s b e w) r
      (rw (h.3.0, h.2) (ap Some (ap (λ (y : Span). big_int_lit y b e (Some h.0)) (first_at ts r s h.3.2 h.4) ∙ ap (λ (y : Option (List ℕ)). big_int_lit s b e y) (sym h.1)))) h.3.2)) K
  comes_by (regex_lit s e f) r sz g h le fo ba ca ne K = begin _ r (not_hash 24 h.1.0 refl) le (prefix_regex inner c l ts k _ _ h.1.0 (literal_found inner c ts k (λ x. Unit {0}) _ (regex_lit s e f) r
      (rw (h.1.0, h.0) (ap Some (ap (λ (y : Span). regex_lit y e f) (first_at ts r s h.1.2 h.2)))) h.1.2)) K
  comes_by (unary_expr s op a) r sz g h le fo ba ca ne K = begin _ r (unary_no_hash op h.2.0 h.1) le (prefix_unary inner c l ts k _ _ op h.2.0 h.1
      (unary_found inner c l ts k (λ x. Unit {0}) _ op s a h.0 r (d < reach a) h.2.0 h.2.1 h.2.3 (operand_found a h.0 r (omega arith) g h.3.1 h.3.0 fo (leads.unary p c l s op a ts r ca h)) (λ u. omega arith) h.4)) K
  comes_by (update_expr s op true a) r sz g h le fo ba ca ne K = begin _ r (update_no_hash op h.2.0 h.1) le (prefix_update inner c l ts k _ _ op h.2.0 h.1
      (update_found inner c l ts k (λ x. Unit {0}) _ op s a h.0 r (d < reach a) h.2.0 h.2.2 (operand_found a h.0 r (omega arith) g h.3.1 h.3.0 fo (leads.update p c l s op a ts r ca h)) (λ u. omega arith) h.4)) K
  comes_by (update_expr s op false a) r sz g h le fo ba ca ne K =
      let gm : goes_expr c (ends a) h.0 ≡ 17 = subst (λ (e : ℕ). goes_expr c e h.0 ≡ 17) (sym (ends_high a h.2.0)) (goes_update c op h.0 h.4.0 h.1 h.3) in
      let ta : tail a ≡ 21 = tail_high a h.2.0 in
      after _ a h.0 r (omega arith) g h.2.1 (record { stop = omega arith; calm = λ _ _. calm_by op h.0 h.4.0 (by_update op (λ o. eqb o arrow_kind ≡ false) h.1 refl refl); sober = sober_by c op h.0 h.4.0 (by_update op (λ o. quiet o ≡ true) h.1 refl refl); quits = λ q. absurd (omega (arith, q, ends_high a h.2.0)) }) (bare_by a ts h.0 (λ e. by_update op (λ o. kind h.0 ≡ o → ⊥) h.1 (λ q. omega (arith, e, q)) (λ q. omega (arith, e, q)) h.4.0))
      ne (omega (arith, h.2.0)) (omega arith) (takes op h.0 r h.4.0 (some_update op h.1) h.4.2) (λ j. step_update inner c ts k a h.0 j _ op s r h.1 h.4.0 h.2.0 h.3 h.4.2 h.5) K
  comes_by (await_expr s a) r sz g h le fo ba ca ne K = begin _ r (not_hash 100 h.2.0 refl) le (prefix_await inner c l ts k _ _ h.2.0 h.1
      (await_found inner c l ts k (λ x. Unit {0}) _ s a h.0 r (d < reach a) h.2.0 h.2.1 h.2.3 (operand_found a h.0 r (omega arith) g h.3.1 h.3.0 fo (leads.awaits p c l s a ts r ca h)) (λ u. omega arith) h.4)) K
  comes_by (bin_expr s op a b) r sz g h le fo ba ca ne K = ⊎_elim
      (λ (q : is_private a ≡ true). let v = private_is a q in comes_private s v.0 v.1 op b r (is_in op a q h.3) (subst (λ (y : Tree). Produces (bin_expr s op y b) (coded p c) ts r) v.2 h) (omega arith) g.1 le (omega arith) fo (subst (λ (y : Tree). F.tree p c l (bin_expr s op y b) ts r) v.2 ca)
      (subst (λ (y : Tree). On (bin_expr s op y b) r) v.2 K))
      (λ (q : is_private a ≡ false). comes_binary s op a b r q sz g h le fo ca ne K) (cases_Bool (is_private a))
  comes_by (cond_expr s a b t) r sz g h le fo ba ca ne K =
      let dots : eqb (kind2 h.0) dot_kind ≡ false = no_kind begins (kind2 h.0) dot_kind (subst (λ (x : Input). begins (kind x) ≡ true) (sym h.5.2) (starts b _ h.1 h.2 g.1 (omega (arith, h.6.0)) h.6.1)) refl in
      let low : ends a ≤ 1 = ends_low a _ ts h.0 g.0 h.4.0 h.4.1 in
      let gm : goes_expr c (ends a) h.0 ≡ 3 = goes_question c (ends a) h.0 h.5.0 low dots in
      after _ a h.0 r (omega arith) g.0 h.4.1 (record { stop = omega (arith, gm, tail_over a 4 (omega arith) (omega arith) h.4.0); calm = λ _ _. calm_by 19 h.0 h.5.0 refl; sober = sober_by c 19 h.0 h.5.0 refl; quits = λ q. absurd (omega (arith, q, low)) }) (bare_by a ts h.0 (λ e. omega (arith, e, h.5.0)))
      (omega arith) (omega (arith, h.4.0)) (omega (arith, gm)) (omega (arith, takes 19 h.0 h.1 h.5.0 (omega arith) h.5.2, taken b _ h.1 h.2 (omega (arith, h.6.0)) h.6.1, takes 17 h.2 h.3 h.7.0 (omega arith) h.7.2, taken t _ h.3 r (omega (arith, h.8.0)) h.8.1))
      (λ j. step_cond inner c (from ts k) a h.0 j _ _ h.5.0 dots h.4.0
      (cond_found inner c ts k a h.0 j _ s b t h.1 h.2 h.3 r (d < reach b) (d < reach t) h.5.2 (λ i. found b p (with_in c) 2 h.1 h.2 i (omega arith) g.1 h.6.1 (omega arith) (omega arith) two_asked h.6.0 (closed_by (with_in c) (ends b) 2 17 h.2 h.7.0 refl refl (omega arith))) (λ u. omega arith) h.7.0 h.7.2
      (λ i. last_found t p c 2 h.3 r i (omega arith) g.2 h.8.1 (omega arith) (omega arith) two_asked h.8.0 fo (leads.conditional p c l s a b t ts r ca h)) (λ u. omega arith) h.9)) K
  comes_by (member_expr s o (computed_prop_name t e)) r sz g h le fo ba ca ne K =
      let z0 : ends o ≡ 0 = ends_high o (omega (arith, h.2.0)) in
      let gm : goes_expr c (ends o) h.0 ≡ 20 = subst (λ (x : ℕ). goes_expr c x h.0 ≡ 20) (sym z0) (goes_bracket c h.0 h.3.2.0) in
      let ta : tail o ≡ 21 = tail_high o (omega (arith, h.2.0)) in
      after _ o h.0 r (omega arith) g.0 h.2.1 (record { stop = omega arith; calm = λ _ _. calm_by 9 h.0 h.3.2.0 refl; sober = sober_by c 9 h.0 h.3.2.0 refl; quits = λ q. absurd (omega (arith, q, z0)) }) (bare_by o ts h.0 (λ x. omega (arith, x, h.3.2.0))) (omega arith) (omega arith) (omega arith)
      (omega (arith, takes 9 h.0 h.3.0 h.3.2.0 (omega arith) h.3.2.2, taken e _ h.3.0 h.3.1 (omega (arith, h.3.3.0)) h.3.3.1, takes 10 h.3.1 r h.3.4.0 (omega arith) h.3.4.2))
      (λ j. step_index inner c (from ts k) o h.0 j _ _ h.3.2.0 h.2.0 (index_found inner c ts k o h.0 j _ s t e h.3.0 h.3.1 r (d < reach e) h.1 h.3.2.2
      (λ i. found e p (with_in c) 1 h.3.0 h.3.1 i (omega arith) g.1 h.3.3.1 (omega arith) (omega arith) one_asked h.3.3.0 (closed_by (with_in c) (ends e) 1 10 h.3.1 h.3.4.0 refl refl (omega arith))) (λ u. omega arith) h.3.4.0 h.3.4.2 h.3.5 h.4)) K
  comes_by (member_expr s o x) r sz g h le fo ba ca ne K = comes_member s o x r (omega arith) g.0 h le (omega arith) K
  comes_by (tagged_tpl s o (tpl q es qs)) r sz g h le fo ba ca ne K = comes_tagged s q o es qs r (omega arith) (omega arith) g.0 g.1 h le (omega arith) (omega arith) K
  comes_by (tagged_tpl s o q) r sz g h le fo ba ca ne K = absurd h
  comes_by (tpl s es qs) r sz g h le fo ba ca ne K = begin _ r (not_hash 15 h.1.0 refl) le (prefix_template inner c l ts k _ _ h.1.0 (reads_deep (λ u. omega arith) (template_found z d found p c false s es qs ts r k (reaches es) (omega arith) g h (omega arith)))) K
  comes_by (opt_chain_expr s true (member_expr t o (computed_prop_name b e))) r sz g h le fo ba ca ne K = optional_index s t b o e r h (omega arith) (omega arith) g.0 g.1 le ne K
  comes_by (opt_chain_expr s true (member_expr t o x)) r sz g h le fo ba ca ne K = optional_name s t o x (λ m n. ⊥) r h (omega arith) g.0 le (omega arith) K
  comes_by (opt_chain_expr s true (opt_call t f xs)) r sz g h le fo ba ca ne K = optional_call s t f xs r h (omega arith) (omega arith) g.0 g.1 le ne K
  comes_by (opt_chain_expr s false (member_expr t o (computed_prop_name b e))) r sz g h le fo ba ca ne K = chained_index s t b o e (λ m n. ⊥) r h (omega arith) (omega arith) g.0 g.1 le ne K
  comes_by (opt_chain_expr s false (member_expr t o x)) r sz g h le fo ba ca ne K = chained_name s t o x (λ m n. ⊥) r h (omega arith) g.0 le (omega arith) K
  comes_by (opt_chain_expr s false (opt_call t f xs)) r sz g h le fo ba ca ne K = chained_call s t f xs r h (omega arith) (omega arith) g.0 g.1 le ne K
  comes_by (opt_chain_expr s q b) r sz g h le fo ba ca ne K = absurd h
  comes_by (super_prop_expr s (super t) (computed_prop_name q e)) r sz g h le fo ba ca ne K = begin _ r (not_hash 124 h.1.0 refl) le
      (super_index inner c l ts k h.0 _ s t q e h.3.0 h.3.1 r (d < reach e) h.1.0 h.1.1 h.1.3 h.2 h.3.2.0 h.3.2.2 (inside e h.3.0 h.3.1 (omega arith) g h.3.3 h.3.4.0) (λ u. omega arith) h.3.4.0 h.3.4.2 h.3.5 h.4) K
  comes_by (super_prop_expr s (super t) x) r sz g h le fo ba ca ne K = begin (super_prop_expr s (super t) x) r (not_hash 124 h.1.0 refl) le (super_name inner c l ts k h.0 _ (coded p c) s t x r h.1.0 h.1.1 h.1.3 h.2 h.3 h.4) K
  comes_by (super_prop_expr s o x) r sz g h le fo ba ca ne K = absurd h
  comes_by (meta_prop_expr s o) r sz g h le fo ba ca ne K = begin _ r (⊎_elim (λ (e : (o ≡ new_kind) × TakesWord (coded p c) target_kind h.1 r). not_hash 122 (h.2.0 ∙ e.0) refl) (λ (e : (o ≡ import_kind) × TakesWord (coded p c) meta_kind h.1 r). not_hash 128 (h.2.0 ∙ e.0) refl) h.4) le
      (meta_found inner c l ts k ts _ (coded p c) s o r h refl) K
  comes_by (yield_expr s absent q) r sz g h le fo ba ca ne K = begin (yield_expr s absent q) r (not_hash 129 h.1.1.0 refl) le
      (subst (λ (b : Bool). Reads (from ts k) (prefix_by lm inner c l (from ts k)) (Is (yield_expr s absent b) r) (suc d < n)) (sym h.0) (yield_bare inner c l ts k r _ s h.1.1.0 h.1.1.1 h.1.1.3 h.1.0 (leads.idle p c l s q ts r ca h) h.1.2)) K
  comes_by (yield_expr s a q) r sz g h le fo ba ca ne K = comes_yield s a q r h sz g le ne refl fo ca K
  comes_by (array_lit s xs) r sz g h le fo ba ca ne K = begin _ r (not_hash 9 h.1.0 refl) le (prefix_array inner c l ts k s xs h.0 r (d < reaches xs) h.1.0 h.1.2 (λ j. elements_found z d found p c true 10 refl refl refl xs h.0 r j (reaches xs) (omega arith) g h.2 (omega arith)) (λ u. omega arith) h.3) K
  comes_by (call_expr s f xs) r sz g w le fo ba ca ne K = ⊎_elim
      (λ (v : (t : Span) × (f ≡ super t)). comes_super s v.0 xs r (subst (λ (y : Tree). Produces (call_expr s y xs) (coded p c) ts r) v.1 w) (omega arith) g.1 le (omega arith) (subst (λ (y : Tree). On (call_expr s y xs) r) v.1 K))
      (λ o. ⊎_elim (λ (v : (t : Span) × (f ≡ import t)). comes_import s v.0 xs r (subst (λ (y : Tree). Produces (call_expr s y xs) (coded p c) ts r) v.1 w) (omega arith) g.1 le (omega arith) (subst (λ (y : Tree). On (call_expr s y xs) r) v.1 K))
      (λ v. comes_call s f xs r v sz g w le ca ne K) o) (callee_sort f)
  comes_by (paren_expr s e) r sz g h le fo ba ca ne K = begin _ r (not_hash 7 h.2.0 refl) le
      (⊎_elim (λ (q : is_seq e ≡ true). let i = seq_is e q in
      paren_more e i.0 i.1 s h.0 h.1 r i.2 (omega arith) ne (subst (λ (y : Tree). Covered y) i.2 g) (subst (λ (y : Tree). Produces y (coded p (with_in c)) h.0 h.1) i.2 h.3.1) h.2.0 h.2.2 h.4.0 h.4.2 (leads.group p c l s e ts r ca h) h.5)
      (λ (q : is_seq e ≡ false). paren_one e s h.0 h.1 r (omega arith) ne g (two_or e _ h.0 h.1 g h.3.1 h.3.0 q) h.3.1 h.2.0 h.2.2 h.4.0 h.4.2 (leads.group p c l s e ts r ca h) h.5)
      (cases_Bool (is_seq e))) K
  comes_by (new_expr s f absent) r sz g h le fo ba ca ne K = begin _ r (not_hash 122 h.1.0 refl) le
      (let w = callee_of f (coded p c) h.0 r g.0 h.3 h.2 in
      bare_found inner c l ts k s f h.0 r (d < reach f) (suc d < n) h.1.0 h.1.1 h.1.3 (no_dot f (coded p c) h.0 r g.0 w h.3) (λ j. callee_found z ih F leads p c f h.0 r d j (omega arith) g.0 w h.3 (omega (arith, h.4)) (leads.bare_new p c l s f ts r ca h)) (λ u. omega arith) h.2 h.4 h.5) K
  comes_by (new_expr s f (list xs)) r sz g h le fo ba ca ne K = begin _ r (not_hash 122 h.2.0 refl) le
      (let w = callee_of f (coded p c) h.0 h.1 g.0 h.3.1 (inr h.3.0) in
      with_found inner c l ts k s f h.0 h.1 (d < reach f) (suc d < n) xs h.4.0 r (d < reaches xs) h.2.0 h.2.1 h.2.3 (no_dot f (coded p c) h.0 h.1 g.0 w h.3.1)
      (λ j. callee_found z ih firm firm_leads p c f h.0 h.1 d j (omega arith) g.0 w h.3.1 (omega (arith, paren_goes c h.1 h.4.1.0)) (firm_callee f c h.1 w (sober_by c 7 h.1 h.4.1.0 refl))) (λ u. omega arith) h.3.0 h.4.1.0 h.4.1.2
      (λ j. elements_found z d found p c false 8 refl refl refl xs h.4.0 r j (reaches xs) (omega arith) g.1 h.4.2 (omega arith)) (λ u. omega arith) h.5) K
  comes_by (new_expr s f xs) r sz g h le fo ba ca ne K = absurd h
  comes_by (seq_expr s none) r sz g h le fo ba ca ne K = absurd h
  comes_by (seq_expr s (more x none)) r sz g h le fo ba ca ne K = absurd h
  comes_by (seq_expr s (more x (more y ys))) r sz g h le fo ba ca ne K =
      let gm : goes_expr c (ends x) h.0 ≡ 1 = goes_comma c (ends x) h.0 h.2.2.0 in
      firmly z d (ih d) x p c l ts h.0 k W n (omega arith) g.0 h.1.1 one (omega (arith, h.1.0)) (record { stop = omega (arith, gm, tail_stops x 2 1 h.1.0 two_asked (omega arith)); calm = λ _ _. calm_by 14 h.0 h.2.2.0 refl; sober = sober_by c 14 h.0 h.2.2.0 refl; quits = λ q. quits_by 14 h.0 h.2.2.0 refl }) (bare_by x ts h.0 (λ e. omega (arith, e, h.2.2.0))) (record { calm = λ _ _. calm_by 14 h.0 h.2.2.0 refl }) (omega arith)
      (λ j. seq_loop y ys (x ∷ []) x h.0 r j s (λ e v. extended_plain x e v h.1.0) (omega arith) g.1 h.2 fo (leads.sequence p c l s x y ys ts r ca h) (omega arith) le h.3 (subst (λ xs. On (seq_expr s (more x (more y xs))) r) (sym (pack_unpack ys)) K))
  comes_by absent r sz g h le fo ba ca ne K = absurd (omega arith)
  comes_by hole r sz g h le fo ba ca ne K = absurd (omega arith)
  comes_by (ident_name s x) r sz g h le fo ba ca ne K = absurd (omega arith)
  comes_by (private_name s x) r sz g h le fo ba ca ne K = absurd (omega arith)
  comes_by (computed_prop_name s x) r sz g h le fo ba ca ne K = absurd (omega arith)
  comes_by (list xs) r sz g h le fo ba ca ne K = absurd (omega arith)
  comes_by (object_lit s ps) r sz g h le fo ba ca ne K = begin _ r (not_hash 11 h.1.0 refl) le (object_found z d found p c deep l s ps ts h.0 r k (omega arith) g h.1.0 h.1.2 h.2 h.3 (λ u. omega arith)) K
  comes_by (assign_expr s op a b) r sz g h le fo ba ca ne K = ⊎_elim
      (λ (q : is_structured a ≡ true). comes_pattern s op a b r (omega arith) (omega arith) g.0 g.1 h q le (omega arith) fo ca K)
      (λ (q : is_structured a ≡ false). comes_simple s op a b r (omega arith) (omega arith) g.0 g.1 h q le (omega arith) fo ca K) (cases_Bool (is_structured a))
  comes_by (arrow_expr s ps (block_stmt b ss) i) r sz g h le fo ba ca ne K = comes_arrow i s ps (block_stmt b ss) h.0 r h.1 (block_read i b ss h.1.1 h.0 r (omega arith) h.1.4 h.1.5 h.2) h.3 (omega arith) g.0 le ne K
  comes_by (arrow_expr s ps e i) r sz g h le fo ba ca ne K = comes_concise s ps e i r h sz g le ne refl fo ca K
  comes_by (binding_ident s i) r sz g h le fo ba ca ne K = absurd (omega arith)
  comes_by (array_pat s xs) r sz g h le fo ba ca ne K = absurd (omega arith)
  comes_by (object_pat s ps) r sz g h le fo ba ca ne K = absurd (omega arith)
  comes_by (assign_pat s a e) r sz g h le fo ba ca ne K = absurd (omega arith)
  comes_by (rest_pat s d a) r sz g h le fo ba ca ne K = absurd (omega arith)
  comes_by (key_value_pat_prop s k a) r sz g h le fo ba ca ne K = absurd (omega arith)
  comes_by (assign_pat_prop s k e) r sz g h le fo ba ca ne K = absurd (omega arith)
  comes_by (expr_pat e) r sz g h le fo ba ca ne K = absurd (omega arith)
  comes_by (key_value_prop s x v) r sz g h le fo ba ca ne K = absurd (omega arith)
  comes_by (assign_prop s x v) r sz g h le fo ba ca ne K = absurd (omega arith)
  comes_by (spread_element s v) r sz g h le fo ba ca ne K = absurd (omega arith)
  comes_by (opt_call s f xs) r sz g h le fo ba ca ne K = absurd (omega arith)
  comes_by (super s) r sz g h le fo ba ca ne K = absurd (omega arith)
  comes_by (import s) r sz g h le fo ba ca ne K = absurd (omega arith)
  comes_by (expr_or_spread s i e) r sz g h le fo ba ca ne K = absurd (omega arith)
  comes_by (fn_expr s x f) r sz g h le fo ba ca ne K = begin (fn_expr s x f) r (word_no_hash (function_word s x f (coded p c) ts r h)) le (reads_deep (λ u. omega arith) (deep.functions s x f p c l ts r k sz h)) K
  comes_by (class_expr s x q) r sz g h le fo ba ca ne K = begin (class_expr s x q) r (not_hash class_kind h.2.0 refl) le (reads_deep (λ u. omega arith) (deep.classes s x q p c l ts r k sz h)) K
  comes_by _ r sz g h le fo ba ca ne K = absurd (omega arith)

pub comes_none : (d : ℕ) → Comes zero d
comes_none d F leads t p c l ts r k W n sz g h one le fo ba ca ne K = absurd (omega arith)

-- One step of the induction on the size of a tree: trees so large come to the loop where smaller ones do, and what is nested in them is read.
pub comes_next : (z d : ℕ) → ((e : ℕ) → Comes z e) → Deep z d → Comes (suc z) d
comes_next z d ih deep F leads t p c l ts r k W n sz g h one le fo ba ca ne K = comes_by z d ih deep F leads p c l ts k W n one t r sz g h le fo ba ca ne K

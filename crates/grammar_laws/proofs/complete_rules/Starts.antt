-- How expressions, patterns and statements start.
use Rattle.std.proofs.Common.{◌≡◌, ℕ, ◌≤◌, ◌⊎◌, inl, inr, Bool, true, false, not, ◌&&◌, ◌||◌, ◌==◌, eqb, leb, List, refl, sym, ap, ◌∙◌, subst, ⊎_elim, true≢false, arith}
use Rattle.std.proofs.lemmas.Bool.{eqb-true, ne_eqb, eq-eqb, cases_Bool, leb-true, or_cases, or_left, or_right, or_parts, and_parts, and_from}
use Rattle.base_token.specs.declared.context.Context.{Context}
use Rattle.base_token.specs.declared.place.Span.{Span}
use Rattle.base_token.specs.Kinds.{hash_kind, bang_kind, arrow_kind, dot_kind, left_paren_kind, left_bracket_kind, left_brace_kind, back_quote_kind, question_mark_kind, comma_kind, semicolon_kind, plus_plus_kind, str_kind, num_kind, regex_kind, big_int_kind, add_kind, sub_kind, this_kind, null_kind, true_kind, false_kind, await_kind, new_kind, super_kind, class_kind, import_kind, function_kind, typeof_kind, delete_kind, yield_kind, let_kind, using_kind, async_kind, break_kind, continue_kind, debugger_kind, do_kind, for_kind, if_kind, return_kind, switch_kind, throw_kind, try_kind, var_kind, const_kind, while_kind, with_kind}
use Rattle.tree_spec.specs.Tree.{Tree, Trees, none, more, block_stmt, empty_stmt, debugger_stmt, with_stmt, return_stmt, labeled_stmt, break_stmt, continue_stmt, if_stmt, switch_stmt, throw_stmt, try_stmt, while_stmt, do_while_stmt, for_stmt, for_in_stmt, for_of_stmt, expr_stmt, class_decl, fn_decl, var_decl, using_decl, function, this_expr, array_lit, object_lit, fn_expr, unary_expr, update_expr, bin_expr, assign_expr, member_expr, super_prop_expr, cond_expr, call_expr, new_expr, seq_expr, ident, tpl, tagged_tpl, arrow_expr, class_expr, yield_expr, meta_prop_expr, await_expr, paren_expr, opt_chain_expr, opt_call, super, import, str_lit, bool_lit, null_lit, number_lit, big_int_lit, regex_lit, binding_ident, array_pat, object_pat, expr_pat, private_name, computed_prop_name, list, absent}
use Rattle.grammar_spec.specs.Tokens.Input.{Input, Code, kind, rest, is_word, always_reserved, operator_word, assigning, text, lo, span, first_span}
use Rattle.grammar_spec.specs.Tokens.Operators.{between, may_name, operates, is_assign_op}
use Rattle.grammar_spec.specs.Tokens.Shape.{level, is_binding, is_place, is_bound_name, is_target_expr, is_simple, is_structured, is_target, is_chain, is_private, is_item, fits_left}
use Rattle.grammar_spec.specs.Children.{is_ident}
use Rattle.grammar_spec.specs.Statements.{is_var_word}
use Rattle.grammar_spec.specs.Functions.{ArrowHead, ArrowParameters}
use Rattle.grammar_spec.specs.Grammar.{Produces, children}
use Rattle.grammar_laws.proofs.complete_base.Yields.{IsName}
use Rattle.grammar_laws.proofs.complete_base.Levels.{binary_cases, binary_four, operated, fits}
use Rattle.grammar_laws.proofs.complete_base.Trees.{by_unary, by_update}

-- ---- kinds of tokens

-- the kinds that start an expression, or a target
abbrev pub opens : ℕ → Bool
opens k = may_name k || (between null_kind false_kind k || ((k == function_kind) || (between new_kind class_kind k || ((k == import_kind) || (between typeof_kind delete_kind k || ((k == hash_kind) || ((k == bang_kind) || ((k == left_paren_kind)
    || ((k == left_bracket_kind) || ((k == left_brace_kind) || ((k == back_quote_kind) || (between plus_plus_kind big_int_kind k || between add_kind sub_kind k))))))))))))

-- what may go on after a name, so that the name starts no declaration
abbrev pub tame : ℕ → Bool
tame k = not (may_name k || (k == left_brace_kind))

-- a name that may start a declaration
abbrev pub leads : ℕ → Bool
leads k = (k == let_kind) || (k == using_kind)

-- after a first name the tree ends, or goes on so
abbrev pub After : Input → Input → Type 0
After m r = (m ≡ r) ⊎ (tame (kind m) ≡ true)

-- the tree is one name
abbrev pub one_name : Tree → Bool
one_name (ident s n) = true
one_name (binding_ident s i) = true
one_name (expr_pat e) = one_name e
one_name _ = false

abbrev pub Names : Tree → Input → Input → Type 0
Names t m r = ((m ≡ r) × (one_name t ≡ true)) ⊎ (tame (kind m) ≡ true)

pub named_after : (t : Tree) (m r : Input) → Names t m r → After m r
named_after t m r (inl h) = inl h.0
named_after t m r (inr h) = inr h

-- what stands after `import` in an expression
abbrev pub called : ℕ → Bool
called k = (k == left_paren_kind) || (k == dot_kind)

-- How a tree starts: with one of these kinds; what stands after a first name that may start a declaration, the same after `await`, and after
-- `import`.
pub record Opening (x : Context) (t : Tree) (ts r : Input) : Type 0 where
  pub first : opens (kind ts) ≡ true
  pub second : leads (kind ts) ≡ true → Names t (rest ts) r
  pub third : kind ts ≡ await_kind → x.in_async ≡ true → kind (rest ts) ≡ using_kind → After (rest (rest ts)) r
  pub imports : kind ts ≡ import_kind → called (kind (rest ts)) ≡ true

after_on : (x m r : Input) → After x m → tame (kind m) ≡ true → After x r
after_on x m r (inl e) h = inr (subst (λ (y : Input). tame (kind y) ≡ true) (sym e) h)
after_on x m r (inr e) h = inr e

names_on : (t a : Tree) (x m r : Input) → Names a x m → tame (kind m) ≡ true → Names t x r
names_on t a x m r (inl e) h = inr (subst (λ (y : Input). tame (kind y) ≡ true) (sym e.0) h)
names_on t a x m r (inr e) h = inr e

-- what a tree goes on with after its first part
extend : (x : Context) {t a : Tree} (ts m r : Input) → Opening x a ts m → tame (kind m) ≡ true → Opening x t ts r
extend x {t = t} {a = a} ts m r o h = record { first = o.first; second = λ e. names_on t a (rest ts) m r (o.second e) h; third = λ e a u. after_on (rest (rest ts)) m r (o.third e a u) h; imports = o.imports }

at : (P : ℕ → Bool) (ts : Input) (k : ℕ) → kind ts ≡ k → P k ≡ true → P (kind ts) ≡ true
at P ts k e h = subst (λ (k : ℕ). P k ≡ true) (sym e) h

extend_at : (k : ℕ) (x : Context) {t a : Tree} (ts m r : Input) → Opening x a ts m → kind m ≡ k → tame k ≡ true → Opening x t ts r
extend_at k x ts m r o e h = extend x ts m r o (at tame m k e h)

-- a token that is no such name
plainly : (x : Context) {t : Tree} (ts r : Input) (k : ℕ) → kind ts ≡ k → opens k ≡ true → leads k ≡ false → eqb k await_kind ≡ false → eqb k import_kind ≡ false → Opening x t ts r
plainly x ts r k e o l a i = record { first = at opens ts k e o; second = λ h. absurd (true≢false (sym h ∙ ap leads e ∙ l)); third = λ h _ _. absurd (true≢false (sym (eq-eqb k await_kind (sym e ∙ h)) ∙ a)); imports = λ h. absurd (true≢false (sym (eq-eqb k import_kind (sym e ∙ h)) ∙ i)) }

importing : (x : Context) {t : Tree} (ts m r : Input) → kind ts ≡ import_kind → rest ts ≡ m → called (kind m) ≡ true → Opening x t ts r
importing x ts m r e q h = record { first = at opens ts import_kind e refl; second = λ y. absurd (true≢false (sym y ∙ ap leads e)); third = λ y _ _. absurd (omega (arith, y, e)); imports = λ _. subst (λ (y : Input). called (kind y) ≡ true) (sym q) h }

not_reserved : (c : Code) (ts : Input) → IsName c ts → always_reserved (kind ts) ≡ false
not_reserved c ts n = (or_parts (always_reserved (kind ts)) (operator_word c.context (kind ts)) n.1).0

pub name_may : (c : Code) (ts : Input) → IsName c ts → may_name (kind ts) ≡ true
name_may c ts n = and_from (is_word (kind ts)) _ n.0 (ap not (not_reserved c ts n))

pub may_opens : (k : ℕ) → may_name k ≡ true → opens k ≡ true
may_opens k h = or_left (may_name k) _ h

name_opening : (c : Code) {t : Tree} (ts m r : Input) → IsName c ts → rest ts ≡ m → Names t m r → Opening c.context t ts r
name_opening c {t = t} ts m r n q a = record { first = may_opens (kind ts) (name_may c ts n); second = λ h. subst (λ (y : Input). Names t y r) (sym q) a; third = λ h y _. absurd (no_await h y); imports = λ h. absurd (true≢false (sym (ap always_reserved h) ∙ not_reserved c ts n)) }
  where
    no_await : kind ts ≡ await_kind → c.context.in_async ≡ true → ⊥
    no_await h y =
        let o = (or_parts (always_reserved (kind ts)) (operator_word c.context (kind ts)) n.1).1 in
        let u = (or_parts ((kind ts == yield_kind) && c.context.in_generator) _ o).1 in
        true≢false (sym (and_from (kind ts == await_kind) _ (eq-eqb (kind ts) await_kind h) (or_left c.context.in_async _ y)) ∙ u)

-- ---- what opens

-- an expression, or what may stand as a target
abbrev pub opener : Tree → Bool
opener (this_expr s) = true
opener (array_lit s xs) = true
opener (object_lit s ps) = true
opener (fn_expr s n f) = true
opener (unary_expr s op a) = true
opener (update_expr s op b a) = true
opener (bin_expr s op a b) = true
opener (assign_expr s op a b) = true
opener (member_expr s o p) = true
opener (super_prop_expr s o p) = true
opener (cond_expr s a b d) = true
opener (call_expr s f xs) = true
opener (new_expr s f xs) = true
opener (seq_expr s xs) = true
opener (ident s n) = true
opener (tpl s es qs) = true
opener (tagged_tpl s t q) = true
opener (arrow_expr s ps b i) = true
opener (class_expr s n k) = true
opener (yield_expr s a g) = true
opener (meta_prop_expr s k) = true
opener (await_expr s a) = true
opener (paren_expr s e) = true
opener (opt_chain_expr s o b) = true
opener (str_lit s u w) = true
opener (bool_lit s v) = true
opener (null_lit s) = true
opener (number_lit s v w) = true
opener (big_int_lit s r d w) = true
opener (regex_lit s e f) = true
opener (binding_ident s i) = true
opener (array_pat s xs) = true
opener (object_pat s ps) = true
opener (expr_pat e) = opener e
opener (private_name s n) = true
opener _ = false

pub level_opener : (t : Tree) → 1 ≤ level t → opener t ≡ true
level_opener (this_expr s) h = refl
level_opener (array_lit s xs) h = refl
level_opener (object_lit s ps) h = refl
level_opener (fn_expr s n f) h = refl
level_opener (unary_expr s op a) h = refl
level_opener (update_expr s op b a) h = refl
level_opener (bin_expr s op a b) h = refl
level_opener (assign_expr s op a b) h = refl
level_opener (member_expr s o p) h = refl
level_opener (super_prop_expr s o p) h = refl
level_opener (cond_expr s a b d) h = refl
level_opener (call_expr s f xs) h = refl
level_opener (new_expr s f xs) h = refl
level_opener (seq_expr s xs) h = refl
level_opener (ident s n) h = refl
level_opener (tpl s es qs) h = refl
level_opener (tagged_tpl s t q) h = refl
level_opener (arrow_expr s ps b i) h = refl
level_opener (class_expr s n k) h = refl
level_opener (yield_expr s a g) h = refl
level_opener (meta_prop_expr s k) h = refl
level_opener (await_expr s a) h = refl
level_opener (paren_expr s e) h = refl
level_opener (opt_chain_expr s o b) h = refl
level_opener (str_lit s u w) h = refl
level_opener (bool_lit s v) h = refl
level_opener (null_lit s) h = refl
level_opener (number_lit s v w) h = refl
level_opener (big_int_lit s r d w) h = refl
level_opener (regex_lit s e f) h = refl
level_opener _ h = absurd (omega arith)

target_expr_opener : (t : Tree) → is_target_expr t ≡ true → opener t ≡ true
target_expr_opener (member_expr s o k) h = refl
target_expr_opener (super_prop_expr s o k) h = refl
target_expr_opener (paren_expr s e) h = refl
target_expr_opener _ h = absurd (true≢false (sym h))

bound_opener : (t : Tree) → is_bound_name t ≡ true → opener t ≡ true
bound_opener (binding_ident s i) h = refl
bound_opener _ h = absurd (true≢false (sym h))

structured_opener : (t : Tree) → is_structured t ≡ true → opener t ≡ true
structured_opener (array_pat s xs) h = refl
structured_opener (object_pat s xs) h = refl
structured_opener _ h = absurd (true≢false (sym h))

target_opener : (op : ℕ) (t : Tree) → is_target op t ≡ true → opener t ≡ true
target_opener op t h = ⊎_elim (bound_opener t) (λ h. ⊎_elim (λ h. target_expr_opener t (and_parts (is_target_expr t) _ h).0) (λ h. structured_opener t (and_parts _ (is_structured t) h).1) (or_cases (is_target_expr t && is_simple t) _ h)) (or_cases (is_bound_name t) _ h)

pub place_opener : (t : Tree) → is_place false t ≡ true → opener t ≡ true
place_opener (binding_ident s i) h = refl
place_opener (array_pat s xs) h = refl
place_opener (object_pat s xs) h = refl
place_opener (expr_pat e) h = target_expr_opener e (and_parts (is_target_expr e) _ h).0
place_opener _ h = absurd (true≢false (sym h))

private_opener : (t : Tree) → is_private t ≡ true → opener t ≡ true
private_opener (private_name s n) h = refl
private_opener _ h = absurd (true≢false (sym h))

left_opener : (c : Code) (op : ℕ) (a : Tree) → operates c op ≡ true → fits_left op a ≡ true → opener a ≡ true
left_opener c op a o h = by_sort (cases_Bool (is_private a))
  where
    by_sort : (is_private a ≡ true) ⊎ (is_private a ≡ false) → opener a ≡ true
    by_sort (inl e) = private_opener a e
    by_sort (inr e) = let b = operated c op o in level_opener a (omega (arith, binary_four op b, (fits op a e b h).0))

chain_opener : (t : Tree) → is_chain t ≡ true → opener t ≡ true
chain_opener (opt_chain_expr s o b) h = refl
chain_opener _ h = absurd (true≢false (sym h))

-- ---- what a tree starts with, and what may follow its first name

tame_binary : (c : Code) (op : ℕ) → operates c op ≡ true → tame op ≡ true
tame_binary c op h = binary_cases op (tame op ≡ true) (operated c op h) (λ a b. ap not (or_off (may_name op) (eqb op left_brace_kind) (and_off (is_word op) _ (over op a b)) (ne_eqb op left_brace_kind (λ e. omega (arith, e)))))
    (λ e. subst (λ (o : ℕ). tame o ≡ true) (sym e) refl) (λ e. subst (λ (o : ℕ). tame o ≡ true) (sym e) refl)
  where
    or_off : (a b : Bool) → a ≡ false → b ≡ false → (a || b) ≡ false
    or_off true b e h = absurd (true≢false e)
    or_off false b e h = h

    and_off : (a b : Bool) → a ≡ false → (a && b) ≡ false
    and_off true b e = absurd (true≢false e)
    and_off false b e = refl

    over : (k : ℕ) → 30 ≤ k → k ≤ 52 → is_word k ≡ false
    over k a b = ⊎_elim (λ (h : is_word k ≡ true). let w : 80 ≤ k = leb-true 80 k h in absurd (omega arith)) (λ h. h) (cases_Bool (is_word k))

tame_assign : (op : ℕ) → is_assign_op op ≡ true → tame op ≡ true
tame_assign op h = let y = and_parts (leb 60 op) (leb op 75) h in let a = leb-true 60 op y.0 in let b = leb-true op 75 y.1 in
    ap not (or_off (may_name op) (eqb op left_brace_kind) (and_off (is_word op) _ (over a b)) (ne_eqb op left_brace_kind (λ e. omega (arith, e, a))))
  where
    or_off : (a b : Bool) → a ≡ false → b ≡ false → (a || b) ≡ false
    or_off true b e h = absurd (true≢false e)
    or_off false b e h = h

    and_off : (a b : Bool) → a ≡ false → (a && b) ≡ false
    and_off true b e = absurd (true≢false e)
    and_off false b e = refl

    over : 60 ≤ op → op ≤ 75 → is_word op ≡ false
    over a b = ⊎_elim (λ (h : is_word op ≡ true). let w : 80 ≤ op = leb-true 80 op h in absurd (omega arith)) (λ h. h) (cases_Bool (is_word op))

arrow_opening : (i : Bool) (ps : Trees) (c : Code) {t : Tree} (ts m r : Input) → ArrowHead i c (children ps) ts m → Opening c.context t ts r
arrow_opening true ps c {t = t} ts m r h = plainly c.context ts r async_kind h.2.0.0 refl refl refl refl
arrow_opening false ps c {t = t} ts m r h = by_params ps h.3
  where
    here : kind ts ≡ left_paren_kind → Opening c.context t ts r
    here e = plainly c.context ts r left_paren_kind e refl refl refl refl

    named : (x : Tree) → (is_bound_name x ≡ true) × Produces x c h.0 h.1 → Opening c.context t ts r
    named (binding_ident q (ident u y)) z = subst (λ (w : Input). Opening c.context t w r) (sym h.2)
        (name_opening c h.0 h.1 r (z.1.1.0.0, z.1.1.0.1, z.1.1.0.2) z.1.1.0.5 (inr (at tame h.1 arrow_kind h.5.0 refl)))
    named (binding_ident q _) z = absurd z.1
    named _ z = absurd (true≢false (sym z.0))

    by_params : (ps : Trees) → ArrowParameters c (children ps) h.0 h.1 → Opening c.context t ts r
    by_params none (inl z) = absurd z
    by_params (more x xs) (inl z) = named x z.1
    by_params ps (inr z) = here (ap (λ (w : Input). kind w) h.2 ∙ z.1.0)

pub opening : (t : Tree) (c : Code) (ts r : Input) → opener t ≡ true → Produces t c ts r → Opening c.context t ts r
opening (this_expr s) c ts r l h = plainly c.context ts r this_kind h.0.0 refl refl refl refl
opening (null_lit s) c ts r l h = plainly c.context ts r null_kind h.0.0 refl refl refl refl
opening (bool_lit s true) c ts r l h = plainly c.context ts r true_kind h.0.0 refl refl refl refl
opening (bool_lit s false) c ts r l h = plainly c.context ts r false_kind h.0.0 refl refl refl refl
opening (ident s n) c ts r l h = name_opening c ts r r (h.0.0, h.0.1, h.0.2) h.0.5 (inl (refl, refl))
opening (binding_ident s (ident t n)) c ts r l h = name_opening c ts r r (h.1.0.0, h.1.0.1, h.1.0.2) h.1.0.5 (inl (refl, refl))
opening (binding_ident s _) c ts r l h = absurd h
opening (str_lit s u w) c ts r l h = plainly c.context ts r str_kind h.3.0 refl refl refl refl
opening (number_lit s u w) c ts r l h = plainly c.context ts r num_kind h.3.0 refl refl refl refl
opening (big_int_lit s b u w) c ts r l h = plainly c.context ts r big_int_kind h.3.0 refl refl refl refl
opening (regex_lit s u w) c ts r l h = plainly c.context ts r regex_kind h.1.0 refl refl refl refl
opening (array_lit s xs) c ts r l h = plainly c.context ts r left_bracket_kind h.1.0 refl refl refl refl
opening (object_lit s xs) c ts r l h = plainly c.context ts r left_brace_kind h.1.0 refl refl refl refl
opening (array_pat s xs) c ts r l h = plainly c.context ts r left_bracket_kind h.1.0 refl refl refl refl
opening (object_pat s xs) c ts r l h = plainly c.context ts r left_brace_kind h.1.0 refl refl refl refl
opening (tpl s es qs) c ts r l h = plainly c.context ts r back_quote_kind h.1.0 refl refl refl refl
opening (paren_expr s e) c ts r l h = plainly c.context ts r left_paren_kind h.2.0 refl refl refl refl
opening (fn_expr s n (function t ps ds b g true)) c ts r l h = plainly c.context ts r async_kind h.2.2.0.0 refl refl refl refl
opening (fn_expr s n (function t ps ds b g false)) c ts r l h = plainly c.context ts r function_kind (ap (λ (w : Input). kind w) h.2.2 ∙ h.2.3.0) refl refl refl refl
opening (fn_expr s n _) c ts r l h = absurd h
opening (class_expr s n k) c ts r l h = plainly c.context ts r class_kind h.2.0 refl refl refl refl
opening (unary_expr s op a) c ts r l h = plainly c.context ts r op h.2.0 (by_unary op (λ o. opens o ≡ true) h.1 refl refl refl refl refl refl refl) (by_unary op (λ o. leads o ≡ false) h.1 refl refl refl refl refl refl refl)
    (by_unary op (λ o. eqb o await_kind ≡ false) h.1 refl refl refl refl refl refl refl) (by_unary op (λ o. eqb o import_kind ≡ false) h.1 refl refl refl refl refl refl refl)
opening (update_expr s op true a) c ts r l h = plainly c.context ts r op h.2.0 (by_update op (λ o. opens o ≡ true) h.1 refl refl) (by_update op (λ o. leads o ≡ false) h.1 refl refl) (by_update op (λ o. eqb o await_kind ≡ false) h.1 refl refl) (by_update op (λ o. eqb o import_kind ≡ false) h.1 refl refl)
opening (update_expr s op false a) c ts r l h = extend_at op c.context ts h.0 r (opening a (assigning c) ts h.0 (level_opener a (omega (arith, h.2.0))) h.2.1) h.4.0 (by_update op (λ o. tame o ≡ true) h.1 refl refl)
opening (await_expr s a) c ts r l h = let o = opening a (assigning c) h.0 r (level_opener a (omega (arith, h.3.0))) h.3.1 in
    record { first = at opens ts await_kind h.2.0 refl; second = λ e. absurd (true≢false (sym e ∙ ap leads h.2.0)); third = λ e y u. subst (λ (w : Input). After (rest w) r) (sym h.2.3) (named_after a (rest h.0) r (o.second (at leads h.0 using_kind (sym (ap (λ (w : Input). kind w) h.2.3) ∙ u) refl))); imports = λ e. absurd (omega (arith, e, h.2.0)) }
opening (bin_expr s op a b) c ts r l h = extend_at op c.context ts h.0 r (opening a (assigning c) ts h.0 (left_opener c op a h.2 h.3) h.4) h.5.0 (tame_binary c op h.2)
opening (cond_expr s a b d) c ts r l h = extend_at question_mark_kind c.context ts h.0 r (opening a (assigning c) ts h.0 (level_opener a (omega (arith, h.4.0))) h.4.1) h.5.0 refl
opening (assign_expr s op a b) c ts r l h = extend_at op c.context ts h.0 r (opening a (assigning c) ts h.0 (target_opener op a h.3) h.4) h.5.0 (tame_assign op h.2)
opening (seq_expr s none) c ts r l h = absurd h
opening (seq_expr s (more x none)) c ts r l h = absurd h
opening (seq_expr s (more x (more y ys))) c ts r l h = extend_at comma_kind c.context ts h.0 r (opening x (assigning c) ts h.0 (level_opener x (omega (arith, h.1.0))) h.1.1) h.2.2.0 refl
opening (arrow_expr s ps (block_stmt b ss) i) c ts r l h = arrow_opening i ps c ts h.0 r h.1
opening (arrow_expr s ps e i) c ts r l h = arrow_opening i ps c ts h.0 r h.1
opening (yield_expr s absent g) c ts r l h = plainly c.context ts r yield_kind h.1.1.0 refl refl refl refl
opening (yield_expr s a true) c ts r l h = plainly c.context ts r yield_kind h.3.0 refl refl refl refl
opening (yield_expr s a false) c ts r l h = plainly c.context ts r yield_kind h.2.0 refl refl refl refl
opening (new_expr s f absent) c ts r l h = plainly c.context ts r new_kind h.1.0 refl refl refl refl
opening (new_expr s f (list xs)) c ts r l h = plainly c.context ts r new_kind h.2.0 refl refl refl refl
opening (new_expr s f _) c ts r l h = absurd h
opening (meta_prop_expr s k) c ts r l h = ⊎_elim (λ q. plainly c.context ts r new_kind (h.2.0 ∙ q.0) refl refl refl refl) (λ q. importing c.context ts h.0 r (h.2.0 ∙ q.0) h.2.3 (or_right (kind h.0 == left_paren_kind) _ (eq-eqb (kind h.0) dot_kind h.3.0))) h.4
opening (super_prop_expr s (super t) (computed_prop_name q e)) c ts r l h = plainly c.context ts r super_kind h.1.0 refl refl refl refl
opening (super_prop_expr s (super t) k) c ts r l h = plainly c.context ts r super_kind h.1.0 refl refl refl refl
opening (super_prop_expr s _ k) c ts r l h = absurd h
opening (member_expr s o (computed_prop_name t e)) c ts r l h = extend_at left_bracket_kind c.context ts h.0 r (opening o (assigning c) ts h.0 (level_opener o (omega (arith, h.2.0))) h.2.1) h.3.2.0 refl
opening (member_expr s o k) c ts r l h = extend_at dot_kind c.context ts h.0 r (opening o (assigning c) ts h.0 (level_opener o (omega (arith, h.2.0))) h.2.1) h.3.1.0 refl
opening (call_expr s (super t) xs) c ts r l h = plainly c.context ts r super_kind h.1.0 refl refl refl refl
opening (call_expr s (import t) xs) c ts r l h = importing c.context ts h.0 r h.2.0 h.2.3 (or_left (kind h.0 == left_paren_kind) _ (eq-eqb (kind h.0) left_paren_kind h.4.0))
opening (call_expr s f xs) c ts r l h = extend_at left_paren_kind c.context ts h.0 r (opening f (assigning c) ts h.0 (level_opener f (omega (arith, h.2.0))) h.2.1) h.3.1.0 refl
opening (tagged_tpl s t (tpl q es qs)) c ts r l h = extend_at back_quote_kind c.context ts h.0 r (opening t (assigning c) ts h.0 (level_opener t (omega (arith, h.2.0))) h.2.1) h.3.1.0 refl
opening (tagged_tpl s t _) c ts r l h = absurd h
opening (opt_chain_expr s true (member_expr t o (computed_prop_name b e))) c ts r l h = extend_at question_mark_kind c.context ts h.0 r (opening o (assigning c) ts h.0 (level_opener o (omega (arith, h.2.0))) h.2.1) h.3.1.0 refl
opening (opt_chain_expr s true (member_expr t o k)) c ts r l h = extend_at question_mark_kind c.context ts h.0 r (opening o (assigning c) ts h.0 (level_opener o (omega (arith, h.2.0))) h.2.1) h.3.1.0 refl
opening (opt_chain_expr s false (member_expr t o (computed_prop_name b e))) c ts r l h = extend_at left_bracket_kind c.context ts h.0 r (opening o (assigning c) ts h.0 (chain_opener o h.1) h.2) h.3.2.0 refl
opening (opt_chain_expr s false (member_expr t o k)) c ts r l h = extend_at dot_kind c.context ts h.0 r (opening o (assigning c) ts h.0 (chain_opener o h.1) h.2) h.3.1.0 refl
opening (opt_chain_expr s true (opt_call t f xs)) c ts r l h = extend_at question_mark_kind c.context ts h.0 r (opening f (assigning c) ts h.0 (level_opener f (omega (arith, h.2.0))) h.2.1) h.3.1.0 refl
opening (opt_chain_expr s false (opt_call t f xs)) c ts r l h = extend_at left_paren_kind c.context ts h.0 r (opening f (assigning c) ts h.0 (chain_opener f h.1) h.2) h.3.1.0 refl
opening (opt_chain_expr s q _) c ts r l h = absurd h
opening (expr_pat e) c ts r l h = let o = opening e c ts r l h.1 in record { first = o.first; second = o.second; third = o.third; imports = o.imports }
opening (private_name s n) c ts r l h = plainly c.context ts r hash_kind h.1.0 refl refl refl refl
opening _ c ts r l h = absurd (true≢false (sym l))

-- ---- names

-- A name as a part of a node: where it stands, how it is spelled, and what follows it.
pub ident_is : (t : Tree) (c : Code) (ts r : Input) → is_ident t ≡ true → Produces t c ts r → (x : List ℕ) × (t ≡ ident (first_span ts) x) × IsName c ts × (text ts ≡ x) × (rest ts ≡ r)
ident_is (ident q x) c ts r i h = (x, ap (λ (y : Span). ident y x) (h.1 ∙ sym (ap (λ (z : Input). span (lo ts) z.last) h.0.5)), (h.0.0, h.0.1, h.0.2), h.0.3, h.0.5)
ident_is _ c ts r i h = absurd (true≢false (sym i))

-- ---- names and patterns that bind

-- what starts a name or a pattern
abbrev pub starts_binding : ℕ → Bool
starts_binding k = may_name k || ((k == left_bracket_kind) || (k == left_brace_kind))

pub binding_starts : (t : Tree) (c : Code) (ts r : Input) → is_binding t ≡ true → Produces t c ts r → starts_binding (kind ts) ≡ true
binding_starts (binding_ident s (ident q x)) c ts r i h = or_left (may_name (kind ts)) _ (name_may c ts (h.1.0.0, h.1.0.1, h.1.0.2))
binding_starts (binding_ident s _) c ts r i h = absurd h
binding_starts (array_pat s xs) c ts r i h = subst (λ (k : ℕ). starts_binding k ≡ true) (sym h.1.0) refl
binding_starts (object_pat s xs) c ts r i h = subst (λ (k : ℕ). starts_binding k ≡ true) (sym h.1.0) refl
binding_starts _ c ts r i h = absurd (true≢false (sym i))

-- ---- statements

-- the words that start a statement and no expression
abbrev pub stmt_word : ℕ → Bool
stmt_word k = (k == if_kind) || ((k == return_kind) || ((k == for_kind) || ((k == while_kind) || ((k == do_kind) || ((k == switch_kind) || ((k == try_kind) || ((k == throw_kind) || ((k == break_kind) || ((k == continue_kind)
    || ((k == with_kind) || ((k == debugger_kind) || ((k == var_kind) || (k == const_kind)))))))))))))

-- the kinds that start a statement or a declaration
abbrev pub opens_item : ℕ → Bool
opens_item k = opens k || ((k == semicolon_kind) || stmt_word k)

item_of : (k : ℕ) → opens k ≡ true → opens_item k ≡ true
item_of k h = or_left (opens k) _ h

var_opens : (k : ℕ) → is_var_word k ≡ true → opens_item k ≡ true
var_opens k h = ⊎_elim (λ (e : eqb k var_kind ≡ true). of var_kind e refl) (λ h. ⊎_elim (λ (e : eqb k let_kind ≡ true). of let_kind e refl) (λ (e : eqb k const_kind ≡ true). of const_kind e refl) (or_cases (eqb k let_kind) _ h)) (or_cases (eqb k var_kind) _ h)
  where
    of : (n : ℕ) → eqb k n ≡ true → opens_item n ≡ true → opens_item k ≡ true
    of n e h = subst (λ (k : ℕ). opens_item k ≡ true) (sym (eqb-true k n e)) h

pub item_opens : (t : Tree) (c : Code) (ts r : Input) → is_item t ≡ true → Produces t c ts r → opens_item (kind ts) ≡ true
item_opens (block_stmt s ss) c ts r i h = at opens_item ts left_brace_kind h.1.0 refl
item_opens (empty_stmt s) c ts r i h = at opens_item ts semicolon_kind h.0.0 refl
item_opens (debugger_stmt s) c ts r i h = at opens_item ts debugger_kind h.1.0 refl
item_opens (with_stmt s o b) c ts r i h = at opens_item ts with_kind h.2.0 refl
item_opens (return_stmt s a) c ts r i h = at opens_item ts return_kind h.1.0 refl
item_opens (labeled_stmt s l b) c ts r i h = let n = ident_is l c ts h.0 h.2.0 h.2.1 in item_of (kind ts) (may_opens (kind ts) (name_may c ts n.2))
item_opens (break_stmt s l) c ts r i h = at opens_item ts break_kind h.2.0 refl
item_opens (continue_stmt s l) c ts r i h = at opens_item ts continue_kind h.2.0 refl
item_opens (if_stmt s t a b) c ts r i h = at opens_item ts if_kind h.3.0 refl
item_opens (switch_stmt s e xs) c ts r i h = at opens_item ts switch_kind h.3.0 refl
item_opens (throw_stmt s e) c ts r i h = at opens_item ts throw_kind h.2.0 refl
item_opens (try_stmt s b x f) c ts r i h = at opens_item ts try_kind h.4.0 refl
item_opens (while_stmt s t b) c ts r i h = at opens_item ts while_kind h.2.0 refl
item_opens (do_while_stmt s t b) c ts r i h = at opens_item ts do_kind h.4.0 refl
item_opens (for_stmt s (var_decl v k ds) t u b) c ts r i h = at opens_item ts for_kind h.3.1.0 refl
item_opens (for_stmt s (using_decl v w ds) t u b) c ts r i h = at opens_item ts for_kind h.3.1.0 refl
item_opens (for_stmt s x t u b) c ts r i h = at opens_item ts for_kind h.3.1.0 refl
item_opens (for_in_stmt s (var_decl v k ds) e b) c ts r i h = at opens_item ts for_kind h.2.1.0 refl
item_opens (for_in_stmt s (using_decl v w ds) e b) c ts r i h = at opens_item ts for_kind h.2.1.0 refl
item_opens (for_in_stmt s x e b) c ts r i h = at opens_item ts for_kind h.2.1.0 refl
item_opens (for_of_stmt s true (var_decl v k ds) e b) c ts r i h = at opens_item ts for_kind h.2.3.0 refl
item_opens (for_of_stmt s true (using_decl v w ds) e b) c ts r i h = at opens_item ts for_kind h.2.3.0 refl
item_opens (for_of_stmt s true x e b) c ts r i h = at opens_item ts for_kind h.2.3.0 refl
item_opens (for_of_stmt s false (var_decl v k ds) e b) c ts r i h = at opens_item ts for_kind h.2.1.0 refl
item_opens (for_of_stmt s false (using_decl v w ds) e b) c ts r i h = at opens_item ts for_kind h.2.1.0 refl
item_opens (for_of_stmt s false x e b) c ts r i h = at opens_item ts for_kind h.2.1.0 refl
item_opens (expr_stmt s e) c ts r i h = item_of (kind ts) (opening e (assigning c) ts h.0 (level_opener e (omega (arith, h.2.0))) h.2.1).first
item_opens (class_decl s n k) c ts r i h = at opens_item ts class_kind h.2.0 refl
item_opens (fn_decl s n (function t ps ds b g true)) c ts r i h = at opens_item ts async_kind h.2.2.0.0 refl
item_opens (fn_decl s n (function t ps ds b g false)) c ts r i h = at opens_item ts function_kind (ap (λ (w : Input). kind w) h.2.2 ∙ h.2.3.0) refl
item_opens (fn_decl s n _) c ts r i h = absurd h
item_opens (var_decl s k ds) c ts r i h = subst (λ (k : ℕ). opens_item k ≡ true) (sym h.1.2.0) (var_opens k h.1.1)
item_opens (using_decl s true ds) c ts r i h = at opens_item ts await_kind h.1.4.0 refl
item_opens (using_decl s false ds) c ts r i h = at opens_item ts using_kind h.1.2.0 refl
item_opens _ c ts r i h = absurd (true≢false (sym i))

no_import : (ts : Input) (k : ℕ) → kind ts ≡ k → eqb k import_kind ≡ false → kind ts ≡ import_kind → called (kind (rest ts)) ≡ true
no_import ts k q n e = absurd (true≢false (sym (eq-eqb k import_kind (sym q ∙ e)) ∙ n))

-- a statement that starts with `import` is a call or `import.meta`
pub item_imports : (t : Tree) (c : Code) (ts r : Input) → is_item t ≡ true → Produces t c ts r → kind ts ≡ import_kind → called (kind (rest ts)) ≡ true
item_imports (block_stmt s ss) c ts r i h e = no_import ts left_brace_kind (h.1.0) refl e
item_imports (empty_stmt s) c ts r i h e = no_import ts semicolon_kind (h.0.0) refl e
item_imports (debugger_stmt s) c ts r i h e = no_import ts debugger_kind (h.1.0) refl e
item_imports (with_stmt s o b) c ts r i h e = no_import ts with_kind (h.2.0) refl e
item_imports (return_stmt s a) c ts r i h e = no_import ts return_kind (h.1.0) refl e
item_imports (labeled_stmt s l b) c ts r i h e = absurd (true≢false (sym (ap always_reserved e) ∙ not_reserved c ts (ident_is l c ts h.0 h.2.0 h.2.1).2))
item_imports (break_stmt s l) c ts r i h e = no_import ts break_kind (h.2.0) refl e
item_imports (continue_stmt s l) c ts r i h e = no_import ts continue_kind (h.2.0) refl e
item_imports (if_stmt s t a b) c ts r i h e = no_import ts if_kind (h.3.0) refl e
item_imports (switch_stmt s y xs) c ts r i h e = no_import ts switch_kind (h.3.0) refl e
item_imports (throw_stmt s y) c ts r i h e = no_import ts throw_kind (h.2.0) refl e
item_imports (try_stmt s b x f) c ts r i h e = no_import ts try_kind (h.4.0) refl e
item_imports (while_stmt s t b) c ts r i h e = no_import ts while_kind (h.2.0) refl e
item_imports (do_while_stmt s t b) c ts r i h e = no_import ts do_kind (h.4.0) refl e
item_imports (for_stmt s (var_decl v k ds) t u b) c ts r i h e = no_import ts for_kind (h.3.1.0) refl e
item_imports (for_stmt s (using_decl v w ds) t u b) c ts r i h e = no_import ts for_kind (h.3.1.0) refl e
item_imports (for_stmt s x t u b) c ts r i h e = no_import ts for_kind (h.3.1.0) refl e
item_imports (for_in_stmt s (var_decl v k ds) y b) c ts r i h e = no_import ts for_kind (h.2.1.0) refl e
item_imports (for_in_stmt s (using_decl v w ds) y b) c ts r i h e = no_import ts for_kind (h.2.1.0) refl e
item_imports (for_in_stmt s x y b) c ts r i h e = no_import ts for_kind (h.2.1.0) refl e
item_imports (for_of_stmt s true (var_decl v k ds) y b) c ts r i h e = no_import ts for_kind (h.2.3.0) refl e
item_imports (for_of_stmt s true (using_decl v w ds) y b) c ts r i h e = no_import ts for_kind (h.2.3.0) refl e
item_imports (for_of_stmt s true x y b) c ts r i h e = no_import ts for_kind (h.2.3.0) refl e
item_imports (for_of_stmt s false (var_decl v k ds) y b) c ts r i h e = no_import ts for_kind (h.2.1.0) refl e
item_imports (for_of_stmt s false (using_decl v w ds) y b) c ts r i h e = no_import ts for_kind (h.2.1.0) refl e
item_imports (for_of_stmt s false x y b) c ts r i h e = no_import ts for_kind (h.2.1.0) refl e
item_imports (expr_stmt s x) c ts r i h e = (opening x (assigning c) ts h.0 (level_opener x (omega (arith, h.2.0))) h.2.1).imports e
item_imports (class_decl s n k) c ts r i h e = no_import ts class_kind (h.2.0) refl e
item_imports (fn_decl s n (function t ps ds b g true)) c ts r i h e = no_import ts async_kind (h.2.2.0.0) refl e
item_imports (fn_decl s n (function t ps ds b g false)) c ts r i h e = no_import ts function_kind ((ap (λ (w : Input). kind w) h.2.2 ∙ h.2.3.0)) refl e
item_imports (fn_decl s n _) c ts r i h e = absurd h
item_imports (var_decl s k ds) c ts r i h e = absurd (true≢false (sym h.1.1 ∙ ap is_var_word (sym h.1.2.0 ∙ e)))
item_imports (using_decl s true ds) c ts r i h e = no_import ts await_kind (h.1.4.0) refl e
item_imports (using_decl s false ds) c ts r i h e = no_import ts using_kind (h.1.2.0) refl e
item_imports _ c ts r i h e = absurd (true≢false (sym i))

pub no_item : (k n : ℕ) → opens_item k ≡ true → opens_item n ≡ false → eqb k n ≡ false
no_item k n h e = ne_eqb k n (λ q. true≢false (sym h ∙ ap opens_item q ∙ e))

pub no_open : (k n : ℕ) → opens k ≡ true → opens n ≡ false → eqb k n ≡ false
no_open k n h e = ne_eqb k n (λ q. true≢false (sym h ∙ ap opens q ∙ e))

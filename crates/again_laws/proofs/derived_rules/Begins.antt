-- How a tree derived again begins: as the tree did, as far as the look-ahead of statements and of `for` heads asks (14.5, 14.7.4, 14.7.5).
use Rattle.std.proofs.Common.{Bool, ap, arith, false, inl, inr, not, refl, subst, sym, true, true≢false, ℕ, ◌==◌, ◌||◌, ◌∙◌, ◌≡◌, ◌≤◌, ◌⊎◌}
use Rattle.base_token.specs.Kinds.{async_kind, else_kind, function_kind, let_kind}
use Rattle.tree_spec.specs.Tree.{Tree, array_lit, array_pat, arrow_expr, assign_expr, await_expr, big_int_lit, bin_expr, binding_ident, bool_lit, call_expr, catch_clause, class, class_expr, cond_expr, es_module, expr_pat, fn_expr, function, ident, member_expr, meta_prop_expr, new_expr, null_lit, number_lit, object_lit, object_pat, opt_chain_expr, paren_expr, regex_lit, script, seq_expr, str_lit, super_prop_expr, switch_case, tagged_tpl, this_expr, tpl, tpl_element, unary_expr, update_expr, using_decl, var_decl, var_declarator, yield_expr}
use Rattle.grammar_spec.specs.Tokens.Input.{Input, brk2, kind, kind2, rest}
use Rattle.grammar_spec.specs.Tokens.Shape.{is_item, is_private, is_target_expr, level}
use Rattle.grammar_spec.specs.Children.{is_module_item}
use Rattle.grammar_spec.specs.Statements.{starts_expression_statement}
use Rattle.grammar_laws.proofs.complete_base.Levels.{binary_low}
use Rattle.print_layout_spec.specs.Layout.{is_variables}
use Rattle.again_laws.proofs.derived_rules.Follow.{no_item}

abbrev pub two_told : ℕ → Bool
two_told k = (k == let_kind) || (k == async_kind)

-- Both begin with the same token, and if that is `let` or `async` and not all, with the same second one; or the new one begins with nothing that a statement bars.
pub data Begins (v : Bool) (ts0 r0 ts r : Input) : Type 0 where
  same_start : kind ts ≡ kind ts0 → (two_told (kind ts) ≡ true → ((rest ts0 ≡ r0) × (rest ts ≡ r)) ⊎ ((kind2 ts ≡ kind2 ts0) × (kind2 ts ≡ function_kind → brk2 ts0 ≡ false))) → Begins v ts0 r0 ts r
  fine : v ≡ true → starts_expression_statement ts ≡ true → (kind ts ≡ else_kind → ⊥) → Begins v ts0 r0 ts r

pub led : {v : Bool} (ts0 r0 ts r : Input) (k : ℕ) → kind ts0 ≡ k → kind ts ≡ k → two_told k ≡ false → Begins v ts0 r0 ts r
led ts0 r0 ts r k e f g = same_start (f ∙ sym e) (λ h. absurd (true≢false (sym h ∙ (ap two_told f ∙ g))))

-- before a token that both go on with
pub before : {v w : Bool} (ts0 m0 ts m r0 r : Input) → (v ≡ true → w ≡ true) → Begins v ts0 m0 ts m → kind m ≡ kind m0 → (kind m ≡ function_kind → ⊥) → Begins w ts0 r0 ts r
before ts0 m0 ts m r0 r l (same_start e f) g n = same_start e (λ h. inr (both (f h)))
  where
    both : ((rest ts0 ≡ m0) × (rest ts ≡ m)) ⊎ ((kind2 ts ≡ kind2 ts0) × (kind2 ts ≡ function_kind → brk2 ts0 ≡ false)) → (kind2 ts ≡ kind2 ts0) × (kind2 ts ≡ function_kind → brk2 ts0 ≡ false)
    both (inl p) = (ap kind p.1 ∙ (g ∙ sym (ap kind p.0)), λ q. absurd (n (sym (ap kind p.1) ∙ q)))
    both (inr p) = p
before ts0 m0 ts m r0 r l (fine i e f) g n = fine (l i) e f

pub loosen : (v : Bool) (ts0 r0 ts r : Input) → Begins v ts0 r0 ts r → Begins true ts0 r0 ts r
loosen v ts0 r0 ts r (same_start e f) = same_start e f
loosen v ts0 r0 ts r (fine i e f) = fine refl e f

pub tighten : (v : Bool) → (v ≡ true → ⊥) → (ts0 r0 ts r : Input) → Begins v ts0 r0 ts r → Begins false ts0 r0 ts r
tighten v n ts0 r0 ts r (same_start e f) = same_start e f
tighten v n ts0 r0 ts r (fine i e f) = absurd (n i)

pub no_else : {v : Bool} (ts0 r0 ts r : Input) → Begins v ts0 r0 ts r → kind ts ≡ else_kind → kind ts0 ≡ else_kind
no_else ts0 r0 ts r (same_start e f) h = sym e ∙ h
no_else ts0 r0 ts r (fine i e f) h = absurd (f h)

-- inner parts, which are derived again with what holds them
abbrev pub is_inner : Tree → Bool
is_inner (switch_case s t ss) = true
is_inner (function s ps ds b g a) = true
is_inner (class s ds ms k) = true
is_inner (tpl_element s t w u) = true
is_inner (catch_clause s p b) = true
is_inner (script s ss l) = true
is_inner (es_module s ss l) = true
is_inner _ = false

-- what a production has as a part: no inner part, and no variables, which a semicolon may end
abbrev pub is_part : Tree → Bool
is_part (var_decl s k ds) = false
is_part (using_decl s w ds) = false
is_part (switch_case s t ss) = false
is_part (function s ps ds b g a) = false
is_part (class s ds ms k) = false
is_part (tpl_element s t w u) = false
is_part (catch_clause s p b) = false
is_part (script s ss l) = false
is_part (es_module s ss l) = false
is_part _ = true

pub part_variables : (t : Tree) → is_part t ≡ true → is_variables t ≡ false
part_variables (var_decl s k ds) h = absurd (true≢false (sym h))
part_variables (using_decl s w ds) h = absurd (true≢false (sym h))
part_variables _ h = refl

pub part_outer : (t : Tree) → is_part t ≡ true → is_inner t ≡ false
part_outer (switch_case s t ss) h = absurd (true≢false (sym h))
part_outer (function s ps ds b g a) h = absurd (true≢false (sym h))
part_outer (class s ds ms k) h = absurd (true≢false (sym h))
part_outer (tpl_element s t w u) h = absurd (true≢false (sym h))
part_outer (catch_clause s p b) h = absurd (true≢false (sym h))
part_outer (script s ss l) h = absurd (true≢false (sym h))
part_outer (es_module s ss l) h = absurd (true≢false (sym h))
part_outer _ h = refl

pub item_outer : (t : Tree) → is_item t ≡ true → is_inner t ≡ false
item_outer (switch_case s t ss) h = absurd (true≢false (sym h))
item_outer (function s ps ds b g a) h = absurd (true≢false (sym h))
item_outer (class s ds ms k) h = absurd (true≢false (sym h))
item_outer (tpl_element s t w u) h = absurd (true≢false (sym h))
item_outer (catch_clause s p b) h = absurd (true≢false (sym h))
item_outer (script s ss l) h = absurd (true≢false (sym h))
item_outer (es_module s ss l) h = absurd (true≢false (sym h))
item_outer _ h = refl

pub level_part : (t : Tree) → 1 ≤ level t → is_part t ≡ true
level_part (var_decl s k ds) h = absurd (omega arith)
level_part (using_decl s w ds) h = absurd (omega arith)
level_part (switch_case s t ss) h = absurd (omega arith)
level_part (function s ps ds b g a) h = absurd (omega arith)
level_part (class s ds ms k) h = absurd (omega arith)
level_part (tpl_element s t w u) h = absurd (omega arith)
level_part (catch_clause s p b) h = absurd (omega arith)
level_part (script s ss l) h = absurd (omega arith)
level_part (es_module s ss l) h = absurd (omega arith)
level_part _ h = refl

-- the kinds of expressions
abbrev pub is_expression : Tree → Bool
is_expression (this_expr s) = true
is_expression (ident s n) = true
is_expression (str_lit s u w) = true
is_expression (bool_lit s v) = true
is_expression (null_lit s) = true
is_expression (number_lit s v w) = true
is_expression (big_int_lit s r d w) = true
is_expression (regex_lit s e f) = true
is_expression (array_lit s xs) = true
is_expression (object_lit s ps) = true
is_expression (fn_expr s n f) = true
is_expression (class_expr s n k) = true
is_expression (tpl s es qs) = true
is_expression (paren_expr s e) = true
is_expression (meta_prop_expr s k) = true
is_expression (super_prop_expr s o p) = true
is_expression (member_expr s o p) = true
is_expression (tagged_tpl s t q) = true
is_expression (call_expr s f xs) = true
is_expression (opt_chain_expr s o b) = true
is_expression (new_expr s f xs) = true
is_expression (update_expr s op b a) = true
is_expression (unary_expr s op a) = true
is_expression (await_expr s a) = true
is_expression (bin_expr s op a b) = true
is_expression (cond_expr s a b d) = true
is_expression (assign_expr s op a b) = true
is_expression (arrow_expr s ps b i) = true
is_expression (yield_expr s a g) = true
is_expression (seq_expr s xs) = true
is_expression _ = false

expression_of : (t : Tree) → 1 ≤ level t → is_expression t ≡ true
expression_of (this_expr s) h = refl
expression_of (ident s n) h = refl
expression_of (str_lit s u w) h = refl
expression_of (bool_lit s v) h = refl
expression_of (null_lit s) h = refl
expression_of (number_lit s v w) h = refl
expression_of (big_int_lit s r d w) h = refl
expression_of (regex_lit s e f) h = refl
expression_of (array_lit s xs) h = refl
expression_of (object_lit s ps) h = refl
expression_of (fn_expr s n f) h = refl
expression_of (class_expr s n k) h = refl
expression_of (tpl s es qs) h = refl
expression_of (paren_expr s e) h = refl
expression_of (meta_prop_expr s k) h = refl
expression_of (super_prop_expr s o p) h = refl
expression_of (member_expr s o p) h = refl
expression_of (tagged_tpl s t q) h = refl
expression_of (call_expr s f xs) h = refl
expression_of (opt_chain_expr s o b) h = refl
expression_of (new_expr s f xs) h = refl
expression_of (update_expr s op b a) h = refl
expression_of (unary_expr s op a) h = refl
expression_of (await_expr s a) h = refl
expression_of (bin_expr s op a b) h = refl
expression_of (cond_expr s a b d) h = refl
expression_of (assign_expr s op a b) h = refl
expression_of (arrow_expr s ps b i) h = refl
expression_of (yield_expr s a g) h = refl
expression_of (seq_expr s xs) h = refl
expression_of _ h = absurd (omega arith)

abbrev pub is_pattern : Tree → Bool
is_pattern (binding_ident s i) = true
is_pattern (array_pat s xs) = true
is_pattern (object_pat s ps) = true
is_pattern (expr_pat e) = is_target_expr e
is_pattern (var_declarator s n v) = true
is_pattern _ = false

-- what is no expression, no pattern and no binding of one: nothing is asked of how it begins
abbrev pub is_weak : Tree → Bool
is_weak t = not (is_expression t || (is_private t || is_pattern t))

-- trees that a parenthesis or another token may be led by that wasn't there, or the other way round
abbrev pub is_loose : Tree → Bool
is_loose (unary_expr s op a) = true
is_loose (update_expr s op b a) = true
is_loose (await_expr s a) = true
is_loose (bin_expr s op a b) = true
is_loose (cond_expr s a b d) = true
is_loose (assign_expr s op a b) = true
is_loose (arrow_expr s ps b i) = true
is_loose (yield_expr s a g) = true
is_loose (seq_expr s xs) = true
is_loose _ = false

pub firm : (t : Tree) → 18 ≤ level t → is_loose t ≡ true → ⊥
firm (unary_expr s op a) h e = omega arith
firm (update_expr s op b a) h e = omega arith
firm (await_expr s a) h e = omega arith
firm (bin_expr s op a b) h e = omega (arith, h, binary_low op)
firm (cond_expr s a b d) h e = omega arith
firm (assign_expr s op a b) h e = omega arith
firm (arrow_expr s ps b i) h e = omega arith
firm (yield_expr s a g) h e = omega arith
firm (seq_expr s xs) h e = omega arith
firm _ h e = true≢false (sym e)

-- of it no more is told than that it begins with no `else` of its own
abbrev pub Starts : Bool → Bool → Input → Input → Input → Input → Type 0
Starts true v ts0 r0 ts r = kind ts ≡ else_kind → kind ts0 ≡ else_kind
Starts false v ts0 r0 ts r = Begins v ts0 r0 ts r

pub begun : (b v : Bool) (ts0 r0 ts r : Input) → b ≡ false → Starts b v ts0 r0 ts r → Begins v ts0 r0 ts r
begun true v ts0 r0 ts r e h = absurd (true≢false e)
begun false v ts0 r0 ts r e h = h

pub first_token : (b v : Bool) (ts0 r0 ts r : Input) → Starts b v ts0 r0 ts r → kind ts ≡ else_kind → kind ts0 ≡ else_kind
first_token true v ts0 r0 ts r h = h
first_token false v ts0 r0 ts r h = no_else ts0 r0 ts r h

pub starts_on : (b v : Bool) (ts0 m0 ts m r0 r : Input) → Starts b v ts0 m0 ts m → kind m ≡ kind m0 → (kind m ≡ function_kind → ⊥) → Starts b v ts0 r0 ts r
starts_on true v ts0 m0 ts m r0 r h e n = h
starts_on false v ts0 m0 ts m r0 r h e n = before ts0 m0 ts m r0 r (λ i. i) h e n

pub strong : (t : Tree) → 1 ≤ level t → is_weak t ≡ false
strong t h = subst (λ (v : Bool). not (v || (is_private t || is_pattern t)) ≡ false) (sym (expression_of t h)) refl

pub flat_item : (t : Tree) → 1 ≤ level t → is_module_item t ≡ false
flat_item t h = by (is_module_item t) (no_item t h)
  where
    by : (b : Bool) → (b ≡ true → ⊥) → b ≡ false
    by true f = absurd (f refl)
    by false f = refl

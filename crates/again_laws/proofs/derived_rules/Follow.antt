-- What may follow the tokens of a tree so that they are derived again: nothing that goes on with them.
use Rattle.std.proofs.Common.{Bool, arith, cond, false, nat_le, not, refl, subst, sym, true, true≢false, ℕ, ◌&&◌, ◌<◌, ◌==◌, ◌||◌, ◌∙◌, ◌≡◌, ◌≤◌}
use Rattle.base_token.specs.Kinds.{back_quote_kind, comma_kind, dot_kind, else_kind, left_bracket_kind, left_paren_kind, question_mark_kind}
use Rattle.tree_spec.specs.Tree.{Tree, block_stmt, break_stmt, class_decl, continue_stmt, debugger_stmt, do_while_stmt, empty_stmt, export_all, export_decl, export_default_decl, export_default_expr, expr_stmt, fn_decl, for_in_stmt, for_of_stmt, for_stmt, if_stmt, import_decl, labeled_stmt, named_export, return_stmt, switch_stmt, throw_stmt, try_stmt, using_decl, var_decl, while_stmt, with_stmt}
use Rattle.grammar_spec.specs.Tokens.Input.{Code, Input, brk, kind, kind2}
use Rattle.grammar_spec.specs.Tokens.Operators.{binary_level, call_level, goes_expr}
use Rattle.grammar_spec.specs.Tokens.Shape.{is_default_decl, is_item, is_key, is_member, is_module_decl, is_private, level}
use Rattle.grammar_spec.specs.Children.{is_module_item}
use Rattle.grammar_laws.proofs.complete_base.Levels.{binary_low}
use Rattle.print_layout_spec.specs.Layout.{is_head as is_head_stand}
use Rattle.print_layout_spec.specs.declared.look.Stand.{Stand}

abbrev pub calm_of : ℕ → ℕ → Bool
calm_of k j = not ((k == left_paren_kind) || ((k == left_bracket_kind) || ((k == dot_kind) || ((k == back_quote_kind) || ((k == question_mark_kind) && (j == dot_kind))))))

-- Nothing goes on with the callee of a bare `new`.
abbrev pub calm : Input → Bool
calm m = calm_of (kind m) (kind2 m)

-- a kind that goes on with no callee and is no `else`
abbrev pub closes : ℕ → Bool
closes k = not ((k == left_paren_kind) || ((k == left_bracket_kind) || ((k == dot_kind) || ((k == back_quote_kind) || ((k == question_mark_kind) || (k == else_kind))))))

-- what ends a statement or a member is its own, and nothing goes on with a name after a point
abbrev pub is_closed : Tree → Bool
is_closed t = is_item t || (is_member t || (is_module_decl t || (is_key t || (is_private t || is_default_decl t))))

abbrev pub needs_calm : Stand → Tree → Bool
needs_calm s t = not (is_closed t) && not (nat_le 18 (level t) && is_head_stand s)

pub record Follow (s : Stand) (t : Tree) (r m : Input) : Type 0 where
  pub quiet : needs_calm s t ≡ true → calm m ≡ true
  pub other : is_module_item t ≡ true → kind m ≡ else_kind → kind r ≡ else_kind

or_false : (a b : Bool) → not (a || b) ≡ true → (a ≡ false) × (not b ≡ true)
or_false true b e = absurd (true≢false (sym e))
or_false false b e = (refl, e)

calm_by : (a b c d e f g : Bool) → not (a || (b || (c || (d || (e || f))))) ≡ true → not (a || (b || (c || (d || (e && g))))) ≡ true
calm_by true b c d e f g h = h
calm_by false true c d e f g h = h
calm_by false false true d e f g h = h
calm_by false false false true e f g h = h
calm_by false false false false true f g h = absurd (true≢false (sym h))
calm_by false false false false false f g h = refl

closes_calm : (k j : ℕ) → closes k ≡ true → calm_of k j ≡ true
closes_calm k j h = calm_by (k == left_paren_kind) (k == left_bracket_kind) (k == dot_kind) (k == back_quote_kind) (k == question_mark_kind) (k == else_kind) (j == dot_kind) h

closes_else : (k : ℕ) → closes k ≡ true → k ≡ else_kind → ⊥
closes_else k h e = true≢false (sym (subst (λ (j : ℕ). closes j ≡ true) e h))

pub closed_calm : (m : Input) (k : ℕ) → kind m ≡ k → closes k ≡ true → calm m ≡ true
closed_calm m k e h = subst (λ (x : ℕ). calm_of x (kind2 m) ≡ true) (sym e) (closes_calm k (kind2 m) h)

pub follow_by : (s : Stand) (t : Tree) (r m : Input) (k : ℕ) → kind m ≡ k → closes k ≡ true → Follow s t r m
follow_by s t r m k e h = record { quiet = λ q. closed_calm m k e h; other = λ i q. absurd (closes_else k h (sym e ∙ q)) }

pub no_item : (t : Tree) → 1 ≤ level t → is_module_item t ≡ true → ⊥
no_item (block_stmt s ss) h i = omega arith
no_item (empty_stmt s) h i = omega arith
no_item (debugger_stmt s) h i = omega arith
no_item (with_stmt s o b) h i = omega arith
no_item (return_stmt s a) h i = omega arith
no_item (labeled_stmt s l b) h i = omega arith
no_item (break_stmt s l) h i = omega arith
no_item (continue_stmt s l) h i = omega arith
no_item (if_stmt s t a b) h i = omega arith
no_item (switch_stmt s d cs) h i = omega arith
no_item (throw_stmt s a) h i = omega arith
no_item (try_stmt s b k f) h i = omega arith
no_item (while_stmt s t b) h i = omega arith
no_item (do_while_stmt s t b) h i = omega arith
no_item (for_stmt s j t u b) h i = omega arith
no_item (for_in_stmt s l r b) h i = omega arith
no_item (for_of_stmt s w l r b) h i = omega arith
no_item (expr_stmt s e) h i = omega arith
no_item (var_decl s k ds) h i = omega arith
no_item (class_decl s n k) h i = omega arith
no_item (fn_decl s n f) h i = omega arith
no_item (using_decl s w ds) h i = omega arith
no_item (import_decl s xs f w) h i = omega arith
no_item (export_decl s d) h i = omega arith
no_item (named_export s xs f w) h i = omega arith
no_item (export_default_decl s d) h i = omega arith
no_item (export_default_expr s e) h i = omega arith
no_item (export_all s f w) h i = omega arith
no_item _ h i = true≢false (sym i)

-- what may follow another that ends there as well
pub follow_on : (s : Stand) (t : Tree) (u : Stand) (v : Tree) (r0 r m : Input) → needs_calm s t ≡ true → 1 ≤ level v → Follow s t r0 m → Follow u v r m
follow_on s t u v r0 r m e h f = record { quiet = λ q. f.quiet e; other = λ i. absurd (no_item v h i) }

up_to : (b : Bool) (x y n : ℕ) → x < n → y < n → cond b x y < n
up_to true x y n h g = h
up_to false x y n h g = g

chain : (p b d t q j o : Bool) → not (p || (b || (d || (t || (q && j))))) ≡ true
    → (p ≡ false) × ((b || (d || t)) ≡ false) × ((q && (j && o)) ≡ false)
chain true b d t q j o h = absurd (true≢false (sym h))
chain false true d t q j o h = absurd (true≢false (sym h))
chain false false true t q j o h = absurd (true≢false (sym h))
chain false false false true q j o h = absurd (true≢false (sym h))
chain false false false false true true o h = absurd (true≢false (sym h))
chain false false false false true false o h = (refl, refl, refl)
chain false false false false false j o h = (refl, refl, refl)

not_so : (b : Bool) (x y n : ℕ) → b ≡ false → y < n → cond b x y < n
not_so true x y n e h = absurd (true≢false e)
not_so false x y n e h = h

asked : (q a : Bool) (y n : ℕ) → (q && a) ≡ false → 3 < n → y < n → cond q (cond a 19 3) y < n
asked true true y n e h g = absurd (true≢false e)
asked true false y n e h g = h
asked false a y n e h g = g

pub low_goes : (c : Code) (e : ℕ) (m : Input) → calm m ≡ true → goes_expr c e m < call_level
low_goes c e m h =
    let z = chain (kind m == left_paren_kind) (kind m == left_bracket_kind) (kind m == dot_kind) (kind m == back_quote_kind) (kind m == question_mark_kind) (kind2 m == dot_kind) (e == 0) h in
    up_to (kind m == comma_kind) 1 _ 19 (omega arith) (up_to _ 0 _ 19 (omega arith) (up_to _ 2 _ 19 (omega arith) (asked (kind m == question_mark_kind) ((kind2 m == dot_kind) && (e == 0)) _ 19 z.2 (omega arith)
    (up_to _ (binary_level (kind m)) _ 19 (omega (arith, binary_low (kind m))) (up_to _ 14 _ 19 (omega arith) (up_to _ 0 _ 19 (omega arith) (up_to _ (cond (brk m) 0 17) _ 19 (up_to (brk m) 0 17 19 (omega arith) (omega arith))
    (not_so (kind m == left_paren_kind) 19 _ 19 z.0 (not_so _ 20 0 19 z.1 (omega arith))))))))))
